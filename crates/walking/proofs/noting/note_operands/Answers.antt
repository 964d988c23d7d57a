-- The first operand, then the second, whose cell is behind the first one's word.
use native.Mathlib.Omega.{arith}
use Rattle.uses.specs.Inner.Held.{uses_held}
use Rattle.walking.proofs.Notes.{both-noted}
use Rattle.walking.proofs.noting.note_operands.Goals as goal

pub returns : goal.returns
returns c =
    let a = c.args in (
      λ s. both-noted s a.from a.number a.at a.next a.a a.b (uses_held s a.row.now a.aways.now a.count) c.width.ensures
          (c.note-n.ensures.0 s) (c.note.ensures.0 s),
      omega (arith, c.note-n.ensures.1, c.note.ensures.1),
      omega (arith, c.note-n.ensures.2, c.note.ensures.2),
    )
