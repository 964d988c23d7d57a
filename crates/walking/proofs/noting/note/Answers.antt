-- A label that is named is kept behind those that are, by its place in the source.
use Prim.Native.Nat.{◌+◌}
use native.Mathlib.Omega.{arith}
use Rattle.uses.specs.Inner.Held.{uses_held}
use Rattle.walking.proofs.Notes.{placeable, noted-none, noted_one}
use Rattle.walking.proofs.noting.note.Goals as goal

pub returns-in_default : goal.returns-in_default
returns-in_default c =
    let a = c.args in
    (λ s. noted-none s a.from a.number a.cell a.next a.g _ c.in_default.is, omega arith, omega arith)

pub returns : goal.returns
returns c =
    let a = c.args in
    let h = placeable a.from a.cell a.next c.in-Some.is c.requires.2 in (
      λ s. noted_one s a.from a.number a.cell a.next a.g
          (uses_held s a.row.now a.aways.now a.count) {vs = uses_held s c.keep.new.row c.keep.new.aways (a.count + 1)}
          c.in-Some.is h.2 c.away-far.ensures (c.keep.ensures s),
      omega arith,
      omega arith,
    )
