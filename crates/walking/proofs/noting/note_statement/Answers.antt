-- An instruction that a line says: its labels lie within the line, and each operand that names one has a word.
use Rattle.statements.specs.declared.Statement.{Statement}
use native.Mathlib.Omega.{arith}
use Prim.Native.Nat.{◌+◌, ◌≤◌, ◌<◌}
use mathlib.Core.List.{◌++◌}
use mathlib.Core.Path.{sym, ap, subst, ◌∙◌}
use Rattle.codes.specs.Limits.{most_cells}
use Rattle.statements.specs.Judging.{claim_of}
use Rattle.std.proofs.Common.{Ok}
use Rattle.sources.specs.Uses.{uses_by}
use Rattle.uses.specs.Inner.Held.{uses_held}
use Rattle.walking.proofs.Notes.{no_uses}
use Rattle.walking.proofs.Said.{some_byte, first-placeable, second-placeable, uses-noted}
use Rattle.walking.proofs.noting.note_statement.Goals as goal

pub note_operands-requires : goal.note_operands-requires
note_operands-requires c =
    let a = c.args in
    let e = c.requires.0 ∙ ap Ok c.in-Instruction.is in
    let n = c.operand_count.ensures in
    let room = subst (λ (x : Statement). 0 < claim_of x → a.at + claim_of x ≤ most_cells) c.in-Instruction.is c.requires.4 (omega arith) in (
      c.requires.5,
      c.requires.2,
      c.requires.3,
      first-placeable a.line.now e a.from a.at c.requires.1 room n,
      second-placeable a.line.now e a.from a.at c.requires.1 room n,
    )

pub returns-in-Instruction : goal.returns-in-Instruction
returns-in-Instruction c =
    let a = c.args in
    let e = c.requires.0 ∙ ap Ok c.in-Instruction.is in (
      λ s part. uses-noted a.line.now e s a.from a.number part a.at c.operand_count.ensures
          (uses_held s a.row.now a.aways.now a.count) (c.note_operands.ensures.0 s)
          ∙ ap (λ (x : Statement). uses_held s a.row.now a.aways.now a.count ++ uses_by a.number a.line.now a.at x) (sym c.in-Instruction.is),
      c.note_operands.ensures.1,
      omega (arith, c.note_operands.ensures.2, some_byte a.line.now e),
    )

pub returns-in_default : goal.returns-in_default
returns-in_default c =
    let a = c.args in
    (λ s part. no_uses _ a.number a.at a.line.now a.says c.in_default.not-Instruction, omega arith, omega arith)
