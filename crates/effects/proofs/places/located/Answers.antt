-- Each arm finds the operand at its mode's place of the list; past the list stands mode 7.
use mathlib.Core.Path.{◌∙◌}
use native.Mathlib.Omega.{arith}
use Rattle.codes.specs.Registers.{IX, IY, SP}
use Rattle.isa.specs.Operands.{operand_of}
use Rattle.effects.specs.Seen.{see}
use Rattle.effects.specs.Places.{place_of, value_at, there_in}
use Rattle.effects.specs.Inner.Located.{locate}
use Rattle.effects.proofs.Locating.{counted, relative-operand, stacked_operand}
use Rattle.effects.proofs.places.located.Goals as goal

pub returns-in-0 : goal.returns-in-0
unfolding operand_of locate place_of value_at there_in see
returns-in-0 c k t = rw c.in-0.is c.found.ensures

pub returns-in-1 : goal.returns-in-1
unfolding operand_of locate place_of value_at there_in see
returns-in-1 c k t = rw c.in-1.is c.found-in-1.ensures

pub returns-in-2 : goal.returns-in-2
unfolding operand_of locate place_of value_at there_in see
returns-in-2 c k t = rw c.in-2.is (c.at_register.ensures c.args.m.now)

pub returns-in-3 : goal.returns-in-3
unfolding operand_of locate place_of value_at there_in see
returns-in-3 c k t = rw c.in-3.is c.at_cell.ensures

pub returns-in-4 : goal.returns-in-4
unfolding operand_of locate place_of value_at there_in see
returns-in-4 c k t = rw c.in-4.is c.behind.ensures

pub returns-in-5 : goal.returns-in-5
unfolding operand_of locate place_of value_at see
returns-in-5 c k t =
    let s = c.args in
    rw c.in-5.is (c.at_cell-in-5.ensures ∙ counted s.m.now s.r.now IX s.word c.sum.ensures)

pub returns-in-6 : goal.returns-in-6
unfolding operand_of locate place_of value_at see
returns-in-6 c k t =
    let s = c.args in
    rw c.in-6.is (c.at_cell-in-6.ensures ∙ counted s.m.now s.r.now IY s.word c.sum-in-6.ensures)

pub returns-then-relative : goal.returns-then-relative
unfolding locate place_of value_at see
returns-then-relative c k t =
    rw (
      relative-operand k c.args.mode c.args.word (omega arith)
          (t ∙ c.if-relative.true),
      ← c.sum-then-relative.ensures,
    ) c.at_cell-then-relative.ensures

pub returns-else-relative : goal.returns-else-relative
unfolding locate place_of value_at see
returns-else-relative c k t =
    let s = c.args in
    rw (stacked_operand k s.mode s.word (omega arith) (t ∙ c.if-relative.false))
    (c.at_cell-else-relative.ensures ∙ counted s.m.now s.r.now SP s.word c.sum-else-relative.ensures)
