-- Five marks begin an operand (Outcomes).
use mathlib.Core.Path.{sym}
use native.Mathlib.Omega.{arith}
use borrow.Author.Tests.{ne_eqb}
use Rattle.std.proofs.Common.{rules}
use Rattle.operands.specs.Reading.{hash, slash, dollar, value, register_name, indirect_dot, starts}
use Rattle.operands.proofs.Outcomes.{operand_is, operand_no, operand-not}
use Rattle.operands.proofs.shapes.operand.Goals as goal

pub returns-in_err-mark : goal.returns-in_err-mark
returns-in_err-mark c = rw c.from_residual.ensures (operand-not c.args.s.now c.args.from.at (sym c.in_err-mark.ensures))

pub returns-in-35 : goal.returns-in-35
unfolding starts
returns-in-35 c = operand_is c.args.s.now c.args.from.at (value hash) (sym c.in_ok-mark.ensures) (rw c.in-35.is) c.immediate.ensures

pub returns-in-46 : goal.returns-in-46
unfolding starts
returns-in-46 c = operand_is c.args.s.now c.args.from.at register_name (sym c.in_ok-mark.ensures) (rw c.in-46.is) c.register.ensures

pub returns-in-47 : goal.returns-in-47
unfolding starts
returns-in-47 c = operand_is c.args.s.now c.args.from.at (value slash) (sym c.in_ok-mark.ensures) (rw c.in-47.is) (c.value_alone.ensures slash (λ v o p. search rules))

pub returns-in-91 : goal.returns-in-91
unfolding starts
returns-in-91 c = operand_is c.args.s.now c.args.from.at indirect_dot (sym c.in_ok-mark.ensures) (rw c.in-91.is) c.indirect.ensures

pub returns-in-36 : goal.returns-in-36
unfolding starts
returns-in-36 c = operand_is c.args.s.now c.args.from.at (value dollar) (sym c.in_ok-mark.ensures) (rw c.in-36.is) (c.value_alone-in-36.ensures dollar (λ v o p. search rules))

pub returns-in_default : goal.returns-in_default
unfolding starts
returns-in_default c =
    let b = c.in_ok-mark.field-0.value in
    operand_no c.args.s.now c.args.from.at (sym c.in_ok-mark.ensures)
    (rw (ne_eqb b 35 (omega arith), ne_eqb b 46 (omega arith), ne_eqb b 47 (omega arith), ne_eqb b 91 (omega arith), ne_eqb b 36 (omega arith)))
