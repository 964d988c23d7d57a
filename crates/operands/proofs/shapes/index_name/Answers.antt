-- Three registers index, each in a kind of its own, and no other does (Outcomes).
use mathlib.Core.Path.{sym}
use native.Mathlib.Omega.{arith}
use Rattle.operands.specs.Operands.{by_IX, by_IY, by_SP}
use Rattle.operands.proofs.Outcomes.{index_is, index_no, index_not}
use Rattle.operands.proofs.shapes.index_name.Goals as goal

pub returns-in_err-code : goal.returns-in_err-code
returns-in_err-code c = rw c.from_residual.ensures (index_not c.args.s.now c.args.from.at c.args.v (sym c.in_err-code.ensures))

pub returns-in-12 : goal.returns-in-12
returns-in-12 c = index_is c.args.s.now c.args.from.at c.args.v (sym c.in_ok-code.ensures) c.in-12.is by_IX c.closed.ensures

pub returns-in-13 : goal.returns-in-13
returns-in-13 c = index_is c.args.s.now c.args.from.at c.args.v (sym c.in_ok-code.ensures) c.in-13.is by_IY c.closed-in-13.ensures

pub returns-in-14 : goal.returns-in-14
returns-in-14 c = index_is c.args.s.now c.args.from.at c.args.v (sym c.in_ok-code.ensures) c.in-14.is by_SP c.closed-in-14.ensures

pub returns-in_default : goal.returns-in_default
returns-in_default c =
    index_no c.args.s.now c.args.from.at c.args.v (sym c.in_ok-code.ensures) (omega arith) (omega arith) (omega arith)
