-- A register's name, and what follows it is the callee's (Outcomes).
use mathlib.Core.Path.{sym}
use Rattle.operands.proofs.Outcomes.{indirect_is, indirect-not}
use Rattle.operands.proofs.shapes.indirect_name.Goals as goal

pub returns-in_err-code : goal.returns-in_err-code
returns-in_err-code c = rw c.from_residual.ensures (indirect-not c.args.s.now c.args.from.at (sym c.in_err-code.ensures))

pub returns : goal.returns
returns c = indirect_is c.args.s.now c.args.from.at (sym c.in_ok-code.ensures) c.closed.ensures
