-- A register's name ends the operand (Outcomes).
use mathlib.Core.Path.{sym}
use Rattle.operands.proofs.Outcomes.{register_is, register-not}
use Rattle.operands.proofs.shapes.register.Goals as goal

pub returns-in_err-code : goal.returns-in_err-code
returns-in_err-code c = rw c.from_residual.ensures (register-not c.args.s.now c.args.from.at (sym c.in_err-code.ensures))

pub returns : goal.returns
returns c = register_is c.args.s.now c.args.from.at (sym c.in_ok-code.ensures)
