-- `]` ends the operand (Outcomes).
use mathlib.Core.Path.{sym}
use Rattle.operands.proofs.Outcomes.{closed_is, unclosed}
use Rattle.operands.proofs.shapes.closed.Goals as goal

pub returns-in_err-next : goal.returns-in_err-next
returns-in_err-next c = rw c.from_residual.ensures (unclosed c.args.s.now c.args.from.at (sym c.in_err-next.ensures))

pub returns : goal.returns
returns c = closed_is c.args.s.now c.args.from.at (sym c.in_ok-next.ensures)
