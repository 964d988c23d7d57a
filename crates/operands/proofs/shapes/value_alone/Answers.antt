-- A value is a turn of the walk (Outcomes).
use mathlib.Core.Path.{sym}
use Rattle.operands.proofs.Outcomes.{value_ends, value_not}
use Rattle.operands.proofs.shapes.value_alone.Goals as goal

pub returns-in_err-v : goal.returns-in_err-v
returns-in_err-v g c = λ k h. rw c.from_residual.ensures (value_not c.args.s.now c.args.from.at k (sym c.in_err-v.ensures))

pub returns : goal.returns
returns g c = λ k h. value_ends c.args.s.now c.args.from.at k (sym c.in_ok-v.ensures) (h _ _ c.made.ensures)
