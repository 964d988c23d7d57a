-- `.`, and what follows it is the callee's (Outcomes).
use mathlib.Core.Path.{sym}
use Rattle.operands.proofs.Outcomes.{index_dotted, index_undotted}
use Rattle.operands.proofs.shapes.index.Goals as goal

pub returns-in_err-behind : goal.returns-in_err-behind
returns-in_err-behind c = rw c.from_residual.ensures (index_undotted c.args.s.now c.args.from.at c.args.v (sym c.in_err-behind.ensures))

pub returns : goal.returns
returns c = index_dotted c.args.s.now c.args.from.at c.args.v (sym c.in_ok-behind.ensures) c.index_name.ensures
