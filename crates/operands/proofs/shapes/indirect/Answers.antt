-- `.`, and what follows it is the callee's (Outcomes).
use mathlib.Core.Path.{sym}
use Rattle.operands.proofs.Outcomes.{indirect_dotted, indirect_undotted}
use Rattle.operands.proofs.shapes.indirect.Goals as goal

pub returns-in_err-behind : goal.returns-in_err-behind
returns-in_err-behind c = rw c.from_residual.ensures (indirect_undotted c.args.s.now c.args.from.at (sym c.in_err-behind.ensures))

pub returns : goal.returns
returns c = indirect_dotted c.args.s.now c.args.from.at (sym c.in_ok-behind.ensures) c.indirect_name.ensures
