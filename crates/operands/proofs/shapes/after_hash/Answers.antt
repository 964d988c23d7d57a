-- `[` begins an index, and without it the value ends the operand (Outcomes).
use mathlib.Core.Path.{sym}
use Rattle.operands.proofs.Outcomes.{rest_index, rest_not}
use Rattle.operands.proofs.shapes.after_hash.Goals as goal

pub returns-in-Some : goal.returns-in-Some
returns-in-Some c = rest_index c.args.s.now c.args.from.at c.args.v (sym c.in-Some.ensures) c.index.ensures

pub returns-in-None : goal.returns-in-None
returns-in-None c = rest_not c.args.s.now c.args.from.at c.args.v (sym c.in-None.ensures)
