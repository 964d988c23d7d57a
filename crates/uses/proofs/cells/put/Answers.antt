-- `set` past the end changes nothing.
use mathlib.Core.Path.{sym}
use lib.Seq.{set_out}
use Rattle.uses.proofs.cells.put.Goals as goal

pub returns-else-at-cells : goal.returns-else-at-cells
returns-else-at-cells c = sym (set_out c.args.cells.now c.args.at c.args.word c.if-at-cells.false)
