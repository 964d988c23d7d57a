-- What starts behind the mark (Located).
use Rattle.std.proofs.Common.{rules}
use Rattle.operands.proofs.Located.{behind-mark, no_mark}
use Rattle.operands.proofs.places.number_start.Goals as goal

pub returns : goal.returns
returns c = search (rules, behind-mark, no_mark)
