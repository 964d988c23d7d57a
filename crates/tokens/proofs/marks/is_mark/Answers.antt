-- By the byte's rank (Classes.antt).
use Rattle.std.proofs.Common.{arith}
use Rattle.tokens.proofs.Classes.{mark_by_rank}
use Rattle.tokens.proofs.marks.is_mark.Goals as goal

pub returns : goal.returns
returns c = rw c.rank_of.ensures (mark_by_rank c.args.b (omega arith) (omega arith) (omega arith) (omega arith))
