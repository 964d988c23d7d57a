-- A token starts a row, and the line's end starts none (Located).
use Rattle.operands.proofs.Located.{token-starts, none-starts}
use Rattle.operands.proofs.places.start_at.Goals as goal

pub returns-in-End : goal.returns-in-End
returns-in-End c = none-starts c.args.s.now c.args.from.at c.next_token-t.ensures c.in-End.is

pub returns-in_default : goal.returns-in_default
returns-in_default c = token-starts c.args.s.now c.args.from.at c.next_token-t.ensures c.in_default.not-End
