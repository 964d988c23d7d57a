-- The token's kind says what the row begins with.
use Rattle.statements.proofs.Beginning.{ended, no-word, by_its_word}
use Rattle.statements.proofs.line.statement.Goals as goal

pub returns-in-End : goal.returns-in-End
returns-in-End c = ended c.args.s.now c.args.w c.in-End.is

pub returns-in-Word : goal.returns-in-Word
returns-in-Word c = by_its_word c.args.s.now c.args.w c.in-Word.is c.statement_word.ensures c.by_word.ensures

pub returns-in_default : goal.returns-in_default
returns-in_default c = no-word c.args.s.now c.args.w c.in_default.not-End c.in_default.not-Word
