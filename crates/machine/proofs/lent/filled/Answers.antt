use Rattle.machine.proofs.Answers.{refused-left}
use Rattle.machine.proofs.lent.filled.Goals as goal

pub returns-in-Ok : goal.returns-in-Ok
returns-in-Ok c = λ m m' out l h. rw c.in-Ok.is (c.go_on.ensures m m' out out c.args.taken c.args.written l)

pub returns-in-Err : goal.returns-in-Err
returns-in-Err c = λ m m' out l h. rw (c.answered.ensures, h _ c.in-Err.is, c.in-Err.is) (refused-left _ m out c.args.taken c.args.written _)
