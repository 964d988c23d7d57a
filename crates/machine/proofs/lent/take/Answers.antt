use Rattle.machine.proofs.Answers.{refused-left}
use Rattle.machine.proofs.lent.take.Goals as goal

pub returns-in-Ok : goal.returns-in-Ok
returns-in-Ok c = λ out. rw (c.in-Ok.is, ← c.written-e.ensures) (c.do_effect.ensures out c.args.taken c.args.written)

pub returns-in-Err : goal.returns-in-Err
returns-in-Err c = λ out. rw (c.answered.ensures, c.in-Err.is) (refused-left _ _ out c.args.taken c.args.written _)
