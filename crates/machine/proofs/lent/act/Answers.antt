use Rattle.machine.proofs.Answers.{refused-left}
use Rattle.machine.proofs.lent.act.Goals as goal

pub returns-in-Does : goal.returns-in-Does
returns-in-Does c = rw c.in-Does.is (c.do_effect.ensures c.args.out.now c.args.taken c.args.written)

pub returns-in-Halts : goal.returns-in-Halts
returns-in-Halts c = rw c.in-Halts.is (c.halt.ensures c.args.m.now c.args.out.now)

pub returns-in-Asks : goal.returns-in-Asks
returns-in-Asks c = rw c.in-Asks.is c.ask.ensures

pub returns-in-Stops : goal.returns-in-Stops
returns-in-Stops c = rw (c.answered.ensures, c.in-Stops.is) (refused-left _ _ _ c.args.taken c.args.written _)
