-- A step is a run of one step (`reply-by-run`), whose promise gives the state after it and the stop.
use mathlib.Core.Path.{ap, ◌∙◌}
use Rattle.machine.specs.States.{state}
use Rattle.machine.specs.Steps.{reply}
use Rattle.machine.specs.Runs.{Ending}
use Rattle.machine.specs.Inner.Lent.{of_one_step}
use Rattle.machine.proofs.Turns.{reply_by_run}
use Rattle.machine.proofs.step.step.Goals as goal

pub returns : goal.returns
returns c =
    rw c.of_one_step.ensures
    (ap (λ (e : Ending). reply e.after (of_one_step e.stop)) c.run-ran.ensures ∙
    reply_by_run c.args.input.now (state c.args.g c.args.m.now c.args.out.now))
