-- Past the end it is stop 5; a first word that is refused decides by itself.
use mathlib.Core.Path.{sym, ◌∙◌}
use native.Mathlib.Omega.{arith}
use Rattle.isa.proofs.Refusals.{past_the_end, at_a_word, refused_word}
use Rattle.machine.specs.Steps.{runs_on}
use Rattle.machine.proofs.Answers.{refused-left}
use Rattle.machine.proofs.lent.inner.Goals as goal

pub returns-then-m-at : goal.returns-then-m-at
unfolding runs_on
returns-then-m-at c = rw (c.answered.ensures, ← c.index-at.ensures.0, past_the_end c.args.m.now _ c.if-m-at.true) (refused-left _ _ _ c.args.taken c.args.written 5)

pub allowed-requires : goal.allowed-requires
allowed-requires c = (omega (arith, c.if-m-at.false), c.index-at.ensures.1, sym c.first_word.ensures ∙ c.in-Ok.is)

pub returns-in-Ok : goal.returns-in-Ok
unfolding runs_on
returns-in-Ok c = rw (← c.index-at.ensures.0, at_a_word c.args.m.now _) c.allowed.ensures

pub returns-in-Err : goal.returns-in-Err
unfolding runs_on
returns-in-Err c =
    rw (c.answered-in-Err.ensures, ← c.index-at.ensures.0, refused_word c.args.m.now _ _ (sym c.first_word.ensures ∙ c.in-Err.is), c.from.ensures)
    (refused-left _ _ _ c.args.taken c.args.written _)
