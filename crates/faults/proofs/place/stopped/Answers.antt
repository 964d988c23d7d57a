-- Each way is one of the definition's (Tests).
use mathlib.Core.Path.{sym, ◌∙◌}
use Rattle.faults.specs.Inner.Turns.{lex_at}
use Rattle.faults.proofs.Tests.{stops-comment}
use Rattle.faults.proofs.Turns.{blank-parts, blank-live}
use Rattle.faults.proofs.place.stopped.Goals as goal

pub step-requires : goal.step-requires
step-requires c =
    let a = c.args in
    (c.requires, blank-parts (lex_at a.line.now a.x a.began a.at))

pub returns-then-goes : goal.returns-then-goes
returns-then-goes c =
    let a = c.args in
    let e = blank-live (lex_at a.line.now a.x a.began a.at) c.step.result c.step.ensures in
    sym (stops-comment a.line.now a.x a.began a.at a.b c.if-b-eq59.true (sym e ∙ (sym c.goes.ensures ∙ c.if-goes.true)))
