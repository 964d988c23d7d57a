-- The fault's place stays that from here on; a byte opens one parenthesis at most.
use mathlib.Core.Path.{sym, ◌∙◌}
use native.Mathlib.Omega.{arith}
use Rattle.faults.proofs.Tests.{cond_is, cond-not}
use Rattle.faults.proofs.Turns.{from_start, at-end}
use Rattle.faults.proofs.place.place.Goals as goal

pub loop-at-init : goal.loop-at-init
loop-at-init c = (from_start c.args.line.now, omega arith, omega arith)

pub turn-requires : goal.turn-requires
turn-requires c = (c.loop-at-test.true, c.loop-at.invariant.1, c.loop-at.invariant.2)

pub loop-at-preserved : goal.loop-at-preserved
loop-at-preserved c =
    let l = c.loop-at in
    let t = c.in-Ok.ensures in
    (l.invariant.0 ∙ t.0, omega (arith, t.1), t.2)

pub returns-in-Err : goal.returns-in-Err
returns-in-Err c = sym (c.loop-at.invariant.0 ∙ c.in-Err.ensures)

pub returns-then-live : goal.returns-then-live
returns-then-live c =
    let l = c.loop-at in
    let e = at-end c.args.line.now l.walk.stage l.walk.began l.at c.loop-at-test.false l.auto.at-end in
    sym (l.invariant.0 ∙ e ∙ cond_is _ _ (sym c.live.ensures ∙ c.if-live.true))

pub returns-else-live : goal.returns-else-live
returns-else-live c =
    let l = c.loop-at in
    let e = at-end c.args.line.now l.walk.stage l.walk.began l.at c.loop-at-test.false l.auto.at-end in
    sym (l.invariant.0 ∙ e ∙ cond-not _ _ (sym c.live.ensures ∙ c.if-live.false))
