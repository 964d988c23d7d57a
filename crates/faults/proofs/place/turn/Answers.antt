-- Each way of the turn is one of the definition's (Turns).
use mathlib.Core.Path.{sym, ◌∙◌}
use native.Mathlib.Omega.{arith}
use Rattle.faults.proofs.Turns.{turn-grows, turn_dead, turn_on, turn-ends, grows-here}
use Rattle.faults.proofs.place.turn.Goals as goal

pub returns-then-grows : goal.returns-then-grows
returns-then-grows c =
    let a = c.args in
    let p = c.requires in
    turn-grows a.line.now a.x a.began a.at p.0 p.1 p.2 (sym c.grows.ensures ∙ c.if-grows.true)

pub returns-then-not-live : goal.returns-then-not-live
returns-then-not-live c =
    let a = c.args in
    let p = c.requires in
    let e = sym c.grows.ensures ∙ c.if-grows.false in
    turn_dead a.line.now a.x a.began a.at p.0 e (sym c.live.ensures ∙ c.if-not-live.true)

pub step-next-requires : goal.step-next-requires
step-next-requires c =
    let a = c.args in
    let p = c.requires in
    let e = sym c.grows.ensures ∙ c.if-grows.false in
    (omega arith, grows-here a.line.now a.x a.began a.at p.0 e)

pub returns-then-goes : goal.returns-then-goes
returns-then-goes c =
    let a = c.args in
    let p = c.requires in
    let e = sym c.grows.ensures ∙ c.if-grows.false in
    let l = sym c.live.ensures ∙ c.if-not-live.false in
    turn_on a.line.now a.x a.began a.at p.0 c.step-next.result e l c.step-next.ensures p.2 (sym c.goes.ensures ∙ c.if-goes.true)

pub returns-else-goes : goal.returns-else-goes
returns-else-goes c =
    let a = c.args in
    let p = c.requires in
    let e = sym c.grows.ensures ∙ c.if-grows.false in
    let l = sym c.live.ensures ∙ c.if-not-live.false in
    turn-ends a.line.now a.x a.began a.at p.0 c.step-next.result e l c.step-next.ensures (sym c.goes.ensures ∙ c.if-goes.false)
    c.stopped.ensures
