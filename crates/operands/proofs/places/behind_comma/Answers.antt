-- One turn of the loop passes one token; what is behind the first comma stays (Located).
use mathlib.Core.Path.{refl, sym, ◌∙◌}
use native.Mathlib.Omega.{arith}
use Rattle.operands.proofs.Located.{GoesOn, mark_goes_on, other_goes_on, over, stray, at-comma, turn}
use Rattle.operands.proofs.places.behind_comma.Goals.{In_default, in_default-via-in-Mark+else-b-eq44, in_default-via-in_default}
use Rattle.operands.proofs.places.behind_comma.Goals as goal

goes_on : (c : In_default) → GoesOn c.next_token-t.result.kind
goes_on c =
    elim c.in_default.branch [
      | in_default-via-in-Mark+else-b-eq44 w ↦ mark_goes_on w.in-Mark.is w.if-b-eq44.false
      | in_default-via-in_default w ↦ other_goes_on _ w.in_default.not-End w.in_default.not-Stray w.in_default.not-Mark
    ]

pub loop-at-init : goal.loop-at-init
loop-at-init c = refl

pub returns-in-End : goal.returns-in-End
returns-in-End c = over c.args.s.now c.loop-at.at.at c.next_token-t.ensures c.in-End.is ∙ c.loop-at.invariant

pub returns-in-Stray : goal.returns-in-Stray
returns-in-Stray c = stray c.args.s.now c.loop-at.at.at c.next_token-t.ensures c.in-Stray.is ∙ c.loop-at.invariant

pub returns-in-Mark : goal.returns-in-Mark
returns-in-Mark c = at-comma c.args.s.now c.loop-at.at.at c.next_token-t.ensures c.in-Mark.is c.if-b-eq44.true ∙ c.loop-at.invariant

pub loop-at-smaller : goal.loop-at-smaller
loop-at-smaller c =
    let h = turn c.args.s.now c.loop-at.at.at c.next_token-t.ensures (goes_on (goal.at.loop-at-smaller c).In_default) in
    omega (arith, h.1)

pub loop-at-preserved : goal.loop-at-preserved
loop-at-preserved c =
    let h = turn c.args.s.now c.loop-at.at.at c.next_token-t.ensures (goes_on (goal.at.loop-at-preserved c).In_default) in
    sym h.0 ∙ c.loop-at.invariant
