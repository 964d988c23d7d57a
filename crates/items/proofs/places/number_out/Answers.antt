-- One turn of the loop passes one token; what is left to search has the same place (Located).
use mathlib.Core.Path.{refl, sym, ◌∙◌}
use native.Mathlib.Omega.{arith}
use Rattle.items.proofs.Located.{is-out, passed-last, passed-on, moves}
use Rattle.items.proofs.places.number_out.Goals as goal

pub loop-t-init : goal.loop-t-init
loop-t-init c = refl

pub returns-then-out_at : goal.returns-then-out_at
returns-then-out_at c =
    let l = c.loop-t in
    is-out c.args.s.now l.at.at l.begins c.next_token-t.ensures c.out_at.ensures c.if-out_at.true ∙ sym l.invariant

pub returns-in-End : goal.returns-in-End
returns-in-End c =
    let l = c.loop-t in
    sym (l.invariant ∙ passed-last c.args.s.now l.at.at l.begins c.next_token-t.ensures c.out_at.ensures c.in-End.is c.if-out_at.false)

pub loop-t-smaller : goal.loop-t-smaller
loop-t-smaller c =
    let l = c.loop-t in
    omega (arith, moves c.args.s.now l.at.at l.begins c.next_token-t.ensures c.out_at.ensures c.in_default.not-End c.in_default.not-Stray)

pub loop-t-preserved : goal.loop-t-preserved
loop-t-preserved c =
    let l = c.loop-t in
    let p = passed-on c.args.s.now l.at.at l.begins c.next_token-t.ensures c.out_at.ensures c.in_default.not-End c.in_default.not-Stray c.if-out_at.false in
    rw c.is_comma-begins.ensures (l.invariant ∙ p)
