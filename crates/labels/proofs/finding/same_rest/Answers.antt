use Prim.Native.Nat.{◌+◌}
use mathlib.Core.Path.{◌≡◌, sym, ◌∙◌}
use native.Mathlib.Omega.{arith}
use lib.ListN.{get_or}
use Rattle.labels.proofs.Laws.{same_more, same_stop, same_end}
use Rattle.labels.proofs.finding.same_rest.Goals as goal

pub loop-i-preserved : goal.loop-i-preserved
loop-i-preserved c =
    let a = c.args in
    let p = c.loop-i in
    let like = sym c.byte.ensures ∙ c.if-byte.false ∙ c.byte-in-loop-i.ensures in
    p.invariant ∙ same_more a.s.now a.t.now a.a a.b a.n p.i c.loop-i-test.true like

pub returns-then-byte : goal.returns-then-byte
returns-then-byte c =
    let a = c.args in
    let p = c.loop-i in
    let other : get_or a.s.now (a.a + p.i) 0 ≡ get_or a.t.now (a.b + p.i) 0 → ⊥ =
    λ e. c.if-byte.true (c.byte.ensures ∙ e ∙ sym c.byte-in-loop-i.ensures) in
    sym (p.invariant ∙ same_stop a.s.now a.t.now a.a a.b a.n p.i c.loop-i-test.true other)

pub returns : goal.returns
returns c =
    let a = c.args in
    let p = c.loop-i in
    sym (p.invariant ∙ same_end a.s.now a.t.now a.a a.b a.n p.i (omega arith))
