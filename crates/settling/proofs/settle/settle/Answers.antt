-- All labels before the i-th pass, their words are in their cells, and the last of them is on the line kept.
use borrow.Author.Rules.{rules}
use native.Mathlib.Omega.{arith}
use mathlib.Core.List.{List}
use mathlib.Core.Path.{◌≡◌, refl, sym, ap, ◌∙◌}
use Prim.Native.Nat.{ℕ, ◌+◌, ◌*◌}
use lib.Dec.{eqb}
use lib.ListN.{get_or, set}
use Rattle.std.proofs.lemmas.Result.{err_from_is_err_and}
use Rattle.labels.proofs.Mapped.{mapped-ok, mapped-err}
use Rattle.sources.specs.Inner.Assembling.{uses_verdict, filled}
use Rattle.labels.specs.Inner.Labels.{labels_in}
use Rattle.uses.specs.Inner.Held.{uses_held}
use Rattle.settling.proofs.Laws.{nothing-held, nothing-before, nothing-filled, one_passes, one-before, all-refused, one-filled}
use Rattle.settling.proofs.settle.settle.Goals as goal

pub loop-i-init : goal.loop-i-init
loop-i-init c = (omega arith, nothing-held _ _ _ _, sym (nothing-filled _ _ _ _ _), refl, nothing-before _ _ _ _)

pub returns-in_err-w : goal.returns-in_err-w
returns-in_err-w c =
    let a = c.args in
    let bs = labels_in a.s.now a.starts.now a.keys.now a.values.now a.count in
    let w = c.word-found in
    let line = get_or a.row.now (4 * c.loop-i.i + 3) 0 in
    let f = mapped-err w.result _ c.map_err.ensures.cases c.in_err-w.was in
    let told : c.in_err-w.field-0.0 ≡ record { refusal = f.0; line = record { 0 = line }; second = eqb line c.loop-i.before } = search (rules, f.2) in
    let r = err_from_is_err_and c.from_residual.result c.from_residual.ensures.1 in
    rw (r.1, r.2, told) (all-refused bs a.s.now a.row.now a.aways.now c.loop-i.i a.uses f.0 c.loop-i.before w.result
    c.loop-i-test.true c.loop-i.invariant.1 c.loop-i.invariant.4 w.ensures f.1)

pub loop-i-preserved : goal.loop-i-preserved
loop-i-preserved c =
    let a = c.args in
    let bs = labels_in a.s.now a.starts.now a.keys.now a.values.now a.count in
    let i = c.loop-i.i in
    let w = c.word-found in
    let x = c.in_ok-w.w in (
      omega (arith, c.loop-i-test.true),
      one_passes bs a.s.now a.row.now a.aways.now i x w.result w.ensures (mapped-ok w.result _ c.map_err.ensures.cases c.in_ok-w.was) c.loop-i.invariant.1,
      c.put.ensures
          ∙ ap (λ (m : List ℕ). set m (get_or a.row.now (4 * i + 2) 0) x) c.loop-i.invariant.2
          ∙ one-filled bs a.s.now a.row.now a.aways.now i x w.result w.ensures (mapped-ok w.result _ c.map_err.ensures.cases c.in_ok-w.was) a.cells.now,
      c.put.auto.cells ∙ c.loop-i.invariant.3,
      one-before bs a.s.now a.row.now a.aways.now i x w.result w.ensures (mapped-ok w.result _ c.map_err.ensures.cases c.in_ok-w.was) c.loop-i.before c.loop-i.invariant.4,
    )

pub returns : goal.returns
returns c =
    let a = c.args in
    let bs = labels_in a.s.now a.starts.now a.keys.now a.values.now a.count in
    let q : c.loop-i.i ≡ a.uses = omega (arith, c.loop-i-test.false, c.loop-i.invariant.0) in (
      ap (λ (n : ℕ). uses_verdict bs (uses_held a.s.now a.row.now a.aways.now n)) (sym q) ∙ c.loop-i.invariant.1,
      c.loop-i.invariant.2 ∙ ap (λ (n : ℕ). filled bs (uses_held a.s.now a.row.now a.aways.now n) a.cells.now) q,
    )
