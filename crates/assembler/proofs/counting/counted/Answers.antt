-- A mark more is passed at each turn, and all are at the end.
use mathlib.Core.Path.{sym, ap, ◌∙◌}
use native.Mathlib.Omega.{arith}
use Prim.Native.Nat.{ℕ}
use lib.Dec.{eqb}
use lib.Seq.{take_all}
use borrow.Author.Tests.{eq-eqb, ne_eqb}
use Rattle.std.specs.List.{count_by}
use Rattle.std.proofs.lemmas.List.Sums.{count_by_more_yes, count_by_more_no}
use Rattle.assembler.proofs.Rows.{marked-count}
use Rattle.assembler.proofs.counting.counted.Goals as goal
use Rattle.assembler.proofs.counting.counted.Goals.{then-m-mark, else-m-mark}

pub loop-m-preserved : goal.loop-m-preserved
loop-m-preserved c =
    let a = c.args in
    let i = c.loop-m.m-index in
    let p = λ (m : ℕ). eqb m a.mark in
    elim c.if-m-mark.branch [
      | then-m-mark w ↦ omega (arith, count_by_more_yes p a.marks.now i 0 (omega arith) (eq-eqb _ _ w.if-m-mark.true))
      | else-m-mark w ↦ omega (arith, count_by_more_no p a.marks.now i 0 (omega arith) (ne_eqb _ _ w.if-m-mark.false))
    ]

pub returns : goal.returns
returns c =
    let a = c.args in
    let p = λ (m : ℕ). eqb m a.mark in
    c.loop-m.invariant.1
    ∙ ap (count_by p) (take_all c.loop-m.m-index a.marks.now (omega arith))
    ∙ sym (marked-count a.mark a.marks.now)
