-- A cell more is passed at each turn, and all are at the end; a claimed one is one whose mark is not free (`claimed_by_count`). Assumes nothing.
use mathlib.Core.Path.{sym, ap, ◌∙◌}
use mathlib.Core.Bool.{not}
use native.Mathlib.Omega.{arith}
use Prim.Native.Nat.{ℕ}
use lib.Dec.{eqb}
use lib.Seq.{take_all}
use borrow.Author.Tests.{eq-eqb, ne_eqb}
use Rattle.std.specs.List.{count_by}
use Rattle.std.proofs.lemmas.List.Sums.{count_by_more_yes, count_by_more_no}
use Rattle.image.proofs.Texts.{claimed_by_count}
use Rattle.image.proofs.lengths.claimed_in.Goals as goal
use Rattle.image.proofs.lengths.claimed_in.Goals.{then-mark-ne-FREE, else-mark-ne-FREE}

pub loop-mark-preserved : goal.loop-mark-preserved
loop-mark-preserved c =
    let a = c.args in
    let i = c.loop-mark.mark-index in
    let p = λ (mark : ℕ). not (eqb mark 0) in
    elim c.if-mark-ne-FREE.branch [
      | then-mark-ne-FREE w ↦
          omega (arith, count_by_more_yes p a.map.now i 0 (omega arith) (ap not (ne_eqb _ _ w.if-mark-ne-FREE.true)))
      | else-mark-ne-FREE w ↦
          omega (arith, count_by_more_no p a.map.now i 0 (omega arith) (ap not (eq-eqb _ _ w.if-mark-ne-FREE.false)))
    ]

pub returns : goal.returns
returns c =
    let a = c.args in
    let p = λ (mark : ℕ). not (eqb mark 0) in
    c.loop-mark.invariant.1
    ∙ ap (count_by p) (take_all c.loop-mark.mark-index a.map.now (omega arith))
    ∙ sym (claimed_by_count a.map.now)
