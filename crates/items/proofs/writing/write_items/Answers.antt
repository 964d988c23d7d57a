-- The loop's invariant: the items that are left are accepted, and their cells, written from `at + k` on, give what all of them give; and no
-- more cells are written than bytes passed. Each turn is a law of Writes.antt. The measure is what is left of the line.
use Prim.Native.Nat.{◌+◌}
use mathlib.Core.Path.{refl, sym, ◌∙◌}
use native.Mathlib.Nat.{add-zero}
use native.Mathlib.Omega.{arith}
use Rattle.items.proofs.Measures.{FoundItem, found-item}
use Rattle.tokens.proofs.Parted.{comma-moves}
use Rattle.items.proofs.Writes.{some_item, last_written, next-accepted, next-written}
use Rattle.items.proofs.writing.write_items.Goals as goal
use Rattle.items.proofs.writing.write_items.Goals.{In-Some}

pub loop-value-init : goal.loop-value-init
loop-value-init c = (omega arith, refl, c.requires, rw add-zero)

found : (c : In-Some) → FoundItem c.args.s.now c.loop-value.item_at.at c.in-Some.field-0
found c = found-item c.args.s.now c.loop-value.item_at.at (sym c.item.ensures ∙ c.in-Some.is)

pub overflow_add-k : goal.overflow_add-k
overflow_add-k c =
    let h = found (goal.at.overflow_add-k c).In-Some in
    omega (arith, h.few, h.within)

pub returns-in_default-follows : goal.returns-in_default-follows
returns-in_default-follows c =
    let a = c.args in
    let l = c.loop-value in
    let h = found (goal.at.returns-in_default-follows c).In-Some in
    last_written a.s.now l.item_at.at l.invariant.2 h l.row (a.at + l.k) (λ d e. c.in_default-follows.not-Comma d (c.follows.ensures ∙ e)) c.write_item.ensures
    ∙ sym l.invariant.3

pub loop-value-smaller : goal.loop-value-smaller
loop-value-smaller c =
    let h = found (goal.at.loop-value-smaller c).In-Some in
    omega (arith, h.moved, comma-moves c.args.s.now c.in-Some.field-0.next.at (sym c.follows.ensures ∙ c.in-Comma.is))

pub loop-value-preserved : goal.loop-value-preserved
loop-value-preserved c =
    let a = c.args in
    let l = c.loop-value in
    let h = found (goal.at.loop-value-preserved c).In-Some in
    let w = c.write_item in
    let e = sym c.follows.ensures ∙ c.in-Comma.is in (
      omega (arith, h.few, comma-moves a.s.now c.in-Some.field-0.next.at e),
      omega (arith, w.auto),
      next-accepted a.s.now l.item_at.at l.invariant.2 h e,
      l.invariant.3 ∙ next-written a.s.now l.item_at.at l.invariant.2 h l.row (a.at + l.k) e w.ensures (omega arith),
    )

pub returns : goal.returns
returns c = absurd (some_item c.args.s.now c.loop-value.item_at.at c.loop-value.invariant.2 (sym c.item.ensures ∙ c.in_default.is))
