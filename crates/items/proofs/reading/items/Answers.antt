-- The loop's invariant: the verdict on the whole row is the verdict on what is left, with the cells and the ranges of what is read; and
-- no more cells are counted than bytes passed. Each turn is a law of Walks.antt. The measure is what is left of the line.
use mathlib.Core.Path.{◌≡◌, refl, sym, ◌∙◌}
use native.Mathlib.Omega.{arith}
use Rattle.std.proofs.Common.{Some, None, Err, rules}
use Rattle.std.proofs.lemmas.Grind.{common_steps}
use Rattle.tokens.specs.Reading.{tokens_from}
use Rattle.tokens.proofs.Parted.{comma-moves}
use Rattle.items.specs.declared.ItemsFault.TheVariants.{WrongForm}
use Rattle.items.proofs.Measures.{FoundItem, found-item}
use Rattle.items.proofs.Walks.{verdict-start, turn-absent, turn-over, turn-neither, turn-comma}
use Rattle.items.proofs.reading.items.Goals as goal
use Rattle.items.proofs.reading.items.Goals.{In_ok-value}

pub loop-value-init : goal.loop-value-init
loop-value-init c =
    let a = c.args in
    (omega arith, verdict-start a.s.now (tokens_from a.s.now a.from.at))

pub returns-in_err-value : goal.returns-in_err-value
returns-in_err-value c =
    let l = c.loop-value in
    let e : c.item.result ≡ None = grind (arith, common_steps) in
    let r : c.from_residual.result ≡ Err WrongForm = search rules in
    r ∙ sym (l.invariant.1 ∙ turn-absent c.args.s.now l.at.at l.cells l.fit (sym c.item.ensures ∙ e))

found : (c : In_ok-value) → FoundItem c.args.s.now c.loop-value.at.at c.in_ok-value.field-0
found c =
    let e : c.item.result ≡ Some c.in_ok-value.field-0 = grind (arith, common_steps) in
    found-item c.args.s.now c.loop-value.at.at (sym c.item.ensures ∙ e)

pub overflow_add-cells : goal.overflow_add-cells
overflow_add-cells c = omega (arith, found (goal.at.overflow_add-cells c).In_ok-value)

pub returns-in-Over : goal.returns-in-Over
returns-in-Over c =
    let l = c.loop-value in
    let h = found (goal.at.returns-in-Over c).In_ok-value in
    let t = turn-over c.args.s.now l.at.at l.cells l.fit h (sym c.follows.ensures ∙ c.in-Over.is) (sym c.if-fit.true) in
    sym (l.invariant.1 ∙ t)

pub returns-in-Over-2 : goal.returns-in-Over-2
returns-in-Over-2 c =
    let l = c.loop-value in
    let h = found (goal.at.returns-in-Over-2 c).In_ok-value in
    let t = turn-over c.args.s.now l.at.at l.cells l.fit h (sym c.follows.ensures ∙ c.in-Over.is) (sym c.if-fit.false) in
    sym (l.invariant.1 ∙ t)

pub returns-in-Neither : goal.returns-in-Neither
returns-in-Neither c =
    let l = c.loop-value in
    let h = found (goal.at.returns-in-Neither c).In_ok-value in
    sym (l.invariant.1 ∙ turn-neither c.args.s.now l.at.at l.cells l.fit h (sym c.follows.ensures ∙ c.in-Neither.is))

pub loop-value-smaller : goal.loop-value-smaller
loop-value-smaller c =
    let h = found (goal.at.loop-value-smaller c).In_ok-value in
    omega (arith, h.moved, comma-moves c.args.s.now c.in_ok-value.field-0.next.at (sym c.follows.ensures ∙ c.in-Comma.is))

pub loop-value-preserved : goal.loop-value-preserved
loop-value-preserved c =
    let s = c.args.s.now in
    let l = c.loop-value in
    let h = found (goal.at.loop-value-preserved c).In_ok-value in
    let e = sym c.follows.ensures ∙ c.in-Comma.is in
    (omega (arith, h.few, comma-moves s c.in_ok-value.field-0.next.at e), l.invariant.1 ∙ turn-comma s l.at.at l.cells l.fit h e refl)
