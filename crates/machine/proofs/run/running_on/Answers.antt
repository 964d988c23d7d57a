use mathlib.Core.Path.{refl, sym, ap, ◌∙◌}
use native.Mathlib.Omega.{arith}
use borrow.Author.Tests.{not-true, not-false}
use Rattle.machine.specs.Runs.{run_of}
use Rattle.machine.proofs.Turns.{is_running, running-good, turn-first, turn-none, turn-refused, turn-ended, turn_more, turn-good}
use Rattle.machine.proofs.run.running_on.Goals as goal

pub loop-count-init : goal.loop-count-init
loop-count-init c = (turn-first c.args.budget c.args.input.now _, running-good _ c.args.g c.args.m.now c.args.out.now c.requires.1 c.requires.0, omega arith, refl, refl)

pub shape_of-m-then-not-a : goal.shape_of-m-then-not-a
shape_of-m-then-not-a c = omega (arith, c.inner-a.auto, c.loop-count.invariant)

pub shape_of-out-then-not-a : goal.shape_of-out-then-not-a
shape_of-out-then-not-a c = omega (arith, c.inner-a.auto, c.loop-count.invariant)

pub returns-then-not-a : goal.returns-then-not-a
returns-then-not-a c =
    rw (c.ended.ensures, c.code_after-code.ensures)
    (turn-refused c.args.input.now c.args.budget c.loop-count.count _ _ _ _ _ c.loop-count.invariant.1 _ _ _ c.inner-a.result c.inner-a.ensures c.loop-count-test.true (not-true _ c.if-not-a.true)
    ∙ c.loop-count.invariant.0 ∙ ap (run_of c.args.budget c.args.input.now) (sym (is_running c.args.g c.args.m.now c.args.out.now c.requires.1)))

pub overflow_add-count : goal.overflow_add-count
overflow_add-count c = omega (arith, c.loop-count-test.true)

pub shape_of-m-then-a-ne-NONE : goal.shape_of-m-then-a-ne-NONE
shape_of-m-then-a-ne-NONE c = omega (arith, c.inner-a.auto, c.loop-count.invariant)

pub shape_of-out-then-a-ne-NONE : goal.shape_of-out-then-a-ne-NONE
shape_of-out-then-a-ne-NONE c = omega (arith, c.inner-a.auto, c.loop-count.invariant)

pub returns-then-a-ne-NONE : goal.returns-then-a-ne-NONE
returns-then-a-ne-NONE c =
    rw c.ended-then-a-ne-NONE.ensures
    (turn-ended c.args.input.now c.args.budget c.loop-count.count _ _ _ _ _ c.loop-count.invariant.1 _ _ _ c.inner-a.result c.inner-a.ensures c.loop-count-test.true (not-false _ c.if-not-a.false) c.if-a-ne-NONE.true
    ∙ c.loop-count.invariant.0 ∙ ap (run_of c.args.budget c.args.input.now) (sym (is_running c.args.g c.args.m.now c.args.out.now c.requires.1)))

pub loop-count-smaller : goal.loop-count-smaller
loop-count-smaller c = omega (arith, c.loop-count-test.true)

pub loop-count-preserved : goal.loop-count-preserved
loop-count-preserved c = (
  turn_more c.args.input.now c.args.budget c.loop-count.count _ _ _ _ _ c.loop-count.invariant.1 _ _ _ c.inner-a.result c.inner-a.ensures c.loop-count-test.true (not-false _ c.if-not-a.false) c.if-a-ne-NONE.false
      ∙ c.loop-count.invariant.0,
  turn-good c.args.input.now c.args.budget c.loop-count.count _ _ _ _ _ c.loop-count.invariant.1 _ _ _ c.inner-a.result c.inner-a.ensures (not-false _ c.if-not-a.false) c.if-a-ne-NONE.false,
  omega (arith, c.loop-count-test.true),
  omega (arith, c.inner-a.auto, c.loop-count.invariant),
  omega (arith, c.inner-a.auto, c.loop-count.invariant),
)

pub shape_of-m : goal.shape_of-m
shape_of-m c = omega (arith, c.loop-count.invariant)

pub shape_of-out : goal.shape_of-out
shape_of-out c = omega (arith, c.loop-count.invariant)

pub returns : goal.returns
returns c =
    rw c.ended-2.ensures
    (turn-none c.args.input.now c.args.budget c.loop-count.count _ _ _ _ _ c.loop-count.invariant.1 c.loop-count-test.false
    ∙ c.loop-count.invariant.0 ∙ ap (run_of c.args.budget c.args.input.now) (sym (is_running c.args.g c.args.m.now c.args.out.now c.requires.1)))
