-- What is left names what the whole word names, behind the digits that were read. One law for each way out.
use native.Mathlib.Omega.{arith}
use mathlib.Core.Path.{◌≡◌, sym, ◌∙◌}
use borrow.Author.Tests.{true-eqb, false-eqb}
use lib.ListN.{length}
use Rattle.run.proofs.Budgets.{budget_none, budget_some, budget_more, budget_other, budget_large, budget_end}
use Rattle.run.proofs.arguments.budget_of.Goals as goal

pub returns-then-is_empty : goal.returns-then-is_empty
returns-then-is_empty c = budget_none c.args.word.now (true-eqb _ 0 c.if-is_empty.ensures)

pub loop-b-init : goal.loop-b-init
loop-b-init c =
    let word = c.args.word.now in
    let some : length word ≡ 0 → ⊥ = false-eqb (length word) 0 c.if-is_empty.ensures in
    (budget_some word (omega (arith, some)), omega arith)

pub returns-then-digit-gt9 : goal.returns-then-digit-gt9
returns-then-digit-gt9 c = sym (sym c.loop-b.invariant.0 ∙ budget_other c.args.word.now c.loop-b.b-index c.loop-b.steps c.rank_of-digit.ensures (omega arith) (omega arith))

pub returns-then-steps-gt-LARGEST_BUDGET : goal.returns-then-steps-gt-LARGEST_BUDGET
returns-then-steps-gt-LARGEST_BUDGET c = sym (sym c.loop-b.invariant.0 ∙ (budget_more c.args.word.now c.loop-b.b-index c.loop-b.steps c.rank_of-digit.ensures (omega arith) (omega arith) ∙ budget_large _ _ (omega arith)))

pub loop-b-preserved : goal.loop-b-preserved
loop-b-preserved c = (sym (budget_more c.args.word.now c.loop-b.b-index c.loop-b.steps c.rank_of-digit.ensures (omega arith) (omega arith)) ∙ c.loop-b.invariant.0, omega arith)

pub returns : goal.returns
returns c = sym (sym c.loop-b.invariant.0 ∙ budget_end c.args.word.now c.loop-b.b-index c.loop-b.steps (omega arith) c.loop-b.invariant.1)
