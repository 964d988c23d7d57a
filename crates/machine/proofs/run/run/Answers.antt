use mathlib.Core.Path.{sym, ◌∙◌}
use Rattle.machine.proofs.Runs.{run_past, run-within, run-bad, run-stopped}
use Rattle.machine.proofs.run.run.Goals as goal

pub returns-then-budget-gt-LARGEST_BUDGET : goal.returns-then-budget-gt-LARGEST_BUDGET
returns-then-budget-gt-LARGEST_BUDGET c = rw c.ended.ensures (sym (run_past _ _ _ c.if-budget-gt-LARGEST_BUDGET.true))

pub returns-then-not-is_good : goal.returns-then-not-is_good
returns-then-not-is_good c = rw c.ended-then-not-is_good.ensures (sym (run-within _ _ _ c.if-budget-gt-LARGEST_BUDGET.false ∙ run-bad _ _ (sym c.is_good.ensures ∙ c.if-not-is_good.true) _))

pub returns-then-g-ne-NONE : goal.returns-then-g-ne-NONE
returns-then-g-ne-NONE c = rw c.ended-then-g-ne-NONE.ensures (sym (run-within _ _ _ c.if-budget-gt-LARGEST_BUDGET.false ∙ run-stopped _ _ (sym c.is_good.ensures ∙ c.if-not-is_good.false) c.if-g-ne-NONE.true _))

pub running_on-requires : goal.running_on-requires
running_on-requires c = (sym c.is_good.ensures ∙ c.if-not-is_good.false, c.if-g-ne-NONE.false)

pub returns : goal.returns
returns c = c.running_on.ensures ∙ sym (run-within _ _ _ c.if-budget-gt-LARGEST_BUDGET.false)
