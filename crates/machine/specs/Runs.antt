-- A run (01: "A run takes a budget of 0..1,000,000 and counts steps that complete; HALT counts. A larger budget is 10 with
-- count 0. Before each step the order is 10, stopped already, 7. 7, 8, 9 can be resumed.").
use Rattle.std.specs.Prelude.{ℕ, zero, suc, cond, List, leb, eqb}
use Rattle.machine.specs.States.{State}
use Rattle.codes.specs.Limits.{largest_budget}
use Rattle.codes.specs.Stops.{none, budget_spent, bad_loan}
use Rattle.machine.specs.Stops.{good_loan, Answer}
use Rattle.machine.specs.Steps.{step_of}

-- how a run ends: the state, the stop, and how many steps completed
pub record Ending : Type 0 where
  pub after : State
  pub stop : ℕ
  pub count : ℕ

abbrev pub ending : State → ℕ → ℕ → Ending
ending s k n = record { after = s; stop = k; count = n }

-- one step more before an ending
abbrev pub one_more : Ending → Ending
one_more e = ending e.after e.stop (suc e.count)

-- the budget is spent: 10 and "stopped already" come before 7
unfoldable pub spent : List ℕ → State → Ending
spent input s = cond (good_loan input s) (cond (eqb s.registers.stop none) (ending s budget_spent 0) (ending s s.registers.stop 0)) (ending s bad_loan 0)

-- what follows a step: another, or the end
abbrev pub follows : Answer → Ending → Ending
follows a rest = cond a.completed (cond (eqb a.stop none) (one_more rest) (ending a.after a.stop 1)) (ending a.after a.stop 0)

-- a run of at most so many steps
unfoldable pub run_of : ℕ → List ℕ → State → Ending
run_of zero input s = spent input s
run_of (suc budget) input s = follows (step_of input s) (run_of budget input (step_of input s).after)

-- with the limit of the budget
unfoldable pub limited_run : ℕ → List ℕ → State → Ending
limited_run budget input s = cond (leb budget largest_budget) (run_of budget input s) (ending s bad_loan 0)
