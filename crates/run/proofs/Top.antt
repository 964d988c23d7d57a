-- What the program promises of its own, for a reader: the budget that a call asks for is `budgetAsked` of specs/Budgets.antt. What it assembles,
-- runs and prints is promised by the crates below it; what the system hands over and takes no promise determines.
use mathlib.Core.Path.{◌≡◌, sym, ◌∙◌}
use mathlib.Core.Bool.{Bool, true, false, cond, ◌&&◌}
use mathlib.Core.List.{List}
use Prim.Native.Nat.{ℕ, ◌≤◌}
use native.Mathlib.Decide.{dec_le}
use native.Mathlib.Omega.{arith}
use borrow.Author.Tests.{le-leb, lt-leb}
use lib.Dec.{eqb, ltb}
use lib.ListN.{length}
use Rattle.codes.specs.Limits.{largest_budget}
use Rattle.numerals.specs.Digits.{all_below, worth_after}
use Rattle.run.specs.Budgets.{budget_after, budget_of, usual_budget, budget_asked}
use Rattle.std.proofs.Common.{Option, Some, None}
use Rattle.run.proofs.Examples.{Examples}
use Rattle.run.proofs.Examples as worked

-- ---- "up to 1,000,000"

abbrev pub steps_of : Option ℕ → ℕ
steps_of (Some n) = n
steps_of None = 0

either : (b : Bool) (x y : Option ℕ) → steps_of x ≤ largest_budget → steps_of y ≤ largest_budget → steps_of (cond b x y) ≤ largest_budget
either true x y h k = h
either false x y h k = k

neither : (b : Bool) (x : Option ℕ) → steps_of (cond (b && false) x None) ≤ largest_budget
neither true x = omega arith
neither false x = omega arith

word-within : (worth : ℕ) (digits : List ℕ) → steps_of (budget_after worth digits) ≤ largest_budget
unfolding budget_after
word-within worth digits =
    let n = worth_after 10 worth digits in
    elim (dec_le n largest_budget) [
      | yes l ↦ rw (le-leb n largest_budget l) (either (all_below 10 digits && true) (Some n) None l (omega arith))
      | no l ↦ rw (lt-leb n largest_budget (omega arith)) (neither (all_below 10 digits) (Some n))
    ]

-- However a run is called, no budget is larger.
pub never-above : (words : ℕ) (third : List ℕ) → steps_of (budget_asked words third) ≤ largest_budget
unfolding budget_asked budget_of
never-above words third =
    let named = either (ltb 0 (length third)) (budget_after 0 third) None (word-within 0 third) (omega arith) in
    either (eqb words 3) (Some usual_budget) (cond (eqb words 4) (budget_of third) None) (omega arith)
    (either (eqb words 4) (budget_of third) None named (omega arith))

-- ---- examples, and one reply

pub examples : Examples
examples = worked.examples

-- "That two replies meeting it coincide".
pub budgets_coincide : (words : ℕ) (third : List ℕ) {r s : Option ℕ} → r ≡ budget_asked words third → s ≡ budget_asked words third → r ≡ s
budgets_coincide words third p q = p ∙ sym q
