-- What the meaning of a run comes to where no step is taken, that it keeps a loan good, and which stops it gives. Assumes nothing.
use mathlib.Core.Path.{◌≡◌, refl, sym, ap, ◌∙◌}
use mathlib.Core.Bool.{Bool, true, false, cond, true≢false}
use mathlib.Core.Logic.{inl, inr}
use mathlib.Core.List.{List}
use Prim.Native.Nat.{ℕ, zero, suc, ◌≤◌, ◌<◌}
use native.Mathlib.Omega.{arith}
use borrow.Author.Tests.{leb-true}
use lib.Dec.{leb, eqb}
use Rattle.codes.specs.Limits.{largest_budget}
use Rattle.codes.specs.Stops.{budget_spent, bad_loan}
use Rattle.machine.specs.States.{State, with_stop}
use Rattle.machine.specs.Stops.{Answer, answer, good_loan, is_stored}
use Rattle.machine.specs.Steps.{step_of}
use Rattle.machine.specs.Runs.{Ending, ending, one_more, follows, run_of, limited_run}
use Rattle.machine.proofs.Top as machines
use Rattle.machine.proofs.GoodLoans.{good-parts, and_parts}
use Rattle.machine.proofs.Outcomes.{outcome}
use Rattle.machine.proofs.Standings.{Standing, bad, stopped, runs, standing, step-bad, step-stopped, step-runs, step-completes}
use Rattle.machine.proofs.Runs.{run_more, run-bad, run-stopped, run_none}
use Rattle.machine.proofs.Counts.{Ends, spent, ended, refused, after}

-- ---- no step is taken

module _ (budget : ℕ) (input : List ℕ) (s : State) where
  -- a bad loan is 10, whatever the budget
  pub limited_bad : good_loan input s ≡ false → limited_run budget input s ≡ ending s bad_loan 0
  unfolding limited_run
  limited_bad e = go (leb budget largest_budget)
    where
      go : (t : Bool) → cond t (run_of budget input s) (ending s bad_loan 0) ≡ ending s bad_loan 0
      go true = run-bad input s e budget
      go false = refl

  pub limited_stopped : budget ≤ largest_budget → good_loan input s ≡ true → (s.registers.stop ≡ 0 → ⊥) →
      limited_run budget input s ≡ ending s s.registers.stop 0
  limited_stopped within good h = machines.budget_within budget input s within ∙ run-stopped input s good h budget

-- ---- one step is taken

-- a first step that completes with stop 1 ends a run
pub runs-once : (input : List ℕ) (s : State) (budget : ℕ) → 0 < budget → (t : State) → step_of input s ≡ answer t 1 true → run_of budget input s ≡ ending t 1 1
runs-once input s zero some t e = absurd (omega (arith, some))
runs-once input s (suc n) some t e = run_more input s n ∙ ap (λ (a : Answer). follows a (run_of n input a.after)) e

-- ---- good loans

-- so many steps keep a loan good, and so does a run
steps_keep_good : (n : ℕ) (input : List ℕ) (s : State) → good_loan input s ≡ true → good_loan input (after input n s) ≡ true
steps_keep_good zero input s good = good
steps_keep_good (suc n) input s good = steps_keep_good n input (step_of input s).after (machines.stays-good input s good)

pub run_keeps_good : (budget : ℕ) (input : List ℕ) (s : State) → good_loan input s ≡ true → good_loan input (limited_run budget input s).after ≡ true
unfolding limited_run
run_keeps_good budget input s good = go (leb budget largest_budget)
  where
    step-good : (n : ℕ) (t : State) → (step_of input (after input n s)).after ≡ t → good_loan input t ≡ true
    step-good n t e = ap (good_loan input) (sym e) ∙ machines.stays-good input (after input n s) (steps_keep_good n input s good)

    ends-good : Ends budget input s (run_of budget input s) → good_loan input (run_of budget input s).after ≡ true
    ends-good (spent c k a) = ap (good_loan input) a ∙ steps_keep_good (run_of budget input s).count input s good
    ends-good (ended last c a k) = step-good last (run_of budget input s).after (ap (λ (x : Answer). x.after) a)
    ends-good (refused a) = step-good (run_of budget input s).count (run_of budget input s).after (ap (λ (x : Answer). x.after) a)

    go : (t : Bool) → good_loan input (cond t (run_of budget input s) (ending s bad_loan 0)).after ≡ true
    go true = ends-good (machines.run_counts budget input s).ends
    go false = good

-- ---- which stops a run gives

-- a step that is refused gives no 0
refused_not_none : (input : List ℕ) (s : State) → (step_of input s).completed ≡ false → (step_of input s).stop ≡ 0 → ⊥
refused_not_none input s undone z = go (standing input s)
  where
    go : Standing input s → ⊥
    go (bad e) = omega (arith, z, ap (λ (a : Answer). a.stop) (step-bad input s e))
    go (stopped e h) = h (sym (ap (λ (a : Answer). a.stop) (step-stopped input s e h)) ∙ z)
    go (runs e r) =
        let same = step-runs input s e r in
        elim (outcome input s (good-parts input s e)) [
          | inl h ↦ true≢false (sym h.done ∙ ap (λ (a : Answer). a.completed) (sym same) ∙ undone)
          | inr h ↦ omega (arith, h.stop.least, sym (ap (λ (a : Answer). a.stop) same) ∙ z)
        ]

-- and so does no run
pub run_not_none : (budget : ℕ) (input : List ℕ) (s : State) → (limited_run budget input s).stop ≡ 0 → ⊥
unfolding limited_run
run_not_none budget input s = go (leb budget largest_budget)
  where
    ends : Ends budget input s (run_of budget input s) → (run_of budget input s).stop ≡ 0 → ⊥
    ends (spent c k a) z = omega (arith, k, z)
    ends (ended last c a k) z = k z
    ends (refused a) z =
        refused_not_none input (after input (run_of budget input s).count s) (ap (λ (x : Answer). x.completed) a) (ap (λ (x : Answer). x.stop) a ∙ z)

    go : (t : Bool) → (cond t (run_of budget input s) (ending s bad_loan 0)).stop ≡ 0 → ⊥
    go true z = ends (machines.run_counts budget input s).ends z
    go false z = omega (arith, z)

-- a step that is refused with 7 or more leaves the stop code of a good loan at 0
refused_still_runs : (input : List ℕ) (s : State) → good_loan input s ≡ true → (step_of input s).completed ≡ false → budget_spent ≤ (step_of input s).stop →
    (step_of input s).after.registers.stop ≡ 0
refused_still_runs input s good undone seven = go (standing input s)
  where
    unset : s.registers.stop ≡ 0 → (t : Bool) → is_stored (step_of input s).stop ≡ t →
        (step_of input s).after ≡ cond t (with_stop s (step_of input s).stop) s → (step_of input s).after.registers.stop ≡ 0
    unset r true e q =
        let k : ℕ = (step_of input s).stop in
        let most : k ≤ 6 = leb-true k 6 (and_parts (leb 2 k) (leb k 6) e).1 in
        absurd (omega (arith, seven, most))
    unset r false e q = ap (λ (t : State). t.registers.stop) q ∙ r

    go : Standing input s → (step_of input s).after.registers.stop ≡ 0
    go (bad e) = absurd (true≢false (sym good ∙ e))
    go (stopped e h) = absurd (omega (arith, seven, ap (λ (a : Answer). a.stop) (step-stopped input s e h), (good-parts input s e).code))
    go (runs e r) = unset r (is_stored (step_of input s).stop) refl (machines.refused-step input s undone)

-- and so does a run: its machine still runs
still-runs : (budget : ℕ) (input : List ℕ) (s : State) → good_loan input s ≡ true → budget_spent ≤ (run_of budget input s).stop →
    (run_of budget input s).after.registers.stop ≡ 0
still-runs zero input s good seven = go (standing input s)
  where
    go : Standing input s → (run_of 0 input s).after.registers.stop ≡ 0
    go (bad e) = absurd (true≢false (sym good ∙ e))
    go (stopped e h) = absurd (omega (arith, seven, ap (λ (x : Ending). x.stop) (run-stopped input s e h 0), (good-parts input s e).code))
    go (runs e r) = ap (λ (x : Ending). x.after.registers.stop) (run_none input s e r) ∙ r
still-runs (suc n) input s good seven =
    let more = run_more input s n in
    ap (λ (x : Ending). x.after.registers.stop) more ∙
    go (still-runs n input (step_of input s).after (machines.stays-good input s good)) (step_of input s).completed (eqb (step_of input s).stop 0) refl
    (omega (arith, seven, ap (λ (x : Ending). x.stop) more))
  where
    rest : Ending
    rest = run_of n input (step_of input s).after

    -- the run's end, by whether the step completes and gives no stop
    end : Bool → Bool → Ending
    end c z =
        cond c (cond z (one_more rest) (ending (step_of input s).after (step_of input s).stop 1)) (ending (step_of input s).after (step_of input s).stop 0)

    go : (budget_spent ≤ rest.stop → rest.after.registers.stop ≡ 0) → (c z : Bool) → (step_of input s).completed ≡ c → budget_spent ≤ (end c z).stop →
        (end c z).after.registers.stop ≡ 0
    go h true true p l = h l
    go h true false p l =
        elim (step-completes input s p).stop [
          | inl a ↦ absurd (omega (arith, l, a))
          | inr b ↦ elim b [ inl c ↦ absurd (omega (arith, l, c)) | inr d ↦ absurd (omega (arith, l, d)) ]
        ]
    go h false z p l = refused_still_runs input s good p l

-- with the limit of the budget: 7, 8 and 9 are given only on a good loan and within it
pub limited_still_runs : (budget : ℕ) (input : List ℕ) (s : State) → budget_spent ≤ (limited_run budget input s).stop → (limited_run budget input s).stop < bad_loan →
    (limited_run budget input s).after.registers.stop ≡ 0
unfolding limited_run
limited_still_runs budget input s = go (leb budget largest_budget) (good_loan input s) refl
  where
    go : (t u : Bool) → good_loan input s ≡ u → budget_spent ≤ (cond t (run_of budget input s) (ending s bad_loan 0)).stop →
        (cond t (run_of budget input s) (ending s bad_loan 0)).stop < bad_loan → (cond t (run_of budget input s) (ending s bad_loan 0)).after.registers.stop ≡ 0
    go true true good seven most = still-runs budget input s good seven
    go true false poor seven most = absurd (omega (arith, most, ap (λ (x : Ending). x.stop) (run-bad input s poor budget)))
    go false u e seven most = absurd (omega (arith, most))
