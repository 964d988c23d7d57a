-- One step of code, and one turn of a run, said of what the inner step leaves. Assumes nothing.
use mathlib.Core.Path.{◌≡◌, refl, sym, ap, subst, ◌∙◌}
use mathlib.Core.Bool.{Bool, true, false, cond}
use mathlib.Core.List.{List}
use Prim.Native.Nat.{ℕ, suc, ◌+◌, ◌-◌, ◌≤◌, ◌<◌}
use native.Mathlib.Nat.{add-zero, sub-zero}
use native.Mathlib.Omega.{arith}
use borrow.Author.Tests.{ne_eqb, eqb-true}
use lib.Dec.{eqb}
use Rattle.machine.specs.States.{State, state, machine}
use Rattle.machine.specs.Stops.{Answer, answer, good_loan}
use Rattle.machine.specs.Steps.{runs_on, step_of, reply, reply_of}
use Rattle.machine.specs.Inner.Lent.{running, code_after, left, of_one_step}
use Rattle.machine.specs.Runs.{Ending, ending, one_more, follows, run_of, limited_run}
use Rattle.machine.specs.declared.Inner.{Inner}
use Rattle.machine.specs.declared.Registers.{Registers}
use Rattle.machine.proofs.GoodLoans.{parts-good}
use Rattle.machine.proofs.Standings.{step-runs, step-completes, step_keeps_good, step_never_seven}
use Rattle.machine.proofs.Runs.{later, later-none, run_more, run_none, run-within}

-- a machine whose stop code is 0 runs
pub is_running : (g : Registers) (m out : List ℕ) → g.stop ≡ 0 → state g m out ≡ running g.r m out g.taken g.written
is_running g m out z = ap (λ (k : ℕ). state (machine g.r k g.taken g.written) m out) z

pub running-good : (input : List ℕ) (g : Registers) (m out : List ℕ) → g.stop ≡ 0 → good_loan input (state g m out) ≡ true →
    good_loan input (running g.r m out g.taken g.written) ≡ true
running-good input g m out z good = subst (λ (s : State). good_loan input s ≡ true) (is_running g m out z) good

-- ---- a step

-- a step is a run of one step: the same state after it, and the same stop, but for the budget's
module _ (input : List ℕ) (s : State) where
  one-step : reply (run_of 1 input s).after (of_one_step (run_of 1 input s).stop) ≡ reply_of input s
  one-step =
      ap (λ (e : Ending). reply e.after (of_one_step e.stop)) (run_more input s 0)
      ∙ go (step_of input s).completed (eqb (step_of input s).stop 0) refl refl
    where
      same : reply (step_of input s).after (of_one_step (step_of input s).stop) ≡ reply_of input s
      same = rw (ne_eqb (step_of input s).stop 7 (step_never_seven input s))

      rest : Ending
      rest = run_of 0 input (step_of input s).after

      spends : (step_of input s).completed ≡ true → (step_of input s).stop ≡ 0 → rest ≡ ending (step_of input s).after 7 0
      spends done z =
          let its = step-completes input s done in
          run_none input (step_of input s).after (parts-good input (step_of input s).after its.good) (its.code ∙ z)

      -- how that run ends, by whether the step completes and whether it gives no stop
      ended : Bool → Bool → Ending
      ended c z =
          cond c (cond z (one_more rest) (ending (step_of input s).after (step_of input s).stop 1))
          (ending (step_of input s).after (step_of input s).stop 0)

      go : (c z : Bool) → (step_of input s).completed ≡ c → eqb (step_of input s).stop 0 ≡ z →
          reply (ended c z).after (of_one_step (ended c z).stop) ≡ reply_of input s
      go true true p q =
          ap (λ (e : Ending). reply e.after (of_one_step e.stop)) (spends p (eqb-true _ _ q))
          ∙ ap (reply (step_of input s).after) (sym (eqb-true _ _ q))
      go true false p q = same
      go false z p q = same

  pub reply_by_run : reply (limited_run 1 input s).after (of_one_step (limited_run 1 input s).stop) ≡ reply_of input s
  reply_by_run =
      ap (λ (e : Ending). reply e.after (of_one_step e.stop)) (run-within 1 input s (omega arith)) ∙ one-step

-- ---- a turn of a run

pub turn-first : (budget : ℕ) (input : List ℕ) (s : State) → later 0 (run_of (budget - 0) input s) ≡ run_of budget input s
turn-first budget input s = ap (λ (n : ℕ). later 0 (run_of n input s)) (sub-zero budget) ∙ later-none (run_of budget input s)

module _ (input : List ℕ) (budget count : ℕ) (r m out : List ℕ) (taken written : ℕ) (good : good_loan input (running r m out taken written) ≡ true) where
  pub turn-none : budget ≤ count → ending (running r m out taken written) 7 count ≡ later count (run_of (budget - count) input (running r m out taken written))
  turn-none l =
      let s : State = running r m out taken written in
      let z : budget - count ≡ 0 = omega arith in
      ap (ending s 7) (sym (add-zero count))
      ∙ sym (ap (later count) (run_none input s good refl))
      ∙ ap (λ (n : ℕ). later count (run_of n input s)) (sym z)

  module _ (a : Answer) (e : a ≡ runs_on input (running r m out taken written)) where
    turn : count < budget → later count (follows a (run_of (budget - (count + 1)) input a.after)) ≡
        later count (run_of (budget - count) input (running r m out taken written))
    turn l =
        let s : State = running r m out taken written in
        let z : budget - count ≡ suc (budget - (count + 1)) = omega arith in
        sym (ap (λ (n : ℕ). later count (run_of n input s)) z
        ∙ ap (later count) (run_more input s (budget - (count + 1)))
        ∙ ap (λ (x : Answer). later count (follows x (run_of (budget - (count + 1)) input x.after))) (step-runs input s good refl ∙ sym e))

    still-good : good_loan input a.after ≡ true
    still-good =
        let s : State = running r m out taken written in
        subst (λ (x : Answer). good_loan input x.after ≡ true) (step-runs input s good refl ∙ sym e) (step_keeps_good input s good)

  module _ (r' m' out' : List ℕ) (a : Inner) (e : left r' m' out' a ≡ runs_on input (running r m out taken written)) where
    -- the step was refused, and the run ends before it
    pub turn-refused : count < budget → a.completed ≡ false →
        ending (state (machine r' (code_after false a.stop) a.taken a.written) m' out') a.stop count ≡
        later count (run_of (budget - count) input (running r m out taken written))
    turn-refused l undone =
        let t : State = state (machine r' (code_after false a.stop) a.taken a.written) m' out' in
        let same : answer t a.stop false ≡ left r' m' out' a =
        ap (λ (c : Bool). answer (state (machine r' (code_after c a.stop) a.taken a.written) m' out') a.stop c) (sym undone) in
        ap (ending t a.stop) (sym (add-zero count)) ∙ turn (answer t a.stop false) (same ∙ e) l

    completed : a.completed ≡ true → answer (state (machine r' a.stop a.taken a.written) m' out') a.stop true ≡ left r' m' out' a
    completed done = ap (λ (c : Bool). answer (state (machine r' (code_after c a.stop) a.taken a.written) m' out') a.stop c) (sym done)

    -- the step gave a stop, and the run ends with it
    pub turn-ended : count < budget → a.completed ≡ true → (a.stop ≡ 0 → ⊥) →
        ending (state (machine r' a.stop a.taken a.written) m' out') a.stop (count + 1) ≡
        later count (run_of (budget - count) input (running r m out taken written))
    turn-ended l done h =
        let t : State = state (machine r' a.stop a.taken a.written) m' out' in
        let rest : Ending = one_more (run_of (budget - (count + 1)) input t) in
        ap (λ (z : Bool). later count (cond z rest (ending t a.stop 1))) (sym (ne_eqb a.stop 0 h))
        ∙ turn (answer t a.stop true) (completed done ∙ e) l

    goes_on_lem : a.completed ≡ true → a.stop ≡ 0 → answer (running r' m' out' a.taken a.written) 0 true ≡ runs_on input (running r m out taken written)
    goes_on_lem done z = ap (λ (k : ℕ). answer (state (machine r' k a.taken a.written) m' out') k true) (sym z) ∙ completed done ∙ e

    -- the run goes on
    pub turn_more : count < budget → a.completed ≡ true → a.stop ≡ 0 →
        later (count + 1) (run_of (budget - (count + 1)) input (running r' m' out' a.taken a.written)) ≡
        later count (run_of (budget - count) input (running r m out taken written))
    turn_more l done z =
        let t : State = running r' m' out' a.taken a.written in
        let rest : Ending = run_of (budget - (count + 1)) input t in
        let sum : count + 1 + rest.count ≡ count + suc rest.count = omega arith in
        ap (ending rest.after rest.stop) sum ∙ turn (answer t 0 true) (goes_on_lem done z) l

    pub turn-good : a.completed ≡ true → a.stop ≡ 0 → good_loan input (running r' m' out' a.taken a.written) ≡ true
    turn-good done z = still-good (answer (running r' m' out' a.taken a.written) 0 true) (goes_on_lem done z)
