-- A run after a run, and a run as so many steps. Assumes nothing.
use mathlib.Core.Path.{◌≡◌, refl, sym, ap, ap₂, ◌∙◌}
use mathlib.Core.Bool.{Bool, true, false, cond}
use mathlib.Core.List.{List}
use Prim.Native.Nat.{ℕ, zero, suc, ◌+◌, ◌≤◌, ◌<◌}
use native.Mathlib.Nat.{add-zero, zero-add, suc-add}
use native.Mathlib.Omega.{arith}
use borrow.Author.Tests.{eqb-false, eq-eqb, ne_eqb, leb-true, le-leb, lt-leb}
use lib.Dec.{eqb, leb}
use Rattle.machine.specs.States.{State, with_stop}
use Rattle.machine.specs.Stops.{Answer, good_loan, is_stored, refuses}
use Rattle.machine.specs.Steps.{step_of}
use Rattle.machine.specs.Runs.{Ending, ending, one_more, spent, follows, run_of, limited_run}
use Rattle.machine.proofs.GoodLoans.{parts-good, and_parts}
use Rattle.machine.proofs.Standings.{Standing, bad, stopped, runs, standing, step-bad, step-stopped, step-completes, step-refuses, step_keeps_good}

-- ---- machines that do not run

module _ (input : List ℕ) (s : State) where
  pub run_more : (n : ℕ) → run_of (suc n) input s ≡ follows (step_of input s) (run_of n input (step_of input s).after)
  unfolding run_of
  run_more n = refl

  pub run-bad : good_loan input s ≡ false → (n : ℕ) → run_of n input s ≡ ending s 10 0
  unfolding run_of spent
  run-bad e zero = rw e
  run-bad e (suc n) = ap (λ (a : Answer). follows a (run_of n input a.after)) (step-bad input s e)

  pub run-stopped : good_loan input s ≡ true → (s.registers.stop ≡ 0 → ⊥) → (n : ℕ) → run_of n input s ≡ ending s s.registers.stop 0
  unfolding run_of spent
  run-stopped e h zero = rw (e, ne_eqb s.registers.stop 0 h)
  run-stopped e h (suc n) = ap (λ (a : Answer). follows a (run_of n input a.after)) (step-stopped input s e h)

  -- a machine that runs has its budget spent
  pub run_none : good_loan input s ≡ true → s.registers.stop ≡ 0 → run_of 0 input s ≡ ending s 7 0
  unfolding run_of spent
  run_none e z = rw (e, eq-eqb s.registers.stop 0 z)

  -- a step that does not complete ends a run, and changes nothing that the next step would see
  pub run-refused : (step_of input s).completed ≡ false → (n : ℕ) → run_of (suc n) input s ≡ ending (step_of input s).after (step_of input s).stop 0
  run-refused undone n =
      run_more n ∙ ap (λ (t : Bool). cond t (cond (eqb (step_of input s).stop 0) (one_more (run_of n input (step_of input s).after)) (ending (step_of input s).after (step_of input s).stop 1)) (ending (step_of input s).after (step_of input s).stop 0)) undone

module _ (input : List ℕ) (s : State) where
  -- after a step that completes with a stop, "a stopped machine repeats it"
  pub run-ended : (step_of input s).completed ≡ true → ((step_of input s).stop ≡ 0 → ⊥) → (n : ℕ) →
      run_of n input (step_of input s).after ≡ ending (step_of input s).after (step_of input s).stop 0
  run-ended done h n =
      let t : State = (step_of input s).after in
      let its = step-completes input s done in
      run-stopped input t (parts-good input t its.good) (λ z. h (sym its.code ∙ z)) n ∙ ap (λ (k : ℕ). ending t k 0) its.code

  -- and so after a step that was refused, where a step is left
  pub run_refused_again : (step_of input s).completed ≡ false → (n : ℕ) →
      run_of (suc n) input (step_of input s).after ≡ ending (step_of input s).after (step_of input s).stop 0
  unfolding refuses
  run_refused_again undone n = go (standing input s)
    where
      is_set : good_loan input s ≡ true → (t : Bool) → is_stored (step_of input s).stop ≡ t → (step_of input s).after ≡ cond t (with_stop s (step_of input s).stop) s →
          run_of (suc n) input (step_of input s).after ≡ ending (step_of input s).after (step_of input s).stop 0
      is_set e true h q =
          let k : ℕ = (step_of input s).stop in
          let l : 2 ≤ k = leb-true _ _ (and_parts (leb 2 k) (leb k 6) h).0 in
          rw q (run-stopped input (with_stop s k) (rw q at (step_keeps_good input s e)) (λ z. omega (arith, l, z)) (suc n))
      is_set e false h q = ap (run_of (suc n) input) q ∙ run-refused input s undone n

      go : Standing input s → run_of (suc n) input (step_of input s).after ≡ ending (step_of input s).after (step_of input s).stop 0
      go (bad e) = rw (step-bad input s e) (run-bad input s e (suc n))
      go (stopped e h) = rw (step-stopped input s e h) (run-stopped input s e h (suc n))
      go (runs e z) = is_set e (is_stored (step_of input s).stop) refl (ap (λ (a : Answer). a.after) (step-refuses input s undone))

-- ---- a run after a run

-- so many steps before an ending
abbrev pub later : ℕ → Ending → Ending
later n e = ending e.after e.stop (n + e.count)

pub later-none : (e : Ending) → later 0 e ≡ e
later-none e = ap (ending e.after e.stop) (zero-add e.count)

-- a run of no step changes nothing, and counts none
module _ (input : List ℕ) (s : State) where
  none_after : (run_of 0 input s).after ≡ s
  none_after = go (standing input s)
    where
      go : Standing input s → (run_of 0 input s).after ≡ s
      go (bad e) = ap (λ (x : Ending). x.after) (run-bad input s e 0)
      go (stopped e h) = ap (λ (x : Ending). x.after) (run-stopped input s e h 0)
      go (runs e z) = ap (λ (x : Ending). x.after) (run_none input s e z)

  none-count : (run_of 0 input s).count ≡ 0
  none-count = go (standing input s)
    where
      go : Standing input s → (run_of 0 input s).count ≡ 0
      go (bad e) = ap (λ (x : Ending). x.count) (run-bad input s e 0)
      go (stopped e h) = ap (λ (x : Ending). x.count) (run-stopped input s e h 0)
      go (runs e z) = ap (λ (x : Ending). x.count) (run_none input s e z)

-- one step, and what follows it, in front of a run that follows both
one-step : (input : List ℕ) (s : State) (b : ℕ) (e : Ending) →
    follows (step_of input s) (later e.count (run_of (suc b) input e.after)) ≡
    later (follows (step_of input s) e).count (run_of (suc b) input (follows (step_of input s) e).after)
one-step input s b e = go (step_of input s).completed (eqb (step_of input s).stop 0) refl refl
  where
    go : (c z : Bool) → (step_of input s).completed ≡ c → eqb (step_of input s).stop 0 ≡ z →
        cond c (cond z (one_more (later e.count (run_of (suc b) input e.after))) (ending (step_of input s).after (step_of input s).stop 1)) (ending (step_of input s).after (step_of input s).stop 0) ≡
        later (cond c (cond z (one_more e) (ending (step_of input s).after (step_of input s).stop 1)) (ending (step_of input s).after (step_of input s).stop 0)).count
        (run_of (suc b) input (cond c (cond z (one_more e) (ending (step_of input s).after (step_of input s).stop 1)) (ending (step_of input s).after (step_of input s).stop 0)).after)
    go true true p q = ap (ending _ _) (sym (suc-add e.count (run_of (suc b) input e.after).count))
    go true false p q = sym (ap (later 1) (run-ended input s p (eqb-false _ _ q) (suc b)))
    go false z p q = sym (ap (later 0) (run_refused_again input s p b))

-- "7, 8, 9 can be resumed": a run of a + b steps is one of a steps, and then one of b from where that ended
pub run_then_run : (a b : ℕ) (input : List ℕ) (s : State) →
    run_of (a + suc b) input s ≡ later (run_of a input s).count (run_of (suc b) input (run_of a input s).after)
run_then_run zero b input s =
    ap (λ (n : ℕ). run_of n input s) (zero-add (suc b))
    ∙ sym (later-none (run_of (suc b) input s))
    ∙ sym (ap₂ (λ (n : ℕ) (t : State). later n (run_of (suc b) input t)) (none-count input s) (none_after input s))
run_then_run (suc a) b input s =
    let t : State = (step_of input s).after in
    ap (λ (n : ℕ). run_of n input s) (suc-add a (suc b))
    ∙ run_more input s (a + suc b)
    ∙ ap (follows (step_of input s)) (run_then_run a b input t)
    ∙ one-step input s b (run_of a input t)
    ∙ sym (ap (λ (e : Ending). later e.count (run_of (suc b) input e.after)) (run_more input s a))

-- ---- "A run takes a budget of 0..1,000,000 .. A larger budget is 10 with count 0"

module _ (budget : ℕ) (input : List ℕ) (s : State) where
  pub run_past : 1000000 < budget → limited_run budget input s ≡ ending s 10 0
  unfolding limited_run
  run_past l = rw (lt-leb budget 1000000 l)

  pub run-within : budget ≤ 1000000 → limited_run budget input s ≡ run_of budget input s
  unfolding limited_run
  run-within l = rw (le-leb budget 1000000 l)

-- and so with any second budget, the stop only where it has a step
pub resumed_after : (a b : ℕ) (input : List ℕ) (s : State) → (run_of (a + b) input s).after ≡ (run_of b input (run_of a input s).after).after
resumed_after a zero input s = ap (λ (n : ℕ). (run_of n input s).after) (add-zero a) ∙ sym (none_after input (run_of a input s).after)
resumed_after a (suc b) input s = ap (λ (e : Ending). e.after) (run_then_run a b input s)

pub resumed_count : (a b : ℕ) (input : List ℕ) (s : State) →
    (run_of (a + b) input s).count ≡ (run_of a input s).count + (run_of b input (run_of a input s).after).count
resumed_count a zero input s =
    ap (λ (n : ℕ). (run_of n input s).count) (add-zero a)
    ∙ sym (add-zero (run_of a input s).count)
    ∙ ap (λ (n : ℕ). (run_of a input s).count + n) (sym (none-count input (run_of a input s).after))
resumed_count a (suc b) input s = ap (λ (e : Ending). e.count) (run_then_run a b input s)

pub resumed_stop : (a b : ℕ) (input : List ℕ) (s : State) → 0 < b → (run_of (a + b) input s).stop ≡ (run_of b input (run_of a input s).after).stop
resumed_stop a zero input s l = absurd (omega arith)
resumed_stop a (suc b) input s l = ap (λ (e : Ending). e.stop) (run_then_run a b input s)
