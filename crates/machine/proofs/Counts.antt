-- "the state after a run is that many defined steps" and "A run's count is the number of defined steps between its two states"
-- (01). Assumes nothing.
use mathlib.Core.Path.{◌≡◌, refl, ap, ap₂, ◌∙◌}
use mathlib.Core.Bool.{Bool, true, false, cond}
use mathlib.Core.List.{List}
use Prim.Native.Nat.{ℕ, zero, suc, ◌+◌, ◌≤◌, ◌<◌}
use native.Mathlib.Nat.{zero-add, suc-add}
use native.Mathlib.Omega.{arith}
use borrow.Author.Tests.{eqb-true, eqb-false, eq-eqb, ne_eqb}
use lib.Dec.{eqb}
use Rattle.machine.specs.States.{State}
use Rattle.machine.specs.Stops.{Answer, answer}
use Rattle.machine.specs.Steps.{step_of}
use Rattle.machine.specs.Runs.{Ending, ending, one_more, follows, run_of}
use Rattle.machine.proofs.Standings.{Standing, bad, stopped, runs, standing, step-bad, step-stopped, step_never_seven}
use Rattle.machine.proofs.Runs.{run_more, run-bad, run-stopped, run_none}

-- the state after n steps
abbrev pub after : List ℕ → ℕ → State → State
after input zero s = s
after input (suc n) s = after input n (step_of input s).after

-- the n-th step, counted from 0
abbrev pub step_at : List ℕ → ℕ → State → Answer
step_at input n s = step_of input (after input n s)

-- how a run ends: with its budget spent; with a step that completes and gives a stop; or before a step that is refused
pub data Ends (budget : ℕ) (input : List ℕ) (s : State) (e : Ending) : Type 0 where
  spent : e.count ≡ budget → e.stop ≡ 7 → e.after ≡ after input e.count s → Ends budget input s e
  ended : (last : ℕ) → e.count ≡ suc last → step_at input last s ≡ answer e.after e.stop true → (e.stop ≡ 0 → ⊥) → Ends budget input s e
  refused : step_at input e.count s ≡ answer e.after e.stop false → Ends budget input s e

-- the steps that a run counts all complete, and none but the last gives a stop
pub record Counted (budget : ℕ) (input : List ℕ) (s : State) (e : Ending) : Type 0 where
  pub within : e.count ≤ budget
  pub complete : (k : ℕ) → k < e.count → (step_at input k s).completed ≡ true
  pub go_on : (k : ℕ) → suc k < e.count → (step_at input k s).stop ≡ 0
  pub ends : Ends budget input s e

-- a run that counts no step
counts_none : (budget : ℕ) (input : List ℕ) (s : State) (t : State) (k : ℕ) → Ends budget input s (ending t k 0) → Counted budget input s (ending t k 0)
counts_none budget input s t k h =
    record { within = omega arith; complete = λ j l. absurd (omega arith); go_on = λ j l. absurd (omega arith); ends = h }

-- a step that completes and gives no stop, in front of a run
module _ (n : ℕ) (input : List ℕ) (s : State) (done : (step_of input s).completed ≡ true) where
  counts_more : (step_of input s).stop ≡ 0 → (e : Ending) → Counted n input (step_of input s).after e → Counted (suc n) input s (one_more e)
  counts_more z e h =
      record { within = omega (arith, h.within); complete = complete; go_on = go_on; ends = ends h.ends }
    where
      complete : (k : ℕ) → k < suc e.count → (step_at input k s).completed ≡ true
      complete zero l = done
      complete (suc k) l = h.complete k (omega arith)

      go_on : (k : ℕ) → suc k < suc e.count → (step_at input k s).stop ≡ 0
      go_on zero l = z
      go_on (suc k) l = h.go_on k (omega arith)

      ends : Ends n input (step_of input s).after e → Ends (suc n) input s (one_more e)
      ends (spent c k a) = spent (ap suc c) k a
      ends (ended last c a k) = ended (suc last) (ap suc c) a k
      ends (refused a) = refused a

  counts_last : ((step_of input s).stop ≡ 0 → ⊥) → Counted (suc n) input s (ending (step_of input s).after (step_of input s).stop 1)
  counts_last h =
      record {
        within = omega arith;
        complete = complete;
        go_on = λ k l. absurd (omega arith);
        ends = ended 0 refl (ap (answer (step_of input s).after (step_of input s).stop) done) h;
      }
    where
      complete : (k : ℕ) → k < 1 → (step_at input k s).completed ≡ true
      complete zero l = done
      complete (suc k) l = absurd (omega arith)

pub run_counts : (budget : ℕ) (input : List ℕ) (s : State) → Counted budget input s (run_of budget input s)
run_counts zero input s = go (standing input s)
  where
    go : Standing input s → Counted 0 input s (run_of 0 input s)
    go (bad e) = rw (run-bad input s e 0) (counts_none 0 input s s 10 (refused (step-bad input s e)))
    go (stopped e h) = rw (run-stopped input s e h 0) (counts_none 0 input s s s.registers.stop (refused (step-stopped input s e h)))
    go (runs e z) = rw (run_none input s e z) (counts_none 0 input s s 7 (spent refl refl refl))
run_counts (suc n) input s = rw (run_more input s n) (go (run_counts n input (step_of input s).after) (step_of input s).completed (eqb (step_of input s).stop 0) refl refl)
  where
    rest : Ending
    rest = run_of n input (step_of input s).after

    go : Counted n input (step_of input s).after (run_of n input (step_of input s).after) → (c z : Bool) → (step_of input s).completed ≡ c → eqb (step_of input s).stop 0 ≡ z →
        Counted (suc n) input s
        (cond c (cond z (one_more (run_of n input (step_of input s).after)) (ending (step_of input s).after (step_of input s).stop 1)) (ending (step_of input s).after (step_of input s).stop 0))
    go h true true p q = counts_more n input s p (eqb-true _ _ q) (run_of n input (step_of input s).after) h
    go h true false p q = counts_last n input s p (eqb-false _ _ q)
    go h false z p q =
        counts_none (suc n) input s (step_of input s).after (step_of input s).stop (refused (ap (answer (step_of input s).after (step_of input s).stop) p))

-- 7 says that the whole budget was spent, each of its steps completed
pub seven-spends : (budget : ℕ) (input : List ℕ) (s : State) → (run_of budget input s).stop ≡ 7 → (run_of budget input s).count ≡ budget
seven-spends budget input s h = go (run_counts budget input s).ends
  where
    go : Ends budget input s (run_of budget input s) → (run_of budget input s).count ≡ budget
    go (spent c k a) = c
    go (ended last c a k) = absurd (step_never_seven input (after input last s) (ap (λ (x : Answer). x.stop) a ∙ h))
    go (refused a) = absurd (step_never_seven input (after input (run_of budget input s).count s) (ap (λ (x : Answer). x.stop) a ∙ h))

-- ---- how a run ends

-- a step that completes with a stop ends the run with that stop, and not with 7, though the budget be spent with it
pub run_ends_with : (n more : ℕ) (input : List ℕ) (s : State) → ((k : ℕ) → k < n → ((step_at input k s).completed ≡ true) × ((step_at input k s).stop ≡ 0)) →
    (step_at input n s).completed ≡ true → ((step_at input n s).stop ≡ 0 → ⊥) →
    run_of (n + suc more) input s ≡ ending (step_at input n s).after (step_at input n s).stop (suc n)
run_ends_with zero more input s before done h =
    ap (λ (b : ℕ). run_of b input s) (zero-add (suc more))
    ∙ run_more input s more
    ∙ followed (step_of input s) (run_of more input (step_of input s).after) done (ne_eqb _ _ h)
  where
    followed : (a : Answer) (rest : Ending) → a.completed ≡ true → eqb a.stop 0 ≡ false → follows a rest ≡ ending a.after a.stop 1
    followed a rest p q = ap₂ (λ (c z : Bool). cond c (cond z (one_more rest) (ending a.after a.stop 1)) (ending a.after a.stop 0)) p q
run_ends_with (suc n) more input s before done h =
    let t : State = (step_of input s).after in
    let first = before 0 (omega arith) in
    ap (λ (b : ℕ). run_of b input s) (suc-add n (suc more))
    ∙ run_more input s (n + suc more)
    ∙ followed (step_of input s) (run_of (n + suc more) input t) first.0 (eq-eqb _ _ first.1)
    ∙ ap one_more (run_ends_with n more input t (λ k l. before (suc k) (omega arith)) done h)
  where
    followed : (a : Answer) (rest : Ending) → a.completed ≡ true → eqb a.stop 0 ≡ true → follows a rest ≡ one_more rest
    followed a rest p q = ap₂ (λ (c z : Bool). cond c (cond z (one_more rest) (ending a.after a.stop 1)) (ending a.after a.stop 0)) p q
