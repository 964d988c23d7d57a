-- How a machine stands before a step, and what the step then is. Assumes nothing.
use mathlib.Core.Path.{◌≡◌, refl, sym, ap, ◌∙◌}
use mathlib.Core.Bool.{Bool, true, false, cond, true≢false}
use mathlib.Core.Logic.{inl, inr}
use mathlib.Core.List.{List}
use Prim.Native.Nat.{ℕ}
use native.Mathlib.Omega.{arith}
use borrow.Author.Tests.{eqb-true, eqb-false, eq-eqb, ne_eqb, leb-true}
use lib.Dec.{eqb, leb}
use Rattle.machine.specs.States.{State, with_stop}
use Rattle.machine.specs.Stops.{Answer, answer, good_loan, is_stored, refuses}
use Rattle.machine.specs.Steps.{runs_on, step_of}
use Rattle.machine.proofs.GoodLoans.{Good, good-parts, parts-good, and_parts}
use Rattle.machine.proofs.Outcomes.{Completes, outcome}

-- "Order: 10, stopped already", and then the machine runs
pub data Standing (input : List ℕ) (s : State) : Type 0 where
  bad : good_loan input s ≡ false → Standing input s
  stopped : good_loan input s ≡ true → (s.registers.stop ≡ 0 → ⊥) → Standing input s
  runs : good_loan input s ≡ true → s.registers.stop ≡ 0 → Standing input s

module _ (input : List ℕ) (s : State) where
  pub standing : Standing input s
  standing = go (good_loan input s) (eqb s.registers.stop 0) refl refl
    where
      go : (g z : Bool) → good_loan input s ≡ g → eqb s.registers.stop 0 ≡ z → Standing input s
      go true true e f = runs e (eqb-true _ _ f)
      go true false e f = stopped e (eqb-false _ _ f)
      go false z e f = bad e

  pub step-bad : good_loan input s ≡ false → step_of input s ≡ answer s 10 false
  unfolding step_of
  step-bad e = rw e

  pub step-stopped : good_loan input s ≡ true → (s.registers.stop ≡ 0 → ⊥) → step_of input s ≡ answer s s.registers.stop false
  unfolding step_of
  step-stopped e n = rw (e, ne_eqb s.registers.stop 0 n)

  pub step-runs : good_loan input s ≡ true → s.registers.stop ≡ 0 → step_of input s ≡ runs_on input s
  unfolding step_of
  step-runs e z = rw (e, eq-eqb s.registers.stop 0 z)

-- ---- refusals

-- a stop code that is there already is set to itself
set-again : (s : State) (t : Bool) → cond t (with_stop s s.registers.stop) s ≡ s
set-again s true = refl
set-again s false = refl

refuses-again : (s : State) → answer s s.registers.stop false ≡ refuses s s.registers.stop
unfolding refuses
refuses-again s = ap (λ (t : State). answer t s.registers.stop false) (sym (set-again s (is_stored s.registers.stop)))

-- a refusal keeps a loan good: "2 to 6 set the stop code"
refused-good : (input : List ℕ) (s : State) (k : ℕ) → Good input s → Good input (refuses s k).after
unfolding refuses
refused-good input s k g = go (is_stored k) refl
  where
    go : (t : Bool) → is_stored k ≡ t → Good input (cond t (with_stop s k) s)
    go true e =
        record {
          some = g.some;
          most = g.most;
          taken = g.taken;
          written = g.written;
          six_bits = g.six_bits;
          code = leb-true _ _ (and_parts (leb 2 k) (leb k 6) e).1;
        }
    go false e = g

module _ (input : List ℕ) (s : State) where
  -- only a machine that runs completes a step
  pub step-completes : (step_of input s).completed ≡ true → Completes input s (step_of input s)
  unfolding refuses
  step-completes done = go (standing input s)
    where
      go : Standing input s → Completes input s (step_of input s)
      go (bad e) = absurd (true≢false (sym done ∙ ap (λ (a : Answer). a.completed) (step-bad input s e)))
      go (stopped e n) = absurd (true≢false (sym done ∙ ap (λ (a : Answer). a.completed) (step-stopped input s e n)))
      go (runs e z) =
          let same = step-runs input s e z in
          elim (outcome input s (good-parts input s e)) [
            | inl h ↦ rw same h
            | inr h ↦ absurd (true≢false (sym done ∙ ap (λ (a : Answer). a.completed) (same ∙ h.refusal)))
          ]

  -- "All change nothing except that 2 to 6 set the stop code; a stopped machine repeats it": a step that does not complete is a
  -- refusal by its stop
  pub step-refuses : (step_of input s).completed ≡ false → step_of input s ≡ refuses s (step_of input s).stop
  unfolding refuses
  step-refuses undone = go (standing input s)
    where
      go : Standing input s → step_of input s ≡ refuses s (step_of input s).stop
      go (bad e) = rw (step-bad input s e)
      go (stopped e n) = rw (step-stopped input s e n) (refuses-again s)
      go (runs e z) =
          let same = step-runs input s e z in
          elim (outcome input s (good-parts input s e)) [
            | inl h ↦ absurd (true≢false (sym h.done ∙ ap (λ (a : Answer). a.completed) (sym same) ∙ undone))
            | inr h ↦ rw same h.refusal
          ]

  -- what is lent well stays so
  pub step_keeps_good : good_loan input s ≡ true → good_loan input (step_of input s).after ≡ true
  step_keeps_good e = go (step_of input s).completed refl
    where
      go : (t : Bool) → (step_of input s).completed ≡ t → good_loan input (step_of input s).after ≡ true
      go true done = parts-good input (step_of input s).after (step-completes done).good
      go false undone =
          rw (step-refuses undone) (parts-good input _ (refused-good input s (step_of input s).stop (good-parts input s e)))

  -- 7 is a run's alone
  pub step_never_seven : (step_of input s).stop ≡ 7 → ⊥
  step_never_seven q = go (standing input s)
    where
      go : Standing input s → ⊥
      go (bad e) = omega (arith, q, ap (λ (a : Answer). a.stop) (step-bad input s e))
      go (stopped e n) = omega (arith, q, ap (λ (a : Answer). a.stop) (step-stopped input s e n), (good-parts input s e).code)
      go (runs e z) =
          let same = ap (λ (a : Answer). a.stop) (step-runs input s e z) in
          elim (outcome input s (good-parts input s e)) [
            | inl h ↦ elim h.stop [ inl a ↦ omega arith | inr b ↦ elim b [ inl c ↦ omega arith | inr d ↦ omega arith ] ]
            | inr h ↦ h.stop.no_budget (sym same ∙ q)
          ]
