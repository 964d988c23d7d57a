-- What the host's step and run promise, restated for a reader: "one step in which the host lends the register set and finds it changed where
-- it lies" (01), and a run likewise. The promises of `ens2025_step` and `ens2025_run` stand in src/, each one equation with machine's meaning;
-- that the code meets them Rattle finds by itself, with no file. Whatever is lent gets a reply: no promise has a premise.
use mathlib.Core.Path.{◌≡◌, refl, sym, ap, ◌∙◌}
use mathlib.Core.Bool.{Bool, true, false, cond}
use mathlib.Core.List.{List, [], ◌∷◌}
use Prim.Native.Nat.{ℕ, ◌+◌, ◌≤◌, ◌<◌}
use native.Mathlib.Omega.{arith}
use lib.ListN.{get_or}
use Rattle.codes.specs.Limits.{largest_budget}
use Rattle.codes.specs.Registers.{PC}
use Rattle.codes.specs.Stops.{budget_spent, bad_loan}
use Rattle.machine.specs.declared.Registers.{Registers}
use Rattle.machine.specs.declared.Stepped.{Stepped}
use Rattle.machine.specs.declared.Ran.{Ran}
use Rattle.machine.specs.States.{State, state, machine, start, register}
use Rattle.machine.specs.Stops.{Answer, good_loan, is_stored}
use Rattle.machine.specs.Steps.{Reply, reply, step_of, reply_of}
use Rattle.machine.specs.Runs.{Ending, ending, run_of, limited_run}
use Rattle.machine.proofs.Top as machines
use Rattle.machine.proofs.Standings.{step_never_seven}
use Rattle.machine.proofs.Counts.{Counted}
use Rattle.host.proofs.Runs.{limited_bad, limited_stopped, runs-once, run_keeps_good, run_not_none, limited_still_runs}

-- ---- one step

-- what the host lends, and what it finds where that lies, with the stop that the call returns
module _ (input : List ℕ) (g : Registers) (m out : List ℕ) where
  -- the promise of `ens2025_step`
  abbrev pub Found : Registers → List ℕ → List ℕ → ℕ → Type 0
  Found g' m' out' k = reply (state g' m' out') k ≡ reply_of input (state g m out)

  module _ (g' : Registers) (m' out' : List ℕ) (k : ℕ) where
    -- what the call leaves is what the step's meaning gives: registers, memory, output and stop
    pub found_is : Found g' m' out' k → (state g' m' out' ≡ (step_of input (state g m out)).after) × (k ≡ (step_of input (state g m out)).stop)
    found_is p = (ap (λ (a : Reply). a.after) p, ap (λ (a : Reply). a.stop) p)

    -- and nothing but that meets the promise
    pub is_found : state g' m' out' ≡ (step_of input (state g m out)).after → k ≡ (step_of input (state g m out)).stop → Found g' m' out' k
    is_found after stop = ap (λ (t : State). reply t k) after ∙ ap (λ (j : ℕ). reply (step_of input (state g m out)).after j) stop

    -- it is what the by-value step hands back, with the memory and output that this one leaves
    pub as_by_value : Found g' m' out' k → (s : Stepped) (n off : List ℕ) → reply (state s.registers n off) s.stop ≡ reply_of input (state g m out) →
        (g' ≡ s.registers) × (k ≡ s.stop) × (m' ≡ n) × (out' ≡ off)
    as_by_value p s n off q =
        let same = p ∙ sym q in (
          ap (λ (a : Reply). a.after.registers) same,
          ap (λ (a : Reply). a.stop) same,
          ap (λ (a : Reply). a.after.memory) same,
          ap (λ (a : Reply). a.after.output) same,
        )

    -- "All change nothing except that 2 to 6 set the stop code": where the registers lie, a refused step changes at most the stop code
    pub refused-registers : Found g' m' out' k → (step_of input (state g m out)).completed ≡ false →
        g' ≡ cond (is_stored k) (machine g.r k g.taken g.written) g
    refused-registers p undone =
        let f = found_is p in
        ap (λ (t : State). t.registers) (f.0 ∙ machines.refused-step input (state g m out) undone) ∙
        at_stop (is_stored (step_of input (state g m out)).stop) ∙
        ap (λ (j : ℕ). cond (is_stored j) (machine g.r j g.taken g.written) g) (sym f.1)
      where
        at_stop : (b : Bool) → (cond b (state (machine g.r (step_of input (state g m out)).stop g.taken g.written) m out) (state g m out)).registers ≡
            cond b (machine g.r (step_of input (state g m out)).stop g.taken g.written) g
        at_stop true = refl
        at_stop false = refl

    -- and memory, output, the 16 registers and the positions are as they were
    pub refused-keeps : Found g' m' out' k → (step_of input (state g m out)).completed ≡ false →
        (m' ≡ m) × (out' ≡ out) × (g'.r ≡ g.r) × (g'.taken ≡ g.taken) × (g'.written ≡ g.written)
    refused-keeps p undone =
        let after = (found_is p).0 in
        let kept = machines.refused-keeps input (state g m out) undone in (
          ap (λ (t : State). t.memory) after ∙ kept.0,
          ap (λ (t : State). t.output) after ∙ kept.1,
          ap (λ (t : State). t.registers.r) after ∙ kept.2,
          ap (λ (t : State). t.registers.taken) after ∙ kept.3,
          ap (λ (t : State). t.registers.written) after ∙ kept.4,
        )

    -- "10 bad loan": nothing at all changes
    pub bad-loan : Found g' m' out' k → good_loan input (state g m out) ≡ false → (g' ≡ g) × (m' ≡ m) × (out' ≡ out) × (k ≡ bad_loan)
    bad-loan p bad =
        let its = machines.bad-loan input (state g m out) bad in
        let same : state g' m' out' ≡ state g m out = (found_is p).0 ∙ ap (λ (a : Answer). a.after) its in (
          ap (λ (t : State). t.registers) same,
          ap (λ (t : State). t.memory) same,
          ap (λ (t : State). t.output) same,
          (found_is p).1 ∙ ap (λ (a : Answer). a.stop) its,
        )

    -- what was lent well can be lent again: no call makes a bad loan
    pub stays-good : Found g' m' out' k → good_loan input (state g m out) ≡ true → good_loan input (state g' m' out') ≡ true
    stays-good p good = ap (λ (t : State). good_loan input t) (found_is p).0 ∙ machines.stays-good input (state g m out) good

    -- 7 is a run's stop, and never a step's
    pub never-seven : Found g' m' out' k → k ≡ budget_spent → ⊥
    never-seven p seven = step_never_seven input (state g m out) (sym (found_is p).1 ∙ seven)

  -- "two replies meeting it coincide": registers, memory, output and stop
  pub replies-coincide : (g' h' : Registers) (m' n' out' off' : List ℕ) (k l : ℕ) → Found g' m' out' k → Found h' n' off' l →
      (g' ≡ h') × (m' ≡ n') × (out' ≡ off') × (k ≡ l)
  replies-coincide g' h' m' n' out' off' k l p q =
      let same = p ∙ sym q in (
        ap (λ (a : Reply). a.after.registers) same,
        ap (λ (a : Reply). a.after.memory) same,
        ap (λ (a : Reply). a.after.output) same,
        ap (λ (a : Reply). a.stop) same,
      )

  -- ---- what the promise shuts out, whatever the code and its walk

  -- a step that leaves the registers as they were: it does not meet the promise where HALT stands at PC
  pub registers_change : good_loan input (state g m out) ≡ true → g.stop ≡ 0 → get_or m (register (state g m out) PC) 0 ≡ 64 →
      (m' out' : List ℕ) (k : ℕ) → Found g m' out' k → ⊥
  registers_change good runs word m' out' k p =
      let halts = machines.HALT-completes input (state g m out) good runs word in
      let one : g.stop ≡ 1 =
      ap (λ (t : State). t.registers.stop) (found_is g m' out' k p).0 ∙ ap (λ (a : Answer). a.after.registers.stop) halts in
      omega (arith, one, runs)

  -- a step that returns the record's stop code for its stop: it does not meet the promise on a bad loan, unless that code is 10
  pub stop_is_the_steps : good_loan input (state g m out) ≡ false → (g.stop ≡ bad_loan → ⊥) → (g' : Registers) (m' out' : List ℕ) →
      Found g' m' out' g'.stop → ⊥
  stop_is_the_steps bad other g' m' out' p =
      let found = bad-loan g' m' out' g'.stop p bad in other (ap (λ (r : Registers). r.stop) (sym found.0) ∙ found.3)

-- both, of a machine that starts: HALT in its one cell, and no cell at all

pub registers_change_at_HALT : (m' out' : List ℕ) (k : ℕ) → Found [] start (64 ∷ []) [] start m' out' k → ⊥
unfolding good_loan
registers_change_at_HALT = registers_change [] start (64 ∷ []) [] refl refl refl

pub stop_10_of_no_cell : (g' : Registers) (m' out' : List ℕ) → Found [] start [] [] g' m' out' g'.stop → ⊥
unfolding good_loan
stop_10_of_no_cell = stop_is_the_steps [] start [] [] refl (λ e. omega (arith, e))

-- ---- a run

-- what the host lends, and what it finds where that lies, with the stop that the call returns and the count that it leaves
module _ (budget : ℕ) (input : List ℕ) (g : Registers) (m out : List ℕ) where
  -- the promise of `ens2025_run`
  abbrev pub RunFound : Registers → List ℕ → List ℕ → ℕ → ℕ → Type 0
  RunFound g' m' out' k n = ending (state g' m' out') k n ≡ limited_run budget input (state g m out)

  module _ (g' : Registers) (m' out' : List ℕ) (k n : ℕ) where
    -- what the call leaves is what the run's meaning gives: registers, memory, output, stop and count
    pub run_found_is : RunFound g' m' out' k n →
        (state g' m' out' ≡ (limited_run budget input (state g m out)).after) × (k ≡ (limited_run budget input (state g m out)).stop) ×
        (n ≡ (limited_run budget input (state g m out)).count)
    run_found_is p = (ap (λ (e : Ending). e.after) p, ap (λ (e : Ending). e.stop) p, ap (λ (e : Ending). e.count) p)

    -- and nothing but that meets the promise
    pub run_is_found : state g' m' out' ≡ (limited_run budget input (state g m out)).after → k ≡ (limited_run budget input (state g m out)).stop →
        n ≡ (limited_run budget input (state g m out)).count → RunFound g' m' out' k n
    run_is_found after stop count =
        let e = limited_run budget input (state g m out) in
        ap (λ (t : State). ending t k n) after ∙ ap (λ (j : ℕ). ending e.after j n) stop ∙ ap (λ (j : ℕ). ending e.after e.stop j) count

    -- it is what the by-value run hands back, with the memory and output that this one leaves
    pub run_as_by_value : RunFound g' m' out' k n → (r : Ran) (c off : List ℕ) →
        ending (state r.registers c off) r.stop r.count ≡ limited_run budget input (state g m out) →
        (g' ≡ r.registers) × (k ≡ r.stop) × (n ≡ r.count) × (m' ≡ c) × (out' ≡ off)
    run_as_by_value p r c off q =
        let same = p ∙ sym q in (
          ap (λ (e : Ending). e.after.registers) same,
          ap (λ (e : Ending). e.stop) same,
          ap (λ (e : Ending). e.count) same,
          ap (λ (e : Ending). e.after.memory) same,
          ap (λ (e : Ending). e.after.output) same,
        )

    -- where the meaning is that nothing changes, nothing changes where it lies
    kept : (j : ℕ) → RunFound g' m' out' k n → limited_run budget input (state g m out) ≡ ending (state g m out) j 0 →
        (g' ≡ g) × (m' ≡ m) × (out' ≡ out) × (k ≡ j) × (n ≡ 0)
    kept j p q =
        let same = p ∙ q in (
          ap (λ (e : Ending). e.after.registers) same,
          ap (λ (e : Ending). e.after.memory) same,
          ap (λ (e : Ending). e.after.output) same,
          ap (λ (e : Ending). e.stop) same,
          ap (λ (e : Ending). e.count) same,
        )

    -- "A larger budget is 10 with count 0": nothing at all changes
    pub run_budget_past : RunFound g' m' out' k n → largest_budget < budget → (g' ≡ g) × (m' ≡ m) × (out' ≡ out) × (k ≡ bad_loan) × (n ≡ 0)
    run_budget_past p past = kept bad_loan p (machines.budget_past budget input (state g m out) past)

    -- "10 bad loan": whatever the budget, nothing at all changes
    pub run_bad_loan : RunFound g' m' out' k n → good_loan input (state g m out) ≡ false → (g' ≡ g) × (m' ≡ m) × (out' ≡ out) × (k ≡ bad_loan) × (n ≡ 0)
    run_bad_loan p bad = kept bad_loan p (limited_bad budget input (state g m out) bad)

    -- "stopped already": a stopped machine repeats its stop, and nothing changes
    pub run_stopped_already : RunFound g' m' out' k n → budget ≤ largest_budget → good_loan input (state g m out) ≡ true → (g.stop ≡ 0 → ⊥) →
        (g' ≡ g) × (m' ≡ m) × (out' ≡ out) × (k ≡ g.stop) × (n ≡ 0)
    run_stopped_already p within good stopped = kept g.stop p (limited_stopped budget input (state g m out) within good stopped)

    -- the count is the run's: what is found is as many defined steps on as it says, all of them completed
    pub run_counts : RunFound g' m' out' k n → budget ≤ largest_budget → Counted budget input (state g m out) (ending (state g' m' out') k n)
    run_counts p within = rw (p ∙ machines.budget_within budget input (state g m out) within) (machines.run_counts budget input (state g m out))

    -- 0 is a step's stop, and never a run's
    pub run_never_none : RunFound g' m' out' k n → k ≡ 0 → ⊥
    run_never_none p none = run_not_none budget input (state g m out) (sym (run_found_is p).1 ∙ none)

    -- what was lent well can be lent again: no call makes a bad loan
    pub run_stays_good : RunFound g' m' out' k n → good_loan input (state g m out) ≡ true → good_loan input (state g' m' out') ≡ true
    run_stays_good p good = ap (good_loan input) (run_found_is p).0 ∙ run_keeps_good budget input (state g m out) good

    -- "7, 8, 9 can be resumed": the machine has not stopped
    pub run_can_resume : RunFound g' m' out' k n → budget_spent ≤ k → k < bad_loan → g'.stop ≡ 0
    run_can_resume p seven most =
        let found = run_found_is p in
        ap (λ (t : State). t.registers.stop) found.0 ∙
        limited_still_runs budget input (state g m out) (omega (arith, seven, found.1)) (omega (arith, most, found.1))

  -- "two replies meeting it coincide": registers, memory, output, stop and count
  pub run_replies_coincide : (g' h' : Registers) (m' n' out' off' : List ℕ) (k l i j : ℕ) → RunFound g' m' out' k i → RunFound h' n' off' l j →
      (g' ≡ h') × (m' ≡ n') × (out' ≡ off') × (k ≡ l) × (i ≡ j)
  run_replies_coincide g' h' m' n' out' off' k l i j p q =
      let same = p ∙ sym q in (
        ap (λ (e : Ending). e.after.registers) same,
        ap (λ (e : Ending). e.after.memory) same,
        ap (λ (e : Ending). e.after.output) same,
        ap (λ (e : Ending). e.stop) same,
        ap (λ (e : Ending). e.count) same,
      )

  -- ---- what the promise shuts out, whatever the code and its walk

  -- where HALT stands at PC one step completes: the stop code, the stop and the count are 1, whatever the budget left
  pub run-halts : good_loan input (state g m out) ≡ true → g.stop ≡ 0 → get_or m (register (state g m out) PC) 0 ≡ 64 → 0 < budget → budget ≤ largest_budget →
      (g' : Registers) (m' out' : List ℕ) (k n : ℕ) → RunFound g' m' out' k n → (g'.stop ≡ 1) × (k ≡ 1) × (n ≡ 1)
  run-halts good runs word some within g' m' out' k n p =
      let halts = machines.HALT-completes input (state g m out) good runs word in
      let found = p ∙ machines.budget_within budget input (state g m out) within ∙ runs-once input (state g m out) budget some _ halts in (
        ap (λ (e : Ending). e.after.registers.stop) found,
        ap (λ (e : Ending). e.stop) found,
        ap (λ (e : Ending). e.count) found,
      )

  -- so a run that leaves the registers as they were does not meet it
  pub run_registers_change : good_loan input (state g m out) ≡ true → g.stop ≡ 0 → get_or m (register (state g m out) PC) 0 ≡ 64 → 0 < budget →
      budget ≤ largest_budget → (m' out' : List ℕ) (k n : ℕ) → RunFound g m' out' k n → ⊥
  run_registers_change good runs word some within m' out' k n p =
      omega (arith, runs, (run-halts good runs word some within g m' out' k n p).0)

  -- a run that returns the record's stop code for its stop: it does not meet the promise on a bad loan, unless that code is 10
  pub run_stop_is_the_runs : good_loan input (state g m out) ≡ false → (g.stop ≡ bad_loan → ⊥) → (g' : Registers) (m' out' : List ℕ) (n : ℕ) →
      RunFound g' m' out' g'.stop n → ⊥
  run_stop_is_the_runs bad other g' m' out' n p =
      let found = run_bad_loan g' m' out' g'.stop n p bad in other (ap (λ (r : Registers). r.stop) (sym found.0) ∙ found.3)

-- a host that calls twice, with a step in the second budget, finds what one call of both budgets leaves, and its counts add up
pub run_resumed : (a b : ℕ) (input : List ℕ) (g : Registers) (m out : List ℕ) (g' : Registers) (m' out' : List ℕ) (k i : ℕ)
    (g'' : Registers) (m'' out'' : List ℕ) (l j : ℕ) →
    a + b ≤ largest_budget → 0 < b → RunFound a input g m out g' m' out' k i → RunFound b input g' m' out' g'' m'' out'' l j →
    RunFound (a + b) input g m out g'' m'' out'' l (i + j)
run_resumed a b input g m out g' m' out' k i g'' m'' out'' l j within some p q =
    let first = p ∙ machines.budget_within a input (state g m out) (omega (arith, within)) in
    let then = q ∙ machines.budget_within b input (state g' m' out') (omega (arith, within)) in
    let from : state g' m' out' ≡ (run_of a input (state g m out)).after = ap (λ (e : Ending). e.after) first in
    let rest : ending (state g'' m'' out'') l j ≡ run_of b input (run_of a input (state g m out)).after = then ∙ ap (run_of b input) from in
    let whole = machines.budget_within (a + b) input (state g m out) within in
    run_is_found (a + b) input g m out g'' m'' out'' l (i + j)
    (ap (λ (e : Ending). e.after) rest ∙ sym (ap (λ (e : Ending). e.after) whole ∙ machines.resumed_after a b input (state g m out)))
    (ap (λ (e : Ending). e.stop) rest ∙ sym (ap (λ (e : Ending). e.stop) whole ∙ machines.resumed_stop a b input (state g m out) some))
    (ap (λ (n : ℕ). n + j) (ap (λ (e : Ending). e.count) first) ∙ ap (λ (n : ℕ). (run_of a input (state g m out)).count + n) (ap (λ (e : Ending). e.count) rest)
    ∙ sym (ap (λ (e : Ending). e.count) whole ∙ machines.resumed_count a b input (state g m out)))

-- and of a machine that starts with HALT in its one cell: what is found there, and that the count is no other
pub run_at_HALT : (g' : Registers) (m' out' : List ℕ) (k n : ℕ) → RunFound largest_budget [] start (64 ∷ []) [] g' m' out' k n → (g'.stop ≡ 1) × (k ≡ 1) × (n ≡ 1)
unfolding good_loan
run_at_HALT = run-halts largest_budget [] start (64 ∷ []) [] refl refl refl (omega arith) (omega arith)
