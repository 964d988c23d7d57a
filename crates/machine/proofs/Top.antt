-- What the machine promises (01, "What a step does"), restated for a reader. The promises of `step` and `run` stand in src/, each one
-- equation with the meaning in specs/Steps.antt and specs/Runs.antt; the arguments are in the files beside this one.
use mathlib.Core.Path.{◌≡◌, refl, sym, ap, ◌∙◌}
use mathlib.Core.Bool.{Bool, true, false, cond}
use mathlib.Core.Logic.{◌⊎◌}
use mathlib.Core.List.{List, [], ◌∷◌, ◌++◌, map}
use Prim.Native.Nat.{ℕ, suc, ◌+◌, ◌*◌, ◌/◌, ◌%◌, ◌≤◌, ◌<◌}
use native.Mathlib.Nat.{zero-add}
use native.Mathlib.Omega.{arith}
use lib.ListN.{length, get_or, set, drop}
use Rattle.codes.specs.Registers.{SR, SP, PC}
use Rattle.numerals.specs.Reading.{line_number}
use Rattle.numerals.specs.Writing.{signed_decimal}
use Rattle.isa.specs.Decoding.{modes_allowed, size_in, instruction_in, registers_there, decode_of}
use Rattle.isa.specs.declared.Address.{Address}
use Rattle.std.proofs.Common.{Ok}
use Rattle.isa.specs.declared.Instruction.{Instruction}
use Rattle.isa.specs.declared.Opcode.TheVariants as O
use Rattle.isa.specs.declared.Operand.{Operand}
use Rattle.isa.specs.declared.Operand.TheVariants.{Register}
use Rattle.effects.specs.Effects.{addresses_there, perform_of}
use Rattle.effects.specs.Places.{place_of, target_of}
use Rattle.effects.specs.Applied.{registers_after, memory_after}
use Rattle.effects.specs.declared.Effect.{Effect}
use Rattle.effects.specs.declared.Performed.TheVariants.{Does}
use Rattle.effects.specs.declared.Place.TheVariants.{InCell}
use Rattle.ports.specs.Overwriting.{overwrite}
use Rattle.ports.specs.Output.{low_byte}
use Rattle.ports.specs.Rules.{Free, Line, StringFrom}
use Rattle.machine.specs.States.{State, state, machine, start, register, with_stop}
use Rattle.machine.specs.Stops.{Answer, answer, good_loan, is_stored, refuses}
use Rattle.machine.specs.Steps.{halts, decoded, step_of, Reply, reply, reply_of}
use Rattle.machine.specs.Runs.{Ending, ending, run_of, limited_run}
use Rattle.machine.specs.declared.Stepped.{Stepped}
use Rattle.machine.specs.declared.Ran.{Ran}
use Rattle.machine.proofs.Standings as standings
use Rattle.machine.proofs.GoodLoans.{parts-good}
use Rattle.machine.proofs.Orders as orders
use Rattle.machine.proofs.Kept.{two, one, alone, Reads, place_in, value_in, There, kept, kept-within, kept-past, completes}
use Rattle.machine.proofs.Completed as completed
use Rattle.machine.proofs.Ends as ends
use Rattle.machine.proofs.InputOutput as exchange
use Rattle.machine.proofs.Runs as its-runs
use Rattle.machine.proofs.Counts as counts

-- ---- "two replies meeting it coincide"

-- two replies that meet the promise of `step` are one: record, stop, memory and output
pub steps-coincide : (input : List ℕ) (s : State) (x y : Stepped) (m n out off : List ℕ) →
    reply (state x.registers m out) x.stop ≡ reply_of input s → reply (state y.registers n off) y.stop ≡ reply_of input s →
    (x ≡ y) × (m ≡ n) × (out ≡ off)
steps-coincide input s x y m n out off p q =
    let same = p ∙ sym q in
    let stepped : Reply → Stepped = λ a. record { registers = a.after.registers; stop = a.stop } in
    (ap stepped same, ap (λ (a : Reply). a.after.memory) same, ap (λ (a : Reply). a.after.output) same)

-- two replies that meet the promise of `run` are one, the count too
pub runs-coincide : (budget : ℕ) (input : List ℕ) (s : State) (x y : Ran) (m n out off : List ℕ) →
    ending (state x.registers m out) x.stop x.count ≡ limited_run budget input s →
    ending (state y.registers n off) y.stop y.count ≡ limited_run budget input s →
    (x ≡ y) × (m ≡ n) × (out ≡ off)
runs-coincide budget input s x y m n out off p q =
    let same = p ∙ sym q in
    let ran : Ending → Ran = λ e. record { registers = e.after.registers; stop = e.stop; count = e.count } in
    (ap ran same, ap (λ (e : Ending). e.after.memory) same, ap (λ (e : Ending). e.after.output) same)

-- ---- the start

-- "Registers and stop code start at 0": on any memory of 1 to 65,536 cells such a machine is a good loan, and runs what stands at address 0
pub start-good : (input m out : List ℕ) → 0 < length m → length m ≤ 65536 → good_loan input (state start m out) ≡ true
start-good input m out some most =
    parts-good input (state start m out)
    (record { some = some; most = most; taken = omega arith; written = omega arith; six_bits = omega arith; code = omega arith })

pub start_at_0 : (input m out : List ℕ) → 0 < length m → length m ≤ 65536 →
    step_of input (state start m out) ≡ decoded input (state start m out) (decode_of m 0)
start_at_0 input m out some most = orders.step-decoded input (state start m out) (start-good input m out some most) refl (decode_of m 0) refl

-- ---- a step

module _ (input : List ℕ) (s : State) where
  -- "10 bad loan": before everything else, and nothing changes
  pub bad-loan : good_loan input s ≡ false → step_of input s ≡ answer s 10 false
  bad-loan = standings.step-bad input s

  -- "stopped already": "a stopped machine repeats it"
  pub stopped_already : good_loan input s ≡ true → (s.registers.stop ≡ 0 → ⊥) → step_of input s ≡ answer s s.registers.stop false
  stopped_already = standings.step-stopped input s

  -- what is lent well is left so: a step never makes a bad loan
  pub stays-good : good_loan input s ≡ true → good_loan input (step_of input s).after ≡ true
  stays-good = standings.step_keeps_good input s

  -- "All change nothing except that 2 to 6 set the stop code": a step that does not complete
  pub refused-step : (step_of input s).completed ≡ false →
      (step_of input s).after ≡ cond (is_stored (step_of input s).stop) (with_stop s (step_of input s).stop) s
  unfolding refuses
  refused-step undone = ap (λ (a : Answer). a.after) (standings.step-refuses input s undone)

  -- and so memory, output, registers and positions are as they were
  pub refused-keeps : (step_of input s).completed ≡ false →
      ((step_of input s).after.memory ≡ s.memory) × ((step_of input s).after.output ≡ s.output) ×
      ((step_of input s).after.registers.r ≡ s.registers.r) ×
      ((step_of input s).after.registers.taken ≡ s.registers.taken) ×
      ((step_of input s).after.registers.written ≡ s.registers.written)
  refused-keeps undone = kept (is_stored (step_of input s).stop) (refused-step undone)
    where
      kept : {t : State} (b : Bool) → t ≡ cond b (with_stop s (step_of input s).stop) s →
          (t.memory ≡ s.memory) × (t.output ≡ s.output) × (t.registers.r ≡ s.registers.r) × (t.registers.taken ≡ s.registers.taken) ×
          (t.registers.written ≡ s.registers.written)
      kept true e = (
        ap (λ (x : State). x.memory) e,
        ap (λ (x : State). x.output) e,
        ap (λ (x : State). x.registers.r) e,
        ap (λ (x : State). x.registers.taken) e,
        ap (λ (x : State). x.registers.written) e,
      )
      kept false e = (
        ap (λ (x : State). x.memory) e,
        ap (λ (x : State). x.output) e,
        ap (λ (x : State). x.registers.r) e,
        ap (λ (x : State). x.registers.taken) e,
        ap (λ (x : State). x.registers.written) e,
      )

  -- a step that completes gives 0, 1 or 5, and leaves it as the stop code
  pub completed-step : (step_of input s).completed ≡ true →
      ((step_of input s).after.registers.stop ≡ (step_of input s).stop) ×
      (((step_of input s).stop ≡ 0) ⊎ (((step_of input s).stop ≡ 1) ⊎ ((step_of input s).stop ≡ 5)))
  completed-step done = let its = standings.step-completes input s done in (its.code, its.stop)

-- ---- the order of the stops, of a machine that runs on a good loan; what the opcode does comes after them

module _ (input : List ℕ) (s : State) (good : good_loan input s ≡ true) (runs : s.registers.stop ≡ 0) where
  -- "PC≥M (5)"
  pub PC_past : length s.memory ≤ register s PC → step_of input s ≡ refuses s 5
  PC_past = orders.PC_past input s good runs

  -- "2": "A first word of 2,496 or more is 2"
  pub opcode : 2496 ≤ get_or s.memory (register s PC) 0 → step_of input s ≡ refuses s 2
  opcode = orders.no-opcode input s good runs

  -- "3"
  pub mode : get_or s.memory (register s PC) 0 < 2496 → modes_allowed (get_or s.memory (register s PC) 0) ≡ false → step_of input s ≡ refuses s 3
  mode = orders.no_mode input s good runs

  module _ (h : get_or s.memory (register s PC) 0 < 2496) (t : modes_allowed (get_or s.memory (register s PC) 0) ≡ true) where
    -- "missing words (5)"
    pub words : length s.memory < register s PC + size_in (get_or s.memory (register s PC) 0) → step_of input s ≡ refuses s 5
    words = orders.missing-words input s good runs h t

    -- "4"
    pub register-code : register s PC + size_in (get_or s.memory (register s PC) 0) ≤ length s.memory →
        registers_there
        (instruction_in (get_or s.memory (register s PC) 0) (get_or s.memory (register s PC + 1) 0) (get_or s.memory (register s PC + 2) 0)) ≡
        false →
        step_of input s ≡ refuses s 4
    register-code = orders.no_register input s good runs h t

  -- "operand addresses (5; branch and CALL targets count only as next PC)"
  pub addresses : (i : Instruction) (next : Address) → decode_of s.memory (register s PC) ≡ Ok (record { instruction = i; next = next }) →
      addresses_there (length s.memory) i.op (place_of s.registers.r next.0 i.first) (place_of s.registers.r next.0 i.second) ≡
      false →
      step_of input s ≡ refuses s 5
  addresses = orders.no_address input s good runs

  -- HALT completes with 1, in the last cell too: "but for HALT, a next PC≥M .. is stop 5"
  pub HALT-completes : get_or s.memory (register s PC) 0 ≡ 64 →
      step_of input s ≡
      answer
      (state
      (machine (set (set s.registers.r SR (register s SR % 32 + 32)) PC ((register s PC + 1) % 65536)) 1 s.registers.taken s.registers.written)
      s.memory s.output)
      1 true
  unfolding halts
  HALT-completes = orders.HALT-completes input s good runs

  -- so a step that leaves all as it was is none
  pub HALT_changes : get_or s.memory (register s PC) 0 ≡ 64 → (step_of input s).after ≡ s → ⊥
  HALT_changes w same =
      let one : (step_of input s).after.registers.stop ≡ 1 = ap (λ (a : Answer). a.after.registers.stop) (HALT-completes w) in
      let none : (step_of input s).after.registers.stop ≡ 0 = ap (λ (t : State). t.registers.stop) same ∙ runs in
      omega (arith, one, none)

-- ---- the stops after the operands' addresses: "6, stack (5), input/output (8 or 9; a string passing M is 5 and comes before 9)"
--
-- `Reads s i next` says that instruction i stands at PC and `next` is the address after it; `There`, `valueIn` and `place_in` are of its
-- operands (Kept.antt). That a step so refused changes nothing but the stop code is `refused-step`.

module _ (input : List ℕ) (s : State) (good : good_loan input s ≡ true) (runs : s.registers.stop ≡ 0) (next : ℕ) where
  -- "6": a zero divisor, of DIV and of MOD
  pub DIV_by_zero : (a b : Operand) → Reads s (two O.DIV a b) next → There s next a → There s next b → value_in s next b ≡ 0 →
      step_of input s ≡ refuses s 6
  DIV_by_zero = ends.DIV_by_zero input s good runs next

  pub MOD_by_zero : (a b : Operand) → Reads s (two O.MOD a b) next → There s next a → There s next b → value_in s next b ≡ 0 →
      step_of input s ≡ refuses s 6
  MOD_by_zero = ends.MOD_by_zero input s good runs next

  -- "stack (5)": the cell that is pushed to or popped from is at M or past it. (An operand outside memory is 5 too, so none has to be inside.)
  pub PUSH-past : (a : Operand) → Reads s (one O.PUSH a) next → length s.memory ≤ register s SP → step_of input s ≡ refuses s 5
  PUSH-past = ends.PUSH-past input s good runs next

  pub CALL-past : (a : Operand) → Reads s (one O.CALL a) next → length s.memory ≤ register s SP → step_of input s ≡ refuses s 5
  CALL-past = ends.CALL-past input s good runs next

  pub POP-past : (a : Operand) → Reads s (one O.POP a) next → length s.memory ≤ (register s SP + 1) % 65536 → step_of input s ≡ refuses s 5
  POP-past = ends.POP-past input s good runs next

  pub RET-past : Reads s (alone O.RET) next → length s.memory ≤ (register s SP + 1) % 65536 → step_of input s ≡ refuses s 5
  RET-past = ends.RET-past input s good runs next

  module _ (a : Operand) where
    -- "8 input at its end"
    pub INCHAR_at_end : Reads s (one O.INCHAR a) next → There s next a → length input ≤ s.registers.taken → step_of input s ≡ refuses s 8
    INCHAR_at_end read there h = exchange.INCHAR_at_end input s good runs next a h read there

    pub ININT_at_end : Reads s (one O.ININT a) next → There s next a → length input ≤ s.registers.taken → step_of input s ≡ refuses s 8
    ININT_at_end read there h = exchange.ININT_at_end input s good runs next a h read there

    pub INSTR_at_end : Reads s (one O.INSTR a) next → There s next a → length input ≤ s.registers.taken → step_of input s ≡ refuses s 8
    INSTR_at_end read there h = exchange.INSTR_at_end input s good runs next a h read there

    -- "a string passing M is 5": a line that with its 0 cell ends past M
    pub INSTR_too_long : {line : List ℕ} {after : ℕ} → Reads s (one O.INSTR a) next → s.registers.taken < length input →
        Line input s.registers.taken line after → length s.memory < target_of (place_in s next a) + length line + 1 →
        step_of input s ≡ refuses s 5
    INSTR_too_long = exchange.INSTR_too_long input s good runs next a

    -- "and comes before 9": a string that no 0 ends, whatever room there is
    pub WRSTR-unended : Reads s (one O.WRSTR a) next → Free 0 (drop (target_of (place_in s next a)) s.memory) → step_of input s ≡ refuses s 5
    WRSTR-unended = exchange.WRSTR-unended input s good runs next a

    -- "9 output room short"
    pub WRCHAR-short : Reads s (one O.WRCHAR a) next → There s next a → length s.output ≤ s.registers.written → step_of input s ≡ refuses s 9
    WRCHAR-short = exchange.WRCHAR-short input s good runs next a

    pub WRINT-short : Reads s (one O.WRINT a) next → There s next a →
        length s.output < s.registers.written + length (signed_decimal (value_in s next a)) → step_of input s ≡ refuses s 9
    WRINT-short = exchange.WRINT-short input s good runs next a

    pub WRSTR-short : {cells : List ℕ} → Reads s (one O.WRSTR a) next → StringFrom s.memory (target_of (place_in s next a)) cells →
        length s.output < s.registers.written + length cells → step_of input s ≡ refuses s 9
    WRSTR-short = exchange.WRSTR-short input s good runs next a

-- ---- what a step that completes leaves
--
-- `completes s r m n` is: registers r but for PC, memory m, everything else as it was, and n as next PC. `kept` says so of positions and output
-- too. By n: PC is n modulo 65536, and the stop, which is the stop code too, is 0 below M and 5 from M on, before that reduction.

pub completes-within : (s : State) (r m : List ℕ) (n : ℕ) → n < length s.memory →
    completes s r m n ≡ answer (state (machine (set r PC (n % 65536)) 0 s.registers.taken s.registers.written) m s.output) 0 true
completes-within s r m n = kept-within (length s.memory) n r s.registers.taken s.registers.written m s.output

pub completes-past : (s : State) (r m : List ℕ) (n : ℕ) → length s.memory ≤ n →
    completes s r m n ≡ answer (state (machine (set r PC (n % 65536)) 5 s.registers.taken s.registers.written) m s.output) 5 true
completes-past s r m n = kept-past (length s.memory) n r s.registers.taken s.registers.written m s.output

-- a step that completes with a stop is counted, and ends the run
pub counted : (input : List ℕ) (s t : State) (k more : ℕ) → step_of input s ≡ answer t k true → (k ≡ 0 → ⊥) → run_of (suc more) input s ≡ ending t k 1
counted input s t k more e h =
    ap (λ (b : ℕ). run_of b input s) (sym (zero-add (suc more)))
    ∙ counts.run_ends_with 0 more input s (λ j l. absurd (omega arith)) (ap (λ (a : Answer). a.completed) e)
    (λ z. h (sym (ap (λ (a : Answer). a.stop) e) ∙ z))
    ∙ ap (λ (a : Answer). ending a.after a.stop 1) e

module _ (input : List ℕ) (s : State) (good : good_loan input s ≡ true) (runs : s.registers.stop ≡ 0) where
  -- "a next PC≥M before that reduction is stop 5 with the step kept and counted": at M = 65,536 a NOP in the last cell leaves PC 0 and stop 5
  pub NOP_at_top : length s.memory ≡ 65536 → register s PC ≡ 65535 → get_or s.memory 65535 0 ≡ 0 →
      step_of input s ≡
      answer (state (machine (set s.registers.r PC 0) 5 s.registers.taken s.registers.written) s.memory s.output) 5 true
  NOP_at_top = completed.NOP_at_top input s good runs

  pub NOP_at_top_counts : length s.memory ≡ 65536 → register s PC ≡ 65535 → get_or s.memory 65535 0 ≡ 0 → (more : ℕ) →
      run_of (suc more) input s ≡
      ending (state (machine (set s.registers.r PC 0) 5 s.registers.taken s.registers.written) s.memory s.output) 5 1
  NOP_at_top_counts size pc w more = counted input s _ 5 more (NOP_at_top size pc w) (λ z. omega (arith, z))

module _ (input : List ℕ) (s : State) (good : good_loan input s ≡ true) (runs : s.registers.stop ≡ 0) (next : ℕ) where
  -- any instruction whose effect is Does e: all of it is kept, also where its next PC is M or more
  pub effect-within : {i : Instruction} (e : Effect) → Reads s i next → perform_of s.registers.r s.memory next i ≡ Does e →
      e.next < length s.memory →
      step_of input s ≡
      answer
      (state (machine (registers_after s.registers.r e) 0 s.registers.taken s.registers.written) (memory_after s.memory e) s.output)
      0 true
  effect-within = completed.effect-within input s good runs next

  pub effect-past : {i : Instruction} (e : Effect) → Reads s i next → perform_of s.registers.r s.memory next i ≡ Does e →
      length s.memory ≤ e.next →
      step_of input s ≡
      answer
      (state (machine (registers_after s.registers.r e) 5 s.registers.taken s.registers.written) (memory_after s.memory e) s.output)
      5 true
  effect-past = completed.effect-past input s good runs next

  pub NOP : Reads s (alone O.NOP) next → step_of input s ≡ completes s s.registers.r s.memory next
  NOP = completed.NOP input s good runs next

  -- "Branch .. targets are addresses": the target is the next PC
  pub BR : (a : Operand) → Reads s (one O.BR a) next → step_of input s ≡ completes s s.registers.r s.memory (target_of (place_in s next a))
  BR = completed.BR input s good runs next

  module _ (a : Operand) (there : There s next a) where
    pub MOVE_to_register : (k : ℕ) → (k ≡ SR → ⊥) → (k ≡ PC → ⊥) → Reads s (two O.MOVE a (Register k)) next →
        step_of input s ≡ completes s (set s.registers.r k (value_in s next a)) s.memory next
    MOVE_to_register = completed.MOVE_to_register input s good runs next a there

    -- "Writing SR sets bits 0..4 and keeps H"
    pub MOVE_to_SR : Reads s (two O.MOVE a (Register SR)) next →
        step_of input s ≡ completes s (set s.registers.r SR (value_in s next a % 32 + register s SR / 32 * 32)) s.memory next
    MOVE_to_SR = completed.MOVE_to_SR input s good runs next a there

    -- "A write to register PC gives the next PC"
    pub MOVE_to_PC : Reads s (two O.MOVE a (Register PC)) next → step_of input s ≡ completes s s.registers.r s.memory (value_in s next a)
    MOVE_to_PC = completed.MOVE_to_PC input s good runs next a there

    pub MOVE_to_cell : (b : Operand) (c : ℕ) → place_in s next b ≡ InCell c → c < length s.memory → Reads s (two O.MOVE a b) next →
        step_of input s ≡ completes s s.registers.r (set s.memory c (value_in s next a)) next
    MOVE_to_cell = completed.MOVE_to_cell input s good runs next a there

  -- "PUSH stores at SP, then SP falls"
  pub PUSH : (a : Operand) → Reads s (one O.PUSH a) next → There s next a → register s SP < length s.memory →
      step_of input s ≡
      completes s (set s.registers.r SP ((register s SP + 65535) % 65536)) (set s.memory (register s SP) (value_in s next a)) next
  PUSH = completed.PUSH input s good runs next

  -- "CALL pushes the next address", and goes to its target
  pub CALL : (a : Operand) → Reads s (one O.CALL a) next → register s SP < length s.memory →
      step_of input s ≡
      completes s (set s.registers.r SP ((register s SP + 65535) % 65536)) (set s.memory (register s SP) (next % 65536))
      (target_of (place_in s next a))
  CALL = completed.CALL input s good runs next

  module _ (h : (register s SP + 1) % 65536 < length s.memory) where
    abbrev above : ℕ
    above = (register s SP + 1) % 65536

    abbrev popped : ℕ
    popped = get_or s.memory above 0

    -- RET goes on at the popped number
    pub RET : Reads s (alone O.RET) next → step_of input s ≡ completes s (set s.registers.r SP above) s.memory popped
    RET = completed.RET input s good runs next h

    -- "POP raises SP, then reads"
    pub POP_to_register : (k : ℕ) → (k ≡ SR → ⊥) → (k ≡ PC → ⊥) → Reads s (one O.POP (Register k)) next →
        step_of input s ≡ completes s (set (set s.registers.r SP above) k popped) s.memory next
    POP_to_register = completed.POP_to_register input s good runs next h

    -- "`POP .SP` ends with the popped number"
    pub POP_to_SP : Reads s (one O.POP (Register SP)) next → step_of input s ≡ completes s (set s.registers.r SP popped) s.memory next
    POP_to_SP = completed.POP_to_SP input s good runs next h

    pub POP_to_SR : Reads s (one O.POP (Register SR)) next →
        step_of input s ≡ completes s (set (set s.registers.r SP above) SR (popped % 32 + register s SR / 32 * 32)) s.memory next
    POP_to_SR = completed.POP_to_SR input s good runs next h

    pub POP_to_PC : Reads s (one O.POP (Register PC)) next → step_of input s ≡ completes s (set s.registers.r SP above) s.memory popped
    POP_to_PC = completed.POP_to_PC input s good runs next h

    -- "POP's operand address is found first": by the SP of before
    pub POP_to_cell : (a : Operand) (c : ℕ) → place_in s next a ≡ InCell c → c < length s.memory → Reads s (one O.POP a) next →
        step_of input s ≡ completes s (set s.registers.r SP above) (set s.memory c popped) next
    POP_to_cell = completed.POP_to_cell input s good runs next h

  -- "INCHAR takes a byte; ININT and INSTR a line, its LF taken, not kept"
  module _ (here : s.registers.taken < length input) where
    pub INCHAR_to_register : (k : ℕ) → (k ≡ SR → ⊥) → (k ≡ PC → ⊥) → Reads s (one O.INCHAR (Register k)) next →
        step_of input s ≡
        kept (length s.memory) next (set s.registers.r k (get_or input s.registers.taken 0)) (s.registers.taken + 1) s.registers.written
        s.memory s.output
    INCHAR_to_register k sr pc = exchange.INCHAR_to_register input s good runs next k sr pc here

    module _ {line : List ℕ} {after : ℕ} (its : Line input s.registers.taken line after) where
      pub ININT_to_register : (k : ℕ) → (k ≡ SR → ⊥) → (k ≡ PC → ⊥) → Reads s (one O.ININT (Register k)) next →
          step_of input s ≡
          kept (length s.memory) next (set s.registers.r k (line_number line)) after s.registers.written s.memory s.output
      ININT_to_register k sr pc read = exchange.ININT_to_register input s good runs next k sr pc here read its

      -- "INSTR adds a 0 cell"
      pub INSTR : (a : Operand) → Reads s (one O.INSTR a) next → target_of (place_in s next a) + length line + 1 ≤ length s.memory →
          step_of input s ≡
          kept (length s.memory) next s.registers.r after s.registers.written
          (overwrite s.memory (target_of (place_in s next a)) (line ++ (0 ∷ []))) s.output
      INSTR a read h = exchange.INSTR input s good runs next a read here its h

  -- "WRINT writes signed decimal. WRCHAR and WRSTR write low bytes; WRSTR ends before the first cell that is 0."
  module _ (a : Operand) where
    pub WRCHAR : Reads s (one O.WRCHAR a) next → There s next a → s.registers.written + 1 ≤ length s.output →
        step_of input s ≡
        kept (length s.memory) next s.registers.r s.registers.taken (s.registers.written + 1) s.memory
        (overwrite s.output s.registers.written (low_byte (value_in s next a) ∷ []))
    WRCHAR = exchange.WRCHAR input s good runs next a

    pub WRINT : Reads s (one O.WRINT a) next → There s next a →
        s.registers.written + length (signed_decimal (value_in s next a)) ≤ length s.output →
        step_of input s ≡
        kept (length s.memory) next s.registers.r s.registers.taken (s.registers.written + length (signed_decimal (value_in s next a)))
        s.memory
        (overwrite s.output s.registers.written (signed_decimal (value_in s next a)))
    WRINT = exchange.WRINT input s good runs next a

    pub WRSTR : {cells : List ℕ} → Reads s (one O.WRSTR a) next → StringFrom s.memory (target_of (place_in s next a)) cells →
        s.registers.written + length cells ≤ length s.output →
        step_of input s ≡
        kept (length s.memory) next s.registers.r s.registers.taken (s.registers.written + length cells) s.memory
        (overwrite s.output s.registers.written (map low_byte cells))
    WRSTR = exchange.WRSTR input s good runs next a

-- ---- a run

-- "A larger budget is 10 with count 0"
pub budget_past : (budget : ℕ) (input : List ℕ) (s : State) → 1000000 < budget → limited_run budget input s ≡ ending s 10 0
budget_past = its-runs.run_past

pub budget_within : (budget : ℕ) (input : List ℕ) (s : State) → budget ≤ 1000000 → limited_run budget input s ≡ run_of budget input s
budget_within = its-runs.run-within

-- "Before each step the order is 10, stopped already, 7": a run of no step
pub none-bad : (input : List ℕ) (s : State) → good_loan input s ≡ false → run_of 0 input s ≡ ending s 10 0
none-bad input s e = its-runs.run-bad input s e 0

pub none-stopped : (input : List ℕ) (s : State) → good_loan input s ≡ true → (s.registers.stop ≡ 0 → ⊥) →
    run_of 0 input s ≡ ending s s.registers.stop 0
none-stopped input s e h = its-runs.run-stopped input s e h 0

pub none_left : (input : List ℕ) (s : State) → good_loan input s ≡ true → s.registers.stop ≡ 0 → run_of 0 input s ≡ ending s 7 0
none_left = its-runs.run_none

-- "the state after a run is that many defined steps" and "A run's count is the number of defined steps between its two states":
-- as many steps as it counts, all completed, and then the budget's end, a stop of the last step, or a step that is refused
pub run_counts : (budget : ℕ) (input : List ℕ) (s : State) → counts.Counted budget input s (run_of budget input s)
run_counts = counts.run_counts

-- 7 is answered only when the whole budget was spent on steps that completed
pub seven : (budget : ℕ) (input : List ℕ) (s : State) → (run_of budget input s).stop ≡ 7 → (run_of budget input s).count ≡ budget
seven = counts.seven-spends

-- "HALT counts": a run whose last step gives 1 or 5 answers that, and not 7, also where the budget ends with it (more ≡ 0)
pub ends_with : (n more : ℕ) (input : List ℕ) (s : State) →
    ((k : ℕ) → k < n → ((counts.step_at input k s).completed ≡ true) × ((counts.step_at input k s).stop ≡ 0)) →
    (counts.step_at input n s).completed ≡ true → ((counts.step_at input n s).stop ≡ 0 → ⊥) →
    run_of (n + suc more) input s ≡ ending (counts.step_at input n s).after (counts.step_at input n s).stop (suc n)
ends_with = counts.run_ends_with

-- "7, 8, 9 can be resumed": a run of a + b steps is a run of a steps and then one of b; the state and the count always, and the
-- stop where the second run has a step (without one it says 7 of a machine that waits for input or room)
pub resumed_after : (a b : ℕ) (input : List ℕ) (s : State) → (run_of (a + b) input s).after ≡ (run_of b input (run_of a input s).after).after
resumed_after = its-runs.resumed_after

pub resumed_count : (a b : ℕ) (input : List ℕ) (s : State) →
    (run_of (a + b) input s).count ≡ (run_of a input s).count + (run_of b input (run_of a input s).after).count
resumed_count = its-runs.resumed_count

pub resumed_stop : (a b : ℕ) (input : List ℕ) (s : State) → 0 < b → (run_of (a + b) input s).stop ≡ (run_of b input (run_of a input s).after).stop
resumed_stop = its-runs.resumed_stop
