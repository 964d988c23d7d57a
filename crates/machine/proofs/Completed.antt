-- What a step that completes leaves, by its opcode. Assumes nothing.
use mathlib.Core.Path.{◌≡◌, refl, ap, subst, ◌∙◌}
use mathlib.Core.Bool.{true}
use mathlib.Core.List.{List}
use Prim.Native.Nat.{ℕ, ◌+◌, ◌*◌, ◌/◌, ◌%◌, ◌≤◌, ◌<◌}
use native.Mathlib.Omega.{arith}
use borrow.Author.Tests.{lt-ltb, le-ltb}
use lib.ListN.{length, get_or, set}
use lib.Seq.{set-set, get_or-set_other}
use Rattle.codes.specs.Registers.{SR, SP, PC}
use Rattle.isa.specs.Opcodes.{table, opcodes, opcode_of}
use Rattle.isa.specs.Operands.{operand_of}
use Rattle.isa.specs.Decoding.{modes_allowed, size_in, instruction_in}
use Rattle.std.proofs.Common.{None, Ok}
use Rattle.isa.specs.declared.Instruction.{Instruction}
use Rattle.isa.specs.declared.Opcode.TheVariants as O
use Rattle.isa.specs.declared.Operand.{Operand}
use Rattle.isa.specs.declared.Operand.TheVariants.{Register}
use Rattle.isa.proofs.Refusals as refusals
use Rattle.effects.specs.Effects.{goes_to, writes, by_opcode, addresses_there, perform_of}
use Rattle.effects.specs.Places.{place_of, there_in, target_of}
use Rattle.effects.specs.Applied.{registers_after, memory_after}
use Rattle.effects.specs.declared.Effect.{Effect}
use Rattle.effects.specs.declared.Performed.{Performed}
use Rattle.effects.specs.declared.Performed.TheVariants.{Does}
use Rattle.effects.specs.declared.Place.{Place}
use Rattle.effects.specs.declared.Place.TheVariants.{InCell}
use Rattle.effects.proofs.Top as effects
use Rattle.machine.specs.States.{State, state, machine, register}
use Rattle.machine.specs.Stops.{answer, good_loan}
use Rattle.machine.specs.Steps.{stop_at, does, performed, step_of}
use Rattle.machine.proofs.Orders.{step-decoded}
use Rattle.machine.proofs.Kept.{two, one, alone, Reads, value_in, place_in, There, completes, does-nowhere, does-cell, does-register, does_SR, writes-register, same_SP, kept-past}

module _ (input : List ℕ) (s : State) (good : good_loan input s ≡ true) (runs : s.registers.stop ≡ 0) (next : ℕ) where
  abbrev r : List ℕ
  r = s.registers.r

  abbrev m : List ℕ
  m = s.memory

  abbrev taken : ℕ
  taken = s.registers.taken

  abbrev written : ℕ
  written = s.registers.written

  -- what the instruction comes to decides
  pub comes_to : {i : Instruction} (p : Performed) → Reads s i next → perform_of r m next i ≡ p → step_of input s ≡ performed input s next p
  comes_to {i} p read e = step-decoded input s good runs (Ok (record { instruction = i; next = (record { 0 = next }) })) read ∙ ap (performed input s next) e

  pub does_it : {i : Instruction} (e : Effect) → Reads s i next → perform_of r m next i ≡ Does e → step_of input s ≡ does s e taken written
  does_it e read p = comes_to (Does e) read p

  -- by the next PC that the effect gives
  pub effect-within : {i : Instruction} (e : Effect) → Reads s i next → perform_of r m next i ≡ Does e → e.next < length m →
      step_of input s ≡ answer (state (machine (registers_after r e) 0 taken written) (memory_after m e) s.output) 0 true
  unfolding does stop_at
  effect-within e read p h = does_it e read p ∙ rw (lt-ltb e.next (length m) h)

  pub effect-past : {i : Instruction} (e : Effect) → Reads s i next → perform_of r m next i ≡ Does e → length m ≤ e.next →
      step_of input s ≡ answer (state (machine (registers_after r e) 5 taken written) (memory_after m e) s.output) 5 true
  unfolding does stop_at
  effect-past e read p h = does_it e read p ∙ rw (le-ltb e.next (length m) h)

  -- ---- NOP, MOVE and BR

  pub NOP : Reads s (alone O.NOP) next → step_of input s ≡ completes s r m next
  unfolding perform_of addresses_there table place_of there_in by_opcode goes_to
  NOP read =
      does_it _ read refl ∙ does-nowhere s next (get_or r SP 0) 0 taken written ∙ same_SP r (λ (x : List ℕ). completes s x m next)

  pub BR : (a : Operand) → Reads s (one O.BR a) next → step_of input s ≡ completes s r m (target_of (place_in s next a))
  unfolding perform_of addresses_there table by_opcode goes_to
  BR a read =
      let to = target_of (place_in s next a) in
      does_it _ read refl ∙ does-nowhere s to (get_or r SP 0) 0 taken written ∙ same_SP r (λ (x : List ℕ). completes s x m to)

  module _ (a : Operand) (there : There s next a) where
    moves : (b : Operand) → Reads s (two O.MOVE a b) next → There s next b →
        step_of input s ≡ does s (writes next (get_or r SP 0) (place_in s next b) (value_in s next a) None) taken written
    unfolding perform_of addresses_there table by_opcode
    moves b read q = does_it _ read (rw (there, q))

    pub MOVE_to_register : (k : ℕ) → (k ≡ SR → ⊥) → (k ≡ PC → ⊥) → Reads s (two O.MOVE a (Register k)) next →
        step_of input s ≡ completes s (set r k (value_in s next a)) m next
    unfolding place_of there_in
    MOVE_to_register k sr pc read =
        let v = value_in s next a in
        moves (Register k) read refl
        ∙ ap (λ (e : Effect). does s e taken written) (writes-register next (get_or r SP 0) k v pc)
        ∙ does-register s next (get_or r SP 0) v taken written k sr
        ∙ same_SP r (λ (x : List ℕ). completes s (set x k v) m next)

    -- "Writing SR sets bits 0..4 and keeps H"
    pub MOVE_to_SR : Reads s (two O.MOVE a (Register SR)) next →
        step_of input s ≡ completes s (set r SR (value_in s next a % 32 + register s SR / 32 * 32)) m next
    unfolding place_of there_in
    MOVE_to_SR read =
        let v = value_in s next a in
        moves (Register SR) read refl
        ∙ ap (λ (e : Effect). does s e taken written) (writes-register next (get_or r SP 0) SR v (λ q. omega arith))
        ∙ does_SR s next (get_or r SP 0) v taken written
        ∙ same_SP r (λ (x : List ℕ). completes s (set x SR (v % 32 + get_or x SR 0 / 32 * 32)) m next)

    -- "A write to register PC gives the next PC"
    pub MOVE_to_PC : Reads s (two O.MOVE a (Register PC)) next → step_of input s ≡ completes s r m (value_in s next a)
    unfolding place_of there_in writes
    MOVE_to_PC read =
        let v = value_in s next a in
        moves (Register PC) read refl
        ∙ does-nowhere s v (get_or r SP 0) v taken written
        ∙ same_SP r (λ (x : List ℕ). completes s x m v)

    pub MOVE_to_cell : (b : Operand) (c : ℕ) → place_in s next b ≡ InCell c → c < length m → Reads s (two O.MOVE a b) next →
        step_of input s ≡ completes s r (set m c (value_in s next a)) next
    unfolding there_in writes
    MOVE_to_cell b c at h read =
        let v = value_in s next a in
        moves b read (rw (at, lt-ltb c (length m) h))
        ∙ ap (λ (p : Place). does s (writes next (get_or r SP 0) p v None) taken written) at
        ∙ does-cell s next (get_or r SP 0) v taken written c
        ∙ same_SP r (λ (x : List ℕ). completes s x (set m c v) next)

  -- ---- the stack

  -- "PUSH stores at SP, then SP falls"
  pub PUSH : (a : Operand) → Reads s (one O.PUSH a) next → There s next a → register s SP < length m →
      step_of input s ≡ completes s (set r SP ((register s SP + 65535) % 65536)) (set m (register s SP) (value_in s next a)) next
  PUSH a read there h =
      does_it _ read (effects.push r m next a there h) ∙ does-cell s next _ (value_in s next a) taken written (register s SP)

  -- "CALL pushes the next address"
  pub CALL : (a : Operand) → Reads s (one O.CALL a) next → register s SP < length m →
      step_of input s ≡
      completes s (set r SP ((register s SP + 65535) % 65536)) (set m (register s SP) (next % 65536)) (target_of (place_in s next a))
  CALL a read h =
      does_it _ read (effects.calls r m next a h) ∙ does-cell s (target_of (place_in s next a)) _ (next % 65536) taken written (register s SP)

  module _ (h : (register s SP + 1) % 65536 < length m) where
    abbrev above : ℕ
    above = (register s SP + 1) % 65536

    abbrev popped : ℕ
    popped = get_or m above 0

    pub RET : Reads s (alone O.RET) next → step_of input s ≡ completes s (set r SP above) m popped
    RET read = does_it _ read (effects.ret r m next h) ∙ does-nowhere s popped above popped taken written

    pops : (a : Operand) → Reads s (one O.POP a) next → There s next a →
        step_of input s ≡ does s (writes next above (place_in s next a) popped None) taken written
    pops a read there = does_it _ read (effects.pop r m next a there h)

    -- "POP raises SP, then reads"
    pub POP_to_register : (k : ℕ) → (k ≡ SR → ⊥) → (k ≡ PC → ⊥) → Reads s (one O.POP (Register k)) next →
        step_of input s ≡ completes s (set (set r SP above) k popped) m next
    unfolding place_of there_in
    POP_to_register k sr pc read =
        pops (Register k) read refl
        ∙ ap (λ (e : Effect). does s e taken written) (writes-register next above k popped pc)
        ∙ does-register s next above popped taken written k sr

    -- "`POP .SP` ends with the popped number"
    pub POP_to_SP : Reads s (one O.POP (Register SP)) next → step_of input s ≡ completes s (set r SP popped) m next
    POP_to_SP read =
        POP_to_register SP (λ q. omega arith) (λ q. omega arith) read
        ∙ ap (λ (x : List ℕ). completes s x m next) (set-set r SP above popped)

    -- "Writing SR sets bits 0..4 and keeps H"
    pub POP_to_SR : Reads s (one O.POP (Register SR)) next →
        step_of input s ≡ completes s (set (set r SP above) SR (popped % 32 + register s SR / 32 * 32)) m next
    unfolding place_of there_in
    POP_to_SR read =
        pops (Register SR) read refl
        ∙ ap (λ (e : Effect). does s e taken written) (writes-register next above SR popped (λ q. omega arith))
        ∙ does_SR s next above popped taken written
        ∙ ap (λ (h : ℕ). completes s (set (set r SP above) SR (popped % 32 + h / 32 * 32)) m next) (get_or-set_other r SP SR above 0 (λ q. omega arith))

    -- "A write to register PC gives the next PC"
    pub POP_to_PC : Reads s (one O.POP (Register PC)) next → step_of input s ≡ completes s (set r SP above) m popped
    unfolding place_of there_in writes
    POP_to_PC read = pops (Register PC) read refl ∙ does-nowhere s popped above popped taken written

    -- "POP's operand address is found first"
    pub POP_to_cell : (a : Operand) (c : ℕ) → place_in s next a ≡ InCell c → c < length m → Reads s (one O.POP a) next →
        step_of input s ≡ completes s (set r SP above) (set m c popped) next
    unfolding there_in writes
    POP_to_cell a c at l read =
        pops a read (rw (at, lt-ltb c (length m) l))
        ∙ ap (λ (p : Place). does s (writes next above p popped None) taken written) at
        ∙ does-cell s next above popped taken written c

-- ---- the largest memory

module _ (input : List ℕ) (s : State) (good : good_loan input s ≡ true) (runs : s.registers.stop ≡ 0) where
  NOP-reads : register s PC < length s.memory → get_or s.memory (register s PC) 0 ≡ 0 → Reads s (alone O.NOP) (register s PC + 1)
  unfolding size_in modes_allowed opcode_of opcodes table instruction_in operand_of
  NOP-reads l w = refusals.whole s.memory (register s PC) 0 (alone O.NOP) w (omega arith) refl (omega arith) refl refl

  -- the next PC is 65,536, and not the 0 that is kept of it
  pub NOP_at_top : length s.memory ≡ 65536 → register s PC ≡ 65535 → get_or s.memory 65535 0 ≡ 0 →
      step_of input s ≡
      answer (state (machine (set s.registers.r PC 0) 5 s.registers.taken s.registers.written) s.memory s.output) 5 true
  NOP_at_top size pc w =
      let top : register s PC + 1 ≡ 65536 = omega arith in
      let its-word : get_or s.memory (register s PC) 0 ≡ 0 = ap (λ (k : ℕ). get_or s.memory k 0) pc ∙ w in
      NOP input s good runs 65536 (subst (Reads s (alone O.NOP)) top (NOP-reads (omega arith) its-word))
      ∙ kept-past (length s.memory) 65536 s.registers.r s.registers.taken s.registers.written s.memory s.output (omega arith)
