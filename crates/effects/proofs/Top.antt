-- What the effects promise, for a reader. Each function's promise is one equation, r ≡ its meaning in specs/; here are the
-- sentences of document 01 that are easy to miss, as they come out of `performOf`, `registersAfter` and `memoryAfter`.
use mathlib.Core.Path.{◌≡◌, refl, sym, ◌∙◌}
use mathlib.Core.Bool.{Bool, true, false, cond, not, ◌&&◌, ◌||◌}
use mathlib.Core.List.{List}
use Prim.Native.Nat.{ℕ, ◌+◌, ◌-◌, ◌*◌, ◌/◌, ◌%◌, ◌≤◌, ◌<◌}
use native.Mathlib.Omega.{arith}
use borrow.Author.Tests.{lt-ltb, le-ltb, ne_eqb}
use lib.ListN.{length, get_or, set}
use Rattle.codes.specs.Registers.{SR, SP, PC}
use Rattle.isa.specs.Opcodes.{table}
use Rattle.isa.specs.declared.Instruction.{Instruction}
use Rattle.isa.specs.declared.Opcode.{Opcode}
use Rattle.isa.specs.declared.Opcode.TheVariants as O
use Rattle.isa.specs.declared.Operand.{Operand}
use Rattle.isa.specs.declared.Operand.TheVariants.{Absent, Immediate, Register, Memory, Indirect, Relative}
use Rattle.arithmetic.specs.Operations as Op
use Rattle.arithmetic.proofs.Laws.{ADD-fits}
use Rattle.effects.proofs.Laws.{register-written, flags-after}
use Rattle.effects.specs.Seen.{see}
use Rattle.effects.specs.Places.{plus, place_of, value_at, there_in, target_of}
use Rattle.effects.specs.Conditions as C
use Rattle.effects.specs.Stack.{push_cell, pushed_sp, pop_cell, popped_sp}
use Rattle.effects.specs.Effects.{goes_to, writes, pushes, pops, by_opcode, addresses_there, perform_of}
use Rattle.effects.specs.Applied.{registers_after, memory_after}
use Rattle.effects.specs.declared.Effect.{Effect}
use Rattle.std.proofs.Common.{Option, Some, None}
use Rattle.effects.specs.declared.Performed.{Performed}
use Rattle.effects.specs.declared.Performed.TheVariants.{Does, Halts, Asks, Stops}
use Rattle.effects.specs.declared.Place.{Place}
use Rattle.effects.specs.declared.Place.TheVariants.{Nowhere, InRegister, InCell}

-- "two replies meeting it coincide", of any of these promises
pub replies-coincide : {A : Type 0} {meaning r s : A} → r ≡ meaning → s ≡ meaning → r ≡ s
replies-coincide p q = p ∙ sym q

abbrev two : Opcode → Operand → Operand → Instruction
two o a b = record { op = o; first = a; second = b }

abbrev one : Opcode → Operand → Instruction
one o a = two o a Absent

abbrev effect : ℕ → ℕ → Place → ℕ → Option ℕ → Performed
effect next sp to v fl = Does (record { next = next; sp = sp; to = to; value = v; flags = fl })

-- registers and memory after what an instruction comes to
abbrev registers_by : List ℕ → Performed → List ℕ
registers_by r (Does e) = registers_after r e
registers_by r Halts = r
registers_by r (Asks q) = r
registers_by r (Stops k) = r

abbrev memory_by : List ℕ → Performed → List ℕ
memory_by m (Does e) = memory_after m e
memory_by m Halts = m
memory_by m (Asks q) = m
memory_by m (Stops k) = m

-- stop 5 either way
either_way : (t : Bool) → cond (t && true) (Stops 5) (Stops 5) ≡ Stops 5
either_way true = refl
either_way false = refl

module _ (r m : List ℕ) (next : ℕ) where
  -- ---- the stack

  -- "PUSH stores at SP, then SP falls", whatever is pushed
  pub push : (a : Operand) → there_in (length m) (place_of r next a) ≡ true → get_or r SP 0 < length m →
      perform_of r m next (one O.PUSH a) ≡
      effect next ((get_or r SP 0 + 65535) % 65536) (InCell (get_or r SP 0)) (value_at r m next (place_of r next a)) None
  unfolding perform_of addresses_there table place_of there_in by_opcode pushes push_cell pushed_sp writes
  push a t h = rw (t, lt-ltb (get_or r SP 0) (length m) h)

  -- "POP raises SP, then reads", wherever the number goes
  pub pop : (a : Operand) → there_in (length m) (place_of r next a) ≡ true → (get_or r SP 0 + 1) % 65536 < length m →
      perform_of r m next (one O.POP a) ≡
      Does (writes next ((get_or r SP 0 + 1) % 65536) (place_of r next a) (get_or m ((get_or r SP 0 + 1) % 65536) 0) None)
  unfolding perform_of addresses_there table place_of there_in by_opcode pops pop_cell popped_sp
  pop a t h = rw (t, lt-ltb ((get_or r SP 0 + 1) % 65536) (length m) h)

  -- "`POP .SP` ends with the popped number"
  pub pop_SP : length r ≡ 16 → (get_or r SP 0 + 1) % 65536 < length m →
      get_or (registers_by r (perform_of r m next (one O.POP (Register SP)))) SP 0 ≡ get_or m ((get_or r SP 0 + 1) % 65536) 0
  unfolding perform_of addresses_there table place_of there_in by_opcode pops pop_cell popped_sp writes
  pop_SP l h =
      let sp = (get_or r SP 0 + 1) % 65536 in
      let e : Effect = record { next = next; sp = sp; to = InRegister SP; value = get_or m sp 0; flags = None } in
      rw (lt-ltb sp (length m) h) (register-written r e SP l refl (omega arith) (λ q. omega arith) (λ q. omega arith))

  -- "PUSH stores at SP, then SP falls": `PUSH .SP` stores the SP of before
  pub push_SP : get_or r SP 0 < length m →
      perform_of r m next (one O.PUSH (Register SP)) ≡
      effect next ((get_or r SP 0 + 65535) % 65536) (InCell (get_or r SP 0)) (get_or r SP 0) None
  unfolding perform_of addresses_there table place_of there_in value_at see by_opcode pushes push_cell pushed_sp writes
  push_SP h = rw (lt-ltb (get_or r SP 0) (length m) h)

  -- "POP's operand address is found first": `POP [.SP]` writes to the cell at the SP of before
  pub pop_at_SP : get_or r SP 0 < length m → (get_or r SP 0 + 1) % 65536 < length m →
      memory_by m (perform_of r m next (one O.POP (Indirect SP))) ≡ set m (get_or r SP 0) (get_or m ((get_or r SP 0 + 1) % 65536) 0)
  unfolding perform_of addresses_there table place_of there_in see by_opcode pops pop_cell popped_sp writes memory_after
  pop_at_SP h k = rw (lt-ltb (get_or r SP 0) (length m) h, lt-ltb ((get_or r SP 0 + 1) % 65536) (length m) k)

  -- "CALL pushes the next address", modulo 65536, and goes to its target, whatever that is
  pub calls : (a : Operand) → get_or r SP 0 < length m →
      perform_of r m next (one O.CALL a) ≡
      effect (target_of (place_of r next a)) ((get_or r SP 0 + 65535) % 65536) (InCell (get_or r SP 0)) (next % 65536) None
  unfolding perform_of addresses_there table by_opcode pushes push_cell pushed_sp writes
  calls a h = rw (lt-ltb (get_or r SP 0) (length m) h)

  -- `CALL /a`
  pub call : (a : ℕ) → get_or r SP 0 < length m →
      perform_of r m next (one O.CALL (Memory a)) ≡
      effect a ((get_or r SP 0 + 65535) % 65536) (InCell (get_or r SP 0)) (next % 65536) None
  unfolding perform_of addresses_there table place_of target_of by_opcode pushes push_cell pushed_sp writes
  call a h = rw (lt-ltb (get_or r SP 0) (length m) h)

  -- `CALL [.SP]` goes to the address that SP held
  pub call_at_SP : get_or r SP 0 < length m →
      perform_of r m next (one O.CALL (Indirect SP)) ≡
      effect (get_or r SP 0) ((get_or r SP 0 + 65535) % 65536) (InCell (get_or r SP 0)) (next % 65536) None
  unfolding perform_of addresses_there table place_of target_of see by_opcode pushes push_cell pushed_sp writes
  call_at_SP h = rw (lt-ltb (get_or r SP 0) (length m) h)

  -- RET takes the popped number for the next PC
  pub ret : (get_or r SP 0 + 1) % 65536 < length m →
      perform_of r m next (two O.RET Absent Absent) ≡
      effect (get_or m ((get_or r SP 0 + 1) % 65536) 0) ((get_or r SP 0 + 1) % 65536) Nowhere (get_or m ((get_or r SP 0 + 1) % 65536) 0) None
  unfolding perform_of addresses_there table place_of there_in by_opcode pops pop_cell popped_sp writes
  ret h = rw (lt-ltb ((get_or r SP 0 + 1) % 65536) (length m) h)

  -- ---- PC, SR and the flags

  -- "A write to register PC gives the next PC"
  pub move_to_PC : (v : ℕ) → perform_of r m next (two O.MOVE (Immediate v) (Register PC)) ≡ effect v (get_or r SP 0) Nowhere v None
  unfolding perform_of addresses_there table place_of there_in value_at by_opcode writes
  move_to_PC v = refl

  -- "set Z, S, P .. after storing it; H stays": `INC .SR` ends with the flags of the whole result, and H
  pub inc_SR : length r ≡ 16 →
      get_or (registers_by r (perform_of r m next (one O.INC (Register SR)))) SR 0 ≡ (Op.INC (get_or r SR 0)).flags + get_or r SR 0 / 32 * 32
  unfolding perform_of addresses_there table place_of there_in value_at see by_opcode writes
  inc_SR l =
      let o = Op.INC (get_or r SR 0) in
      let e : Effect = record { next = next; sp = get_or r SP 0; to = InRegister SR; value = o.value; flags = Some o.flags } in
      omega (arith, flags-after r e o.flags l refl, (ADD-fits (get_or r SR 0) 1).flags)

  -- "Arithmetic and CMP set ..": CMP sets the flags alone
  pub compare : (x y : ℕ) →
      perform_of r m next (two O.CMP (Immediate x) (Immediate y)) ≡ effect next (get_or r SP 0) Nowhere 0 (Some (Op.CMP x y))
  unfolding perform_of addresses_there table place_of there_in value_at by_opcode writes
  compare x y = refl

  -- "logic and moves set none"
  pub not_register : (k : ℕ) → (k ≡ PC → ⊥) →
      perform_of r m next (one O.NOT (Register k)) ≡ effect next (get_or r SP 0) (InRegister k) (65535 - get_or r k 0) None
  unfolding perform_of addresses_there table place_of there_in value_at see by_opcode writes
  not_register k h = rw (ne_eqb k PC h)

  -- ---- branches

  -- "Branch .. targets are addresses, never a cell's content": `BR /x` goes to x
  pub branch_to : (x : ℕ) → perform_of r m next (one O.BR (Memory x)) ≡ effect x (get_or r SP 0) Nowhere 0 None
  unfolding perform_of addresses_there table place_of target_of by_opcode goes_to
  branch_to x = refl

  -- taken, a branch goes to its target, and else to the next address; no target is outside memory before it is the next PC
  abbrev branches : Bool → Operand → Performed
  branches taken a = effect (cond taken (target_of (place_of r next a)) next) (get_or r SP 0) Nowhere 0 None

  -- one line for each condition, whatever the target
  pub record Branches (a : Operand) : Type 0 where
    pub BZ : perform_of r m next (one O.BZ a) ≡ branches (C.flag_z (get_or r SR 0)) a
    pub BNZ : perform_of r m next (one O.BNZ a) ≡ branches (not (C.flag_z (get_or r SR 0))) a
    -- "BP being S=0"
    pub BP : perform_of r m next (one O.BP a) ≡ branches (not (C.flag_s (get_or r SR 0))) a
    pub BNP : perform_of r m next (one O.BNP a) ≡ branches (C.flag_s (get_or r SR 0) || C.flag_z (get_or r SR 0)) a
    pub BN : perform_of r m next (one O.BN a) ≡ branches (C.flag_s (get_or r SR 0)) a
    -- "and BNN S=0 or Z=1"
    pub BNN : perform_of r m next (one O.BNN a) ≡ branches (not (C.flag_s (get_or r SR 0)) || C.flag_z (get_or r SR 0)) a
    pub BV : perform_of r m next (one O.BV a) ≡ branches (C.flag_v (get_or r SR 0)) a
    pub BNV : perform_of r m next (one O.BNV a) ≡ branches (not (C.flag_v (get_or r SR 0))) a
    pub BC : perform_of r m next (one O.BC a) ≡ branches (C.flag_c (get_or r SR 0)) a
    pub BNC : perform_of r m next (one O.BNC a) ≡ branches (not (C.flag_c (get_or r SR 0))) a
    pub BE : perform_of r m next (one O.BE a) ≡ branches (not (C.flag_p (get_or r SR 0))) a
    pub BO : perform_of r m next (one O.BO a) ≡ branches (C.flag_p (get_or r SR 0)) a

  pub conditions : (a : Operand) → Branches a
  unfolding perform_of addresses_there table by_opcode goes_to
  conditions a =
      record {
        BZ = refl;
        BNZ = refl;
        BP = refl;
        BNP = refl;
        BN = refl;
        BNN = refl;
        BV = refl;
        BNV = refl;
        BC = refl;
        BNC = refl;
        BE = refl;
        BO = refl;
      }

  -- a branch not taken goes to the next address, whatever its target
  pub not_taken : (a : Operand) → C.flag_z (get_or r SR 0) ≡ false → perform_of r m next (one O.BZ a) ≡ effect next (get_or r SP 0) Nowhere 0 None
  not_taken a z = rw z at (conditions a).BZ

  -- ---- stops

  -- "operand addresses (5 ..), 6": an operand outside memory comes before a zero divisor
  pub outside-first : (a : ℕ) → length m ≤ a → perform_of r m next (two O.DIV (Memory a) (Immediate 0)) ≡ Stops 5
  unfolding perform_of addresses_there table place_of there_in
  outside-first a h = rw (le-ltb a (length m) h)

  -- "6 zero divisor", the operands being there: DIV and MOD
  pub zero-divisor : (a b : Operand) → there_in (length m) (place_of r next a) ≡ true → there_in (length m) (place_of r next b) ≡ true →
      value_at r m next (place_of r next b) ≡ 0 → perform_of r m next (two O.DIV a b) ≡ Stops 6
  unfolding perform_of addresses_there table by_opcode Op.DIV
  zero-divisor a b h k z = rw (h, k, z)

  pub zero_divisor_of_MOD : (a b : Operand) → there_in (length m) (place_of r next a) ≡ true → there_in (length m) (place_of r next b) ≡ true →
      value_at r m next (place_of r next b) ≡ 0 → perform_of r m next (two O.MOD a b) ≡ Stops 6
  unfolding perform_of addresses_there table by_opcode Op.MOD
  zero_divisor_of_MOD a b h k z = rw (h, k, z)

  -- "stack (5)": a cell at or past M, wherever the operand is, since one outside memory is 5 too
  pub push-past : (a : Operand) → length m ≤ get_or r SP 0 → perform_of r m next (one O.PUSH a) ≡ Stops 5
  unfolding perform_of addresses_there table place_of there_in by_opcode pushes push_cell
  push-past a h = rw (le-ltb (get_or r SP 0) (length m) h) (either_way (there_in (length m) (place_of r next a)))

  pub pop-past : (a : Operand) → length m ≤ (get_or r SP 0 + 1) % 65536 → perform_of r m next (one O.POP a) ≡ Stops 5
  unfolding perform_of addresses_there table place_of there_in by_opcode pops pop_cell
  pop-past a h = rw (le-ltb ((get_or r SP 0 + 1) % 65536) (length m) h) (either_way (there_in (length m) (place_of r next a)))

  pub call-past : (a : Operand) → length m ≤ get_or r SP 0 → perform_of r m next (one O.CALL a) ≡ Stops 5
  unfolding perform_of addresses_there table by_opcode pushes push_cell
  call-past a h = rw (le-ltb (get_or r SP 0) (length m) h)

  pub ret-past : length m ≤ (get_or r SP 0 + 1) % 65536 → perform_of r m next (two O.RET Absent Absent) ≡ Stops 5
  unfolding perform_of addresses_there table place_of there_in by_opcode pops pop_cell
  ret-past h = rw (le-ltb ((get_or r SP 0 + 1) % 65536) (length m) h)

-- CALL at the top of a memory of 65,536 pushes 0
pub call_at_top : (r m : List ℕ) (a : ℕ) → get_or r SP 0 < length m →
    perform_of r m 65536 (one O.CALL (Memory a)) ≡ effect a ((get_or r SP 0 + 65535) % 65536) (InCell (get_or r SP 0)) 0 None
call_at_top r m a h = call r m 65536 a h

-- and `.PC` reads 0 there
pub PC_at_top : (r : List ℕ) → see r 65536 PC ≡ 0
unfolding see
PC_at_top r = refl

-- "Addresses add modulo 65536": `BR $10` with 65532 after it goes to 6
pub wraps : (r m : List ℕ) → perform_of r m 65532 (one O.BR (Relative 10)) ≡ effect 6 (get_or r SP 0) Nowhere 0 None
unfolding perform_of addresses_there table place_of target_of plus see by_opcode goes_to
wraps r m = refl
