-- A step in a reader's words: what stands at PC, where its operands are, and what a step that completes leaves. Assumes nothing.
use mathlib.Core.Path.{◌≡◌, refl, ap}
use mathlib.Core.Bool.{true, cond}
use mathlib.Core.List.{List}
use Prim.Native.Nat.{ℕ, ◌+◌, ◌*◌, ◌/◌, ◌%◌, ◌≤◌, ◌<◌}
use borrow.Author.Tests.{lt-ltb, le-ltb, ne_eqb}
use lib.Dec.{ltb}
use lib.ListN.{length, get_or, set}
use lib.Seq.{set-get_or}
use Rattle.codes.specs.Registers.{SR, SP, PC}
use Rattle.isa.specs.Decoding.{decode_of}
use Rattle.std.proofs.Common.{None, Ok}
use Rattle.isa.specs.declared.Instruction.{Instruction}
use Rattle.isa.specs.declared.Opcode.{Opcode}
use Rattle.isa.specs.declared.Operand.{Operand}
use Rattle.isa.specs.declared.Operand.TheVariants.{Absent}
use Rattle.effects.specs.Places.{place_of, value_at, there_in}
use Rattle.effects.specs.Effects.{writes}
use Rattle.effects.specs.Applied.{keeping_h, with_register, registers_after, memory_after}
use Rattle.effects.specs.declared.Effect.{Effect}
use Rattle.effects.specs.declared.Place.{Place}
use Rattle.effects.specs.declared.Place.TheVariants.{Nowhere, InRegister, InCell}
use Rattle.machine.specs.States.{State, state, machine, register}
use Rattle.machine.specs.Stops.{Answer, answer}
use Rattle.machine.specs.Steps.{stop_at, does, goes_on}

-- an instruction with two operands, with one, and with none
abbrev pub two : Opcode → Operand → Operand → Instruction
two o a b = record { op = o; first = a; second = b }

abbrev pub one : Opcode → Operand → Instruction
one o a = two o a Absent

abbrev pub alone : Opcode → Instruction
alone o = two o Absent Absent

-- such an instruction stands at PC, and `next` is the address after it
abbrev pub Reads : State → Instruction → ℕ → Type 0
Reads s i next = decode_of s.memory (register s PC) ≡ Ok (record { instruction = i; next = (record { 0 = next }) })

-- where its operand is, what stands there, and that it is no cell outside memory
abbrev pub place_in : State → ℕ → Operand → Place
place_in s next a = place_of s.registers.r next a

abbrev pub value_in : State → ℕ → Operand → ℕ
value_in s next a = value_at s.registers.r s.memory next (place_in s next a)

abbrev pub There : State → ℕ → Operand → Type 0
There s next a = there_in (length s.memory) (place_in s next a) ≡ true

-- "After a step PC is kept modulo 65536; .. a next PC≥M before that reduction is stop 5 with the step kept": a step that completes
-- with a next PC, and with these registers but for PC, positions, memory and output
abbrev pub kept : ℕ → ℕ → List ℕ → ℕ → ℕ → List ℕ → List ℕ → Answer
kept size next r taken written m out =
    answer (state (machine (set r PC (next % 65536)) (cond (ltb next size) 0 5) taken written) m out) (cond (ltb next size) 0 5) true

-- one that takes no input and gives no output
abbrev pub completes : State → List ℕ → List ℕ → ℕ → Answer
completes s r m next = kept (length s.memory) next r s.registers.taken s.registers.written m s.output

-- ---- by the next PC

module _ (size next : ℕ) (r : List ℕ) (taken written : ℕ) (m out : List ℕ) where
  pub kept-within : next < size → kept size next r taken written m out ≡ answer (state (machine (set r PC (next % 65536)) 0 taken written) m out) 0 true
  kept-within h = rw (lt-ltb next size h)

  pub kept-past : size ≤ next → kept size next r taken written m out ≡ answer (state (machine (set r PC (next % 65536)) 5 taken written) m out) 5 true
  kept-past h = rw (le-ltb next size h)

-- ---- what an effect leaves

module _ (s : State) (next sp v taken written : ℕ) where
  abbrev effect : Place → Effect
  effect to = record { next = next; sp = sp; to = to; value = v; flags = None }

  abbrev keeps : List ℕ → List ℕ → Answer
  keeps r m = kept (length s.memory) next r taken written m s.output

  pub does-nowhere : does s (effect Nowhere) taken written ≡ keeps (set s.registers.r SP sp) s.memory
  unfolding does stop_at registers_after memory_after
  does-nowhere = refl

  pub does-cell : (a : ℕ) → does s (effect (InCell a)) taken written ≡ keeps (set s.registers.r SP sp) (set s.memory a v)
  unfolding does stop_at registers_after memory_after
  does-cell a = refl

  pub does-register : (k : ℕ) → (k ≡ SR → ⊥) → does s (effect (InRegister k)) taken written ≡ keeps (set (set s.registers.r SP sp) k v) s.memory
  unfolding does stop_at registers_after memory_after with_register
  does-register k h = rw (ne_eqb k SR h)

  -- "Writing SR sets bits 0..4 and keeps H"
  pub does_SR : does s (effect (InRegister SR)) taken written ≡
      keeps (set (set s.registers.r SP sp) SR (v % 32 + get_or (set s.registers.r SP sp) SR 0 / 32 * 32)) s.memory
  unfolding does stop_at registers_after memory_after with_register keeping_h
  does_SR = refl

-- a register other than PC is written as it is named
pub writes-register : (next sp k v : ℕ) → (k ≡ PC → ⊥) →
    writes next sp (InRegister k) v None ≡ record { next = next; sp = sp; to = InRegister k; value = v; flags = None }
unfolding writes
writes-register next sp k v h = rw (ne_eqb k PC h)

-- where SP is written back as it was
pub same_SP : (r : List ℕ) (leaves : List ℕ → Answer) → leaves (set r SP (get_or r SP 0)) ≡ leaves r
same_SP r leaves = ap leaves (set-get_or r SP 0)

-- and what input and output leave that write no place
pub goes_on_lem : (s : State) (next taken written : ℕ) (m out : List ℕ) →
    goes_on s next taken written m out ≡ kept (length s.memory) next s.registers.r taken written m out
unfolding goes_on stop_at
goes_on_lem s next taken written m out = refl
