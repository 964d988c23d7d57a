-- "6, stack (5)" (01): what a step is that stops after its operands' addresses and before input and output. Assumes nothing.
use mathlib.Core.Path.{◌≡◌}
use mathlib.Core.Bool.{true}
use mathlib.Core.List.{List}
use Prim.Native.Nat.{ℕ, ◌+◌, ◌%◌, ◌≤◌}
use lib.ListN.{length}
use Rattle.codes.specs.Registers.{SP}
use Rattle.isa.specs.declared.Instruction.{Instruction}
use Rattle.isa.specs.declared.Opcode.TheVariants as O
use Rattle.isa.specs.declared.Operand.{Operand}
use Rattle.effects.specs.Effects.{perform_of}
use Rattle.effects.specs.declared.Performed.TheVariants.{Stops}
use Rattle.effects.proofs.Top as effects
use Rattle.machine.specs.States.{State, register}
use Rattle.machine.specs.Stops.{good_loan, refuses}
use Rattle.machine.specs.Steps.{step_of}
use Rattle.machine.proofs.Kept.{two, one, alone, Reads, value_in, There}
use Rattle.machine.proofs.Completed.{comes_to}

module _ (input : List ℕ) (s : State) (good : good_loan input s ≡ true) (runs : s.registers.stop ≡ 0) (next : ℕ) where
  abbrev r : List ℕ
  r = s.registers.r

  abbrev m : List ℕ
  m = s.memory

  pub stops : {i : Instruction} (k : ℕ) → Reads s i next → perform_of r m next i ≡ Stops k → step_of input s ≡ refuses s k
  stops k read e = comes_to input s good runs next (Stops k) read e

  -- ---- "6"

  pub DIV_by_zero : (a b : Operand) → Reads s (two O.DIV a b) next → There s next a → There s next b → value_in s next b ≡ 0 →
      step_of input s ≡ refuses s 6
  DIV_by_zero a b read p q z = stops 6 read (effects.zero-divisor r m next a b p q z)

  pub MOD_by_zero : (a b : Operand) → Reads s (two O.MOD a b) next → There s next a → There s next b → value_in s next b ≡ 0 →
      step_of input s ≡ refuses s 6
  MOD_by_zero a b read p q z = stops 6 read (effects.zero_divisor_of_MOD r m next a b p q z)

  -- ---- "stack (5)"

  pub PUSH-past : (a : Operand) → Reads s (one O.PUSH a) next → length m ≤ register s SP → step_of input s ≡ refuses s 5
  PUSH-past a read h = stops 5 read (effects.push-past r m next a h)

  pub CALL-past : (a : Operand) → Reads s (one O.CALL a) next → length m ≤ register s SP → step_of input s ≡ refuses s 5
  CALL-past a read h = stops 5 read (effects.call-past r m next a h)

  pub POP-past : (a : Operand) → Reads s (one O.POP a) next → length m ≤ (register s SP + 1) % 65536 → step_of input s ≡ refuses s 5
  POP-past a read h = stops 5 read (effects.pop-past r m next a h)

  pub RET-past : Reads s (alone O.RET) next → length m ≤ (register s SP + 1) % 65536 → step_of input s ≡ refuses s 5
  RET-past read h = stops 5 read (effects.ret-past r m next h)
