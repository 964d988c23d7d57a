-- The order of a step's stops up to its operands' addresses, and HALT. Assumes nothing.
use mathlib.Core.Path.{◌≡◌, refl, ap, ◌∙◌}
use mathlib.Core.Bool.{Bool, true, false}
use mathlib.Core.List.{List}
use Prim.Native.Nat.{ℕ, ◌+◌, ◌≤◌, ◌<◌}
use native.Mathlib.Decide.{dec_le}
use native.Mathlib.Omega.{arith}
use lib.ListN.{length, get_or, get_or-eq_default}
use Rattle.codes.specs.Registers.{PC}
use Rattle.isa.specs.Opcodes.{table, opcodes, opcode_of}
use Rattle.isa.specs.Operands.{operand_of}
use Rattle.isa.specs.Decoding.{modes_allowed, size_in, instruction_in, registers_there, decode_of}
use Rattle.isa.specs.declared.Address.{Address}
use Rattle.isa.specs.declared.Decoded.{Decoded}
use Rattle.std.proofs.Common.{Result, Ok, Err}
use Rattle.isa.specs.declared.Undecoded.{Undecoded}
use Rattle.isa.specs.declared.Undecoded.TheVariants.{NoOpcode, NoMode, NoRegister, PastMemory}
use Rattle.isa.specs.declared.Instruction.{Instruction}
use Rattle.isa.specs.declared.Opcode.TheVariants.{HALT}
use Rattle.isa.specs.declared.Operand.TheVariants.{Absent}
use Rattle.isa.proofs.Refusals as refusals
use Rattle.effects.specs.Places.{place_of, there_in}
use Rattle.effects.specs.Effects.{by_opcode, addresses_there, perform_of}
use Rattle.machine.specs.States.{State, register}
use Rattle.machine.specs.Stops.{good_loan, refuses}
use Rattle.machine.specs.Steps.{halts, decoded, runs_on, step_of}
use Rattle.machine.proofs.Standings.{step-runs}

-- what is not 0 stands in memory: past its end every cell reads 0
holds_inside : (m : List ℕ) (at : ℕ) → 0 < get_or m at 0 → at < length m
holds_inside m at h =
    elim (dec_le (length m) at) [
      | yes l ↦ absurd (omega (arith, get_or-eq_default m 0 l))
      | no l ↦ omega arith
    ]

module _ (input : List ℕ) (s : State) (good : good_loan input s ≡ true) (z : s.registers.stop ≡ 0) where
  -- what stands at PC decides
  pub step-decoded : (d : Result Decoded Undecoded) → decode_of s.memory (register s PC) ≡ d → step_of input s ≡ decoded input s d
  unfolding runs_on
  step-decoded d e = step-runs input s good z ∙ ap (decoded input s) e

  pub PC_past : length s.memory ≤ register s PC → step_of input s ≡ refuses s 5
  PC_past h = step-decoded (Err PastMemory) (refusals.past_the_end s.memory (register s PC) h)

  pub no-opcode : 2496 ≤ get_or s.memory (register s PC) 0 → step_of input s ≡ refuses s 2
  no-opcode h = step-decoded (Err NoOpcode) (refusals.no-opcode s.memory (register s PC) h)

  pub no_mode : get_or s.memory (register s PC) 0 < 2496 → modes_allowed (get_or s.memory (register s PC) 0) ≡ false → step_of input s ≡ refuses s 3
  no_mode h n = step-decoded (Err NoMode) (refusals.no_mode s.memory (register s PC) h n)

  module _ (h : get_or s.memory (register s PC) 0 < 2496) (t : modes_allowed (get_or s.memory (register s PC) 0) ≡ true) where
    pub missing-words : length s.memory < register s PC + size_in (get_or s.memory (register s PC) 0) → step_of input s ≡ refuses s 5
    missing-words l = step-decoded (Err PastMemory) (refusals.missing-words s.memory (register s PC) h t l)

    pub no_register : register s PC + size_in (get_or s.memory (register s PC) 0) ≤ length s.memory →
        registers_there
        (instruction_in (get_or s.memory (register s PC) 0) (get_or s.memory (register s PC + 1) 0) (get_or s.memory (register s PC + 2) 0)) ≡
        false →
        step_of input s ≡ refuses s 4
    no_register l n = step-decoded (Err NoRegister) (refusals.no_register s.memory (register s PC) h t l n)

  module _ (i : Instruction) (next : Address) (read : decode_of s.memory (register s PC) ≡ Ok (record { instruction = i; next = next })) where
    abbrev addresses : Bool
    addresses =
        addresses_there (length s.memory) i.op (place_of s.registers.r next.0 i.first) (place_of s.registers.r next.0 i.second)

    pub no_address : addresses ≡ false → step_of input s ≡ refuses s 5
    unfolding perform_of
    no_address e = step-decoded (Ok (record { instruction = i; next = next })) read ∙ rw e

  -- ---- HALT

  pub HALT-completes : get_or s.memory (register s PC) 0 ≡ 64 → step_of input s ≡ halts s (register s PC + 1)
  unfolding size_in modes_allowed opcode_of opcodes table instruction_in operand_of perform_of addresses_there place_of there_in by_opcode
  HALT-completes w =
      let at : ℕ = register s PC in
      let m : List ℕ = s.memory in
      let l : at < length m = holds_inside m at (omega arith) in
      step-decoded (Ok (record { instruction = (record { op = HALT; first = Absent; second = Absent }); next = (record { 0 = at + 1 }) }))
      (refusals.whole m at 64 (record { op = HALT; first = Absent; second = Absent }) w (omega arith) refl (omega arith) refl refl)
