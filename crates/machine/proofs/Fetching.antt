-- What is fetched is what decoding reads. Assumes nothing.
use mathlib.Core.Path.{◌≡◌, refl, sym, ap, ◌∙◌}
use mathlib.Core.Bool.{Bool, true, false, cond}
use mathlib.Core.List.{List}
use Prim.Native.Nat.{ℕ}
use Rattle.codes.specs.Stops.{no_register}
use Rattle.isa.specs.Opcodes.{table}
use Rattle.isa.specs.Operands.{operand_of}
use Rattle.isa.specs.Decoding.{opcode_in, mode1_in, mode2_in, instruction_in, registers_there, read_unless}
use Rattle.std.proofs.Common.{Ok, Err}
use Rattle.isa.specs.declared.Undecoded.TheVariants.{NoRegister}
use Rattle.isa.specs.declared.Instruction.{Instruction}
use Rattle.isa.specs.declared.Opcode.{Opcode}
use Rattle.isa.proofs.Refusals.{instruction_by}
use Rattle.effects.specs.Effects.{perform_of}
use Rattle.effects.specs.Inner.Located.{locate, performs_on, perform_unless}
use Rattle.effects.specs.declared.Performed.TheVariants.{Stops}
use Rattle.effects.proofs.Performing.{performs}
use Rattle.machine.specs.States.{State}
use Rattle.machine.specs.Steps.{performed, decoded}

-- the operands of a first word's opcode, found, and what comes of them
pub fetches : (r m : List ℕ) (next w a b : ℕ) (o : Opcode) → opcode_in w ≡ o →
    performs_on r m next o (locate r m next (operand_of (table o).first (mode1_in w) a)) (locate r m next (operand_of (table o).second (mode2_in w) b)) ≡
    perform_unless r m next (instruction_in w a b)
fetches r m next w a b o e =
    performs r m next (record { op = o; first = operand_of (table o).first (mode1_in w) a; second = operand_of (table o).second (mode2_in w) b }) ∙
    ap (perform_unless r m next) (sym (instruction_by w a b o e))

-- an instruction that names a register that is not there is 4, whether decoding or what comes of it says so
pub unless : (input : List ℕ) (s : State) (i : Instruction) (after : ℕ) →
    decoded input s (read_unless i after) ≡ performed input s after (perform_unless s.registers.r s.memory after i)
unfolding read_unless perform_unless
unless input s i after = go (registers_there i)
  where
    go : (b : Bool) →
        decoded input s (cond b (Ok (record { instruction = i; next = (record { 0 = after }) })) (Err NoRegister)) ≡
        performed input s after (cond b (perform_of s.registers.r s.memory after i) (Stops no_register))
    go true = refl
    go false = refl
