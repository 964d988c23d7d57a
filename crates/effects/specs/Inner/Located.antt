-- An operand as the code finds it: its place and value at once, and the stop of one that is not there.
use Rattle.std.specs.Prelude.{ℕ, cond, ◌&&◌, ◌||◌, List, eqb, length, get_or}
use Rattle.codes.specs.Registers.{SR, SP}
use Rattle.codes.specs.Stops.{none, no_register, memory_end}
use Rattle.isa.specs.Opcodes.{table}
use Rattle.isa.specs.Operands.{is_target, register_there}
use Rattle.isa.specs.Decoding.{registers_there}
use Rattle.isa.specs.declared.Instruction.{Instruction}
use Rattle.isa.specs.declared.Opcode.{Opcode}
use Rattle.isa.specs.declared.Operand.{Operand}
use Rattle.effects.specs.Places.{place_of, value_at, there_in}
use Rattle.effects.specs.Effects.{found, by_opcode, perform_of}
use Rattle.effects.specs.declared.Place.{Place}
use Rattle.effects.specs.declared.Place.TheVariants.{Nowhere}
use Rattle.effects.specs.declared.Located.{Located}
use Rattle.effects.specs.declared.Performed.{Performed}
use Rattle.effects.specs.declared.Performed.TheVariants.{Stops}

-- a place with what stands there, in a memory of a size
abbrev pub located_at : ℕ → Place → ℕ → Located
located_at size p v = record { place = p; value = v; fault = cond (there_in size p) none memory_end }

-- a register's code that no register has
abbrev pub unregistered : Located
unregistered = record { place = Nowhere; value = 0; fault = no_register }

-- an operand, found
unfoldable pub locate : List ℕ → List ℕ → ℕ → Operand → Located
locate r m next o =
    cond (register_there o) (located_at (length m) (place_of r next o) (value_at r m next (place_of r next o))) unregistered

-- the stop of two operands: "4, operand addresses (5; branch and CALL targets count only as next PC)"
unfoldable pub stop_of_faults : Opcode → ℕ → ℕ → ℕ
stop_of_faults o a b =
    cond (eqb a none && eqb b none) none
    (cond (eqb a no_register || eqb b no_register) no_register (cond (is_target (table o).first) none memory_end))

-- what an opcode comes to with operands as they were found
unfoldable pub performs_on : List ℕ → List ℕ → ℕ → Opcode → Located → Located → Performed
performs_on r m next o a b =
    cond (eqb (stop_of_faults o a.fault b.fault) none)
    (by_opcode (found m next (get_or r SP 0) (get_or r SR 0) a.place b.place a.value b.value) o)
    (Stops (stop_of_faults o a.fault b.fault))

-- what an instruction comes to, unless it names a register that is not there
unfoldable pub perform_unless : List ℕ → List ℕ → ℕ → Instruction → Performed
perform_unless r m next i = cond (registers_there i) (perform_of r m next i) (Stops no_register)
