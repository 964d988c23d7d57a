-- An operand's label replaced by the word that it stands for (01, "Layout": "then one word per operand in order: value, displacement or register code").
use Rattle.std.specs.Prelude.{ℕ}
use Rattle.isa.specs.declared.Instruction.{Instruction}
use Rattle.isa.specs.declared.Opcode.{Opcode}
use Rattle.isa.specs.declared.Operand.{Operand}
use Rattle.isa.specs.declared.Operand.TheVariants as O
use Rattle.std.specs.Prelude.{Option, Some, None}
use Rattle.values.specs.declared.Name.{Name}
use Rattle.operands.specs.declared.Given.{Given}

-- an operand of the same kind, with another word
abbrev pub reworded : Operand → ℕ → Operand
reworded O.Absent w = O.Absent
reworded (O.Immediate v) w = O.Immediate w
reworded (O.Register r) w = O.Register w
reworded (O.Memory a) w = O.Memory w
reworded (O.Indirect r) w = O.Indirect w
reworded (O.IndexedX d) w = O.IndexedX w
reworded (O.IndexedY d) w = O.IndexedY w
reworded (O.IndexedSp d) w = O.IndexedSp w
reworded (O.Relative d) w = O.Relative w

-- that word takes the place of the 0 that stands there till labels are settled
abbrev pub settled_by : Option Name → Operand → ℕ → Operand
settled_by None o w = o
settled_by (Some name) o w = reworded o w

abbrev pub settled_operand : Given → ℕ → Operand
settled_operand g w = settled_by g.label g.operand w

-- an instruction with a word for each operand's label, in order
abbrev pub settled_instruction : Opcode → Given → Given → ℕ → ℕ → Instruction
settled_instruction op a b v w = record { op = op; first = settled_operand a v; second = settled_operand b w }
