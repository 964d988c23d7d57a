-- What is judged of an opcode's operands once their form is right (01, "Refusing a source"): 5, "opcode's operand count, or kind
-- not allowed", then 6, "number .. out of range". Of 5 it is told which, and of kinds the first that is wrong (02, K4).
use Rattle.std.specs.Prelude.{ℕ, Bool, cond, ◌&&◌, List, [], ◌∷◌, eqb, length, get_or}
use Rattle.numerals.specs.Numbers.{kept_of}
use Rattle.std.specs.Prelude.{Option, Some, None, Result, Ok, Err}
use Rattle.operands.specs.declared.Operands.{Operands}
use Rattle.values.specs.declared.Name.{Name}
use Rattle.operands.specs.declared.OperandsFault.{OperandsFault}
use Rattle.operands.specs.declared.OperandsFault.TheVariants.{WrongForm, WrongCount, WrongKind, OutOfRange}
use Rattle.numerals.specs.declared.Numeral.{Numeral}
use Rattle.isa.specs.Opcodes.{table, count_of}
use Rattle.isa.specs.Operands.{allows}
use Rattle.isa.specs.declared.Kinds.{Kinds}
use Rattle.isa.specs.declared.Kinds.TheVariants.{Nothing}
use Rattle.isa.specs.declared.Opcode.{Opcode}
use Rattle.isa.specs.declared.Operand.{Operand}
use Rattle.isa.specs.declared.Operand.TheVariants as O
use Rattle.tokens.specs.declared.Token.{Token}
use Rattle.values.specs.Ranges.{displacement_of}
use Rattle.values.specs.declared.Value.{Value}
use Rattle.values.specs.declared.Value.TheVariants.{Number, Label}
use Rattle.operands.specs.Reading.{RowRead, reads, wrong, operands_of}
use Rattle.operands.specs.declared.Given.{Given}
use Rattle.operands.specs.declared.Written.{Written}
use Rattle.operands.specs.declared.Written.TheVariants.{Absent, Immediate, Register, Memory, Indirect, IndexedX, IndexedY, IndexedSp, Relative}

-- ---- number and kinds (5)

-- an operand of the kind that is written, with a word
abbrev pub operand_with : Written → ℕ → Operand
operand_with Absent w = O.Absent
operand_with (Immediate v) w = O.Immediate w
operand_with (Register r) w = O.Register w
operand_with (Memory v) w = O.Memory w
operand_with (Indirect r) w = O.Indirect w
operand_with (IndexedX v) w = O.IndexedX w
operand_with (IndexedY v) w = O.IndexedY w
operand_with (IndexedSp v) w = O.IndexedSp w
operand_with (Relative v) w = O.Relative w

abbrev pub operand_at : List Written → ℕ → Written
operand_at os i = get_or os i Absent

-- "opcode's operand count"
abbrev pub right_count : Opcode → List Written → Bool
right_count op os = eqb (length os) (count_of op)

abbrev pub kinds_at : Opcode → ℕ → Kinds
kinds_at op i = get_or ((table op).first ∷ (table op).second ∷ []) i Nothing

-- the table allows the kind of the operand at its place, which is 1 + i; else "kind not allowed"
abbrev pub kind_allowed : Opcode → List Written → ℕ → Bool
kind_allowed op os i = allows (kinds_at op i) (operand_with (operand_at os i) 0)

-- as many as the opcode has, each of a kind that the table allows at its place
unfoldable pub fits : Opcode → List Written → Bool
fits op os = right_count op os && (kind_allowed op os 0 && kind_allowed op os 1)

-- ---- ranges (6)

-- the cell that keeps a number; a label's value takes the place of the 0 later
abbrev pub cell_of : (Numeral → Option ℕ) → Value → Option ℕ
cell_of keeps (Number n) = keeps n
cell_of keeps (Label name) = Some 0

-- "one word per operand ..: value, displacement or register code"
unfoldable pub word_of : Written → Option ℕ
word_of Absent = Some 0
word_of (Immediate v) = cell_of kept_of v
word_of (Register r) = Some r
word_of (Memory v) = cell_of kept_of v
word_of (Indirect r) = Some r
word_of (IndexedX v) = cell_of displacement_of v
word_of (IndexedY v) = cell_of displacement_of v
word_of (IndexedSp v) = cell_of displacement_of v
word_of (Relative v) = cell_of displacement_of v

-- ---- the answer

abbrev pub label_of : Value → Option Name
label_of (Number n) = None
label_of (Label name) = Some name

unfoldable pub label_in : Written → Option Name
label_in Absent = None
label_in (Immediate v) = label_of v
label_in (Register r) = None
label_in (Memory v) = label_of v
label_in (Indirect r) = None
label_in (IndexedX v) = label_of v
label_in (IndexedY v) = label_of v
label_in (IndexedSp v) = label_of v
label_in (Relative v) = label_of v

abbrev pub given : Written → ℕ → Given
given o w = record { operand = operand_with o w; label = label_in o }

abbrev pub ranged : Written → Option ℕ → Written → Option ℕ → Result Operands OperandsFault
ranged a (Some x) b (Some y) = Ok (record { first = given a x; second = given b y })
ranged a (Some x) b None = Err OutOfRange
ranged a None b k = Err OutOfRange

-- the count, then the first operand's kind, then the second's: "of two operands wrong in kind the first is named" (02, K4); then 6
unfoldable pub judged : Opcode → List Written → Result Operands OperandsFault
judged op os =
    cond (right_count op os)
    (cond (kind_allowed op os 0)
    (cond (kind_allowed op os 1)
    (ranged (operand_at os 0) (word_of (operand_at os 0)) (operand_at os 1) (word_of (operand_at os 1)))
    (Err (WrongKind 2)))
    (Err (WrongKind 1)))
    (Err WrongCount)

-- form 3 first
abbrev pub judged_form : Opcode → RowRead → Result Operands OperandsFault
judged_form op (reads os) = judged op os
judged_form op wrong = Err WrongForm

unfoldable pub instruction_read : List ℕ → Opcode → List Token → Result Operands OperandsFault
instruction_read line op ts = judged_form op (operands_of line ts)

-- the paper's number for each answer: 0 where the operands pass, 3 "form, unknown registers included", "15, wrong number of operands,
-- and 16, kind not allowed" (02, K4), 6 "number .. out of range"
abbrev pub refusal_of : Result Operands OperandsFault → ℕ
refusal_of (Ok r) = 0
refusal_of (Err WrongForm) = 3
refusal_of (Err WrongCount) = 15
refusal_of (Err (WrongKind place)) = 16
refusal_of (Err OutOfRange) = 6
