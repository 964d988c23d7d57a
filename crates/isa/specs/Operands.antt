-- Operands: their modes and words, and which of them an opcode allows (01, "Layout"; manual 4 and 9.2).
use Rattle.std.specs.Prelude.{ℕ, Bool, true, false, ◌&&◌, ◌||◌, not, List, [], ◌∷◌, eqb, get_or}
use Rattle.codes.specs.Registers.{is_register}
use Rattle.isa.specs.declared.Kinds.{Kinds}
use Rattle.isa.specs.declared.Kinds.TheVariants.{Nothing, Source, Destination, Place, Target}
use Rattle.isa.specs.declared.Operand.{Operand}
use Rattle.isa.specs.declared.Operand.TheVariants.{Absent, Immediate, Register, Memory, Indirect, IndexedX, IndexedY, IndexedSp, Relative}

-- "Modes: 0 none, 1 immediate, 2 register, 3 memory, 4 indirect, 5 IX, 6 IY, 7 relative for branches and CALL, else SP-indexed"
abbrev pub mode_of : Operand → ℕ
mode_of Absent = 0
mode_of (Immediate v) = 1
mode_of (Register r) = 2
mode_of (Memory a) = 3
mode_of (Indirect r) = 4
mode_of (IndexedX d) = 5
mode_of (IndexedY d) = 6
mode_of (IndexedSp d) = 7
mode_of (Relative d) = 7

-- "one word per operand ..: value, displacement or register code"
abbrev pub operand_words : Operand → List ℕ
operand_words Absent = []
operand_words (Immediate v) = v ∷ []
operand_words (Register r) = r ∷ []
operand_words (Memory a) = a ∷ []
operand_words (Indirect r) = r ∷ []
operand_words (IndexedX d) = d ∷ []
operand_words (IndexedY d) = d ∷ []
operand_words (IndexedSp d) = d ∷ []
operand_words (Relative d) = d ∷ []

-- a register that an operand names is one of the 16
abbrev pub register_there : Operand → Bool
register_there Absent = true
register_there (Immediate v) = true
register_there (Register r) = is_register r
register_there (Memory a) = true
register_there (Indirect r) = is_register r
register_there (IndexedX d) = true
register_there (IndexedY d) = true
register_there (IndexedSp d) = true
register_there (Relative d) = true

-- "Modes 1-7 are allowed for sources, 2-7 for MOVE's second, POP, INC, DEC, NEG, NOT, INCHAR, ININT; 3-7 for INSTR,
-- WRSTR; 3, 4, 7 for branches and CALL"
abbrev pub modes_of : Kinds → List ℕ
modes_of Nothing = 0 ∷ []
modes_of Source = 1 ∷ 2 ∷ 3 ∷ 4 ∷ 5 ∷ 6 ∷ 7 ∷ []
modes_of Destination = 2 ∷ 3 ∷ 4 ∷ 5 ∷ 6 ∷ 7 ∷ []
modes_of Place = 3 ∷ 4 ∷ 5 ∷ 6 ∷ 7 ∷ []
modes_of Target = 3 ∷ 4 ∷ 7 ∷ []

abbrev pub one_of : List ℕ → ℕ → Bool
one_of [] n = false
one_of (x ∷ xs) n = eqb n x || one_of xs n

-- mode 7 is "relative for branches and CALL, else SP-indexed"
abbrev pub seventh : Kinds → ℕ → Operand
seventh Nothing d = IndexedSp d
seventh Source d = IndexedSp d
seventh Destination d = IndexedSp d
seventh Place d = IndexedSp d
seventh Target d = Relative d

abbrev pub is_target : Kinds → Bool
is_target Nothing = false
is_target Source = false
is_target Destination = false
is_target Place = false
is_target Target = true

-- so `$v` stands only where branches and CALL have it, and `#v[.SP]` only elsewhere
abbrev pub seventh_fits : Kinds → Operand → Bool
seventh_fits k Absent = true
seventh_fits k (Immediate v) = true
seventh_fits k (Register r) = true
seventh_fits k (Memory a) = true
seventh_fits k (Indirect r) = true
seventh_fits k (IndexedX d) = true
seventh_fits k (IndexedY d) = true
seventh_fits k (IndexedSp d) = not (is_target k)
seventh_fits k (Relative d) = is_target k

-- an operand of a kind that is allowed
unfoldable pub allows : Kinds → Operand → Bool
allows k o = one_of (modes_of k) (mode_of o) && seventh_fits k o

-- the operand of a mode below 8 and its word
unfoldable pub operand_of : Kinds → ℕ → ℕ → Operand
operand_of k mode word =
    get_or (Absent ∷ Immediate word ∷ Register word ∷ Memory word ∷ Indirect word ∷ IndexedX word ∷ IndexedY word ∷ []) mode (seventh k word)
