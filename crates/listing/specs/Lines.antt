-- The lines of a listing, and how each is written (02, K1: "one instruction a line, one `DATA` number per data cell, `END` last, LF
-- after each, no labels, decimals, displacements signed").
use Rattle.std.specs.Prelude.{ℕ, ◌-◌, Bool, true, false, cond, List, [], ◌∷◌, ◌++◌, ltb, get_or}
use Prim.Native.Char.{code}
use Rattle.codes.specs.Registers.{IX, IY, SP}
use Rattle.numerals.specs.Bytes.{bytes, LF}
use Rattle.isa.specs.Opcodes.{table}
use Rattle.isa.specs.declared.Operand.{Operand}
use Rattle.isa.specs.declared.Operand.TheVariants.{Absent, Immediate, Register, Memory, Indirect, IndexedX, IndexedY, IndexedSp, Relative}
use Rattle.names.specs.Names.{registers}
use Rattle.listing.specs.Pieces.{Piece, word, number, mark, space, text_of}
use Rattle.listing.specs.declared.Entry.{Entry}
use Rattle.listing.specs.declared.Entry.TheVariants.{Origin, Instructs, Holds, Reserves, Finish}

-- ---- operands

-- a register's name, by its code
abbrev pub register_name : ℕ → List ℕ
register_name r = bytes (get_or registers r "")

-- "displacements signed": of a cell, read as two's complement
abbrev pub signed : ℕ → List Piece
signed d = cond (ltb d 32768) (number d ∷ []) (mark (code "-") ∷ number (65536 - d) ∷ [])

abbrev pub in_brackets : ℕ → List Piece
in_brackets r = mark (code "[") ∷ mark (code ".") ∷ word (register_name r) ∷ mark (code "]") ∷ []

abbrev pub register_pieces : ℕ → List Piece
register_pieces r = mark (code ".") ∷ word (register_name r) ∷ []

abbrev pub indexed_pieces : ℕ → ℕ → List Piece
indexed_pieces d r = mark (code "#") ∷ signed d ++ in_brackets r

-- `#v`, `.reg`, `/v`, `[.reg]`, `#v[.IX]`, `#v[.IY]`, `#v[.SP]`, `$v`
abbrev pub operand_pieces : Operand → List Piece
operand_pieces Absent = []
operand_pieces (Immediate v) = mark (code "#") ∷ number v ∷ []
operand_pieces (Register r) = register_pieces r
operand_pieces (Memory a) = mark (code "/") ∷ number a ∷ []
operand_pieces (Indirect r) = in_brackets r
operand_pieces (IndexedX d) = indexed_pieces d IX
operand_pieces (IndexedY d) = indexed_pieces d IY
operand_pieces (IndexedSp d) = indexed_pieces d SP
operand_pieces (Relative d) = mark (code "$") ∷ signed d

abbrev pub present : Operand → Bool
present Absent = false
present (Immediate v) = true
present (Register r) = true
present (Memory a) = true
present (Indirect r) = true
present (IndexedX d) = true
present (IndexedY d) = true
present (IndexedSp d) = true
present (Relative d) = true

-- one space behind the opcode, none behind the comma, nothing behind an opcode without operands, as in the paper's example
abbrev pub field_pieces : Operand → Operand → List Piece
field_pieces a b = cond (present a) (space ∷ operand_pieces a ++ cond (present b) (mark (code ",") ∷ operand_pieces b) []) []

-- ---- lines

-- `ORG`, an instruction, a number of `DATA`, `RES n` (02, K2), `END`
abbrev pub entry_pieces : Entry → List Piece
entry_pieces (Origin a) = word (bytes "ORG") ∷ space ∷ number a.0 ∷ []
entry_pieces (Instructs i) = word (bytes (table i.op).name) ∷ field_pieces i.first i.second
entry_pieces (Holds x) = word (bytes "DATA") ∷ space ∷ number x ∷ []
entry_pieces (Reserves n) = word (bytes "RES") ∷ space ∷ number n ∷ []
entry_pieces Finish = word (bytes "END") ∷ []

abbrev pub line_of : Entry → List ℕ
line_of e = text_of (entry_pieces e)

-- "LF after each"
unfoldable pub text_of_lines : List Entry → List ℕ
text_of_lines [] = []
text_of_lines (e ∷ es) = line_of e ++ (LF ∷ text_of_lines es)
