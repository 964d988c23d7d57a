-- The 44 words of statements and the 16 names of registers (01, "Rules of writing" and "Layout").
use Rattle.std.specs.Prelude.{ℕ, suc, ◌-◌, Bool, true, false, cond, ◌&&◌, List, [], ◌∷◌, ◌++◌, map, eqb}
use Prim.Native.Char.{code}
use Prim.Native.String.{String}
use Rattle.numerals.specs.Bytes.{bytes, between}
use Rattle.isa.specs.Opcodes.{table, opcodes}
use Rattle.isa.specs.declared.Opcode.{Opcode}
use Rattle.names.specs.declared.Word.{Word}
use Rattle.names.specs.declared.Word.TheVariants.{Instructs, Org, Equ, Res, Data, End, Unknown}

-- "Labels keep case; other words don't": a small letter counts as its capital
unfoldable pub capital : ℕ → ℕ
capital b = cond (between (code "a") (code "z") b) (b - 32) b

-- two words are byte by byte the same
abbrev pub same : List ℕ → List ℕ → Bool
same [] [] = true
same [] (y ∷ ys) = false
same (x ∷ xs) [] = false
same (x ∷ xs) (y ∷ ys) = eqb x y && same xs ys

-- a word of a line is one of the names, which are in capitals
unfoldable pub is_named : List ℕ → String → Bool
is_named w name = same (map capital w) (bytes name)

-- ---- the statement's word

pub record Entry : Type 0 where
  pub name : String
  pub word : Word

abbrev entry : String → Word → Entry
entry name word = record { name = name; word = word }

abbrev pub opcode_entry : Opcode → Entry
opcode_entry o = entry (table o).name (Instructs o)

-- the 39 opcodes and the 5 directives
unfoldable pub statement_words : List Entry
statement_words = map opcode_entry opcodes ++ (entry "ORG" Org ∷ entry "EQU" Equ ∷ entry "RES" Res ∷ entry "DATA" Data ∷ entry "END" End ∷ [])

unfoldable pub word_in : List ℕ → List Entry → Word
word_in w [] = Unknown
word_in w (e ∷ es) = cond (is_named w e.name) e.word (word_in w es)

unfoldable pub word_of : List ℕ → Word
word_of w = word_in w statement_words

-- ---- registers

-- "Registers: R0..R9 0..9, A 10, SR 11, IX 12, IY 13, SP 14, PC 15": a register's code is its place here
unfoldable pub registers : List String
registers = "R0" ∷ "R1" ∷ "R2" ∷ "R3" ∷ "R4" ∷ "R5" ∷ "R6" ∷ "R7" ∷ "R8" ∷ "R9" ∷ "A" ∷ "SR" ∷ "IX" ∷ "IY" ∷ "SP" ∷ "PC" ∷ []

-- the place of the name that a word is; their number where it is none
unfoldable pub place_in : List ℕ → List String → ℕ
place_in w [] = 0
place_in w (name ∷ names) = cond (is_named w name) 0 (suc (place_in w names))

-- a register's code, or 16
unfoldable pub register_code : List ℕ → ℕ
register_code w = place_in w registers
