-- The table of the 39 opcodes: number, name, and what each operand may be (01, "Layout"; manual 5).
--
--   Nothing      no operand                        Place    /v [.reg] #v[.IX] #v[.IY] #v[.SP]   (modes 3-7)
--   Source       any operand (modes 1-7)           Target   /v [.reg] $v                        (modes 3, 4, 7)
--   Destination  all but an immediate (modes 2-7)
use Rattle.std.specs.Prelude.{ℕ, ◌+◌, List, [], ◌∷◌, cond, ltb, get_or}
use Prim.Native.String.{String}
use Rattle.isa.specs.declared.Opcode.{Opcode}
use Rattle.isa.specs.declared.Opcode.TheVariants.{NOP, HALT, MOVE, PUSH, POP, ADD, SUB, MUL, DIV, MOD, INC, DEC, NEG, CMP, AND, OR, XOR, NOT}
use Rattle.isa.specs.declared.Opcode.TheVariants.{BR, BZ, BNZ, BP, BNP, BN, BNN, BV, BNV, BC, BNC, BE, BO, CALL, RET}
use Rattle.isa.specs.declared.Opcode.TheVariants.{INCHAR, ININT, INSTR, WRCHAR, WRINT, WRSTR}
use Rattle.std.specs.Prelude.{Option, Some, None}
use Rattle.isa.specs.declared.Row.{Row}
use Rattle.isa.specs.declared.Kinds.{Kinds}
use Rattle.isa.specs.declared.Kinds.TheVariants.{Nothing, Source, Destination, Place, Target}

pub record Line : Type 0 where
  pub number : ℕ
  pub name : String
  pub first : Kinds
  pub second : Kinds

abbrev row : ℕ → String → Kinds → Kinds → Line
row n t a b = record { number = n; name = t; first = a; second = b }

unfoldable pub table : Opcode → Line
table NOP = row 0 "NOP" Nothing Nothing
table HALT = row 1 "HALT" Nothing Nothing
table MOVE = row 2 "MOVE" Source Destination
table PUSH = row 3 "PUSH" Source Nothing
table POP = row 4 "POP" Destination Nothing
table ADD = row 5 "ADD" Source Source
table SUB = row 6 "SUB" Source Source
table MUL = row 7 "MUL" Source Source
table DIV = row 8 "DIV" Source Source
table MOD = row 9 "MOD" Source Source
table INC = row 10 "INC" Destination Nothing
table DEC = row 11 "DEC" Destination Nothing
table NEG = row 12 "NEG" Destination Nothing
table CMP = row 13 "CMP" Source Source
table AND = row 14 "AND" Source Source
table OR = row 15 "OR" Source Source
table XOR = row 16 "XOR" Source Source
table NOT = row 17 "NOT" Destination Nothing
table BR = row 18 "BR" Target Nothing
table BZ = row 19 "BZ" Target Nothing
table BNZ = row 20 "BNZ" Target Nothing
table BP = row 21 "BP" Target Nothing
table BNP = row 22 "BNP" Target Nothing
table BN = row 23 "BN" Target Nothing
table BNN = row 24 "BNN" Target Nothing
table BV = row 25 "BV" Target Nothing
table BNV = row 26 "BNV" Target Nothing
table BC = row 27 "BC" Target Nothing
table BNC = row 28 "BNC" Target Nothing
table BE = row 29 "BE" Target Nothing
table BO = row 30 "BO" Target Nothing
table CALL = row 31 "CALL" Target Nothing
table RET = row 32 "RET" Nothing Nothing
table INCHAR = row 33 "INCHAR" Destination Nothing
table ININT = row 34 "ININT" Destination Nothing
table INSTR = row 35 "INSTR" Place Nothing
table WRCHAR = row 36 "WRCHAR" Source Nothing
table WRINT = row 37 "WRINT" Source Nothing
table WRSTR = row 38 "WRSTR" Place Nothing

-- the opcodes in the order of their numbers
unfoldable pub opcodes : List Opcode
opcodes =
    NOP ∷ HALT ∷ MOVE ∷ PUSH ∷ POP ∷ ADD ∷ SUB ∷ MUL ∷ DIV ∷ MOD ∷ INC ∷ DEC ∷ NEG ∷ CMP ∷ AND ∷ OR ∷ XOR ∷ NOT ∷
    BR ∷ BZ ∷ BNZ ∷ BP ∷ BNP ∷ BN ∷ BNN ∷ BV ∷ BNV ∷ BC ∷ BNC ∷ BE ∷ BO ∷ CALL ∷ RET ∷
    INCHAR ∷ ININT ∷ INSTR ∷ WRCHAR ∷ WRINT ∷ WRSTR ∷ []

-- the opcode of a number below 39
unfoldable pub opcode_of : ℕ → Opcode
opcode_of n = get_or opcodes n NOP

-- the opcode of a number, if there is one
unfoldable pub found_of : ℕ → Option Opcode
found_of n = cond (ltb n 39) (Some (opcode_of n)) None

-- the table's line without the name, as the code hands it on
abbrev pub row_of : Opcode → Row
row_of o = record { number = (table o).number; first = (table o).first; second = (table o).second }

-- an operand is there
abbrev pub present_in : Kinds → ℕ
present_in Nothing = 0
present_in Source = 1
present_in Destination = 1
present_in Place = 1
present_in Target = 1

-- "opcode's operand count" (01, refusal 5)
unfoldable pub count_of : Opcode → ℕ
count_of o = present_in (table o).first + present_in (table o).second
