-- Document 01, "Table to prove, marked set", in its order: "One table, one statement." The rows of source are read as text and assembled:
-- they speak of `Accepted`, which the promise of `assemble` cites. The rows of arithmetic speak of the operations, which the promises of
-- `arithmetic` cite and the machine's step stands on. The proof is `proofs/Top.antt`.
use Rattle.std.specs.Prelude.{ℕ, suc, ◌+◌, List, [], ◌∷◌, ◌++◌, ◌≡◌, pos, neg_ℤ, length, replicate, Some}
use Prim.Native.String.{String}
use Rattle.codes.specs.Flags.{for_z, for_c, for_v, for_p, for_s}
use Rattle.codes.specs.Marks.{free, code_mark, data_mark}
use Rattle.numerals.specs.Bytes.{bytes}
use Rattle.arithmetic.specs.Cells.{cell}
use Rattle.arithmetic.specs.Operations.{ADD, SUB, MUL, DIV}
use Rattle.arithmetic.specs.declared.Outcome.{Outcome}
use Rattle.sources.specs.Image.{Accepted}

-- ---- rows of source

-- memory and map of one cell more than these: they stand from cell 0 on, each with this mark, and the last cell is free
abbrev pub memory_with : List ℕ → List ℕ
memory_with cells = cells ++ (0 ∷ [])

abbrev pub map_with : ℕ → List ℕ → List ℕ
map_with mark cells = replicate (length cells) mark ++ (free ∷ [])

infix 4 ◌leaves◌marked◌
-- this text, as a whole source, is accepted, and leaves exactly these cells with this mark
abbrev pub ◌leaves◌marked◌ : String → List ℕ → ℕ → Type 0
text leaves cells marked mark = Accepted (suc (length cells)) (suc (length cells)) (bytes text) (memory_with cells) (map_with mark cells)

-- ---- rows of arithmetic

infixl 20 ◌with_flags◌
-- a value "with" the flags named, and no others
abbrev pub ◌with_flags◌ : ℕ → ℕ → Outcome
value with_flags flags = record { value = value; flags = flags }

-- the cell whose signed reading is this number below 0
abbrev pub minus : ℕ → ℕ
minus n = cell (neg_ℤ (pos n))

-- ---- the table

pub record MarkedTable : Type 0 where
  -- "`(3+7*(16-1)/(4-1))%27` is 11": EQU gives it to x, and it stands behind the first word of `PUSH #x`
  pub expression : "x: EQU (3+7*(16-1)/(4-1))%27\nPUSH #x" leaves 200 ∷ 11 ∷ [] marked code_mark
  -- "`/-30` is 65506": as an operand, behind the first word of PUSH
  pub memory-operand : "PUSH /-30" leaves 216 ∷ 65506 ∷ [] marked code_mark
  -- "`ADD .R3,#0xFF` is 337,3,255"
  pub add : "ADD .R3,#0xFF" leaves 337 ∷ 3 ∷ 255 ∷ [] marked code_mark
  -- "`MOVE #6[.IX],.R1` is 170,6,1"
  pub move : "MOVE #6[.IX],.R1" leaves 170 ∷ 6 ∷ 1 ∷ [] marked code_mark
  -- "`BR $3` is 1208,3"
  pub branch : "BR $3" leaves 1208 ∷ 3 ∷ [] marked code_mark
  -- "`"texto\n",33` is eight cells"
  pub eight_cells : "DATA \"texto\\n\",33" leaves 116 ∷ 101 ∷ 120 ∷ 116 ∷ 111 ∷ 10 ∷ 0 ∷ 33 ∷ [] marked data_mark
  -- "65535+1 is 0 with Z, C"
  pub sum_wraps : ADD 65535 1 ≡ (0 with_flags (for_z + for_c))
  -- "32767+1 is 32768 with S, P, V"
  pub sum_overflows : ADD 32767 1 ≡ (32768 with_flags (for_s + for_p + for_v))
  -- "0-1 is 65535 with S, C"
  pub difference_borrows : SUB 0 1 ≡ (65535 with_flags (for_s + for_c))
  -- "256×256 is 0 with Z, C, V"
  pub product-wraps : MUL 256 256 ≡ (0 with_flags (for_z + for_c + for_v))
  -- "-7/2 is 65533 with S, P"
  pub quotient_cuts : DIV (minus 7) 2 ≡ Some (65533 with_flags (for_s + for_p))
  -- "-32768/-1 is 32768 with S, P, V"
  pub quotient_overflows : DIV (minus 32768) (minus 1) ≡ Some (32768 with_flags (for_s + for_p + for_v))
