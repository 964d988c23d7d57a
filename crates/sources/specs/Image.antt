-- What an accepted source leaves in memory and map: exactly the cells that its statements give, and zero in every other (01, "Layout",
-- "What is lent").
use Rattle.std.specs.Prelude.{ℕ, suc, ◌+◌, ◌<◌, cond, ◌≡◌, eqb, length, get_or, replicate, Option, Some, None, Result, Ok, Err}
use mathlib.Core.List.{List, [], ◌∷◌, Memᴰ}
use Rattle.isa.specs.Encoding.{words_of}
use Rattle.isa.specs.declared.Opcode.{Opcode}
use Rattle.isa.specs.declared.Operand.{Operand}
use Rattle.operands.specs.declared.Operands.{Operands}
use Rattle.values.specs.declared.Name.{Name}
use Rattle.operands.specs.declared.OperandsFault.{OperandsFault}
use Rattle.operands.specs.Checks as Operands
use Rattle.operands.specs.Settling.{settled_instruction}
use Rattle.operands.specs.declared.Given.{Given}
use Rattle.items.specs.Items.{cells_of}
use Rattle.statements.specs.Statements.{Reading, nothing, instruction, org, equ, res, cells, end}
use Rattle.statements.specs.Judging.{judged}
use Rattle.codes.specs.Marks.{free}
use Rattle.sources.specs.Sources.{spelled, Said}
use Rattle.sources.specs.Placing.{Bound, judged_line, does_read, next_from, place_of, bindings}
use Rattle.sources.specs.Uses.{value_of, counted_for, counted_word}
use Rattle.sources.specs.Order.{Passing}

-- ---- the words of an instruction

-- by the labels' values, in a line's bytes, with the address after the instruction
module _ (bs : List Bound) (bytes : List ℕ) (next : ℕ) where
  -- the word in the place of the label that an operand names
  abbrev pub word_by : Option Name → Operand → ℕ
  word_by None o = 0
  word_by (Some n) o = counted_word (counted_for o next) (value_of bs (spelled bytes n))

  abbrev pub word_in : Given → ℕ
  word_in g = word_by g.label g.operand

  -- "First word .., then one word per operand in order"
  abbrev pub code_of : Opcode → Given → Given → List ℕ
  code_of op a b = words_of (settled_instruction op a b (word_in a) (word_in b))

  abbrev pub code_read : Opcode → Result Operands OperandsFault → List ℕ
  code_read op (Ok r) = code_of op r.first r.second
  code_read op (Err why) = []

  -- ---- what each line gives: an instruction its words, DATA its items' cells; RES the cells that it claims, "holding 0" (02, K2)

  abbrev pub given_by : Reading → List ℕ
  given_by nothing = []
  given_by (instruction op os) = code_read op (Operands.judged op os)
  given_by (org e) = []
  given_by (equ e) = []
  given_by (res e) = replicate (does_read (judged (res e))).claims 0
  given_by (cells is) = cells_of is
  given_by end = []

-- ---- blocks

-- cells from an address on, and their mark
pub record Block : Type 0 where
  pub from : ℕ
  pub mark : ℕ
  pub given : List ℕ

abbrev pub block_of : List Bound → ℕ → Said → Block
block_of bs at x =
    record {
      from = at;
      mark = (does_read (judged_line x).read.statement).mark;
      given = given_by bs x.bytes (next_from at (judged_line x)) x.says;
    }

-- the blocks of lines, the first of them at an address
unfoldable pub blocks_of : List Bound → ℕ → List Said → List Block
blocks_of bs at [] = []
blocks_of bs at (x ∷ xs) = block_of bs at x ∷ blocks_of bs (next_from at (judged_line x)) xs

-- the blocks of a source that fills M cells: "Addresses start at 0"
abbrev pub blocks : ℕ → List Said → List Block
blocks M xs = blocks_of (bindings (place_of M xs)) 0 xs

-- a block has a cell
abbrev pub Has : Block → ℕ → Type 0
Has b a = (i : ℕ) × (i < length b.given) × (a ≡ b.from + i)

-- no cell is in two blocks
unfoldable pub Apart : List Block → Type 0
Apart [] = Unit {0}
Apart (b ∷ bs) = ((c : Block) → Memᴰ c bs → (a : ℕ) → Has b a → Has c a → ⊥) × Apart bs

-- ---- the image

-- demand 2: exactly the cells that the manual and document 01 give, and zero in every other
pub record Image (M : ℕ) (bs : List Block) (memory marks : List ℕ) : Type 0 where
  pub memory-long : length memory ≡ M
  pub map-long : length marks ≡ M
  pub given : (b : Block) → Memᴰ b bs → (i : ℕ) → i < length b.given
      → (get_or memory (b.from + i) 0 ≡ get_or b.given i 0) × (get_or marks (b.from + i) free ≡ b.mark)
  pub elsewhere : (a : ℕ) → ((b : Block) → Memᴰ b bs → Has b a → ⊥) → (get_or memory a 0 ≡ 0) × (get_or marks a free ≡ free)

-- demand 3: accepted exactly when the rules of writing give it a reading that passes every listed check
pub record Accepted (M N : ℕ) (source memory marks : List ℕ) : Type 0 where
  pub reading : List Said
  pub passing : Passing M N source reading
  pub image : Image M (blocks M reading) memory marks

-- "the numbers of code and data cells" (01), and of reserved ones "as a third count" (02, K2): how many cells have a mark
unfoldable pub cells_marked : ℕ → List ℕ → ℕ
cells_marked k [] = 0
cells_marked k (m ∷ ms) = cond (eqb m k) (suc (cells_marked k ms)) (cells_marked k ms)
