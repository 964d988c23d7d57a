-- The promise of `assemble`, once, over the declared rules (01, "Refusing a source"; demands 1, 2 and 3).
use Rattle.std.specs.Prelude.{ℕ, List, ◌≡◌, length}
use Rattle.codes.specs.Marks.{code_mark, data_mark, reserved_mark}
use Rattle.sources.specs.Order.{Refusal}
use Rattle.sources.specs.Pointing.{FailsAt}
use Rattle.sources.specs.Image.{Accepted, cells_marked}
use Rattle.assembler.specs.declared.Reply.{Reply}

-- a reply's numbers, its line and column among them
pub record Told : Type 0 where
  pub number : ℕ
  pub line : ℕ
  pub column : ℕ
  pub place : ℕ
  pub code-cells : ℕ
  pub data_cells : ℕ
  pub reserved-cells : ℕ

abbrev pub told : Reply → Told
told r =
    record {
      number = r.refusal;
      line = r.line.0;
      column = r.column.0;
      place = r.place;
      code-cells = r.code;
      data_cells = r.data;
      reserved-cells = r.reserved;
    }

-- "acceptance returns 0, line 0 and the numbers of code and data cells" (01), and that of reserved cells "as a third count" (02, K2)
abbrev pub acceptance : List ℕ → Told
acceptance map =
    record {
      number = 0;
      line = 0;
      column = 0;
      place = 0;
      code-cells = cells_marked code_mark map;
      data_cells = cells_marked data_mark map;
      reserved-cells = cells_marked reserved_mark map;
    }

-- "Refusals return counts 0"; "every refusal from 3 on a column", and 16 "the operand's place, 1 or 2" (02, K4)
abbrev pub refusal : Refusal → ℕ → ℕ → Told
refusal why column place =
    record { number = why.number; line = why.line; column = column; place = place; code-cells = 0; data_cells = 0; reserved-cells = 0 }

-- a reply to a source, with memory and map as they were lent, and as they are left
pub data Replies (source memory map : List ℕ) (reply : Reply) (memory' map' : List ℕ) : Type 0 where
  -- the rules give the source a reading that passes every check, and this is its image
  accepts : Accepted (length memory) (length map) source memory' map' → told reply ≡ acceptance map'
      → Replies source memory map reply memory' map'
  -- this check is the first that fails, and points there; memory and map are as they were
  refuses : (why : Refusal) (column place : ℕ) → FailsAt (length memory) (length map) source why column place → told reply ≡ refusal why column place
      → memory' ≡ memory
      → map' ≡ map
      → Replies source memory map reply memory' map'
