-- The promise of `assemble` as it was before K4: no column, no operand's place, and 5 where 15 and 16 are now. Nothing else cites this;
-- `proofs/Top.antt` shows that K4 changed no other answer.
use Rattle.std.specs.Prelude.{ℕ, List, ◌≡◌, length}
use Rattle.codes.specs.Marks.{code_mark, data_mark, reserved_mark}
use Rattle.statements.specs.FirstFailing.{Pass}
use Rattle.sources.specs.Sources.{Said, SourceText}
use Rattle.sources.specs.Placing.{start, place_of}
use Rattle.sources.specs.Order.{Refusal, loan_checks, late_checks}
use Rattle.sources.specs.Image.{blocks, Image, cells_marked}
use Rattle.sources.specs.BeforeK4.{number_before, PassedBefore, FirstBefore}
use Rattle.assembler.specs.Promise.{Told}

-- a reply's numbers
pub record ToldBefore : Type 0 where
  pub number : ℕ
  pub line : ℕ
  pub code-cells : ℕ
  pub data_cells : ℕ
  pub reserved-cells : ℕ

-- those of a reply now, with 15 and 16 read as 5, and without where it points
abbrev pub forgotten : Told → ToldBefore
forgotten t =
    record {
      number = number_before t.number;
      line = t.line;
      code-cells = t.code-cells;
      data_cells = t.data_cells;
      reserved-cells = t.reserved-cells;
    }

abbrev pub acceptance_before : List ℕ → ToldBefore
acceptance_before map =
    record {
      number = 0;
      line = 0;
      code-cells = cells_marked code_mark map;
      data_cells = cells_marked data_mark map;
      reserved-cells = cells_marked reserved_mark map;
    }

abbrev pub refusal_before : Refusal → ToldBefore
refusal_before why = record { number = why.number; line = why.line; code-cells = 0; data_cells = 0; reserved-cells = 0 }

-- a reading that passed every check, and its image
pub record AcceptedBefore (M N : ℕ) (source memory marks : List ℕ) : Type 0 where
  pub reading : List Said
  pub loans : Pass (loan_checks M N source)
  pub text : SourceText source reading
  pub lines : PassedBefore M 1 (start M) reading
  pub labels : Pass (late_checks (place_of M reading) reading)
  pub image : Image M (blocks M reading) memory marks

pub data RepliesBefore (source memory map : List ℕ) (reply : ToldBefore) (memory' map' : List ℕ) : Type 0 where
  accepts : AcceptedBefore (length memory) (length map) source memory' map' → reply ≡ acceptance_before map'
      → RepliesBefore source memory map reply memory' map'
  refuses : (why : Refusal) → FirstBefore (length memory) (length map) source why → reply ≡ refusal_before why → memory' ≡ memory → map' ≡ map
      → RepliesBefore source memory map reply memory' map'
