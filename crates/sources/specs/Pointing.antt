-- Where the first check that fails points (02, K4: "Give every refusal from 3 on a column .., the 1-based place in its line where the fault
-- starts"), without a reader.
use Rattle.std.specs.Prelude.{ℕ, ◌+◌, List, [], ◌∷◌, ◌++◌, map, ◌≡◌, length, Option, Some, None, Result, Ok, Err}
use Rattle.tokens.specs.Lines.{Lines}
use Rattle.statements.specs.declared.Failure.{Failure}
use Rattle.values.specs.declared.Name.{Name}
use Rattle.statements.specs.FirstFailing.{Check, check, Pass, First}
use Rattle.statements.specs.declared.Statement.{Statement}
use Rattle.statements.specs.declared.Statement.TheVariants.{Nothing, Instruction, Org, Equ, Res, Data, End}
use Rattle.columns.specs.Points.{PointsIn}
use Rattle.columns.specs.Columns.{mark_before}
use Rattle.sources.specs.Sources.{Said, SourceText, Before}
use Rattle.sources.specs.Placing.{Bound, Judged, start, judged_line, place_of, bindings}
use Rattle.sources.specs.Uses.{known, unknown, value_of, Use, uses_of}
use Rattle.sources.specs.Order.{Refusal, loan_checks, line_checks, Passed, end_checks, TooFar, use_checks}

-- ---- "the label in .. 13", "the operand in 14"

-- the columns of a label that an operand names, and of the operand
pub record Columns : Type 0 where
  pub label_at : ℕ
  pub operand_at : ℕ

abbrev pub columns_in : List ℕ → Option Name → List Columns
columns_in bytes None = []
columns_in bytes (Some n) = record { label_at = n.start + 1; operand_at = mark_before bytes n.start + 1 } ∷ []

-- those of a line's operands, then of lines: one for each label of `uses_of`, in its order
abbrev pub columns_by : List ℕ → Statement → List Columns
columns_by bytes Nothing = []
columns_by bytes (Instruction op a b) = columns_in bytes a.label ++ columns_in bytes b.label
columns_by bytes (Org v) = []
columns_by bytes (Equ v) = []
columns_by bytes (Res v) = []
columns_by bytes (Data n) = []
columns_by bytes End = []

abbrev pub columns_read : List ℕ → Result Statement Failure → List Columns
columns_read bytes (Ok s) = columns_by bytes s
columns_read bytes (Err why) = []

unfoldable pub columns_of : List Judged → List Columns
columns_of [] = []
columns_of (x ∷ xs) = columns_read x.bytes x.read.statement ++ columns_of xs

-- the checks of `use_checks`, each with its column
unfoldable pub column_checks : List Bound → List Use → List Columns → List (Check ℕ)
column_checks bs [] cs = []
column_checks bs (u ∷ us) [] = []
column_checks bs (u ∷ us) (c ∷ cs) =
    check c.label_at (value_of bs u.name ≡ unknown)
    ∷ check c.operand_at ((v : ℕ) × (value_of bs u.name ≡ known v) × TooFar u.counted v)
    ∷ column_checks bs us cs

-- ---- the first check that fails, with its column and the operand's place that 16 names

pub data FailsAt (M N : ℕ) (source : List ℕ) (why : Refusal) : ℕ → ℕ → Type 0 where
  -- "1 and 2 have column 0"
  of_loans : First (loan_checks M N source) why → FailsAt M N source why 0 0
  -- of a line's refusal, what the line says
  of_line : {lines rest : List (List ℕ)} {xs : List Said} {bytes : List ℕ} {column place : ℕ} → Pass (loan_checks M N source) → Lines source lines
      → Before lines xs (bytes ∷ rest)
      → Passed M 1 (start M) xs
      → First (line_checks M (1 + length xs) (place_of M xs) bytes) why
      → PointsIn bytes why.number column place
      → FailsAt M N source why column place
  -- "column 0 for a label bound at the source's end"
  at-end : {xs : List Said} → Pass (loan_checks M N source) → SourceText source xs → Passed M 1 (start M) xs
      → First (end_checks (length xs) (place_of M xs)) why
      → FailsAt M N source why 0 0
  -- no line fails, and not the end
  of_label : {xs : List Said} {column : ℕ} → Pass (loan_checks M N source) → SourceText source xs → Passed M 1 (start M) xs
      → Pass (end_checks (length xs) (place_of M xs))
      → First (use_checks (bindings (place_of M xs)) (uses_of 1 0 (map judged_line xs))) why
      → First (column_checks (bindings (place_of M xs)) (uses_of 1 0 (map judged_line xs)) (columns_of (map judged_line xs))) column
      → FailsAt M N source why column 0
