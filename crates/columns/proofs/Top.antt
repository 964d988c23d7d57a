-- What this crate promises, beyond the equations at its functions: what those equations' right sides mean.
use Prim.Native.Nat.{ℕ, ◌+◌, ◌-◌, ◌≤◌}
use mathlib.Core.Bool.{Bool, true, false}
use mathlib.Core.List.{List, ◌∷◌, ◌++◌}
use mathlib.Core.Logic.{◌↔◌, ◌⊎◌}
use mathlib.Core.Path.{◌≡◌, sym, ◌∙◌}
use lib.ListN.{length, take, drop}
use Rattle.isa.specs.declared.Opcode.{Opcode}
use Rattle.tokens.specs.Marks.{IsMark}
use Rattle.tokens.specs.Reading.{line_length}
use Rattle.tokens.specs.Rows.{RowOf}
use Rattle.tokens.specs.declared.Token.{Token}
use Rattle.names.specs.declared.Word.{Word}
use Rattle.std.proofs.Common.{Option, Some, None, Ok, Err}
use Rattle.values.specs.declared.Name.{Name}
use Rattle.operands.specs.Checks.{label_in}
use Rattle.operands.specs.Places.{OperandThere, OperandStart}
use Rattle.operands.specs.declared.Given.{Given}
use Rattle.operands.specs.declared.Written.{Written}
use Rattle.statements.specs.Checks.{failures}
use Rattle.statements.specs.FirstFailing.{Pass, First}
use Rattle.statements.specs.Judging.{number_of}
use Rattle.statements.specs.Reading.{line_read}
use Rattle.statements.specs.Statements.{Labelled, Says, Reading, nothing}
use Rattle.statements.specs.declared.Failure.{Failure}
use Rattle.statements.specs.declared.Statement.{Statement as Said}
use Rattle.statements.specs.declared.Statement.TheVariants.{Instruction}
use Rattle.columns.specs.Points.{Statement, Points, operand_of, PointsIn}
use Rattle.columns.specs.Columns.{label_column, word_column, mark_before, column_of, pointed_at, pointed, name_column, line_numbered, line_start}
use Rattle.columns.proofs.Exactly as Exactly
use Rattle.columns.proofs.Found as Found
use Rattle.columns.proofs.Refused as Refused
use Rattle.columns.proofs.Marks as Marks
use Rattle.columns.proofs.Marked as Marked
use Rattle.columns.proofs.Named as OfNames
use Rattle.columns.proofs.LineStarts as LineStarts
use Rattle.columns.proofs.Examples as Examples
use Rattle.columns.proofs.Examples.{Examples}

-- ---- a line that fails a check of its own

-- "Give every refusal from 3 on a column": where a check of the line fails, the column is exactly what that check points at.
pub points_exactly : (line : List ℕ) {why : Failure} {c : ℕ} → (line_read line).statement ≡ Err why → (column_of line why ≡ c) ↔ Points line why c
points_exactly = Exactly.exactly

-- So it points at something, and at one column only.
pub has-column : (line : List ℕ) {why : Failure} → (line_read line).statement ≡ Err why → (c : ℕ) × Points line why c
has-column = Exactly.some

pub one-column : (line : List ℕ) {why : Failure} {c d : ℕ} → (line_read line).statement ≡ Err why → Points line why c → Points line why d → c ≡ d
one-column line e p q = sym (Exactly.one line p e) ∙ Exactly.one line q e

-- ---- what `pointed` hands back

module _ (line : List ℕ) where
  -- "the label in 9, 10"
  pub of_label : {number : ℕ} → (number ≡ 9) ⊎ (number ≡ 10) → pointed line number ≡ pointed_at (label_column line) 0
  of_label = Found.of_label line

  -- "the statement's word in 11, 12"
  pub of_word : {number : ℕ} → (number ≡ 11) ⊎ (number ≡ 12) → pointed line number ≡ pointed_at (word_column line) 0
  of_word = Found.of_word line

  module _ (number : ℕ) (nine : number ≡ 9 → ⊥) (ten : number ≡ 10 → ⊥) (eleven : number ≡ 11 → ⊥) (twelve : number ≡ 12 → ⊥) where
    -- the check's column, and for 16 the operand's place
    pub failed : {why : Failure} → (line_read line).statement ≡ Err why → pointed line number ≡ pointed_at (column_of line why) (operand_of why)
    failed = Exactly.failed line number nine ten eleven twelve

    -- "the statement's word .. for a result or label address in 6": a line that passes its own checks
    pub passed : {s : Said} → (line_read line).statement ≡ Ok s → pointed line number ≡ pointed_at (word_column line) 0
    passed = Exactly.passed line number nine ten eleven twelve

-- ---- a refused line

module _ (line : List ℕ) where
  -- Where a line that is refused with a number points is what `pointed` hands back, so it points at one place only;
  pub points_found : {number c i : ℕ} → PointsIn line number c i → pointed line number ≡ pointed_at c i
  points_found = Refused.points_found line

  -- and it points there: refused for its label, by a check of its own, or for an address.
  pub label_points : {number : ℕ} {n : Name} → (number ≡ 9) ⊎ (number ≡ 10) → Labelled line n
      → PointsIn line number (pointed line number).column.0 (pointed line number).place
  label_points = Refused.label_points line

  pub own_points : (why : Failure) → First (failures line) why
      → PointsIn line (number_of why) (pointed line (number_of why)).column.0 (pointed line (number_of why)).place
  own_points = Refused.own_points line

  pub statement_points : {number : ℕ} {w : Token} {x : Word} {ts : List Token} → (number ≡ 6) ⊎ ((number ≡ 11) ⊎ (number ≡ 12))
      → Pass (failures line)
      → Statement line w x ts
      → PointsIn line number (pointed line number).column.0 (pointed line number).place
  statement_points = Refused.statement_points line

  -- A line that says something has a statement's word.
  pub statement_of : {l : Option Name} {r : Reading} → Says line l r → (r ≡ nothing → ⊥)
      → (w : Token) × (x : Word) × (ts : List Token) × Statement line w x ts
  statement_of = Refused.statement_of line

-- ---- the label and the word

pub label-exactly : (line : List ℕ) {n : Name} → Labelled line n → label_column line ≡ n.start + 1
label-exactly = Exactly.label-column

pub word-exactly : (line : List ℕ) {w : Token} {x : Word} {ts : List Token} → Statement line w x ts → word_column line ≡ w.start + 1
word-exactly = Exactly.word-column

-- "the operand in 14": where a mark stands before a name in the line's row, `mark_before` hands back the mark's place.
pub mark-exactly : (line : List ℕ) (m name : Token) (vs : List Token) (b : ℕ) → IsMark b m → (us : List Token) → RowOf line (us ++ (m ∷ name ∷ vs))
    → mark_before line name.start ≡ m.start
mark-exactly = Marks.mark-exactly

-- ---- the names in operands

-- "the label in .. 13", "the operand in 14": of a line that passes, its first name or its second
module _ (line : List ℕ) {op : Opcode} {a b : Given} (e : (line_read line).statement ≡ Ok (Instruction op a b)) where
  pub first-name : {n : Name} → a.label ≡ Some n
      → (name_column line 13 false ≡ n.start + 1) × (name_column line 14 false ≡ mark_before line n.start + 1)
  first-name = OfNames.first-name line e

  pub only-name : {n : Name} (second : Bool) → a.label ≡ None → b.label ≡ Some n
      → (name_column line 13 second ≡ n.start + 1) × (name_column line 14 second ≡ mark_before line n.start + 1)
  only-name = OfNames.only-name line e

  pub second-name : {m n : Name} → a.label ≡ Some m → b.label ≡ Some n
      → (name_column line 13 true ≡ n.start + 1) × (name_column line 14 true ≡ mark_before line n.start + 1)
  second-name = OfNames.second-name line e

-- What stands before a name in an operand is where that operand starts.
pub operand-marked : (line : List ℕ) {w : Token} {x : Word} {ts us : List Token} {i : ℕ} {o : Written} {n : Name} → Statement line w x ts
    → OperandThere line ts i us o
    → label_in o ≡ Some n
    → OperandStart line ts i (mark_before line n.start)
operand-marked line s = Marked.operand-marked line s

-- ---- the line of a number

-- From where `line_start` says to where `line_end` says from there, within the source, stands the line of that number.
module _ (source : List ℕ) (k : ℕ) {from to : ℕ} (starts : from ≡ line_start source k) (ends : to ≡ from + line_length (drop from source)) where
  pub line-there : take (to - from) (drop from source) ≡ line_numbered source k
  line-there = LineStarts.part_there source k starts ends

  pub line-within : to ≤ length source
  line-within = LineStarts.part_within source k starts ends

-- ---- examples, and one reply

-- Lines that are easily misread.
pub examples : Examples
examples = Examples.examples

-- Every promise of this crate is an equation with its meaning: two replies that meet it coincide.
pub coincide : {A : Type 0} {meaning r r' : A} → r ≡ meaning → r' ≡ meaning → r ≡ r'
coincide p q = p ∙ sym q
