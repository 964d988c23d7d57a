-- The columns as functions of a line, which is read once more; `proofs/Top.antt` shows that they are those of Points.antt.
use Rattle.std.specs.Prelude.{ℕ, zero, suc, ◌+◌, ◌-◌, min, Bool, cond, ◌||◌, List, [], ◌∷◌, eqb, leb, length, get_or, drop, Option, Some, None, Result, Ok, Err}
use Rattle.tokens.specs.Bytes.{is_blank}
use Rattle.tokens.specs.Reading.{tokens_from, line_length, lines_of}
use Rattle.tokens.specs.declared.Token.{Token}
use Rattle.names.specs.Names.{word_of}
use Rattle.names.specs.declared.Word.{Word}
use Rattle.names.specs.declared.Word.TheVariants as W
use Rattle.values.specs.declared.Name.{Name}
use Rattle.expressions.specs.Places.{fault_in, too_deep_in}
use Rattle.operands.specs.Operands.{word_at}
use Rattle.operands.specs.Places as Operands
use Rattle.operands.specs.Places.{operand_start_in}
use Rattle.items.specs.Places as Items
use Rattle.statements.specs.Reading.{is_word, label_read, after_label, line_read}
use Rattle.statements.specs.declared.Failure.{Failure}
use Rattle.statements.specs.declared.Failure.TheVariants.{UnknownWord, WrongForm, WrongCount, WrongKind, TooDeep, OutOfRange, ByZero, ResultOut}
use Rattle.statements.specs.declared.Statement.{Statement}
use Rattle.statements.specs.declared.Statement.TheVariants.{Nothing, Instruction, Org, Equ, Res, Data, End}
use Rattle.faults.specs.Walk.{place}
use Rattle.columns.specs.Points.{operand_of}
use Rattle.columns.specs.declared.Pointed.{Pointed}

-- ---- places and columns

-- "the 1-based place in its line": of a place from 0, which stands in the line or directly behind it; else none
unfoldable pub column_at : List ℕ → ℕ → ℕ
column_at line p = cond (leb p (length line)) (p + 1) 0

-- the label in front
abbrev pub label_column_by : List ℕ → Option Name → ℕ
label_column_by line None = 0
label_column_by line (Some n) = column_at line n.start

unfoldable pub label_column : List ℕ → ℕ
label_column line = label_column_by line (label_read (tokens_from line 0))

-- the statement's word, with which the tokens after any label begin
unfoldable pub word_column_in : List ℕ → List Token → ℕ
word_column_in line [] = 0
word_column_in line (w ∷ ts) = cond (is_word w.kind) (column_at line w.start) 0

unfoldable pub word_column : List ℕ → ℕ
word_column line = word_column_in line (after_label (tokens_from line 0))

-- "the operand in 14": what stands before the name that starts at a place, blanks apart, is its operand's mark
unfoldable pub mark_before : List ℕ → ℕ → ℕ
mark_before line zero = 0
mark_before line (suc p) = cond (is_blank (get_or line p 0)) (mark_before line p) p

-- ---- of a failure

module _ (line : List ℕ) where
  -- the number out of range behind a statement's word
  abbrev pub out_place : Word → List Token → ℕ
  out_place (W.Instructs op) ts = Operands.number_out_in line ts
  out_place W.Org ts = fault_in ts
  out_place W.Equ ts = fault_in ts
  out_place W.Res ts = fault_in ts
  out_place W.Data ts = Items.number_out_in ts
  out_place W.End ts = 0
  out_place W.Unknown ts = 0

  -- of a statement whose word starts at a place, with the tokens behind the word
  abbrev pub place_by : Failure → ℕ → Word → List Token → ℕ
  place_by UnknownWord at x ts = at
  place_by WrongForm at x ts = place line
  place_by WrongCount at x ts = at
  place_by (WrongKind i) at x ts = operand_start_in ts (cond (eqb i 2) 2 1)
  place_by TooDeep at x ts = too_deep_in ts
  place_by OutOfRange at x ts = out_place x ts
  place_by ByZero at x ts = fault_in ts
  place_by ResultOut at x ts = at

  -- what begins with no word fails by its form alone
  unfoldable pub place_in : Failure → List Token → ℕ
  place_in why [] = place line
  place_in why (w ∷ ts) = cond (is_word w.kind) (place_by why w.start (word_of (word_at line w)) ts) (place line)

  unfoldable pub column_of : Failure → ℕ
  column_of why = column_at line (place_in why (after_label (tokens_from line 0)))

-- ---- what is pointed at

abbrev pub pointed_at : ℕ → ℕ → Pointed
pointed_at column operand = record { column = record { 0 = column }; place = operand }

-- a line that passes its own checks was refused for its label's address or for what RES moves to: "the statement's word .. for a result
-- or label address in 6"
abbrev pub again_by : List ℕ → Result Statement Failure → Pointed
again_by line (Ok s) = pointed_at (word_column line) 0
again_by line (Err why) = pointed_at (column_of line why) (operand_of why)

unfoldable pub read_again : List ℕ → Pointed
read_again line = again_by line (line_read line).statement

-- "the label in 9, 10"; "the statement's word in 11, 12"; any other number is told by the line's own checks
unfoldable pub pointed : List ℕ → ℕ → Pointed
pointed line number =
    cond (eqb number 9 || eqb number 10) (pointed_at (label_column line) 0)
    (cond (eqb number 11 || eqb number 12) (pointed_at (word_column line) 0)
    (read_again line))

-- ---- 13 and 14

-- the label that the first operand names, or the second one's where the first names none or the second is asked for
abbrev pub name_by : Option Name → Option Name → Bool → Option Name
name_by None b second = b
name_by (Some n) b second = cond second b (Some n)

-- "the label in .. 13", "the operand in 14"
abbrev pub name_column_at : List ℕ → ℕ → Option Name → ℕ
name_column_at line number None = 0
name_column_at line number (Some n) = cond (eqb number 14) (column_at line (mark_before line n.start)) (column_at line n.start)

abbrev pub name_column_in : List ℕ → ℕ → Bool → Statement → ℕ
name_column_in line number second Nothing = 0
name_column_in line number second (Instruction op a b) = name_column_at line number (name_by a.label b.label second)
name_column_in line number second (Org v) = 0
name_column_in line number second (Equ v) = 0
name_column_in line number second (Res v) = 0
name_column_in line number second (Data n) = 0
name_column_in line number second End = 0

abbrev pub name_column_by : List ℕ → ℕ → Bool → Result Statement Failure → ℕ
name_column_by line number second (Ok s) = name_column_in line number second s
name_column_by line number second (Err why) = 0

-- of a line that passes, whose first or second name in operands is refused with a number
unfoldable pub name_column : List ℕ → ℕ → Bool → ℕ
name_column line number second = name_column_by line number second (line_read line).statement

-- ---- the line of a number

-- the line behind so many of some lines; none has no byte
unfoldable pub line_after : List (List ℕ) → ℕ → List ℕ
line_after [] i = []
line_after (b ∷ bs) zero = b
line_after (b ∷ bs) (suc i) = line_after bs i

-- lines are counted from 1
abbrev pub line_numbered : List ℕ → ℕ → List ℕ
line_numbered source k = line_after (lines_of source) (k - 1)

-- where the line behind that at a place starts: behind its LF, or at the source's end
unfoldable pub next_start : List ℕ → ℕ → ℕ
next_start source from = min (length source) (from + line_length (drop from source) + 1)

-- where the line starts that is so many behind the one at a place
unfoldable pub start_after : List ℕ → ℕ → ℕ → ℕ
start_after source zero from = from
start_after source (suc i) from = start_after source i (next_start source from)

abbrev pub line_start : List ℕ → ℕ → ℕ
line_start source k = start_after source (k - 1) 0
