-- A refusal, told: "A refusal prints `refused=` and `line=`, one line each" (01, "The printed image"), and a column, "printed as a third line
-- `column=`" (02, K4); and, on standard error, one sentence with the reason: the number's row of 01's table "Refusing a source", or K4's 15 and
-- 16, in our words.
use Rattle.std.specs.Prelude.{ℕ, zero, suc, ◌%◌, ◌≡◌, cond, List, [], ◌∷◌, ◌++◌, leb, length, get_or, drop}
use Rattle.numerals.specs.Bytes.{bytes}
use Rattle.numerals.specs.Writing.{decimal}
use Rattle.texts.specs.Lines.{text_of}
use Rattle.columns.specs.Columns.{line_numbered}
use Rattle.columns.specs.declared.Column.{Column}
use Rattle.sources.specs.declared.Line.{Line}
use Rattle.desk.specs.Excerpts.{excerpt_text}
use Rattle.desk.specs.declared.refusals.Refusal.{Refusal}

-- a line's number as it is told: all of it, for a source has fewer lines than 32 bits count
abbrev pub line_told : Line → ℕ
line_told line = line.0 % 4294967296

-- and a column's, for no line of a source is longer
abbrev pub column_told : Column → ℕ
column_told column = column.0 % 4294967296

-- ---- the three lines

abbrev pub refusal_lines : ℕ → ℕ → ℕ → List (List ℕ)
refusal_lines refusal line column =
    (bytes "refused=" ++ decimal refusal) ∷ (bytes "line=" ++ decimal line) ∷ (bytes "column=" ++ decimal column) ∷ []

abbrev pub refusal_text : ℕ → ℕ → ℕ → List ℕ
refusal_text refusal line column = text_of (refusal_lines refusal line column)

-- ---- the sentence

-- of a number that no refusal of a source has
abbrev pub no_reason : List ℕ
no_reason = bytes "an unknown refusal"

-- why a source is refused: the refusals 1 to 16, in order; "for a source 5 goes" (02, K4)
unfoldable pub reasons : List (List ℕ)
reasons =
    bytes "M is no decimal number from 1 to 16384"
    ∷ bytes "a source of more than 32768 bytes"
    ∷ bytes "wrong form, or an unknown register"
    ∷ bytes "the statement's word is unknown"
    ∷ no_reason
    ∷ bytes "a number, an expression or a label's address is out of range"
    ∷ bytes "an expression divides by zero"
    ∷ bytes "parentheses more than 32 deep"
    ∷ bytes "a label that was given before"
    ∷ bytes "a label of more than 64 bytes, or the 513th"
    ∷ bytes "past the last cell"
    ∷ bytes "a cell claimed twice"
    ∷ bytes "an unknown label"
    ∷ bytes "a $label outside -32768..32767"
    ∷ bytes "the opcode takes another number of operands"
    ∷ bytes "an operand of a kind that the opcode does not take there"
    ∷ []

unfoldable pub reason_of : ℕ → List ℕ
reason_of zero = no_reason
reason_of (suc n) = get_or reasons n no_reason

-- the longest path that the system hands over; a longer name is left out
abbrev pub longest_path : ℕ
longest_path = 4096

abbrev pub name_told : List ℕ → List ℕ
name_told path = cond (leb (length path) longest_path) path []

-- `FILE:LINE:COLUMN: refused 12: a cell claimed twice`
abbrev pub sentence_of : List ℕ → ℕ → ℕ → ℕ → List ℕ
sentence_of path refusal line column =
    name_told path ++ (bytes ":" ++ decimal line) ++ (bytes ":" ++ decimal column) ++ (bytes ": refused " ++ decimal refusal) ++ bytes ": "
    ++ reason_of refusal

abbrev pub sentence_text : List ℕ → ℕ → ℕ → ℕ → List ℕ
sentence_text path refusal line column = text_of (sentence_of path refusal line column ∷ [])

-- ---- in a room

-- a text stands at the head of a room, its length is the reply, and all behind it is as it was
abbrev pub AtHead : List ℕ → List ℕ → List ℕ → ℕ → Type 0
AtHead text room after reply = (reply ≡ length text) × (after ≡ text ++ drop (length text) room)

-- ---- the whole of what is told

-- on standard output
abbrev pub printed_of : Refusal → List ℕ
printed_of refusal = refusal_text refusal.number (line_told refusal.line) (column_told refusal.column)

-- on standard error: the sentence, and the line that it is about
abbrev pub told_of : List ℕ → List ℕ → Refusal → List ℕ
told_of path source refusal =
    sentence_text path refusal.number (line_told refusal.line) (column_told refusal.column)
    ++ excerpt_text (line_numbered source refusal.line.0) refusal.column.0
