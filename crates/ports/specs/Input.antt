-- What is taken of the input (01: "INCHAR takes a byte; ININT and INSTR a line, its LF taken, not kept; INSTR adds a 0 cell.
-- A line that isn't wholly a number as above reads 0.").
use Rattle.std.specs.Prelude.{ℕ, ◌+◌, cond, List, [], ◌∷◌, ◌++◌, ltb, leb, length, get_or, drop, Result, Ok, Err}
use Rattle.codes.specs.Stops.{memory_end, input_end}
use Rattle.numerals.specs.Bytes.{LF}
use Rattle.numerals.specs.Reading.{line_number}
use Rattle.ports.specs.Overwriting.{overwrite}
use Rattle.ports.specs.Searching.{up_to}
use Rattle.ports.specs.declared.Taken.{Taken}

-- the line that a text begins with: up to its LF, or all of it ("the last may lack it")
abbrev pub line_of : List ℕ → List ℕ
line_of text = up_to LF text

abbrev pub line_at : List ℕ → ℕ → List ℕ
line_at input at = line_of (drop at input)

-- the position after the line at a position, "its LF taken"
unfoldable pub after_line : List ℕ → ℕ → ℕ
after_line input at =
    cond (ltb (at + length (line_at input at)) (length input)) (at + length (line_at input at) + 1) (at + length (line_at input at))

-- INCHAR: the byte at the position
unfoldable pub byte_taken : List ℕ → ℕ → Result Taken ℕ
byte_taken input at = cond (ltb at (length input)) (Ok (record { value = get_or input at 0; after = at + 1 })) (Err input_end)

-- ININT: the number that the line is
unfoldable pub number_taken : List ℕ → ℕ → Result Taken ℕ
number_taken input at = cond (ltb at (length input)) (Ok (record { value = line_number (line_at input at); after = after_line input at })) (Err input_end)

-- a row of cells or bytes, and the position after, or the stop
pub record Passed : Type 0 where
  pub moved : Result ℕ ℕ
  pub row : List ℕ

abbrev pub passed : Result ℕ ℕ → List ℕ → Passed
passed a xs = record { moved = a; row = xs }

-- INSTR: the line's bytes and a 0 cell from a cell on; "a string passing M is 5", and then takes no input
unfoldable pub string_taken : List ℕ → ℕ → List ℕ → ℕ → Passed
string_taken m to input at =
    cond (ltb at (length input))
    (cond (leb (to + length (line_at input at) + 1) (length m))
    (passed (Ok (after_line input at)) (overwrite m to (line_at input at ++ (0 ∷ []))))
    (passed (Err memory_end) m))
    (passed (Err input_end) m)
