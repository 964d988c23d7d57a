-- The refused line, shown on standard error with a caret under the column, as compilers do. The papers ask for the column alone: the layout
-- is ours.
use Prim.Native.Char.{code}
use Rattle.std.specs.Prelude.{ℕ, ◌+◌, ◌-◌, Bool, cond, ◌&&◌, List, [], ◌∷◌, ◌++◌, map, eqb, leb, length, replicate, take, drop}
use Rattle.numerals.specs.Bytes.{bytes}
use Rattle.texts.specs.Lines.{text_of}

-- each byte takes one place, so that the caret stands under its own: a TAB is shown as a blank, any other that has no picture as `?`
unfoldable pub shown_byte : ℕ → ℕ
shown_byte b = cond (leb 32 b && leb b 126) b (cond (eqb b 9) (code " ") (code "?"))

-- the most bytes of a line that are shown
abbrev pub most_shown : ℕ
most_shown = 80

-- the place, from 0, of the first byte shown: of a longer line, the one 72 before the column, where there is such a byte
unfoldable pub shown_from : ℕ → ℕ → ℕ
shown_from size column = cond (leb size most_shown) 0 (column - 73)

unfoldable pub shown_part : List ℕ → ℕ → List ℕ
shown_part line column = take most_shown (drop (shown_from (length line) column) line)

abbrev pub indented : List ℕ → List ℕ
indented text = bytes "    " ++ text

abbrev pub blanks : ℕ → List ℕ
blanks n = replicate n (code " ")

-- the caret under a place of what is shown
abbrev pub caret_under : ℕ → List ℕ
caret_under n = blanks n ++ bytes "^"

-- a line's column is that of a byte, or the one behind the last
abbrev pub is_column_of : List ℕ → ℕ → Bool
is_column_of line column = leb 1 column && leb column (length line + 1)

abbrev pub excerpt_lines : List ℕ → ℕ → List (List ℕ)
excerpt_lines line column =
    indented (map shown_byte (shown_part line column)) ∷ indented (caret_under (column - 1 - shown_from (length line) column)) ∷ []

-- column 0 points at nothing of the line, and nothing is shown
unfoldable pub excerpt_text : List ℕ → ℕ → List ℕ
excerpt_text line column = cond (is_column_of line column) (text_of (excerpt_lines line column)) []
