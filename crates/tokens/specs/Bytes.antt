-- Bytes that are no bytes of words (01, "Rules of writing").
use Rattle.std.specs.Prelude.{ℕ, Bool, ◌&&◌, ◌||◌, not, eqb}
use Prim.Native.Char.{code}
use Rattle.numerals.specs.Bytes.{between, is_word_byte}

abbrev pub TAB : ℕ
TAB = 9

abbrev pub CR : ℕ
CR = 13

-- "Blanks are space, tab and CR"
unfoldable pub is_blank : ℕ → Bool
is_blank b = eqb b (code " ") || (eqb b TAB || eqb b CR)

-- "A comment runs from `;`, outside a string, to the line's end"
abbrev pub is_semicolon : ℕ → Bool
is_semicolon b = eqb b (code ";")

abbrev pub is_quote : ℕ → Bool
is_quote b = eqb b (code "\"")

-- "Elsewhere only blanks and 32..126 occur"
abbrev pub is_printable : ℕ → Bool
is_printable b = between 32 126 b

-- "single marks": what is printable and begins no word, number, string or comment, and is no blank
unfoldable pub is_mark : ℕ → Bool
is_mark b = (is_printable b && not (is_word_byte b)) && (not (is_blank b) && (not (is_quote b) && not (is_semicolon b)))

-- a byte that no token has
unfoldable pub is_stray : ℕ → Bool
is_stray b = not (is_printable b) && not (is_blank b)
