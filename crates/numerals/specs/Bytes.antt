-- Classes of bytes (01, "Rules of writing").
use Rattle.std.specs.Prelude.{ℕ, ◌+◌, ◌-◌, Bool, cond, ◌&&◌, ◌||◌, List, [], ◌∷◌, leb, eqb}
use Prim.Native.Char.{code}
use Prim.Native.String.{String}
use Prim.Native.String as Text

-- the bytes of a quoted text
abbrev pub bytes : String → List ℕ
bytes Text.[] = []
bytes (Text.◌∷◌ c s) = code c ∷ bytes s

-- the byte that ends a line
abbrev pub LF : ℕ
LF = 10

abbrev pub between : ℕ → ℕ → ℕ → Bool
between least most b = leb least b && leb b most

abbrev pub is_digit : ℕ → Bool
is_digit b = between (code "0") (code "9") b

abbrev pub is_letter : ℕ → Bool
is_letter b = between (code "A") (code "Z") b || between (code "a") (code "z") b

-- "letters, digits, `_`": the bytes of words
abbrev pub is_word_byte : ℕ → Bool
is_word_byte b = is_digit b || (is_letter b || eqb b (code "_"))

-- how a byte ranks: its value as a digit "of either case", 16 for any other byte of a word, 17 for a byte of no word.
-- So the digits of a radix are the bytes that rank below it, and the bytes of words those that rank below 17.
unfoldable pub rank : ℕ → ℕ
rank b =
    cond (is_digit b) (b - code "0")
    (cond (between (code "A") (code "F") b) (b - code "A" + 10)
    (cond (between (code "a") (code "f") b) (b - code "a" + 10)
    (cond (is_word_byte b) 16 17)))

abbrev pub any_word_byte : ℕ
any_word_byte = 17
