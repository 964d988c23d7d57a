-- "Word: longest run of letters, digits, `_`, not begun by a digit" (01, "Rules of writing").
use Rattle.std.specs.Prelude.{ℕ, Bool, false, not, ◌&&◌, List, [], ◌∷◌, ◌++◌, ◌≡◌, T}
use Rattle.numerals.specs.Bytes.{is_digit, is_word_byte, any_word_byte}
use Rattle.numerals.specs.Digits.{all_below, ends_word}

abbrev pub begins_word : List ℕ → Bool
begins_word [] = false
begins_word (b ∷ bs) = is_word_byte b && not (is_digit b)

-- a text begins with the word w, and the rest follows
pub record Word (text w rest : List ℕ) : Type 0 where
  pub split : text ≡ w ++ rest
  pub begins : T (begins_word w)
  pub all : T (all_below any_word_byte w)
  pub longest : T (ends_word rest)
