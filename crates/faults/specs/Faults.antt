-- "in 3 the first token or stray byte, or inside a number or string the first byte, that no line of right form has there, .. or the
-- column after the line's last byte if one is missing" (02, K4), without a reader. A line is cut into words and single bytes; only
-- a word is one piece, so that a byte inside a number or a string counts by itself and one inside a word does not.
use Rattle.std.specs.Prelude.{ℕ, ◌+◌, false, cond, List, [], ◌∷◌, ◌++◌, ◌≡◌, T, length}
use Prim.Native.Char.{code}
use Rattle.numerals.specs.Bytes.{is_digit, is_word_byte}
use Rattle.numerals.specs.Digits.{ends_word}
use Rattle.tokens.specs.Lines.{no_lf}
use Rattle.tokens.specs.Words.{Word, begins_word}
use Rattle.std.specs.Prelude.{Option}
use Rattle.values.specs.declared.Name.{Name}
use Rattle.statements.specs.Statements.{Reading, Says}

-- a line of right form: it says something, "whatever the number and kinds of its operands"
abbrev pub Right : List ℕ → Type 0
Right line = (l : Option Name) × (r : Reading) × Says line l r

-- ---- words and bytes

-- what a text ends in: a word, a run of letters and digits that a digit began, or neither
pub data Ending : Type 0 where
  word number other : Ending

abbrev pub goes_on : Ending → ℕ → Ending
goes_on word b = word
goes_on number b = number
goes_on other b = cond (is_digit b) number word

unfoldable pub ending_from : Ending → List ℕ → Ending
ending_from e [] = e
ending_from e (b ∷ s) = ending_from (cond (is_word_byte b) (goes_on e b) other) s

abbrev pub ending : List ℕ → Ending
ending s = ending_from other s

-- no word goes across from one text to the next
abbrev pub Parted : List ℕ → List ℕ → Type 0
Parted s rest = ending s ≡ word → T (ends_word rest)

-- what stands first behind a text: a whole word, or else a byte
pub data Piece : List ℕ → List ℕ → List ℕ → Type 0 where
  whole : {s w rest : List ℕ} → ending s ≡ other → Word (w ++ rest) w rest → Piece s w rest
  byte : {s rest : List ℕ} (b : ℕ) → (ending s ≡ other → begins_word (b ∷ rest) ≡ false) → Piece s (b ∷ []) rest

-- ---- what goes on

-- some line of right form begins so
pub record CanGoOn (s : List ℕ) : Type 0 where
  pub rest : List ℕ
  pub one_line : T (no_lf rest)
  pub parted : Parted s rest
  pub right : Right (s ++ rest)

abbrev pub Stops : List ℕ → Type 0
Stops s = CanGoOn s → ⊥

-- a comment's `;` where something is missing: a blank might stand there, and the line ends with the comment
pub record Comment (s u : List ℕ) : Type 0 where
  pub semicolon : u ≡ code ";" ∷ []
  pub blank : CanGoOn (s ++ code " " ∷ [])

-- the place, from 0, at which wrong form shows in a line
pub data Fault : List ℕ → ℕ → Type 0 where
  -- up to it the line can go on, with what stands there it cannot
  stands : {s u rest : List ℕ} → Piece s u rest → Parted s (u ++ rest) → CanGoOn s → Stops (s ++ u) → (Comment s u → ⊥)
      → Fault (s ++ (u ++ rest)) (length s)
  -- something is missing: "the column after the line's last byte", a comment counted
  lacks : {s : List ℕ} → CanGoOn s → (Right s → ⊥) → Fault s (length s)
  lacks-before : {s u : List ℕ} (rest : List ℕ) → CanGoOn s → Stops (s ++ u) → Comment s u → Fault (s ++ (u ++ rest)) (length (s ++ (u ++ rest)))

-- "the 1-based place in its line where the fault starts"
pub data Column : List ℕ → ℕ → Type 0 where
  column : {line : List ℕ} {p : ℕ} → Fault line p → Column line (p + 1)
