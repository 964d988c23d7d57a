-- "Strings hold 32..126 except `"`; a backslash only as `\n` (10). A string takes a cell a character and a 0 cell." (01)
use Rattle.std.specs.Prelude.{ℕ, Bool, not, ◌&&◌, List, [], ◌∷◌, eqb, T}
use Prim.Native.Char.{code}
use Rattle.tokens.specs.Bytes.{is_printable, is_quote}

abbrev pub backslash : ℕ
backslash = 92

-- a byte that stands for itself
abbrev pub is_plain : ℕ → Bool
is_plain b = is_printable b && (not (is_quote b) && not (eqb b backslash))

-- the bytes after an opening quote: the characters, and what follows the closing quote
pub data Characters : List ℕ → List ℕ → List ℕ → Type 0 where
  closed : {rest : List ℕ} → Characters (code "\"" ∷ rest) [] rest
  plain : {b : ℕ} {s cs rest : List ℕ} → T (is_plain b) → Characters s cs rest → Characters (b ∷ s) (b ∷ cs) rest
  newline : {s cs rest : List ℕ} → Characters s cs rest → Characters (backslash ∷ code "n" ∷ s) (10 ∷ cs) rest
