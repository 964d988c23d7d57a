-- "Lines end at LF and count from 1; the last may lack it, and an LF that ends the source begins no further line" (01, "Rules
-- of writing").
use Rattle.std.specs.Prelude.{ℕ, Bool, true, not, ◌&&◌, List, [], ◌∷◌, ◌++◌, eqb, T}
use Rattle.numerals.specs.Bytes.{LF}

-- a line holds no LF
abbrev pub no_lf : List ℕ → Bool
no_lf [] = true
no_lf (b ∷ bs) = not (eqb b LF) && no_lf bs

-- a source and its lines
pub data Lines : List ℕ → List (List ℕ) → Type 0 where
  none : Lines [] []
  last : {b : ℕ} {bs : List ℕ} → T (no_lf (b ∷ bs)) → Lines (b ∷ bs) ((b ∷ bs) ∷ [])
  more : {line rest : List ℕ} {lines : List (List ℕ)} → T (no_lf line) → Lines rest lines → Lines (line ++ (LF ∷ rest)) (line ∷ lines)
