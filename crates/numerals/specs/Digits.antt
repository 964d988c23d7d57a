-- Digits over any radix: decimal and hexadecimal are instances.
use Rattle.std.specs.Prelude.{ℕ, ◌+◌, ◌*◌, ◌<◌, Bool, true, ◌&&◌, not, List, [], ◌∷◌, ltb, T, length}
use Rattle.numerals.specs.Bytes.{rank, any_word_byte}

-- every byte ranks below k
abbrev pub all_below : ℕ → List ℕ → Bool
all_below k [] = true
all_below k (b ∷ bs) = ltb (rank b) k && all_below k bs

-- "one or more" digits
pub record Digits (radix : ℕ) (ds : List ℕ) : Type 0 where
  pub some : 0 < length ds
  pub all : T (all_below radix ds)

-- what digits are worth after others worth a, the most significant first
unfoldable pub worth_after : ℕ → ℕ → List ℕ → ℕ
worth_after radix a [] = a
worth_after radix a (d ∷ ds) = worth_after radix (a * radix + rank d) ds

-- what digits are worth
abbrev pub worth : ℕ → List ℕ → ℕ
worth radix ds = worth_after radix 0 ds

-- "No letter, digit or `_` follows directly"
abbrev pub ends_word : List ℕ → Bool
ends_word [] = true
ends_word (b ∷ rest) = not (ltb (rank b) any_word_byte)
