-- Lines of registers that follow one another, with their names from one row of bytes.
use Rattle.std.specs.Prelude.{ℕ, zero, suc, ◌+◌, ◌*◌, List, [], ◌∷◌, ◌++◌, get_or, take, drop}
use Rattle.numerals.specs.Writing.{decimal}

-- n of them, from a code on; a name has three bytes
unfoldable pub lines_from : List ℕ → List ℕ → ℕ → ℕ → List (List ℕ)
lines_from names r from zero = []
lines_from names r from (suc n) = lines_from names r from n ++ ((take 3 (drop (3 * n) names) ++ decimal (get_or r (from + n) 0)) ∷ [])
