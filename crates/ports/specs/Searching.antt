-- A list up to an element that is looked for.
use Rattle.std.specs.Prelude.{ℕ, Bool, true, false, cond, List, [], ◌∷◌, eqb}

-- the elements before the first that is x, and all of them where there is none
unfoldable pub up_to : ℕ → List ℕ → List ℕ
up_to x [] = []
up_to x (y ∷ ys) = cond (eqb y x) [] (y ∷ up_to x ys)

-- whether there is one
unfoldable pub meets : ℕ → List ℕ → Bool
meets x [] = false
meets x (y ∷ ys) = cond (eqb y x) true (meets x ys)
