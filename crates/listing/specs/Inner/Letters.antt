-- The letters of a name's number, the first its lowest digit: `pack` of `names`, undone.
use Rattle.std.specs.Prelude.{ℕ, zero, suc, ◌/◌, ◌%◌, cond, List, [], ◌∷◌, eqb}

-- of a number of so many digits at most
unfoldable pub letters_by : ℕ → ℕ → List ℕ
letters_by zero n = []
letters_by (suc digits) n = cond (eqb n 0) [] (n % 256 ∷ letters_by digits (n / 256))

-- 64 bits are 8 digits
abbrev pub letters_of : ℕ → List ℕ
letters_of n = letters_by 8 n
