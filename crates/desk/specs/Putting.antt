-- What putting a text into a room promises.
use Rattle.std.specs.Prelude.{ℕ, ◌≡◌, List}
use Rattle.ports.specs.Input.{Passed}
use Rattle.std.specs.Prelude.{Result, Ok, Err}

-- the place after a text, and its own where it did not fit
abbrev pub place_after : ℕ → Result ℕ ℕ → ℕ
place_after at (Ok next) = next
place_after at (Err k) = at

abbrev pub PutSo : ℕ → Passed → List ℕ → ℕ → Type 0
PutSo at put room next = (next ≡ place_after at put.moved) × (room ≡ put.row)
