-- What a function that writes a text into a room promises.
use Rattle.std.specs.Prelude.{ℕ, ◌+◌, ◌≡◌, List, length}
use Rattle.ports.specs.Overwriting.{overwrite}

-- a text stands at a place of a room, all else is as it was, and the next place is behind the text
abbrev pub Wrote : List ℕ → ℕ → List ℕ → List ℕ → ℕ → Type 0
Wrote room at text after next = (next ≡ at + length text) × (after ≡ overwrite room at text)
