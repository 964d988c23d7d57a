-- A list with other elements from a place on.
use Rattle.std.specs.Prelude.{ℕ, ◌+◌, List, ◌++◌, length, take, drop}

-- `ys` stands at a place of `xs`, and all else is as it was
unfoldable pub overwrite : List ℕ → ℕ → List ℕ → List ℕ
overwrite xs at ys = take at xs ++ (ys ++ drop (at + length ys) xs)
