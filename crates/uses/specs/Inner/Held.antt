-- The labels that operands name, as two lent rows hold them.
use Rattle.std.specs.Prelude.{ℕ, zero, suc, ◌+◌, ◌*◌, ◌≤◌, cond, List, [], ◌∷◌, ◌++◌, ◌≡◌, eqb, length, get_or}
use Rattle.sources.specs.Uses.{Counted, plainly, from, Use}
use Rattle.labels.specs.Inner.Labels.{window}

-- how far the address after the instruction lies behind the cell; 0 where the label's value stands as it is
abbrev pub counted_by : ℕ → ℕ → Counted
counted_by cell away = cond (eqb away 0) plainly (from (cell + away))

abbrev pub use_held : List ℕ → ℕ → ℕ → ℕ → ℕ → ℕ → Use
use_held s start size cell line away = record { line = line; name = window s start size; cell = cell; counted = counted_by cell away }

-- the i-th of them
abbrev pub use_at : List ℕ → List ℕ → List ℕ → ℕ → Use
use_at s row aways i =
    use_held s (get_or row (4 * i) 0) (get_or row (4 * i + 1) 0) (get_or row (4 * i + 2) 0) (get_or row (4 * i + 3) 0) (get_or aways i 0)

-- the first n of them
unfoldable pub uses_held : List ℕ → List ℕ → List ℕ → ℕ → List Use
uses_held s row aways zero = []
uses_held s row aways (suc n) = uses_held s row aways n ++ (use_at s row aways n ∷ [])

-- whatever the source: two rows held n of them, and hold m now, those and then these
abbrev pub Adds : List ℕ → List ℕ → ℕ → (List ℕ → List Use) → List ℕ → List ℕ → ℕ → Type 0
Adds row aways n these row' aways' m = (s : List ℕ) → uses_held s row' aways' m ≡ uses_held s row aways n ++ these s

-- the rows have room for n of them
pub record Room (n : ℕ) (row aways : List ℕ) : Type 0 where
  pub cells : 4 * n ≤ length row
  pub distances : n ≤ length aways

-- a source of 32,768 bytes names fewer
abbrev pub most_uses : ℕ
most_uses = 32770
