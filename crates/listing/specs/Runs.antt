-- "each run of claimed cells" (02, K1): a longest row of cells with one mark that is not 0.
use Rattle.std.specs.Prelude.{ℕ, ◌+◌, ◌≤◌, ◌<◌, List, [], ◌∷◌, ◌≡◌, length, get_or}
use Rattle.codes.specs.Marks.{free}

pub record Run : Type 0 where
  pub from : ℕ
  pub mark : ℕ
  pub cells : List ℕ

abbrev pub run : ℕ → ℕ → List ℕ → Run
run at k xs = record { from = at; mark = k; cells = xs }

-- memory and map hold these cells with this mark from an address on
abbrev pub HoldCells : List ℕ → List ℕ → ℕ → List ℕ → ℕ → Type 0
HoldCells memory marks at xs k = (i : ℕ) → i < length xs → (get_or memory (at + i) 0 ≡ get_or xs i 0) × (get_or marks (at + i) free ≡ k)

-- cells are free
abbrev pub Free : List ℕ → ℕ → ℕ → Type 0
Free marks from to = (a : ℕ) → from ≤ a → a < to → get_or marks a free ≡ free

-- the first run from an address on: free cells before it, its cells with one mark, and no such cell behind them
pub record FirstRun (memory marks : List ℕ) (at : ℕ) (r : Run) : Type 0 where
  pub further : at ≤ r.from
  pub between : Free marks at r.from
  pub some : 0 < length r.cells
  pub within : r.from + length r.cells ≤ length memory
  pub agrees : HoldCells memory marks r.from r.cells r.mark
  pub claimed : r.mark ≡ free → ⊥
  pub stops : get_or marks (r.from + length r.cells) free ≡ r.mark → ⊥

-- the runs from an address on
pub data Runs (memory marks : List ℕ) : ℕ → List Run → Type 0 where
  over : {at : ℕ} → ((a : ℕ) → at ≤ a → get_or marks a free ≡ free) → Runs memory marks at []
  next : {at : ℕ} {rs : List Run} {r : Run} → FirstRun memory marks at r → Runs memory marks (r.from + length r.cells) rs
      → Runs memory marks at (r ∷ rs)
