-- Lines, strings and what stands in a row, said without a search or a copy; `proofs/Top.antt` shows that the answers follow them.
use Rattle.std.specs.Prelude.{ℕ, ◌+◌, ◌<◌, ◌≡◌, List, ◌∷◌, ◌++◌, length, get_or, take, drop}
use Rattle.numerals.specs.Bytes.{LF}

-- none of the elements is x
abbrev pub Free : ℕ → List ℕ → Type 0
Free x xs = (i : ℕ) → i < length xs → get_or xs i 0 ≡ x → ⊥

-- "a line, its LF taken, not kept", and "the last may lack it": the line at a position of the input, and the position after it
pub data Line (input : List ℕ) (at : ℕ) (line : List ℕ) (next : ℕ) : Type 0 where
  ended : (rest : List ℕ) → Free LF line → drop at input ≡ line ++ (LF ∷ rest) → next ≡ at + length line + 1 → Line input at line next
  last : Free LF line → drop at input ≡ line → next ≡ at + length line → Line input at line next

-- "WRSTR ends before the first cell that is 0": the cells of a string from a cell on
pub record StringFrom (m : List ℕ) (from : ℕ) (cells : List ℕ) : Type 0 where
  pub rest : List ℕ
  pub none_is_zero : Free 0 cells
  pub zero-follows : drop from m ≡ cells ++ (0 ∷ rest)

-- a text stands at a place of a row, and everything else is as it was lent
pub record Stands (lent : List ℕ) (at : ℕ) (text row : List ℕ) : Type 0 where
  pub there : take (length text) (drop at row) ≡ text
  pub before : take at row ≡ take at lent
  pub after : drop (at + length text) row ≡ drop (at + length text) lent
