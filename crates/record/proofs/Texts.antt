-- What is written line by line is the record: lines behind lines, none past its place.
use mathlib.Core.Path.{◌≡◌}
use mathlib.Core.List.{List, [], ◌∷◌, ◌++◌}
use Prim.Native.Nat.{ℕ, ◌+◌, ◌*◌, ◌-◌, ◌≤◌}
use native.Mathlib.Numerals.{add-one}
use native.Mathlib.Omega.{arith}
use lib.ListN.{length, get_or, take, drop}
use Rattle.numerals.specs.Writing.{decimal}
use Rattle.texts.specs.Lines.{text_of}
use Rattle.texts.specs.Inner.Wrote.{Wrote}
use Rattle.texts.proofs.Rooms.{wrote_lines}
use Rattle.record.specs.Inner.Cells.{lines_from}

module _ (xs : List ℕ) (at : ℕ) (a b : List (List ℕ)) (n m : ℕ) where
  -- lines of at most n bytes, and others of at most m behind them
  pub lines_on : {mid after : List ℕ} {k next : ℕ} → at ≤ length xs → Wrote xs at (text_of a) mid k × (k ≤ at + n)
      → Wrote mid k (text_of b) after next × (next ≤ k + m)
      → Wrote xs at (text_of (a ++ b)) after next × (next ≤ at + (n + m))
  lines_on h w v = (wrote_lines xs at a b h w.0 v.0, omega (arith, w.1, v.1))

module _ (xs : List ℕ) (at : ℕ) (names r : List ℕ) (from k : ℕ) where
  -- one more register's line
  pub cells-more : {mid after : List ℕ} {m next : ℕ} → at ≤ length xs → Wrote xs at (text_of (lines_from names r from k)) mid m × (m ≤ at + 20 * k)
      → Wrote mid m (text_of ((take (3 * k + 3 - 3 * k) (drop (3 * k) names) ++ decimal (get_or r (from + k) 0)) ∷ [])) after next × (next ≤ m + 20)
      → Wrote xs at (text_of (lines_from names r from (k + 1))) after next × (next ≤ at + 20 * (k + 1))
  unfolding lines_from
  cells-more h w v =
      let three : 3 * k + 3 - 3 * k ≡ 3 = omega arith in
      let more = lines_on xs at (lines_from names r from k) (_ ∷ []) (20 * k) 20 h w (rw three at v) in
      (rw (add-one k) more.0, omega (arith, more.1))
