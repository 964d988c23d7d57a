-- A `match` on a number whose arms are 0, 1, 2, .. in order leaves the numbers past them. Assumes nothing.
use mathlib.Core.Path.{◌≡◌}
use Prim.Native.Nat.{ℕ, zero, suc, ◌≤◌}
use native.Mathlib.Omega.{arith}

-- n is none of the first k numbers, as the last arm of such a match knows it
abbrev pub Past : ℕ → ℕ → Type 0
Past zero n = Unit {0}
Past (suc k) n = Past k n × (n ≡ k → ⊥)

pub past : (k n : ℕ) → Past k n → k ≤ n
past zero n p = omega arith
past (suc k) n p = let h : k ≤ n = past k n p.0 in let d : n ≡ k → ⊥ = p.1 in omega arith
