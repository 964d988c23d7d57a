-- The cell that keeps a number, sign by sign.
use Prim.Native.Nat.{ℕ, zero, suc, ◌-◌, ◌%◌, ◌≤◌, ◌<◌}
use mathlib.Core.Bool.{Bool, true, false, cond}
use mathlib.Core.Path.{◌≡◌, refl, ap, ◌∙◌}
use native.Mathlib.Omega.{arith}
use lib.IntN.{ℤ, pos, neg_ℤ}
use mir.Syntax.{w16}
use mir.Val.{of_z}
use borrow.Author.Tests.{le-leb, lt-leb}
use Rattle.numerals.specs.Numbers.{in_range, kept_of}
use Rattle.std.proofs.Common.{Option, Some, None}
use Rattle.numerals.specs.declared.Numeral.{Numeral}

-- a number as its cell, whatever its sign is read from
abbrev cell_of : ℤ → Option ℕ
cell_of z = cond (in_range z) (Some (of_z w16 z)) None

below-zero : (m : ℕ) → m ≤ 32768 → cell_of (neg_ℤ (pos m)) ≡ Some ((65536 - m) % 65536)
below-zero zero h = refl
below-zero (suc n) h = rw (le-leb n 32767 (omega arith)) (ap Some (omega arith))

too_low : (m : ℕ) → 32768 < m → cell_of (neg_ℤ (pos m)) ≡ None
too_low zero h = absurd (omega arith)
too_low (suc n) h = rw (lt-leb n 32767 (omega arith))

module _ (n : Numeral) where
  signed : Bool → Option ℕ
  signed b = cell_of (cond b (neg_ℤ (pos n.magnitude)) (pos n.magnitude))

  pub kept-plus : n.negative ≡ false → n.magnitude ≤ 65535 → kept_of n ≡ Some (n.magnitude % 65536)
  unfolding kept_of signed
  kept-plus e h = ap signed e ∙ rw (le-leb n.magnitude 65535 h) (ap Some (omega arith))

  pub kept_high : n.negative ≡ false → 65535 < n.magnitude → kept_of n ≡ None
  unfolding kept_of signed
  kept_high e h = ap signed e ∙ rw (lt-leb n.magnitude 65535 h)

  pub kept-minus : n.negative ≡ true → n.magnitude ≤ 32768 → kept_of n ≡ Some ((65536 - n.magnitude) % 65536)
  unfolding kept_of signed
  kept-minus e h = ap signed e ∙ below-zero n.magnitude h

  pub kept_low : n.negative ≡ true → 32768 < n.magnitude → kept_of n ≡ None
  unfolding kept_of signed
  kept_low e h = ap signed e ∙ too_low n.magnitude h
