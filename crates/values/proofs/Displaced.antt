-- The cell that keeps a displacement, by radix and sign; and a cell, written as a decimal, is kept as itself.
use Prim.Native.Nat.{ℕ, zero, suc, ◌-◌, ◌%◌, ◌≤◌, ◌<◌}
use mathlib.Core.Bool.{Bool, true, false, cond}
use mathlib.Core.Path.{◌≡◌, refl, ap, ◌∙◌}
use native.Mathlib.Decide.{dec_lt}
use native.Mathlib.Omega.{arith}
use lib.Dec.{ltb}
use lib.IntN.{pos, neg_ℤ}
use lib.Signed.{le_z}
use borrow.Author.Tests.{le-leb, lt-ltb, le-ltb}
use Rattle.numerals.specs.Numbers.{kept_of}
use Rattle.std.proofs.Common.{Option, Some, None}
use Rattle.numerals.specs.declared.Numeral.{Numeral}
use Rattle.numerals.specs.declared.Radix.{Radix}
use Rattle.numerals.specs.declared.Radix.TheVariants.{Decimal}
use Rattle.numerals.proofs.Cells.{kept-plus, kept-minus}
use Rattle.values.specs.Values.{numeral}
use Rattle.values.specs.Ranges.{displacement_in, displacement_of}

below : (m : ℕ) → le_z (neg_ℤ (pos m)) (pos 32767) ≡ true
below zero = refl
below (suc m) = refl

module _ (n : Numeral) where
  -- a decimal one, whatever its sign is read from
  signed : Bool → Option ℕ
  signed b = cond (le_z (cond b (neg_ℤ (pos n.magnitude)) (pos n.magnitude)) (pos 32767)) (kept_of n) None

  decimal : n.radix ≡ Decimal → displacement_of n ≡ signed n.negative
  unfolding displacement_of signed
  decimal r = ap (λ (k : Radix). displacement_in k n) r

  pub displaced-minus : n.radix ≡ Decimal → n.negative ≡ true → displacement_of n ≡ kept_of n
  unfolding signed
  displaced-minus r e = decimal r ∙ ap signed e ∙ rw (below n.magnitude)

  pub displaced-plus : n.radix ≡ Decimal → n.negative ≡ false → n.magnitude ≤ 32767 → displacement_of n ≡ kept_of n
  unfolding signed
  displaced-plus r e h = decimal r ∙ ap signed e ∙ rw (le-leb n.magnitude 32767 h)

-- ---- a cell, written as a decimal

-- unsigned, and signed as WRINT writes it
abbrev pub unsigned_of : ℕ → Numeral
unsigned_of v = numeral false Decimal v

unfoldable pub signed_of : ℕ → Numeral
signed_of d = cond (ltb d 32768) (numeral false Decimal d) (numeral true Decimal (65536 - d))

-- it is kept as itself
pub kept-number : (v : ℕ) → v < 65536 → kept_of (unsigned_of v) ≡ Some v
kept-number v h = let e : v % 65536 ≡ v = omega arith in kept-plus (unsigned_of v) refl (omega arith) ∙ ap Some e

pub kept_displacement : (d : ℕ) → d < 65536 → displacement_of (signed_of d) ≡ Some d
unfolding signed_of
kept_displacement d h =
    elim (dec_lt d 32768) [
      | yes l ↦ rw (lt-ltb d 32768 l) (displaced-plus (unsigned_of d) refl refl (omega arith) ∙ kept-number d h)
      | no g ↦
          let m = 65536 - d in
          let n = numeral true Decimal m in
          let e : (65536 - m) % 65536 ≡ d = omega arith in
          rw (le-ltb d 32768 (omega arith)) (displaced-minus n refl refl ∙ kept-minus n refl (omega arith) ∙ ap Some e)
    ]
