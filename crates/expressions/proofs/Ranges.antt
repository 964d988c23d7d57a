-- Sizes of sums, products and quotients of 32-bit numbers, and the test of the range.
use Prim.Native.Nat.{ℕ, zero, suc, ◌+◌, ◌*◌, ◌-◌, ◌/◌, ◌^◌, ◌≤◌, ◌<◌}
use mathlib.Core.Bool.{Bool, true, false, cond, ◌&&◌}
use mathlib.Core.Path.{◌≡◌, refl, sym, ap, ap₂, subst⁻¹, ◌∙◌}
use native.Mathlib.Nat.{mul-le-mul, div-le_self}
use native.Mathlib.Omega.{arith}
use lib.Dec.{ltb, leb}
use lib.IntN.{ℤ, pos, negsuc, neg_ℤ, sub_ℕ, ◌+ℤ◌, ◌-ℤ◌, ◌*ℤ◌}
use lib.Signed.{mag, quot_z, rem_z, mag_rem}
use borrow.Author.Tests.{le-leb, lt-leb, leb-true}
use mir.Syntax.{w32, w64}
use mir.Val.{SFits, to_z, of_z}
use mir.Facts.{to_z-of_z, sfits_widen}
use Rattle.expressions.specs.Worths.{within32, is_zero}
use Rattle.expressions.specs.Worths.{Worth}
use Rattle.std.proofs.Common.{Result, Ok, Err, ok_or}
use Rattle.std.specs.Result.{OkIff, result_ok}
use Rattle.expressions.specs.declared.Fault.TheVariants.{OutOfRange}

-- ---- 64 bits are enough

mag-sub : (a b : ℕ) → mag (sub_ℕ a b) ≤ a + b
mag-sub a b = go (ltb a b)
  where
    go : (t : Bool) → mag (cond t (negsuc (b - suc a)) (pos (a - b))) ≤ a + b
    go true = omega arith
    go false = omega arith

mag-plus : (a b : ℤ) → mag (a +ℤ b) ≤ mag a + mag b + 1
mag-plus (pos a) (pos b) = omega arith
mag-plus (pos a) (negsuc b) = omega (arith, mag-sub a (suc b))
mag-plus (negsuc a) (pos b) = omega (arith, mag-sub b (suc a))
mag-plus (negsuc a) (negsuc b) = omega arith

mag_neg : (z : ℤ) → mag (neg_ℤ z) ≤ mag z + 1
mag_neg (pos zero) = omega arith
mag_neg (pos (suc n)) = omega arith
mag_neg (negsuc n) = omega arith

mag-times : (a b : ℤ) → mag (a *ℤ b) ≤ suc (mag a) * suc (mag b) + 1
mag-times (pos a) (pos b) = omega (arith, mul-le-mul {n₁ = a} {m₁ = b} {n₂ = suc a} {m₂ = suc b} (omega arith) (omega arith))
mag-times (pos a) (negsuc b) =
    omega (arith, mag_neg (pos (a * suc b)), mul-le-mul {n₁ = a} {m₁ = suc b} {n₂ = suc a} {m₂ = suc b} (omega arith) (omega arith))
mag-times (negsuc a) (pos b) =
    omega (arith, mag_neg (pos (suc a * b)), mul-le-mul {n₁ = suc a} {m₁ = b} {n₂ = suc a} {m₂ = suc b} (omega arith) (omega arith))
mag-times (negsuc a) (negsuc b) = omega arith

mag_quot : (a b : ℤ) → mag (quot_z a b) ≤ mag a + 2
mag_quot (pos a) (pos b) = omega (arith, div-le_self a b)
mag_quot (pos a) (negsuc b) = omega (arith, div-le_self a (suc b), mag_neg (pos (a / suc b)))
mag_quot (negsuc a) (pos b) = omega (arith, div-le_self (suc a) b, mag_neg (pos (suc a / b)))
mag_quot (negsuc a) (negsuc b) = omega (arith, div-le_self (suc a) (suc b))

module _ {a b : ℤ} (h : SFits w32 a) (k : SFits w32 b) where
  pub plus-fits : SFits w64 (a +ℤ b)
  plus-fits = record { sfits = omega (arith, mag-plus a b, h.sfits, k.sfits) }

  pub minus-fits : SFits w64 (a -ℤ b)
  minus-fits = record { sfits = omega (arith, mag-plus a (neg_ℤ b), mag_neg b, h.sfits, k.sfits) }

  pub times-fits : SFits w64 (a *ℤ b)
  times-fits =
      let m = mul-le-mul {n₁ = suc (mag a)} {m₁ = suc (mag b)} {n₂ = 2 ^ 31} {m₂ = 2 ^ 31} h.sfits k.sfits in
      record { sfits = omega (arith, mag-times a b, m) }

  pub quot_fits : SFits w64 (quot_z a b)
  quot_fits = record { sfits = omega (arith, mag_quot a b, h.sfits) }

  pub rem_fits : SFits w64 (rem_z a b)
  rem_fits = record { sfits = omega (arith, mag_rem a b, h.sfits) }

-- ---- a number of 32 bits at 64 bits

abbrev pub at64 : ℤ → ℤ
at64 z = to_z w64 (of_z w64 (to_z w32 (of_z w32 z)))

module _ {a : ℤ} (h : SFits w32 a) where
  at64_is : at64 a ≡ a
  at64_is = ap (λ (x : ℤ). to_z w64 (of_z w64 x)) (to_z-of_z {w = w32} h) ∙ to_z-of_z {w = w64} (sfits_widen {w = w32} {w' = w64} tt h)

  pub wide : SFits w64 (to_z w32 (of_z w32 a))
  wide = rw (to_z-of_z {w = w32} h) (sfits_widen {w = w32} {w' = w64} tt h)

-- an operation at 64 bits is the operation
module _ (f : ℤ → ℤ → ℤ) {a b : ℤ} (h : SFits w32 a) (k : SFits w32 b) where
  pub op_fits : SFits w64 (f a b) → SFits w64 (f (at64 a) (at64 b))
  op_fits g = subst⁻¹ (λ (x : ℤ). SFits w64 (f x (at64 b))) (at64_is h) (subst⁻¹ (λ (y : ℤ). SFits w64 (f a y)) (at64_is k) g)

  op_is : SFits w64 (f a b) → to_z w64 (of_z w64 (f (at64 a) (at64 b))) ≡ f a b
  op_is g = to_z-of_z {w = w64} (op_fits g) ∙ ap₂ f (at64_is h) (at64_is k)

  pub op_kept : SFits w64 (f a b) → {w : Worth} → w ≡ within32 (to_z w64 (of_z w64 (f (at64 a) (at64 b)))) → w ≡ within32 (f a b)
  op_kept g e = e ∙ ap within32 (op_is g)

-- ---- the range

kept_range : (z : ℤ) → mag z < 2 ^ 31 → within32 z ≡ Ok z
unfolding within32
kept_range (pos n) h = rw (le-leb n 2147483647 (omega arith))
kept_range (negsuc n) h = rw (le-leb n 2147483647 (omega arith))

outside_range : (z : ℤ) → (SFits w32 z → ⊥) → within32 z ≡ Err OutOfRange
unfolding within32
outside_range (pos n) f = go (leb n 2147483647) refl
  where
    go : (q : Bool) → leb n 2147483647 ≡ q → cond q (Ok (pos n)) (Err OutOfRange) ≡ Err OutOfRange
    go true e = absurd (f (record { sfits = omega (arith, leb-true n 2147483647 e) }))
    go false e = refl
outside_range (negsuc n) f = go (leb n 2147483647) refl
  where
    go : (q : Bool) → leb n 2147483647 ≡ q → cond (q && true) (Ok (negsuc n)) (Err OutOfRange) ≡ Err OutOfRange
    go true e = absurd (f (record { sfits = omega (arith, leb-true n 2147483647 e) }))
    go false e = refl

-- a number that is kept where 32 bits hold it
pub kept : {E : Type 0} (z : ℤ) (t : Result ℤ E) → OkIff t (SFits w32 z) z → ok_or (result_ok t) OutOfRange ≡ within32 z
kept z (Ok x) f = ap Ok f.1 ∙ sym (kept_range z f.0.sfits)
kept z (Err e) n = sym (outside_range z n)

-- ---- zero

pub zero_bits : (z : ℤ) → SFits w32 z → of_z w32 z ≡ 0 → is_zero z ≡ true
zero_bits (pos n) h e = rw e
zero_bits (negsuc n) h e = absurd (omega (arith, h.sfits))

pub no_zero : (z : ℤ) → (of_z w32 z ≡ 0 → ⊥) → is_zero z ≡ false
no_zero (pos zero) h = absurd (h refl)
no_zero (pos (suc n)) h = rw (lt-leb (suc n) 0 (omega arith))
no_zero (negsuc n) h = refl

pub divides : {z : ℤ} → SFits w32 z → (of_z w32 z ≡ 0 → ⊥) → 0 < of_z w64 (to_z w32 (of_z w32 z))
divides {z} h n = subst⁻¹ (λ (x : ℤ). 0 < of_z w64 x) (to_z-of_z {w = w32} h) (go z h n)
  where
    go : (z : ℤ) → SFits w32 z → (of_z w32 z ≡ 0 → ⊥) → 0 < of_z w64 z
    go (pos zero) h n = absurd (n refl)
    go (pos (suc m)) h n = omega arith
    go (negsuc m) h n = omega (arith, h.sfits)
