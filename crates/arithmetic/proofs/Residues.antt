-- Which numbers a natural number is equal to modulo 65536. The unsigned sum, difference and product of two cells are those
-- of their readings so, and a reading is told by it. Assumes nothing.
use mathlib.Core.Path.{◌≡◌, refl, ap}
use mathlib.Core.Bool.{Bool, true, false, cond}
use Prim.Native.Nat.{ℕ, zero, suc, ◌+◌, ◌-◌, ◌*◌, ◌%◌, ◌<◌}
use native.Mathlib.Omega.{arith}
use borrow.Author.Tests.{ltb-true, ltb-false}
use lib.Dec.{ltb}
use lib.IntN.{ℤ, pos, negsuc, neg_ℤ, sub_ℕ, ◌+ℤ◌, ◌-ℤ◌, ◌*ℤ◌}
use lib.Signed.{mag}
use mir.Syntax.{w16}
use mir.ValLaws.{to_z_pos, to_z-neg}
use Rattle.arithmetic.specs.Cells.{signed, cell}
use Rattle.arithmetic.proofs.Readings.{small, cell-signed}

-- a number is `above` less `below`, of which one is 0
abbrev above : ℤ → ℕ
above (pos n) = n
above (negsuc n) = 0

abbrev below : ℤ → ℕ
below (pos n) = 0
below (negsuc n) = suc n

-- n and z differ by a multiple of 65536
pub record Same (z : ℤ) (n : ℕ) : Type 0 where
  pub less : ℕ
  pub more : ℕ
  pub eq : n + 65536 * less + below z ≡ above z + 65536 * more

-- z is the reading of n's cell, where it does not leave 16 bits
pub read : (z : ℤ) (n : ℕ) → Same z n → mag z < 32768 → signed (n % 65536) ≡ z
read (pos m) n s h =
    let e : n % 65536 ≡ m = omega (arith, s.eq) in rw e (to_z_pos w16 m h)
read (negsuc m) n s h =
    let e : n % 65536 ≡ 65536 - suc m = omega (arith, s.eq) in rw e (to_z-neg w16 m h)

module _ (a b n l k : ℕ) (e : n + 65536 * l + b ≡ a + 65536 * k) where
  less_at : (t : Bool) → ltb a b ≡ t → Same (cond t (negsuc (b - suc a)) (pos (a - b))) n
  less_at true h = record { less = l; more = k; eq = omega (arith, ltb-true a b h) }
  less_at false h = record { less = l; more = k; eq = omega (arith, ltb-false a b h) }

  less : Same (sub_ℕ a b) n
  less = less_at (ltb a b) refl

sum : (a b : ℤ) (m n : ℕ) → Same a m → Same b n → Same (a +ℤ b) (m + n)
sum (pos a) (pos b) m n s t =
    record { less = s.less + t.less; more = s.more + t.more; eq = omega (arith, s.eq, t.eq) }
sum (pos a) (negsuc b) m n s t =
    less a (suc b) (m + n) (s.less + t.less) (s.more + t.more) (omega (arith, s.eq, t.eq))
sum (negsuc a) (pos b) m n s t =
    less b (suc a) (m + n) (s.less + t.less) (s.more + t.more) (omega (arith, s.eq, t.eq))
sum (negsuc a) (negsuc b) m n s t =
    record { less = s.less + t.less; more = s.more + t.more; eq = omega (arith, s.eq, t.eq) }

minus : (p n k : ℕ) → n + p ≡ 65536 * k → Same (neg_ℤ (pos p)) n
minus zero n k e = record { less = 0; more = k; eq = omega arith }
minus (suc p) n k e = record { less = 0; more = k; eq = omega arith }

negated : (z : ℤ) → mag z < 32768 → Same (neg_ℤ z) (65536 - cell z)
negated (pos n) h = minus n (65536 - n) 1 (omega arith)
negated (negsuc n) h = record { less = 0; more = 0; eq = omega arith }

self : (z : ℤ) → mag z < 32768 → Same z (cell z)
self (pos n) h = record { less = 0; more = 0; eq = omega arith }
self (negsuc n) h = record { less = 0; more = 1; eq = omega arith }

-- the product of what is left to 65536 of two numbers
left : (p q u v : ℕ) → p + u ≡ 65536 → q + v ≡ 65536 → u * v + 65536 * (p + q) ≡ p * q + 65536 * 65536
left p q u v e f =
    omega (arith, ap (λ (t : ℕ). t * q) e, ap (λ (t : ℕ). p * t) f, ap (λ (t : ℕ). t * (q + v)) e)

product : (a b : ℤ) → mag a < 32768 → mag b < 32768 → Same (a *ℤ b) (cell a * cell b)
product (pos a) (pos b) h k = record { less = 0; more = 0; eq = omega arith }
product (pos a) (negsuc b) h k =
    let e : suc b + (65536 - suc b) ≡ 65536 = omega arith in
    minus (a * suc b) (a * (65536 - suc b)) a (omega (arith, ap (λ (t : ℕ). a * t) e))
product (negsuc a) (pos b) h k =
    let e : suc a + (65536 - suc a) ≡ 65536 = omega arith in
    minus (suc a * b) ((65536 - suc a) * b) b (omega (arith, ap (λ (t : ℕ). t * b) e))
product (negsuc a) (negsuc b) h k =
    record {
      less = suc a + suc b;
      more = 65536;
      eq = omega (arith, left (suc a) (suc b) (65536 - suc a) (65536 - suc b) (omega arith) (omega arith));
    }

module _ (x y : ℕ) (h : x < 65536) (k : y < 65536) where
  own : (z : ℕ) → z < 65536 → Same (signed z) z
  own z l = rw (cell-signed z l) at (self (signed z) (small z l))

  pub sum_same : Same (signed x +ℤ signed y) (x + y)
  sum_same = sum (signed x) (signed y) x y (own x h) (own y k)

  pub difference-same : Same (signed x -ℤ signed y) (x + (65536 - y))
  difference-same =
      sum (signed x) (neg_ℤ (signed y)) x (65536 - y) (own x h) (rw (cell-signed y k) at (negated (signed y) (small y k)))

  pub product-same : Same (signed x *ℤ signed y) (x * y)
  product-same = rw (cell-signed x h, cell-signed y k) at (product (signed x) (signed y) (small x h) (small y k))
