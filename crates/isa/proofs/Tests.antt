-- Tests that compute: two at once, and one at each number below n, by which a table's rule is proved once. Assumes nothing.
use mathlib.Core.Path.{◌≡◌, refl}
use mathlib.Core.Bool.{Bool, true, false, ◌&&◌, ◌||◌, false≢true}
use Prim.Native.Nat.{ℕ, zero, suc, ◌<◌}
use native.Mathlib.Omega.{arith}
use borrow.Author.Tests.{eqb-true, eqb-false}
use lib.Dec.{eqb}

pub both_true : (a b : Bool) → (a && b) ≡ true → (a ≡ true) × (b ≡ true)
both_true true b e = (refl, e)
both_true false b e = absurd (false≢true e)

pub and-false : (b : Bool) → (b && false) ≡ false
and-false true = refl
and-false false = refl

pub or_false : (b : Bool) → (b || false) ≡ b
or_false true = refl
or_false false = refl

-- a test passes at each number below n
abbrev pub every : (ℕ → Bool) → ℕ → Bool
every f zero = true
every f (suc n) = f n && every f n

last_or_before : (f : ℕ → Bool) (n k : ℕ) (b : Bool) → eqb k n ≡ b → f n ≡ true → (k < n → f k ≡ true) → k < suc n → f k ≡ true
last_or_before f n k true e last before h = rw (eqb-true k n e) last
last_or_before f n k false e last before h = let d = eqb-false k n e in before (omega arith)

pub every_at : (f : ℕ → Bool) (n : ℕ) → every f n ≡ true → (k : ℕ) → k < n → f k ≡ true
every_at f zero t k h = absurd (omega arith)
every_at f (suc n) t k h =
    let both = both_true (f n) (every f n) t in
    last_or_before f n k (eqb k n) refl both.0 (every_at f n both.1 k) h

-- of two constructors that are not equal, where `cc` shows that they would be
pub never : {X : Type 0} → ◌≡◌ {A = ℕ} 0 1 → X
never e = absurd (omega (arith, e))
