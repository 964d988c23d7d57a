-- Cells read as two's complement in an `i32`, and back: how large readings and what is computed of them are, and that an
-- `i32` holds them. Assumes nothing.
use mathlib.Core.Path.{◌≡◌, refl, sym, ap, ◌∙◌}
use mathlib.Core.Bool.{Bool, true, false, cond}
use Prim.Native.Nat.{ℕ, zero, suc, ◌+◌, ◌-◌, ◌*◌, ◌/◌, ◌≤◌, ◌<◌}
use native.Mathlib.Omega.{arith}
use native.Mathlib.Nat.{div-le_self, mul-le-mul}
use borrow.Author.Tests.{lt-ltb, le-ltb, ltb-true}
use lib.IntN.{ℤ, pos, negsuc, neg_ℤ, sub_ℕ, ◌+ℤ◌, ◌-ℤ◌, ◌*ℤ◌}
use lib.Dec.{ltb}
use lib.Signed.{mag, lt_z, quot_z, rem_z, mag_rem}
use mir.Syntax.{w16, w32}
use mir.Val.{Fits, SFits, to_z, of_z}
use mir.ValLaws.{of_z-to_z, to_z-Fits, to_z-of_z}
use Rattle.arithmetic.specs.Cells.{signed, cell}

-- a cell from 32768 on is read as itself less 65536
pub lowered : (x : ℕ) → 32768 ≤ x → x < 65536 → pos x -ℤ pos 65536 ≡ signed x
lowered x l h = simp (lt-ltb x 65536 h, le-ltb x 32768 l)

-- a number below 0, raised by 65536, is its cell
pub raised : (z : ℤ) → lt_z z (pos 0) ≡ true → mag z < 65536 → z +ℤ pos 65536 ≡ pos (cell z)
raised (negsuc n) t h = simp (le-ltb 65536 (suc n) (omega arith))
raised (pos n) t h = absurd (omega (arith, ltb-true n 0 t))

-- and any other is its cell as it is
pub kept : (z : ℤ) → lt_z z (pos 0) ≡ false → z ≡ pos (cell z)
kept (pos n) t = refl
kept (negsuc n) t = let z : ◌≡◌ {A = ℕ} 0 1 = cc in absurd (omega arith)

pub cell-small : (z : ℤ) → mag z < 65536 → cell z < 65536
cell-small (pos n) h = h
cell-small (negsuc n) h = omega arith

-- a reading is from -32768 to 32767
pub small : (x : ℕ) → x < 65536 → mag (signed x) < 32768
small x h = (to_z-Fits w16 x (record { fits = h })).sfits

-- the cell of a cell's reading is the cell
pub cell-signed : (x : ℕ) → x < 65536 → cell (signed x) ≡ x
cell-signed x h = of_z-to_z w16 x (record { fits = h })

-- ---- how large what is computed of two numbers is: `mag` is n both for n and for -1-n

pub mag-minus : (n : ℕ) → mag (neg_ℤ (pos n)) ≤ n - 1
mag-minus zero = omega arith
mag-minus (suc n) = omega arith

mag_neg : (z : ℤ) → mag (neg_ℤ z) ≤ suc (mag z)
mag_neg (pos n) = omega (arith, mag-minus n)
mag_neg (negsuc n) = omega arith

mag-cond : (t : Bool) (m n k : ℕ) → m ≤ k → n ≤ k → mag (cond t (negsuc m) (pos n)) ≤ k
mag-cond true m n k h l = h
mag-cond false m n k h l = l

mag_less : (a b : ℕ) → mag (sub_ℕ a b) ≤ a + b
mag_less a b = mag-cond (ltb a b) (b - suc a) (a - b) (a + b) (omega arith) (omega arith)

mag_sum : (a b : ℤ) → mag (a +ℤ b) ≤ suc (mag a + mag b)
mag_sum (pos a) (pos b) = omega arith
mag_sum (pos a) (negsuc b) = omega (arith, mag_less a (suc b))
mag_sum (negsuc a) (pos b) = omega (arith, mag_less b (suc a))
mag_sum (negsuc a) (negsuc b) = omega arith

mag-product : (a b : ℤ) → mag (a *ℤ b) ≤ suc (mag a) * suc (mag b)
mag-product (pos a) (pos b) = omega arith
mag-product (pos a) (negsuc b) = omega (arith, mag-minus (a * suc b))
mag-product (negsuc a) (pos b) = omega (arith, mag-minus (suc a * b))
mag-product (negsuc a) (negsuc b) = omega arith

mag-quotient : (a b : ℤ) → mag (quot_z a b) ≤ suc (mag a)
mag-quotient (pos a) (pos b) = omega (arith, div-le_self a b)
mag-quotient (pos a) (negsuc b) = omega (arith, mag-minus (a / suc b), div-le_self a (suc b))
mag-quotient (negsuc a) (pos b) = omega (arith, mag-minus (suc a / b), div-le_self (suc a) b)
mag-quotient (negsuc a) (negsuc b) = omega (arith, div-le_self (suc a) (suc b))

-- ---- what `i32`s hold

pub fits : (z : ℤ) → mag z < 2147483648 → SFits w32 z
fits z h = record { sfits = h }

-- an `i32` holds a cell's reading
held : (z : ℤ) (x : ℕ) → z ≡ signed x → x < 65536 → to_z w32 (of_z w32 z) ≡ signed x
held z x e h = rw e (to_z-of_z w32 (signed x) (fits (signed x) (omega (arith, small x h))))

-- what is computed of two `i32`s a and b fits one, and is what is computed of the readings of x and y
pub record Computed (op : ℤ → ℤ → ℤ) (a b : ℤ) (x y : ℕ) : Type 0 where
  pub fits : SFits w32 (op (to_z w32 (of_z w32 a)) (to_z w32 (of_z w32 b)))
  pub right : to_z w32 (of_z w32 (op (to_z w32 (of_z w32 a)) (to_z w32 (of_z w32 b)))) ≡ op (signed x) (signed y)

-- so it is where a and b are the readings, for an operation whose results of two readings fit: ADD, SUB, MUL, DIV and MOD
pub computed : (op : ℤ → ℤ → ℤ) {a b : ℤ} (x y : ℕ) → a ≡ signed x → b ≡ signed y → Fits w16 x → Fits w16 y → ((x y : ℕ) → x < 65536 → y < 65536 → mag (op (signed x) (signed y)) < 2147483648) → Computed op a b x y
computed op {a} {b} x y ax by fx fy within =
    let hx = held a x ax fx.fits in
    let hy = held b y by fy.fits in
    let f = fits (op (signed x) (signed y)) (within x y fx.fits fy.fits) in
    record { fits = rw (hx, hy) f; right = rw (hx, hy) (to_z-of_z w32 _ f) }

-- each operation's results fit
pub sum-within : (x y : ℕ) → x < 65536 → y < 65536 → mag (signed x +ℤ signed y) < 2147483648
sum-within x y h k = omega (arith, mag_sum (signed x) (signed y), small x h, small y k)

pub difference-within : (x y : ℕ) → x < 65536 → y < 65536 → mag (signed x -ℤ signed y) < 2147483648
difference-within x y h k =
    omega (arith, mag_sum (signed x) (neg_ℤ (signed y)), mag_neg (signed y), small x h, small y k)

pub product-within : (x y : ℕ) → x < 65536 → y < 65536 → mag (signed x *ℤ signed y) < 2147483648
product-within x y h k =
    omega (arith, mag-product (signed x) (signed y), mul-le-mul {n₂ = 32768} {m₂ = 32768} (small x h) (small y k))

-- a product of two cells fits a `u32`
pub unsigned_within : (x y : ℕ) → x < 65536 → y < 65536 → x * y < 4294967296
unsigned_within x y h k = omega (arith, mul-le-mul {n₁ = x} {m₁ = y} {n₂ = 65535} {m₂ = 65535} (omega arith) (omega arith))

-- a quotient's and a remainder's are small enough for a cell too
pub quotient-small : (x y : ℕ) → x < 65536 → mag (quot_z (signed x) (signed y)) < 65536
quotient-small x y h = omega (arith, mag-quotient (signed x) (signed y), small x h)

pub remainder_small : (x y : ℕ) → x < 65536 → mag (rem_z (signed x) (signed y)) < 32768
remainder_small x y h = omega (arith, mag_rem (signed x) (signed y), small x h)

pub quotient-within : (x y : ℕ) → x < 65536 → y < 65536 → mag (quot_z (signed x) (signed y)) < 2147483648
quotient-within x y h k = omega (arith, quotient-small x y h)

pub remainder_within : (x y : ℕ) → x < 65536 → y < 65536 → mag (rem_z (signed x) (signed y)) < 2147483648
remainder_within x y h k = omega (arith, remainder_small x y h)

-- a divisor that is no zero cell is no zero in an `i32`
not-zero : (y : ℕ) → (y ≡ 0 → ⊥) → y < 65536 → 0 < of_z w32 (signed y)
not-zero y n h = positive (signed y) (small y h) (λ e. n (sym (cell-signed y h) ∙ ap cell e))
  where
    positive : (z : ℤ) → mag z < 32768 → (z ≡ pos 0 → ⊥) → 0 < of_z w32 z
    positive (pos zero) h n = absurd (n refl)
    positive (pos (suc n)) h e = omega arith
    positive (negsuc n) h e = omega arith

-- what a division of two `i32`s asks, and a remainder too
pub divides : {a b : ℤ} (x y : ℕ) → Computed quot_z a b x y → b ≡ signed y → Fits w16 y → (y ≡ 0 → ⊥) → (0 < of_z w32 b) × SFits w32 (quot_z (to_z w32 (of_z w32 a)) (to_z w32 (of_z w32 b)))
divides x y q by fy n = (rw by (not-zero y n fy.fits), q.fits)
