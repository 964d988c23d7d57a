-- What crates above may cite of the operations: how large values and flags words are, each flag read back, V of DIV and
-- MOD, and the signed account of ADD, SUB and MUL. Assumes nothing.
use mathlib.Core.Path.{◌≡◌, refl, sym, ◌∙◌}
use mathlib.Core.Bool.{Bool, true, false, cond, ◌&&◌, and-false, or-false}
use mathlib.Core.Logic.{⊎_elim}
use Prim.Native.Nat.{ℕ, zero, suc, ◌+◌, ◌-◌, ◌*◌, ◌/◌, ◌%◌, ◌≤◌, ◌<◌}
use native.Mathlib.Omega.{arith}
use native.Mathlib.Nat.{div-one, div-le_self, div-lt_self, eq-or-lt_of_le}
use borrow.Author.Tests.{le-ltb, ltb-false, ne_eqb}
use lib.Bits.{and_le_l, or_lt, xor_lt}
use lib.Dec.{ltb, eqb}
use lib.IntN.{ℤ, pos, negsuc, neg_ℤ, ◌+ℤ◌, ◌-ℤ◌, ◌*ℤ◌}
use lib.Signed.{mag, quot_z, rem_z}
use Rattle.arithmetic.specs.Cells.{signed, cell, leaves16}
use Rattle.arithmetic.specs.Flags.{bit, is_zero, odd_ones, is_negative, flags_of}
use Rattle.arithmetic.specs.Operations.{outcome, ADD, SUB, MUL, DIV, MOD, AND, OR, XOR, NOT, least_by_minus_one}
use Rattle.arithmetic.specs.declared.Outcome.{Outcome}
use Rattle.std.proofs.Common.{Some, None}
use Rattle.arithmetic.proofs.Readings.{small, cell-signed, cell-small, mag-minus, quotient-small, remainder_small}
use Rattle.arithmetic.proofs.Residues.{read, sum_same, difference-same, product-same}

-- ---- the flags word

pub bit-small : (on : Bool) → bit on ≤ 1
bit-small true = omega arith
bit-small false = omega arith

-- "SR bits: Z 0, C 1, V 2, P 3, S 4": a word of five bits, from which each flag is read back
pub record FlagsWord (r : ℕ) (carry overflow : Bool) (sr : ℕ) : Type 0 where
  pub five_bits : sr < 32
  pub at_Z : sr % 2 ≡ bit (is_zero r)
  pub at_C : sr / 2 % 2 ≡ bit carry
  pub at_V : sr / 4 % 2 ≡ bit overflow
  pub at_P : sr / 8 % 2 ≡ bit (odd_ones r)
  pub at_S : sr / 16 % 2 ≡ bit (is_negative r)

pub flags-word : (r : ℕ) (carry overflow : Bool) → FlagsWord r carry overflow (flags_of r carry overflow)
unfolding flags_of
flags-word r carry overflow =
    let z = bit-small (is_zero r) in
    let c = bit-small carry in
    let v = bit-small overflow in
    let p = bit-small (odd_ones r) in
    let s = bit-small (is_negative r) in
    record {
      five_bits = omega arith;
      at_Z = omega arith;
      at_C = omega arith;
      at_V = omega arith;
      at_P = omega arith;
      at_S = omega arith;
    }

-- ---- how large what an operation gives is

-- a value that is a cell, and a flags word of five bits
pub record Fit (o : Outcome) : Type 0 where
  pub value : o.value < 65536
  pub flags : o.flags < 32

outcome_fits : (r : ℕ) (carry overflow : Bool) → r < 65536 → Fit (outcome r carry overflow)
unfolding outcome
outcome_fits r carry overflow h = record { value = h; flags = (flags-word r carry overflow).five_bits }

-- of INC, DEC, NEG and CMP too, which are these at 1, 1, 0 and by the flags
pub ADD-fits : (x y : ℕ) → Fit (ADD x y)
unfolding ADD
ADD-fits x y = outcome_fits ((x + y) % 65536) _ _ (omega arith)

pub SUB-fits : (x y : ℕ) → Fit (SUB x y)
unfolding SUB
SUB-fits x y = outcome_fits ((x + (65536 - y)) % 65536) _ _ (omega arith)

pub MUL-fits : (x y : ℕ) → Fit (MUL x y)
unfolding MUL
MUL-fits x y = outcome_fits (x * y % 65536) _ _ (omega arith)

-- a division that is done gives what it computes
done-gives : (t : Bool) (o p : Outcome) → cond t None (Some o) ≡ Some p → Fit o → Fit p
done-gives true o p e f = let z : ◌≡◌ {A = ℕ} 0 1 = cc in absurd (omega arith)
done-gives false o p e f = let q : o ≡ p = cc in rw q at f

pub DIV-fits : (x y : ℕ) {o : Outcome} → x < 65536 → DIV x y ≡ Some o → Fit o
unfolding DIV
DIV-fits x y {o} h e =
    done-gives (eqb y 0) _ o e
    (outcome_fits (cell (quot_z (signed x) (signed y))) _ _ (cell-small (quot_z (signed x) (signed y)) (quotient-small x y h)))

pub MOD-fits : (x y : ℕ) {o : Outcome} → x < 65536 → MOD x y ≡ Some o → Fit o
unfolding MOD
MOD-fits x y {o} h e =
    done-gives (eqb y 0) _ o e
    (outcome_fits (cell (rem_z (signed x) (signed y))) _ _ (cell-small (rem_z (signed x) (signed y)) (omega (arith, remainder_small x y h))))

pub AND-fits : (x y : ℕ) → x < 65536 → AND x y < 65536
AND-fits x y h = omega (arith, and_le_l x y)

pub OR_fits : (x y : ℕ) → x < 65536 → y < 65536 → OR x y < 65536
OR_fits x y h k = or_lt 16 x y h k

pub XOR-fits : (x y : ℕ) → x < 65536 → y < 65536 → XOR x y < 65536
XOR-fits x y h k = xor_lt 16 x y h k

pub NOT-fits : (x : ℕ) → NOT x < 65536
NOT-fits x = omega arith

-- ---- "leaves 16 bits"

-- from -32768 to 32767 are the numbers of a `mag` below 32768
leaves_is : (z : ℤ) → leaves16 z ≡ ltb 32767 (mag z)
unfolding leaves16
leaves_is (pos n) = refl
leaves_is (negsuc n) = or-false (ltb 32767 n)

stays : (z : ℤ) → mag z < 32768 → leaves16 z ≡ false
stays z h = leaves_is z ∙ le-ltb 32767 (mag z) (omega arith)

within : (z : ℤ) → leaves16 z ≡ false → mag z < 32768
within z e = omega (arith, ltb-false 32767 (mag z) (sym (leaves_is z) ∙ e))

-- a quotient of two numbers below 0: 32768 only of -32768 by -1
over : (a b : ℕ) → a < 32768 → b < 32768 → eqb (65536 - suc a) 32768 && eqb (65536 - suc b) 65535 ≡ ltb 32767 (suc a / suc b)
over a zero h k =
    ⊎_elim
    (λ (e : suc a ≡ 32768). rw e)
    (λ (l : suc a < 32768).
    rw (ne_eqb (65536 - suc a) 32768 (omega arith), div-one (suc a), le-ltb 32767 (suc a) (omega arith)))
    (eq-or-lt_of_le h)
over a (suc b) h k =
    rw (
      ne_eqb (65536 - suc (suc b)) 65535 (omega arith),
      le-ltb 32767 (suc a / suc (suc b)) (omega (arith, div-lt_self {n = suc a} {k = suc (suc b)} (omega arith) (omega arith))),
    ) (and-false (eqb (65536 - suc a) 32768))

by_signs : (a b : ℤ) → mag a < 32768 → mag b < 32768 → least_by_minus_one (cell a) (cell b) ≡ leaves16 (quot_z a b)
by_signs (pos a) (pos b) h k = rw (ne_eqb a 32768 (omega arith), stays (pos (a / b)) (omega (arith, div-le_self a b)))
by_signs (pos a) (negsuc b) h k =
    rw (ne_eqb a 32768 (omega arith), stays (neg_ℤ (pos (a / suc b))) (omega (arith, mag-minus (a / suc b), div-le_self a (suc b))))
by_signs (negsuc a) (pos b) h k =
    rw (ne_eqb b 65535 (omega arith), stays (neg_ℤ (pos (suc a / b))) (omega (arith, mag-minus (suc a / b), div-le_self (suc a) b)))
    (and-false (eqb (65536 - suc a) 32768))
by_signs (negsuc a) (negsuc b) h k = over a b h k ∙ sym (leaves_is (pos (suc a / suc b)))

module _ (x y : ℕ) (h : x < 65536) where
  -- "V is 1 only for DIV at -32768/-1": there alone the quotient leaves 16 bits
  pub quotient-leaves : y < 65536 → least_by_minus_one x y ≡ leaves16 (quot_z (signed x) (signed y))
  quotient-leaves k = rw (cell-signed x h, cell-signed y k) at (by_signs (signed x) (signed y) (small x h) (small y k))

  -- and a remainder never does
  pub remainder_stays : leaves16 (rem_z (signed x) (signed y)) ≡ false
  remainder_stays = stays (rem_z (signed x) (signed y)) (remainder_small x y h)

-- ---- the signed account of the result: where it does not leave 16 bits, it is what is computed of the readings

module _ (x y : ℕ) (h : x < 65536) (k : y < 65536) where
  pub ADD-signed : leaves16 (signed x +ℤ signed y) ≡ false → signed (ADD x y).value ≡ signed x +ℤ signed y
  unfolding ADD outcome
  ADD-signed l = read (signed x +ℤ signed y) (x + y) (sum_same x y h k) (within (signed x +ℤ signed y) l)

  pub SUB-signed : leaves16 (signed x -ℤ signed y) ≡ false → signed (SUB x y).value ≡ signed x -ℤ signed y
  unfolding SUB outcome
  SUB-signed l =
      read (signed x -ℤ signed y) (x + (65536 - y)) (difference-same x y h k) (within (signed x -ℤ signed y) l)

  pub MUL-signed : leaves16 (signed x *ℤ signed y) ≡ false → signed (MUL x y).value ≡ signed x *ℤ signed y
  unfolding MUL outcome
  MUL-signed l = read (signed x *ℤ signed y) (x * y) (product-same x y h k) (within (signed x *ℤ signed y) l)
