-- What the arithmetic promises, for a reader. Each function's promise is one equation, r ≡ its meaning in specs/Operations.antt. The marked
-- table of document 01 stands in the crate `marked`.
use mathlib.Core.Path.{◌≡◌, refl, sym, ◌∙◌}
use mathlib.Core.Bool.{Bool, false}
use Prim.Native.Nat.{ℕ, ◌<◌}
use lib.Signed.{quot_z, rem_z}
use Rattle.arithmetic.specs.Cells.{signed, leaves16}
use Rattle.arithmetic.specs.Flags.{flags_of}
use Rattle.arithmetic.specs.Operations.{SUB, DIV, MOD, CMP, least_by_minus_one, stop_of_division}
use Rattle.arithmetic.proofs.Laws.{flags-word, quotient-leaves, remainder_stays}

-- "two replies meeting it coincide", of any of these promises
pub replies-coincide : {A : Type 0} {meaning r s : A} → r ≡ meaning → s ≡ meaning → r ≡ s
replies-coincide p q = p ∙ sym q

-- "Arithmetic and CMP set ..": CMP gives the flags of SUB
pub compares_by_difference : (x y : ℕ) → CMP x y ≡ (SUB x y).flags
compares_by_difference x y = refl

-- "SR bits: Z 0, C 1, V 2, P 3, S 4": a flags word has no other bit, and so none of H's
pub five-flags : (r : ℕ) (carry overflow : Bool) → flags_of r carry overflow < 32
five-flags r carry overflow = (flags-word r carry overflow).five_bits

-- "6 zero divisor": DIV and MOD by 0 have no result, whatever the dividend
pub DIV_by_zero : (x : ℕ) → stop_of_division (DIV x 0) ≡ 6
unfolding DIV
DIV_by_zero x = refl

pub MOD_by_zero : (x : ℕ) → stop_of_division (MOD x 0) ≡ 6
unfolding MOD
MOD_by_zero x = refl

-- "V is 1 only for DIV at -32768/-1": there alone the signed quotient leaves 16 bits
pub overflow_of_DIV : (x y : ℕ) → x < 65536 → y < 65536 → least_by_minus_one x y ≡ leaves16 (quot_z (signed x) (signed y))
overflow_of_DIV = quotient-leaves

-- and the remainder never does
pub overflow_of_MOD : (x y : ℕ) → x < 65536 → leaves16 (rem_z (signed x) (signed y)) ≡ false
overflow_of_MOD = remainder_stays
