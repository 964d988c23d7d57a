-- The radices: their bases, and what the radix found at a place tells of the text from there on.
use Prim.Native.Nat.{ℕ, ◌+◌, ◌≤◌, ◌<◌}
use mathlib.Core.Bool.{Bool, true, false, cond, ◌&&◌}
use mathlib.Core.List.{List, ◌∷◌, ◌++◌}
use mathlib.Core.Path.{◌≡◌, refl, ap, ◌∙◌}
use native.Mathlib.Decide.{dec_lt}
use native.Mathlib.Nat.{add-zero}
use native.Mathlib.Numerals.{add-one}
use native.Mathlib.Omega.{arith}
use lib.Dec.{eqb}
use lib.ListN.{length, get_or, drop, get_or-eq_default}
use lib.Seq.{drop-cons}
use borrow.Author.Tests.{eqb-true}
use Rattle.numerals.specs.Numbers.{base, prefix}
use Rattle.numerals.specs.Reading.{radix_at}
use Rattle.numerals.specs.declared.Radix.{Radix}
use Rattle.numerals.specs.declared.Radix.TheVariants.{Decimal, Hexadecimal}

-- every digit is a byte that ranks as one
pub base-small : (k : Radix) → base k ≤ 16
base-small Decimal = omega arith
base-small Hexadecimal = omega arith

-- a byte that is not 0 stands within the text
pub within : (s : List ℕ) (at b : ℕ) → 0 < b → get_or s at 0 ≡ b → at < length s
within s at b h e =
    elim (dec_lt at (length s)) [
      | yes l ↦ l
      | no n ↦ let l : length s ≤ at = omega arith in absurd (omega (arith, get_or-eq_default s 0 l))
    ]

-- and the text from there on begins with it
pub begins : (s : List ℕ) (at b : ℕ) → 0 < b → get_or s at 0 ≡ b → drop at s ≡ b ∷ drop (at + 1) s
begins s at b h e =
    drop-cons s at 0 (within s at b h e) ∙ rw (e, add-one at)

hex_bytes : (s : List ℕ) (at : ℕ) → radix_at s at ≡ Hexadecimal → (get_or s at 0 ≡ 48) × (get_or s (at + 1) 0 ≡ 120)
unfolding radix_at
hex_bytes s at e = go (eqb (get_or s at 0) 48) (eqb (get_or s (at + 1) 0) 120) refl refl e
  where
    go : (a b : Bool) → eqb (get_or s at 0) 48 ≡ a → eqb (get_or s (at + 1) 0) 120 ≡ b → cond (a && b) Hexadecimal Decimal ≡ Hexadecimal
        → (get_or s at 0 ≡ 48) × (get_or s (at + 1) 0 ≡ 120)
    go true true p q e = (eqb-true (get_or s at 0) 48 p, eqb-true (get_or s (at + 1) 0) 120 q)
    go true false p q e = let z : ◌≡◌ {A = ℕ} 0 1 = cc in absurd (omega arith)
    go false b p q e = let z : ◌≡◌ {A = ℕ} 0 1 = cc in absurd (omega arith)

-- the prefix of the radix found at a place stands there
pub prefix-stands : (k : Radix) (s : List ℕ) (at : ℕ) → radix_at s at ≡ k → drop at s ≡ prefix k ++ drop (at + length (prefix k)) s
prefix-stands Decimal s at e = rw (add-zero at)
prefix-stands Hexadecimal s at e =
    let b = hex_bytes s at e in
    let n : at + 1 + 1 ≡ at + 2 = omega arith in
    begins s at 48 (omega arith) b.0 ∙ ap (λ (l : List ℕ). 48 ∷ l) (rw n at (begins s (at + 1) 120 (omega arith) b.1))
