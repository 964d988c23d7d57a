-- Lines, and that reading what was written gives the number back.
use Prim.Native.Nat.{ℕ, suc, ◌-◌, ◌<◌}
use mathlib.Core.Bool.{Bool, true, false}
use mathlib.Core.List.{List, [], ◌∷◌, ◌++◌, append-nil}
use mathlib.Core.Path.{◌≡◌, refl, sym, ap, subst, ◌∙◌}
use native.Mathlib.Decide.{dec_lt}
use native.Mathlib.Nat.{min-eq_right, sub-zero}
use native.Mathlib.Omega.{arith}
use lib.Dec.{T}
use lib.IntN.{pos, neg_ℤ}
use lib.ListN.{length, drop, length-append}
use lib.Seq.{drop-length}
use mir.Syntax.{w16}
use mir.Val.{to_z}
use borrow.Author.Tests.{lt-ltb, le-ltb}
use Rattle.numerals.specs.Digits.{ends_word}
use Rattle.numerals.specs.Numbers.{Unsigned, Number, plain, minus, cut, value_of, kept_of}
use Rattle.numerals.specs.Reading.{number_at, or_zero, line_number}
use Rattle.numerals.specs.Writing.{decimal, signed_decimal}
use Rattle.numerals.specs.declared.Numeral.{Numeral}
use Rattle.numerals.specs.declared.Radix.{Radix}
use Rattle.numerals.specs.declared.Radix.TheVariants.{Decimal}
use Rattle.std.proofs.Common.{Option, Some, None}
use Rattle.numerals.specs.Reading.{upto}
use Rattle.numerals.specs.declared.Read.{Read}
use Rattle.numerals.proofs.Cells.{kept-plus, kept-minus}
use Rattle.numerals.proofs.Readers.{line-whole, line-rest, line-none}
use Rattle.numerals.proofs.Numbers.{numeral, cursor, number-complete, number-sound}
use Rattle.numerals.proofs.Decimals.{decimal-right}

-- a line that is wholly a number
pub line-number : {below : Bool} {k : Radix} {v : ℕ} (s : List ℕ) → Number s below k v [] → line_number s ≡ or_zero (kept_of (numeral below k v))
line-number s r = line-whole s (number-complete s 0 r) (omega arith)

-- and any other line
pub line_other : (s : List ℕ) → ((below : Bool) (k : Radix) (v : ℕ) → Number s below k v [] → ⊥) → line_number s ≡ 0
line_other s h = go (number_at s 0) refl
  where
    go : (r : Option (Read Numeral)) → number_at s 0 ≡ r → line_number s ≡ 0
    go (Some r) e =
        line-rest s e
        (λ z. let t = number-sound s 0 e in
        h r.value.negative r.value.radix t.worth_is
        (subst (Number s r.value.negative r.value.radix t.worth_is) (ap (λ (p : ℕ). drop p s) z ∙ drop-length s) t.reads))
    go None e = line-none s e

-- a decimal is a number of the rule, before whatever ends a word
pub decimal-reads : (n : ℕ) (rest : List ℕ) → n < 10000000000 → T (ends_word rest) → Unsigned (decimal n ++ rest) Decimal n rest
decimal-reads n rest h t =
    let d = decimal-right n h in
    record { digits = decimal n; split = refl; are-digits = d.are-digits; ends = t; worth_is = sym d.worth_is }

pub read-decimal : (n : ℕ) (rest : List ℕ) → n < 10000000000 → T (ends_word rest)
    → number_at (decimal n ++ rest) 0 ≡ Some (upto (numeral false Decimal n) (cursor (length (decimal n))))
read-decimal n rest h t =
    let e : length (decimal n ++ rest) - length rest ≡ length (decimal n) = omega (arith, length-append (decimal n) rest) in
    rw e at (number-complete (decimal n ++ rest) 0 (plain (decimal-reads n rest h t)))

decimal-alone : (n : ℕ) → n < 10000000000 → Unsigned (decimal n) Decimal n []
decimal-alone n h = rw append-nil at (decimal-reads n [] h tt)

pub line-decimal : (x : ℕ) → x < 65536 → line_number (decimal x) ≡ x
line-decimal x h =
    line-number (decimal x) (plain (decimal-alone x (omega arith)))
    ∙ ap or_zero (kept-plus (numeral false Decimal x) refl (omega arith)) ∙ omega arith

pub line-signed : (x : ℕ) → x < 65536 → line_number (signed_decimal x) ≡ x
unfolding signed_decimal
line-signed x h =
    elim (dec_lt x 32768) [
      | yes l ↦ rw (lt-ltb x 32768 l) (line-decimal x h)
      | no g ↦
          let m = 65536 - x in
          rw (le-ltb x 32768 (omega arith))
          (line-number (45 ∷ decimal m) (minus (decimal-alone m (omega arith)))
          ∙ ap or_zero (kept-minus (numeral true Decimal m) refl (omega arith)) ∙ omega arith)
    ]

-- a signed decimal is a number of the rule, worth what its cell is worth as two's complement
pub read-signed : (x : ℕ) → x < 65536
    → (n : Numeral) × (number_at (signed_decimal x) 0 ≡ Some (upto n (cursor (length (signed_decimal x))))) × (value_of n ≡ to_z w16 x)
unfolding signed_decimal
read-signed x h =
    elim (dec_lt x 32768) [
      | yes l ↦
          let d = number-complete (decimal x) 0 (plain (decimal-alone x (omega arith))) in
          let e : cut x ≡ x = min-eq_right (omega arith) in
          rw (lt-ltb x 32768 l) (numeral false Decimal x, rw sub-zero at d, ap pos e)
      | no g ↦
          let m = 65536 - x in
          let d = number-complete (45 ∷ decimal m) 0 (minus (decimal-alone m (omega arith))) in
          let e : cut m ≡ suc (65536 - suc x) = min-eq_right (omega arith) ∙ omega arith in
          rw (le-ltb x 32768 (omega arith)) (numeral true Decimal m, rw sub-zero at d, ap (λ (v : ℕ). neg_ℤ (pos v)) e)
    ]
