-- What the readers answer, outcome by outcome.
use Prim.Native.Nat.{ℕ, ◌+◌, ◌-◌}
use mathlib.Core.Bool.{Bool, true, false, and-false}
use mathlib.Core.List.{List}
use mathlib.Core.Path.{◌≡◌, ap, ◌∙◌}
use native.Mathlib.Omega.{arith}
use lib.ListN.{length, get_or, take, drop}
use borrow.Author.Tests.{lt-ltb, eq-eqb, ne_eqb}
use Rattle.numerals.specs.Digits.{worth, ends_word}
use Rattle.numerals.specs.Numbers.{base, prefix, cut, kept_of}
use Rattle.numerals.specs.Reading.{run, digits_at, radix_at, unsigned_at, number_at, or_zero, wholly, line_number}
use Rattle.numerals.specs.declared.Cursor.{Cursor}
use Rattle.numerals.specs.declared.Numeral.{Numeral}
use Rattle.numerals.specs.declared.Radix.{Radix}
use Rattle.numerals.specs.declared.Radix.TheVariants.{Decimal}
use Rattle.std.proofs.Common.{Some, None}
use Rattle.numerals.specs.Reading.{upto}
use Rattle.numerals.proofs.Runs.{ends-run}

-- what the digits' reader answers, by where their run ends
module _ (below : Bool) (k : Radix) (s : List ℕ) (from : ℕ) {radix end : ℕ} (h : radix ≡ base k) (e : end ≡ from + run radix (drop from s)) where
  pub digits-none : end ≡ from → digits_at below k s from ≡ None
  unfolding digits_at
  digits-none z = let n : run (base k) (drop from s) ≡ 0 = rw (← h) (omega arith) in rw n

  pub digits-joined : (end + run 17 (drop end s) ≡ end → ⊥) → digits_at below k s from ≡ None
  unfolding digits_at
  digits-joined j =
      let w : ends_word (drop (from + run (base k) (drop from s)) s) ≡ false =
      rw (← h, ← e) (ends-run (drop end s) ∙ ne_eqb (run 17 (drop end s)) 0 (λ z. j (omega arith))) in
      simp (w, and-false)

  pub digits-found : {v : ℕ} → (end ≡ from → ⊥) → end + run 17 (drop end s) ≡ end → v ≡ cut (worth radix (take (end - from) (drop from s)))
      → digits_at below k s from ≡ Some (upto (record { negative = below; radix = k; magnitude = v }) (record { at = end }))
  unfolding digits_at
  digits-found j z w =
      let t : ends_word (drop end s) ≡ true = ends-run (drop end s) ∙ eq-eqb (run 17 (drop end s)) 0 (omega arith) in
      let n : run (base k) (drop from s) ≡ end - from = rw (← h) (omega arith) in
      let m : from + (end - from) ≡ end = omega arith in
      rw (w, h, n, m, t, lt-ltb 0 (end - from) (omega arith))

pub unsigned_is : (s : List ℕ) (at : ℕ) {k : Radix} → radix_at s at ≡ k → unsigned_at s at ≡ digits_at false k s (at + length (prefix k))
unfolding unsigned_at
unsigned_is s at e = rw e

pub number-minus : (s : List ℕ) (at : ℕ) → get_or s at 0 ≡ 45 → number_at s at ≡ digits_at true Decimal s (at + 1)
unfolding number_at
number-minus s at e = rw (eq-eqb (get_or s at 0) 45 e)

pub number-plain : (s : List ℕ) (at : ℕ) → (get_or s at 0 ≡ 45 → ⊥) → number_at s at ≡ unsigned_at s at
unfolding number_at
number-plain s at e = rw (ne_eqb (get_or s at 0) 45 e)

module _ (s : List ℕ) {n : Numeral} {c : Cursor} (e : number_at s 0 ≡ Some (upto n c)) where
  pub line-whole : c.at ≡ length s → line_number s ≡ or_zero (kept_of n)
  unfolding line_number
  line-whole h = ap (wholly (length s)) e ∙ rw (eq-eqb c.at (length s) h)

  pub line-rest : (c.at ≡ length s → ⊥) → line_number s ≡ 0
  unfolding line_number
  line-rest h = ap (wholly (length s)) e ∙ rw (ne_eqb c.at (length s) h)

pub line-none : (s : List ℕ) → number_at s 0 ≡ None → line_number s ≡ 0
unfolding line_number
line-none s e = ap (wholly (length s)) e
