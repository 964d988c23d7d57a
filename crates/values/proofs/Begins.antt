-- A token by what it leads to: with which a value begins, and the digits after a `-`.
use Prim.Native.Nat.{ℕ}
use Prim.Native.Char.{code}
use mathlib.Core.Bool.{Bool, true, false}
use mathlib.Core.List.{List, ◌∷◌}
use mathlib.Core.Path.{◌≡◌, refl, ap, ◌∙◌}
use lib.Dec.{eqb}
use borrow.Author.Tests.{eqb-true}
use Rattle.numerals.specs.declared.Numeral.{Numeral}
use Rattle.numerals.specs.declared.Radix.{Radix}
use Rattle.numerals.specs.declared.Radix.TheVariants.{Decimal, Hexadecimal}
use Rattle.tokens.specs.Marks.{IsMark}
use Rattle.tokens.specs.Reading.{token_at, tokens_from}
use Rattle.tokens.specs.declared.Kind.{Kind}
use Rattle.tokens.specs.declared.Kind.TheVariants as K
use Rattle.tokens.specs.declared.Token.{Token}
use Rattle.values.specs.Values.{numeral, BelowZero, digits}
use Rattle.values.specs.Reading.{value_by, digits_by}
use Rattle.tokens.proofs.Heads.{row_of}

module _ {A : Type 0} (t : Token) where
  pub value_cases : (t.kind ≡ K.Word → A) → ((v : ℕ) (k : Radix) → t.kind ≡ K.Number v k → A) → (IsMark (code "-") t → A)
      → (((S : Type 0) (word : S) (number : Numeral → S) (minus other : S) → value_by word number minus other t.kind ≡ other) → A)
      → A
  value_cases word number minus other = go t.kind refl
    where
      mark : (b : ℕ) (y : Bool) → t.kind ≡ K.Mark b → eqb b (code "-") ≡ y → A
      mark b true q e = minus (q ∙ ap K.Mark (eqb-true b (code "-") e))
      mark b false q e = other (λ S w n m o. rw (q, e))

      go : (k : Kind) → t.kind ≡ k → A
      go K.End q = other (λ S w n m o. rw q)
      go K.Stray q = other (λ S w n m o. rw q)
      go K.Word q = word q
      go (K.Number v k) q = number v k q
      go K.Text q = other (λ S w n m o. rw q)
      go (K.Mark b) q = mark b (eqb b (code "-")) q refl

  pub digits_cases : ((n : Numeral) → BelowZero t n → A)
      → (((S : Type 0) (number : Numeral → S) (other : S) → digits_by number other t.kind t.directly ≡ other) → A)
      → A
  digits_cases below other = go t.kind t.directly refl refl
    where
      go : (k : Kind) (d : Bool) → t.kind ≡ k → t.directly ≡ d → A
      go K.End d q r = other (λ S n o. rw q)
      go K.Stray d q r = other (λ S n o. rw q)
      go K.Word d q r = other (λ S n o. rw q)
      go (K.Number v Decimal) true q r = below (numeral true Decimal v) (digits q r)
      go (K.Number v Decimal) false q r = other (λ S n o. rw (q, r))
      go (K.Number v Hexadecimal) d q r = other (λ S n o. rw q)
      go K.Text d q r = other (λ S n o. rw q)
      go (K.Mark b) d q r = other (λ S n o. rw q)

pub digits-read : {S : Type 0} (number : Numeral → S) (other : S) {t : Token} {n : Numeral} → BelowZero t n
    → digits_by number other t.kind t.directly ≡ number n
digits-read number other (digits q r) = rw (q, r)

pub digits-row : (s : List ℕ) (at : ℕ) {n : Numeral} → BelowZero (token_at s at) n
    → tokens_from s at ≡ token_at s at ∷ tokens_from s (token_at s at).next.at
digits-row s at (digits q r) = row_of s at q
