-- The value at a place of a line, as a function of the tokens there; `proofs/Top.antt` shows that it finds exactly the rule's values.
use Rattle.std.specs.Prelude.{ℕ, Bool, true, false, cond, List}
use Prim.Native.Char.{code}
use Rattle.numerals.specs.declared.Numeral.{Numeral}
use Rattle.numerals.specs.declared.Radix.TheVariants.{Decimal, Hexadecimal}
use Rattle.tokens.specs.Marks.{only}
use Rattle.tokens.specs.Reading.{token_at}
use Rattle.tokens.specs.declared.Kind.{Kind}
use Rattle.tokens.specs.declared.Kind.TheVariants as K
use Rattle.values.specs.Values.{numeral, name_at}
use Rattle.values.specs.declared.Value.TheVariants as V'
use Rattle.std.specs.Prelude.{Option, Some, None}
use Rattle.numerals.specs.Reading.{upto}
use Rattle.numerals.specs.declared.Read.{Read}
use Rattle.values.specs.declared.Value.{Value}

-- ---- what a token leads to, over any answer

-- a word, a number or `-`, with which a value begins; any other token leads to `other`
abbrev pub value_by : {S : Type 0} → S → (Numeral → S) → S → S → Kind → S
value_by word number minus other K.End = other
value_by word number minus other K.Stray = other
value_by word number minus other K.Word = word
value_by word number minus other (K.Number v k) = number (numeral false k v)
value_by word number minus other K.Text = other
value_by word number minus other (K.Mark b) = only other (code "-") minus b

-- the digits after a `-`: "decimal digits, optionally with `-` directly before; or `0x` .. unsigned"
abbrev pub digits_by : {S : Type 0} → (Numeral → S) → S → Kind → Bool → S
digits_by number other K.End directly = other
digits_by number other K.Stray directly = other
digits_by number other K.Word directly = other
digits_by number other (K.Number v Decimal) directly = cond directly (number (numeral true Decimal v)) other
digits_by number other (K.Number v Hexadecimal) directly = other
digits_by number other K.Text directly = other
digits_by number other (K.Mark b) directly = other

-- ---- the value

unfoldable pub minus_at : List ℕ → ℕ → Option (Read Value)
minus_at s at = digits_by (λ n. (Some (upto (V'.Number n) (token_at s at).next))) None (token_at s at).kind (token_at s at).directly

unfoldable pub value_at : List ℕ → ℕ → Option (Read Value)
value_at s at =
    value_by (Some (upto (V'.Label (name_at (token_at s at))) (token_at s at).next)) (λ n. (Some (upto (V'.Number n) (token_at s at).next)))
    (minus_at s (token_at s at).next.at) None (token_at s at).kind
