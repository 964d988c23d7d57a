-- Numbers and labels over tokens, without a reader (01, "Rules of writing": "Number: decimal digits, optionally with `-` directly
-- before; or `0x` .. unsigned"; "v is a number or label").
use Rattle.std.specs.Prelude.{ℕ, Bool, true, false, List, [], ◌∷◌, ◌≡◌}
use Prim.Native.Char.{code}
use Rattle.numerals.specs.declared.Numeral.{Numeral}
use Rattle.numerals.specs.declared.Radix.{Radix}
use Rattle.numerals.specs.declared.Radix.TheVariants.{Decimal}
use Rattle.tokens.specs.Marks.{IsMark}
use Rattle.tokens.specs.declared.Kind.TheVariants as K
use Rattle.tokens.specs.declared.Token.{Token}
use Rattle.values.specs.declared.Name.{Name}
use Rattle.values.specs.declared.Value.{Value}
use Rattle.values.specs.declared.Value.TheVariants.{Number, Label}

abbrev pub numeral : Bool → Radix → ℕ → Numeral
numeral below k v = record { negative = below; radix = k; magnitude = v }

-- the digits of a number below zero: decimal, and directly after its `-`
pub data BelowZero : Token → Numeral → Type 0 where
  digits : {t : Token} {v : ℕ} → t.kind ≡ K.Number v Decimal → t.directly ≡ true → BelowZero t (numeral true Decimal v)

-- a number: one token, or a decimal one with `-` directly before
pub data NumberText : List Token → Numeral → Type 0 where
  plain : {t : Token} {v : ℕ} {k : Radix} → t.kind ≡ K.Number v k → NumberText (t ∷ []) (numeral false k v)
  minus : {m t : Token} {n : Numeral} → IsMark (code "-") m → BelowZero t n → NumberText (m ∷ t ∷ []) n

-- a word's place in the line
abbrev pub name_at : Token → Name
name_at t = record { start = t.start; end = t.next.at }

-- "v is a number or label"
pub data ValueText : List Token → Value → Type 0 where
  number : {ts : List Token} {n : Numeral} → NumberText ts n → ValueText ts (Number n)
  label : {t : Token} → t.kind ≡ K.Word → ValueText (t ∷ []) (Label (name_at t))
