-- The number rule, without a reader (01, "Rules of writing": "Number: decimal digits, optionally with `-` directly before;
-- or `0x` (small x) and one or more hex digits of either case, unsigned. No letter, digit or `_` follows directly. Range
-- -32768..65535, kept modulo 65536.").
use Rattle.std.specs.Prelude.{ℕ, min, Bool, true, false, cond, ◌&&◌, List, [], ◌∷◌, ◌++◌, ◌≡◌, T, ℤ, pos, negsuc, neg_ℤ}
use Prim.Native.Char.{code}
use Rattle.std.specs.Int.Signed.{le_z}
use Rattle.std.specs.Int.{w16}
use Rattle.std.proofs.Common.{of_z}
use Rattle.numerals.specs.Bytes.{bytes}
use Rattle.numerals.specs.Digits.{Digits, worth, ends_word}
use Rattle.numerals.specs.declared.Radix.{Radix}
use Rattle.numerals.specs.declared.Radix.TheVariants.{Decimal, Hexadecimal}
use Rattle.numerals.specs.declared.Numeral.{Numeral}
use Rattle.std.specs.Prelude.{Option, Some, None}

abbrev pub base : Radix → ℕ
base Decimal = 10
base Hexadecimal = 16

abbrev pub prefix : Radix → List ℕ
prefix Decimal = []
prefix Hexadecimal = bytes "0x"

-- a text begins with an unsigned number of a radix, worth v, and the rest follows
pub record Unsigned (text : List ℕ) (k : Radix) (v : ℕ) (rest : List ℕ) : Type 0 where
  pub digits : List ℕ
  pub split : text ≡ prefix k ++ (digits ++ rest)
  pub are-digits : Digits (base k) digits
  pub ends : T (ends_word rest)
  pub worth_is : v ≡ worth (base k) digits

-- a text begins with a number: below zero or not, of a radix, worth v without its sign, and the rest follows
pub data Number : List ℕ → Bool → Radix → ℕ → List ℕ → Type 0 where
  plain : {text : List ℕ} {k : Radix} {v : ℕ} {rest : List ℕ} → Unsigned text k v rest → Number text false k v rest
  minus : {text : List ℕ} {v : ℕ} {rest : List ℕ} → Unsigned text Decimal v rest → Number (code "-" ∷ text) true Decimal v rest

-- a number's worth is exact up to 65536, where it is cut: more is out of every range
abbrev pub cut : ℕ → ℕ
cut v = min 65536 v

-- the number that a numeral stands for
abbrev pub value_of : Numeral → ℤ
value_of n = cond n.negative (neg_ℤ (pos n.magnitude)) (pos n.magnitude)

-- "Range -32768..65535"
abbrev pub in_range : ℤ → Bool
in_range z = le_z (negsuc 32767) z && le_z z (pos 65535)

-- "kept modulo 65536"
unfoldable pub kept_of : Numeral → Option ℕ
kept_of n = cond (in_range (value_of n)) (Some (of_z w16 (value_of n))) None
