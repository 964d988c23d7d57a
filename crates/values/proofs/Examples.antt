-- Displacements at the ends of their ranges, and lines whose value is easily misread, settled by computing them.
use Prim.Native.Nat.{ℕ}
use Prim.Native.String.{String}
use mathlib.Core.Bool.{true, false}
use mathlib.Core.Path.{◌≡◌, refl}
use Rattle.numerals.specs.Bytes.{bytes, rank}
use Rattle.numerals.specs.Digits.{worth_after}
use Rattle.numerals.specs.Numbers.{kept_of}
use Rattle.numerals.specs.Reading.{run, digits_at, radix_at, unsigned_at}
use Rattle.std.proofs.Common.{Option, Some, None}
use Rattle.numerals.specs.Reading.{upto}
use Rattle.numerals.specs.declared.Read.{Read}
use Rattle.values.specs.declared.Value.{Value}
use Rattle.numerals.specs.declared.Radix.TheVariants.{Decimal, Hexadecimal}
use Rattle.tokens.specs.Bytes.{is_blank, is_mark}
use Rattle.tokens.specs.Reading.{blanks, closing, token_here, token_at}
use Rattle.values.specs.Values.{numeral}
use Rattle.values.specs.Ranges.{displacement_of}
use Rattle.values.specs.Reading.{minus_at, value_at}
use Rattle.values.specs.declared.Value.TheVariants.{Number, Label}

abbrev pub decimal : ℕ → Option ℕ
decimal v = displacement_of (numeral false Decimal v)

abbrev pub minus : ℕ → Option ℕ
minus v = displacement_of (numeral true Decimal v)

abbrev pub hexadecimal : ℕ → Option ℕ
hexadecimal v = displacement_of (numeral false Hexadecimal v)

-- the value that a line begins with
abbrev pub value_in : String → Option (Read Value)
value_in line = value_at (bytes line) 0

pub record Examples : Type 0 where
  -- "A decimal displacement .. lies in -32768..32767"
  pub highest : decimal 32767 ≡ Some 32767
  pub too_high : decimal 32768 ≡ None
  pub lowest : minus 32768 ≡ Some 32768
  pub too_low : minus 32769 ≡ None
  pub minus_one : minus 1 ≡ Some 65535
  -- "a hex one .. is a bit pattern": 0x8000, 0xFFFF
  pub pattern_8000 : hexadecimal 32768 ≡ Some 32768
  pub pattern_FFFF : hexadecimal 65535 ≡ Some 65535
  pub pattern_10000 : hexadecimal 65536 ≡ None
  -- `-` stands directly before decimal digits
  pub minus_directly : value_in "-5" ≡ Some (upto (Number (numeral true Decimal 5)) (record { at = 2 }))
  pub minus-apart : value_in "- 5" ≡ None
  pub minus-hexadecimal : value_in "-0x5" ≡ None
  pub minus-label : value_in "-a" ≡ None
  pub first_alone : value_in "5-3" ≡ Some (upto (Number (numeral false Decimal 5)) (record { at = 1 }))
  pub word : value_in " ab,1" ≡ Some (upto (Label (record { start = 1; end = 3 })) (record { at = 3 }))
  pub nothing : value_in " ;5" ≡ None

pub examples : Examples
unfolding displacement_of kept_of value_at minus_at token_at token_here blanks closing is_blank is_mark unsigned_at digits_at radix_at run rank worth_after
examples =
    record {
      highest = refl;
      too_high = refl;
      lowest = refl;
      too_low = refl;
      minus_one = refl;
      pattern_8000 = refl;
      pattern_FFFF = refl;
      pattern_10000 = refl;
      minus_directly = refl;
      minus-apart = refl;
      minus-hexadecimal = refl;
      minus-label = refl;
      first_alone = refl;
      word = refl;
      nothing = refl;
    }
