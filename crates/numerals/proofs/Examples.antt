-- Texts that are easily misread, settled one by one by computing them.
use Prim.Native.String.{String}
use mathlib.Core.Bool.{true, false}
use mathlib.Core.List.{List, [], ◌∷◌, map}
use mathlib.Core.Path.{◌≡◌, refl}
use lib.ListN.{replicate}
use Rattle.numerals.specs.Bytes.{bytes, is_word_byte, rank}
use Rattle.numerals.specs.Digits.{worth_after}
use Rattle.numerals.specs.Numbers.{kept_of}
use Rattle.numerals.specs.Reading.{run, digits_at, radix_at, unsigned_at, number_at, line_number}
use Rattle.numerals.specs.Writing.{decimal_before, decimal, signed_decimal}
use Rattle.numerals.specs.declared.Radix.TheVariants.{Decimal, Hexadecimal}
use Rattle.std.proofs.Common.{Some, None}
use Rattle.numerals.specs.Reading.{upto}
use Rattle.numerals.proofs.Numbers.{numeral, cursor}

-- none of these texts begins with a number
abbrev pub NoNumbers : List String → Type 0
NoNumbers [] = Unit {0}
NoNumbers (text ∷ texts) = (number_at (bytes text) 0 ≡ None) × NoNumbers texts

-- each of these lines reads 0
abbrev pub ReadZero : List String → Type 0
ReadZero [] = Unit {0}
ReadZero (line ∷ lines) = (line_number (bytes line) ≡ 0) × ReadZero lines

pub record Examples : Type 0 where
  -- "letters, digits, `_`", at the ends of each, and the bytes next to them; "hex digits of either case"
  pub word_bytes : map is_word_byte (bytes "09AZaz_") ≡ replicate 7 true
  pub no_word_bytes : map is_word_byte (bytes "/:@[`{ ") ≡ replicate 7 false
  pub digit_ranks : map rank (bytes "09AFaf") ≡ 0 ∷ 9 ∷ 10 ∷ 15 ∷ 10 ∷ 15 ∷ []
  pub other_ranks : map rank (bytes "GZgz_/:@[`{") ≡ 16 ∷ 16 ∷ 16 ∷ 16 ∷ 16 ∷ 17 ∷ 17 ∷ 17 ∷ 17 ∷ 17 ∷ 17 ∷ []
  pub minus-zero : number_at (bytes "-0") 0 ≡ Some (upto (numeral true Decimal 0) (cursor 2))
  pub zeros_in_front : number_at (bytes "007") 0 ≡ Some (upto (numeral false Decimal 7) (cursor 3))
  pub hex_zeros_in_front : number_at (bytes "0x0000FFFF") 0 ≡ Some (upto (numeral false Hexadecimal 65535) (cursor 10))
  pub up_to_a_mark : number_at (bytes "MOVE #-5[.IX]") 6 ≡ Some (upto (numeral true Decimal 5) (cursor 8))
  pub past_the_end : number_at (bytes "5") 7 ≡ None
  pub no_numbers : NoNumbers ("0X5" ∷ "0x" ∷ "0xG" ∷ "-0x5" ∷ "5a" ∷ "5_" ∷ "--5" ∷ "+5" ∷ "00x5" ∷ "99999x" ∷ "-" ∷ "" ∷ [])
  pub lines_of_0 : ReadZero ("65536" ∷ "-32769" ∷ " 12" ∷ "+12" ∷ "12\r" ∷ "12 " ∷ "99999" ∷ "" ∷ [])
  pub line_of_minus_30 : line_number (bytes "-30") ≡ 65506
  pub line_of_minus_1 : line_number (bytes "-1") ≡ 65535
  pub line_of_the_least : line_number (bytes "-32768") ≡ 32768
  pub line_of_the_most : line_number (bytes "65535") ≡ 65535
  pub line_of_hex : line_number (bytes "0x1f") ≡ 31
  pub written_0 : signed_decimal 0 ≡ bytes "0"
  pub written-least : signed_decimal 32768 ≡ bytes "-32768"
  pub written_minus_1 : signed_decimal 65535 ≡ bytes "-1"
  pub written-most : decimal 4294967295 ≡ bytes "4294967295"

pub examples : Examples
unfolding rank worth_after kept_of run digits_at radix_at unsigned_at number_at line_number decimal_before decimal signed_decimal
examples =
    record {
      word_bytes = refl;
      no_word_bytes = refl;
      digit_ranks = refl;
      other_ranks = refl;
      minus-zero = refl;
      zeros_in_front = refl;
      hex_zeros_in_front = refl;
      up_to_a_mark = refl;
      past_the_end = refl;
      no_numbers = (refl, (refl, (refl, (refl, (refl, (refl, (refl, (refl, (refl, (refl, (refl, (refl, tt))))))))))));
      lines_of_0 = (refl, (refl, (refl, (refl, (refl, (refl, (refl, (refl, tt))))))));
      line_of_minus_30 = refl;
      line_of_minus_1 = refl;
      line_of_the_least = refl;
      line_of_the_most = refl;
      line_of_hex = refl;
      written_0 = refl;
      written-least = refl;
      written_minus_1 = refl;
      written-most = refl;
    }
