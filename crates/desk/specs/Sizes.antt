-- "a program that assembles a file at an M of 1 to 16,384 (any other prints refusal 1, line 0)" (01).
use Rattle.std.specs.Prelude.{ℕ, Bool, true, false, cond, ◌&&◌, List, eqb, ltb, leb, length}
use Rattle.numerals.specs.Reading.{unsigned_at}
use Rattle.numerals.specs.declared.Radix.{Radix}
use Rattle.numerals.specs.declared.Radix.TheVariants.{Decimal, Hexadecimal}
use Rattle.std.specs.Prelude.{Option, Some, None}
use Rattle.numerals.specs.declared.Read.{Read}
use Rattle.numerals.specs.declared.Numeral.{Numeral}

abbrev pub largest_m : ℕ
largest_m = 16384

abbrev pub is_decimal : Radix → Bool
is_decimal Decimal = true
is_decimal Hexadecimal = false

-- the number that a word of a length wholly is; no other word names an M: no number, 0, a hexadecimal one, and one above 16,384
abbrev pub size_in : ℕ → Option (Read Numeral) → Option ℕ
size_in end (Some r) =
    let m = r.value in
    cond (eqb r.next.at end && (ltb 0 m.magnitude && (leb m.magnitude largest_m && is_decimal m.radix))) (Some m.magnitude) None
size_in end None = None

-- the M that a word names
unfoldable pub size_of : List ℕ → Option ℕ
size_of word = size_in (length word) (unsigned_at word 0)
