-- "A decimal displacement (indexed or `$`) lies in -32768..32767; a hex one .. is a bit pattern" (01, "Rules of writing"). The range
-- of any other number, and the cell that keeps it, are `numerals`' kept_of.
use Rattle.std.specs.Prelude.{ℕ, cond, pos}
use Rattle.std.specs.Int.Signed.{le_z}
use Rattle.numerals.specs.Numbers.{value_of, kept_of}
use Rattle.std.specs.Prelude.{Option, None}
use Rattle.numerals.specs.declared.Numeral.{Numeral}
use Rattle.numerals.specs.declared.Radix.{Radix}
use Rattle.numerals.specs.declared.Radix.TheVariants.{Decimal, Hexadecimal}

abbrev pub displacement_in : Radix → Numeral → Option ℕ
displacement_in Decimal n = cond (le_z (value_of n) (pos 32767)) (kept_of n) None
displacement_in Hexadecimal n = kept_of n

unfoldable pub displacement_of : Numeral → Option ℕ
displacement_of n = displacement_in n.radix n
