-- The radix found decides where the digits begin; its prefix stands in the text, so that place is one of it.
use mathlib.Core.Path.{sym, ap, ◌∙◌}
use native.Mathlib.Nat.{add-zero}
use native.Mathlib.Omega.{arith}
use lib.ListN.{length, length-drop}
use Rattle.numerals.specs.declared.Radix.TheVariants.{Hexadecimal}
use Rattle.numerals.proofs.Radixes.{prefix-stands}
use Rattle.numerals.proofs.Readers.{unsigned_is}
use Rattle.numerals.proofs.Cursor.unsigned.Goals as goal

pub overflow_add-at : goal.overflow_add-at
overflow_add-at c =
    let a = c.args in
    let h = prefix-stands Hexadecimal a.s.now a.self.at (sym c.radix_at-k.ensures ∙ c.in-Hexadecimal.is) in
    record { fits = omega (arith, ap length h, length-drop a.self.at a.s.now) }

pub returns-in-Decimal : goal.returns-in-Decimal
returns-in-Decimal c =
    let a = c.args in
    c.digits_at.ensures
    ∙ sym (rw add-zero at (unsigned_is a.s.now a.self.at (sym c.radix_at-k.ensures ∙ c.in-Decimal.is)))

pub returns-in-Hexadecimal : goal.returns-in-Hexadecimal
returns-in-Hexadecimal c =
    let a = c.args in
    c.digits_at-in-Hexadecimal.ensures
    ∙ sym (unsigned_is a.s.now a.self.at (sym c.radix_at-k.ensures ∙ c.in-Hexadecimal.is))
