-- A `-` at the cursor is followed by decimal digits, and anything else is read as an unsigned number.
use mathlib.Core.Path.{sym, ◌∙◌}
use native.Mathlib.Omega.{arith}
use Rattle.numerals.proofs.Radixes.{within}
use Rattle.numerals.proofs.Readers.{number-minus, number-plain}
use Rattle.numerals.proofs.Cursor.number.Goals as goal

pub overflow_add-at : goal.overflow_add-at
overflow_add-at c =
    let a = c.args in
    record { fits = omega (arith, within a.s.now a.self.at 45 (omega arith) (sym c.byte_at.ensures ∙ c.if-byte_at-eq45.true)) }

pub returns-then-byte_at-eq45 : goal.returns-then-byte_at-eq45
returns-then-byte_at-eq45 c =
    let a = c.args in
    c.digits_at.ensures ∙ sym (number-minus a.s.now a.self.at (sym c.byte_at.ensures ∙ c.if-byte_at-eq45.true))

pub returns : goal.returns
returns c =
    let a = c.args in
    c.unsigned.ensures ∙ sym (number-plain a.s.now a.self.at (λ e. c.if-byte_at-eq45.false (c.byte_at.ensures ∙ e)))
