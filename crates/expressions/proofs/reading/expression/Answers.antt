-- A whole sum is read, anything after it or inside it is of wrong form, and where the reader of sums met too many parentheses the scan tells.
use mathlib.Core.Path.{◌≡◌}
use Rattle.expressions.specs.declared.Malformed.TheVariants.{WrongForm}
use Rattle.expressions.proofs.Verdicts.{found-whole, found-more, found-wrong, found-deep}
use Rattle.expressions.proofs.reading.expression.Goals as goal

pub returns-in-Ok : goal.returns-in-Ok
returns-in-Ok c =
    let a = c.args in
    found-whole a.s.now a.from.at c.in-Ok.read c.in-Ok.ensures c.next_token.ensures c.is_end.ensures c.if-is_end.true c.plain_worth.ensures

pub returns-in-Err-TooDeep : goal.returns-in-Err-TooDeep
returns-in-Err-TooDeep c =
    let a = c.args in
    let h = rw c.in-Err-TooDeep.field-0-is at c.in-Err-TooDeep.ensures in
    found-deep a.s.now a.from.at h c.right_form.ensures c.if-right_form.true

pub returns-in_default : goal.returns-in_default
returns-in_default c =
    let a = c.args in
    found-more a.s.now a.from.at c.in-Ok.read c.in-Ok.ensures c.next_token.ensures c.is_end.ensures c.if-is_end.false

pub returns-in_default-2 : goal.returns-in_default-2
returns-in_default-2 c =
    let a = c.args in
    let h = rw c.in-Err-TooDeep.field-0-is at c.in-Err-TooDeep.ensures in
    found-deep a.s.now a.from.at h c.right_form.ensures c.if-right_form.false

pub returns-in_default-3 : goal.returns-in_default-3
returns-in_default-3 c =
    let a = c.args in
    let e : c.in_default.field-0 ≡ WrongForm = cc in
    let h = rw (c.in_default.is, e) at c.sum.ensures in
    found-wrong a.s.now a.from.at h
