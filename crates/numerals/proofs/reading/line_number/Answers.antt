-- What the number reader answers at the line's start decides: the line whole, a number with a rest, or nothing.
use mathlib.Core.Path.{sym, ap, ◌∙◌}
use Rattle.numerals.specs.Reading.{or_zero}
use Rattle.numerals.proofs.Readers.{line-whole, line-rest, line-none}
use Rattle.numerals.proofs.reading.line_number.Goals as goal

pub returns-in-Some : goal.returns-in-Some
returns-in-Some c =
    c.unwrap_or.ensures
    ∙ ap or_zero c.kept.ensures
    ∙ sym (line-whole c.args.s.now (sym c.number.ensures ∙ c.in-Some.is) c.if-read-s.true)

pub returns-in_default : goal.returns-in_default
returns-in_default c = sym (line-rest c.args.s.now (sym c.number.ensures ∙ c.in-Some.is) c.if-read-s.false)

pub returns-in_default-2 : goal.returns-in_default-2
returns-in_default-2 c = sym (line-none c.args.s.now (sym c.number.ensures ∙ c.in_default.is))
