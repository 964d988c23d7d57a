-- The number of the line at the position is read.
use mathlib.Core.Path.{sym}
use native.Mathlib.Omega.{arith}
use Rattle.numerals.specs.Bytes.{LF}
use Rattle.ports.proofs.Searches.{up_to-ends}
use Rattle.ports.proofs.Outcomes.{number-none, number-taken}
use Rattle.ports.proofs.input.take_number.Goals as goal

pub returns-then-input-at : goal.returns-then-input-at
returns-then-input-at c = sym (number-none _ _ c.if-input-at.true)

pub overflow_add-at : goal.overflow_add-at
overflow_add-at c = let a = c.args in rw c.line_at-line.ensures (omega (arith, up_to-ends LF a.input.now a.at (omega arith)))

pub after-requires : goal.after-requires
after-requires c = rw c.line_at-line.ensures

pub returns : goal.returns
returns c = rw (c.after.ensures, c.line_number-value.ensures, c.line_at-line.ensures) (sym (number-taken _ _ c.if-input-at.false))
