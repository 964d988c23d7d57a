-- A number is in range up to 65535, and below zero down to -32768; its cell is the law of its sign.
use mathlib.Core.Path.{sym}
use Rattle.numerals.proofs.Cells.{kept-plus, kept_high, kept-minus, kept_low}
use Rattle.numerals.proofs.reading.kept.Goals as goal

pub returns-then-m-gt32768 : goal.returns-then-m-gt32768
returns-then-m-gt32768 c = sym (kept_low c.args.n c.if-n.true c.if-m-gt32768.true)

pub returns-then-n : goal.returns-then-n
returns-then-n c = sym (kept-minus c.args.n c.if-n.true c.if-m-gt32768.false)

pub returns-then-m-gt65535 : goal.returns-then-m-gt65535
returns-then-m-gt65535 c = sym (kept_high c.args.n c.if-n.false c.if-m-gt65535.true)

pub returns : goal.returns
returns c = sym (kept-plus c.args.n c.if-n.false c.if-m-gt65535.false)
