-- Each turn puts the last digit in front of those written, and the rest of the decimal is that of the tenth that is left.
use mathlib.Core.Path.{◌≡◌}
use native.Mathlib.Omega.{arith}
use Rattle.numerals.proofs.Filling.{filled-start, filled_more, filled-done, filled_full}
use Rattle.numerals.proofs.writing.unsigned_decimal.Goals as goal

pub loop-i-init : goal.loop-i-init
loop-i-init c = (omega arith, omega arith, filled-start c.args.n)

pub returns-then-left-lt10 : goal.returns-then-left-lt10
returns-then-left-lt10 c = filled-done c.loop-i.invariant.2 c.loop-i-test.true c.if-left-lt10.true

pub loop-i-preserved : goal.loop-i-preserved
loop-i-preserved c = (omega arith, omega arith, filled_more c.loop-i.invariant.2 c.loop-i-test.true c.if-left-lt10.false)

pub returns : goal.returns
returns c =
    let e : c.loop-i.i ≡ 1 = omega arith in
    rw e at (filled_full c.loop-i.invariant.2 (omega arith) c.loop-i-test.false)
