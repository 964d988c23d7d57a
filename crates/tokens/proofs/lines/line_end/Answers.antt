-- The loop keeps its place plus the line that is left there: that is where the line ends.
use native.Mathlib.Omega.{arith}
use Rattle.tokens.proofs.LinesOf.{line-more, line-stop, line-none}
use Rattle.tokens.proofs.lines.line_end.Goals as goal

pub returns-then-s-i-eq10 : goal.returns-then-s-i-eq10
returns-then-s-i-eq10 c =
    let a = c.args in
    omega (arith, line-stop a.s.now c.loop-i.i (omega arith) c.if-s-i-eq10.true)

pub loop-i-preserved : goal.loop-i-preserved
loop-i-preserved c =
    let a = c.args in
    omega (arith, line-more a.s.now c.loop-i.i (omega arith) c.if-s-i-eq10.false)

pub returns : goal.returns
returns c =
    let a = c.args in
    grind (arith, line-none a.s.now c.loop-i.i, line-none a.s.now a.from, c.loop-i.auto.i-end)
