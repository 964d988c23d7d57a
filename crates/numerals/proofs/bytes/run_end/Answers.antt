-- The loop keeps its place plus the run that is left there: that is where the run ends.
use native.Mathlib.Omega.{arith}
use Rattle.numerals.proofs.Runs.{run_more, run-stop, run_end}
use Rattle.numerals.proofs.bytes.run_end.Goals as goal

pub returns-then-rank_of-below : goal.returns-then-rank_of-below
returns-then-rank_of-below c =
    let a = c.args in
    omega (arith, run-stop a.below a.s.now c.loop-i.i (omega arith) (omega arith))

pub loop-i-preserved : goal.loop-i-preserved
loop-i-preserved c =
    let a = c.args in
    omega (arith, run_more a.below a.s.now c.loop-i.i (omega arith) (omega arith))

pub returns : goal.returns
returns c =
    let a = c.args in
    grind (arith, run_end a.below a.s.now c.loop-i.i, run_end a.below a.s.now a.from, c.loop-i.auto.i-end)
