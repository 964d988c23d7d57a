-- No 0 is passed by eights. A turn then passes a cell that is not 0, so that what is left of the string is one shorter.
use native.Mathlib.Omega.{arith}
use Rattle.ports.proofs.Searches.{search_more, search_here, search_none}
use Rattle.ports.proofs.output.zero_at.Goals as goal

pub loop-i-init : goal.loop-i-init
loop-i-init c = c.past_full-i.ensures

pub returns-then-m-i-eq0 : goal.returns-then-m-i-eq0
returns-then-m-i-eq0 c =
    omega (arith, search_here 0 c.args.m.now c.loop-i.i c.loop-i-test.true c.if-m-i-eq0.true)

pub loop-i-preserved : goal.loop-i-preserved
loop-i-preserved c =
    omega (arith, search_more 0 c.args.m.now c.loop-i.i c.loop-i-test.true c.if-m-i-eq0.false)

pub returns : goal.returns
returns c = omega (arith, search_none 0 c.args.m.now c.loop-i.i c.loop-i-test.false)
