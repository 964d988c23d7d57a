-- A turn passes eight cells none of which is 0, so that what is left of the string is eight shorter.
use mathlib.Core.Path.{refl}
use native.Mathlib.Omega.{arith}
use Rattle.ports.proofs.output.past_full.Goals as goal

pub loop-i-init : goal.loop-i-init
loop-i-init c = refl

pub returns-then-m-i-lt8 : goal.returns-then-m-i-lt8
returns-then-m-i-lt8 c = c.loop-i.invariant

pub all_full-requires : goal.all_full-requires
all_full-requires c = omega arith

pub returns-then-not-all_full : goal.returns-then-not-all_full
returns-then-not-all_full c = c.loop-i.invariant

pub loop-i-preserved : goal.loop-i-preserved
loop-i-preserved c = omega (arith, c.all_full.ensures c.if-not-all_full.false)

pub returns : goal.returns
returns c = c.loop-i.invariant
