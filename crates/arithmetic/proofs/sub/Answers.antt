-- The difference raised by 65536 gives the value, the unsigned test C, and the difference of the readings, which an `i32` holds, V.
use lib.IntN.{◌-ℤ◌}
use Rattle.arithmetic.specs.Operations.{SUB}
use Rattle.arithmetic.proofs.Readings.{Computed, computed, difference-within}
use Rattle.arithmetic.proofs.sub.Goals as goal

difference : (c : goal.After-signed_of-2) → Computed ◌-ℤ◌ c.signed_of.result c.signed_of-2.result c.args.x c.args.y
difference c =
    computed ◌-ℤ◌ c.args.x c.args.y c.signed_of.ensures c.signed_of-2.ensures c.ranges.x c.ranges.y difference-within

pub overflow_sub-signed_of : goal.overflow_sub-signed_of
overflow_sub-signed_of c = (difference c).fits

pub returns : goal.returns
unfolding SUB
returns c = rw (← (difference c.before.before).right, ← c.leaves-overflow.ensures, c.outcome_of.ensures)
