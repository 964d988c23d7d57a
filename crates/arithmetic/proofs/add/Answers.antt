-- The unsigned sum gives the value and C, the sum of the readings, which an `i32` holds, gives V.
use lib.IntN.{◌+ℤ◌}
use Rattle.arithmetic.specs.Operations.{ADD}
use Rattle.arithmetic.proofs.Readings.{Computed, computed, sum-within}
use Rattle.arithmetic.proofs.add.Goals as goal

sum : (c : goal.After-signed_of-2) → Computed ◌+ℤ◌ c.signed_of.result c.signed_of-2.result c.args.x c.args.y
sum c =
    computed ◌+ℤ◌ c.args.x c.args.y c.signed_of.ensures c.signed_of-2.ensures c.ranges.x c.ranges.y sum-within

pub overflow_add-signed_of : goal.overflow_add-signed_of
overflow_add-signed_of c = (sum c).fits

pub returns : goal.returns
unfolding ADD
returns c = rw (← (sum c.before.before).right, ← c.leaves-overflow.ensures, c.outcome_of.ensures)
