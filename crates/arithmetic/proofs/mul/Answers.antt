-- The unsigned product, which a `u32` holds, gives the value and C, the product of the readings, which an `i32` holds, V.
use lib.IntN.{◌*ℤ◌}
use Rattle.arithmetic.specs.Operations.{MUL}
use Rattle.arithmetic.proofs.Readings.{Computed, computed, product-within, unsigned_within}
use Rattle.arithmetic.proofs.mul.Goals as goal

product : (c : goal.After-signed_of-2) → Computed ◌*ℤ◌ c.signed_of.result c.signed_of-2.result c.args.x c.args.y
product c =
    computed ◌*ℤ◌ c.args.x c.args.y c.signed_of.ensures c.signed_of-2.ensures c.ranges.x c.ranges.y product-within

pub overflow_mul-product : goal.overflow_mul-product
overflow_mul-product c =
    record { fits = unsigned_within c.args.x c.args.y c.ranges.x.fits c.ranges.y.fits }

pub overflow_mul-signed_of : goal.overflow_mul-signed_of
overflow_mul-signed_of c = (product c).fits

pub returns : goal.returns
unfolding MUL
returns c = rw (← (product c.before.before).right, ← c.leaves-overflow.ensures, c.outcome_of.ensures)
