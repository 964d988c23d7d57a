-- The readers of factors, products and sums, which call each other: the room for parentheses falls at each that opens, and at
-- one room a sum calls a product and a product a factor. The loops' invariant: what was read so far is a part that may go on.
use Rattle.std.proofs.Common.{◌+◌, ◌-◌, ◌*◌, length, Ok}
use Rattle.expressions.specs.Inner.Parts.{factors, products, sums, Says}
use Rattle.expressions.proofs.parts.+factor_product_sum.Given as goal

abbrev pub decreases-factor : goal.decreases-factor
decreases-factor l = l.room * 3

abbrev pub decreases-product : goal.decreases-product
decreases-product l = l.room * 3 + 1

abbrev pub decreases-sum : goal.decreases-sum
decreases-sum l = l.room * 3 + 2

abbrev pub invariant-product-loop-o : goal.invariant-product-loop-o
invariant-product-loop-o l = Says products factors l.s l.fn.from.at l.room (Ok l.read)

abbrev pub decreases-product-loop-o : goal.decreases-product-loop-o
decreases-product-loop-o l = length l.s - l.read.next.at

abbrev pub invariant-sum-loop-o : goal.invariant-sum-loop-o
invariant-sum-loop-o l = Says sums products l.s l.fn.from.at l.room (Ok l.read)

abbrev pub decreases-sum-loop-o : goal.decreases-sum-loop-o
decreases-sum-loop-o l = length l.s - l.read.next.at
