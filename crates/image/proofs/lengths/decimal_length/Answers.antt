-- The places of a decimal, from its start on, are its text (`places-start`).
use native.Mathlib.Omega.{arith}
use Rattle.texts.proofs.Rooms.{places-start}
use Rattle.image.proofs.lengths.decimal_length.Goals as goal

pub overflow_sub-result : goal.overflow_sub-result
overflow_sub-result c = omega (arith, places-start _ c.unsigned_decimal.ensures)

pub returns : goal.returns
returns c = omega (arith, places-start _ c.unsigned_decimal.ensures)
