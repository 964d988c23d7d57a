-- What is measured and what is left to measure are the whole (`left-length`).
use native.Mathlib.Omega.{arith}
use mathlib.Core.Path.{ap}
use lib.ListN.{length}
use Rattle.image.proofs.Texts.{left-length, left-none, cells-bound}
use Rattle.image.proofs.lengths.cells_length.Goals as goal

pub overflow_add-n : goal.overflow_add-n
overflow_add-n c =
    let a = c.args in
    omega (
      arith,
      cells-bound a.memory.now a.map.now,
      left-length a.memory.now a.map.now c.loop-address.address (omega arith),
    )

pub loop-address-preserved : goal.loop-address-preserved
loop-address-preserved c =
    let a = c.args in
    omega (arith, left-length a.memory.now a.map.now c.loop-address.address (omega arith))

pub returns : goal.returns
returns c =
    let a = c.args in
    omega (arith, ap length (left-none a.memory.now a.map.now c.loop-address.address c.loop-address-test.false))
