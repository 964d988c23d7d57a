-- A free cell has no line; a reserved one has its address and 17 bytes more; any other two decimals and 12 bytes more (`piece-length`).
use native.Mathlib.Omega.{arith}
use mathlib.Core.Path.{sym, ap}
use lib.ListN.{length}
use Rattle.numerals.proofs.Filling.{length-decimal}
use Rattle.image.proofs.Texts.{piece-free, piece-length, reserved-length, kind_and_value_length}
use Rattle.image.proofs.lengths.cell_length.Goals as goal

pub returns-then-mark-eq-FREE : goal.returns-then-mark-eq-FREE
returns-then-mark-eq-FREE c =
    let a = c.args in
    sym (ap length (piece-free a.address a.mark a.value c.if-mark-eq-FREE.true))

pub overflow_add-result : goal.overflow_add-result
overflow_add-result c = omega (arith, length-decimal c.args.address)

pub returns-then-mark-eq-RESERVED : goal.returns-then-mark-eq-RESERVED
returns-then-mark-eq-RESERVED c =
    let a = c.args in
    omega (
      arith,
      piece-length a.address a.mark a.value c.if-mark-eq-FREE.false,
      reserved-length a.mark a.value c.if-mark-eq-RESERVED.true,
    )

pub overflow_add-result-2 : goal.overflow_add-result-2
overflow_add-result-2 c = omega (arith, length-decimal c.args.address)

pub overflow_add-result-3 : goal.overflow_add-result-3
overflow_add-result-3 c =
    let a = c.args in
    omega (arith, length-decimal a.address, length-decimal a.value)

pub returns : goal.returns
returns c =
    let a = c.args in
    omega (
      arith,
      piece-length a.address a.mark a.value c.if-mark-eq-FREE.false,
      kind_and_value_length a.mark a.value c.if-mark-eq-RESERVED.false,
    )
