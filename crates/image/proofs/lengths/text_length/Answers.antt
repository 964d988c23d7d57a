-- The lines before the cells, then the cells (`image-length`).
use native.Mathlib.Omega.{arith}
use Rattle.image.specs.Image.{claimed}
use lib.ListN.{length}
use Rattle.numerals.proofs.Filling.{length-decimal}
use Rattle.image.proofs.Texts.{claimed-within, cells-bound, image-length}
use Rattle.image.proofs.lengths.text_length.Goals as goal

pub overflow_cast-claimed_in : goal.overflow_cast-claimed_in
overflow_cast-claimed_in c = omega (arith, claimed-within c.args.map.now)

pub overflow_add-result : goal.overflow_add-result
overflow_add-result c = omega (arith, length-decimal (length c.args.memory.now))

pub overflow_add-result-2 : goal.overflow_add-result-2
overflow_add-result-2 c =
    let a = c.args in
    let e = rw c.claimed_in.ensures at c.decimal_length-number.ensures in
    omega (arith, length-decimal (length a.memory.now), length-decimal (claimed a.map.now))

pub overflow_add-result-3 : goal.overflow_add-result-3
overflow_add-result-3 c =
    let a = c.args in
    let e = rw c.claimed_in.ensures at c.decimal_length-number.ensures in
    omega (arith, length-decimal (length a.memory.now), length-decimal (claimed a.map.now), cells-bound a.memory.now a.map.now)

pub returns : goal.returns
returns c =
    let a = c.args in
    let e = rw c.claimed_in.ensures at c.decimal_length-number.ensures in
    omega (arith, image-length a.memory.now a.map.now)
