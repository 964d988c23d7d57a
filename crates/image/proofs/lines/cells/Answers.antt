-- Writing what is left behind what is written is writing all of it (`writing_more`).
use native.Mathlib.Omega.{arith}
use mathlib.Core.Path.{refl}
use Rattle.image.proofs.Texts.{left-length}
use Rattle.image.proofs.Rooms.{writing_more, writing-end}
use Rattle.image.proofs.lines.cells.Goals as goal

pub loop-address-init : goal.loop-address-init
loop-address-init c = (refl, refl, refl)

pub cell-at-requires : goal.cell-at-requires
cell-at-requires c =
    let a = c.args in
    omega (arith, left-length a.memory.now a.map.now c.loop-address.address (omega arith))

pub loop-address-preserved : goal.loop-address-preserved
loop-address-preserved c =
    let a = c.args in
    writing_more a.room.now a.from a.memory.now a.map.now _ c.loop-address.at
    c.loop-address.address c.loop-address.invariant
    (omega arith) (omega arith) c.cell-at.ensures (omega arith)

pub returns : goal.returns
returns c =
    let a = c.args in
    writing-end a.room.now a.from a.memory.now a.map.now _ c.loop-address.at c.loop-address.address c.loop-address.invariant
    c.loop-address-test.false
