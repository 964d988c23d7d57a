-- A text, and the places of a signed decimal behind it (`wrote_signed`).
use native.Mathlib.Omega.{arith}
use Rattle.texts.proofs.Rooms.{room_for_signed, signed-start, wrote_signed}
use Rattle.texts.proofs.writing.signed_field.Goals as goal

pub slice_bounds-piece-start : goal.slice_bounds-piece-start
slice_bounds-piece-start c = let a = c.args in omega (arith, signed-start a.x (omega arith) c.signed_decimal-written.ensures)

pub slice_bounds-piece-count : goal.slice_bounds-piece-count
slice_bounds-piece-count c = let a = c.args in omega (arith, signed-start a.x (omega arith) c.signed_decimal-written.ensures)

pub piece-requires : goal.piece-requires
piece-requires c =
    let a = c.args in
    room_for_signed a.x (omega arith) c.signed_decimal-written.ensures a.room.now a.at a.text.now c.requires c.piece-next.ensures

pub returns : goal.returns
returns c =
    let a = c.args in
    wrote_signed a.x (omega arith) c.signed_decimal-written.ensures a.room.now a.at a.text.now c.requires c.piece-next.ensures c.piece.ensures
