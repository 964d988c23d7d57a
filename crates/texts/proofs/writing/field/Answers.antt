-- A text, and the places of a decimal behind it (`wrote_field`).
use native.Mathlib.Omega.{arith}
use Rattle.texts.proofs.Rooms.{places-start, room_for_decimal, wrote_field}
use Rattle.texts.proofs.writing.field.Goals as goal

pub slice_bounds-piece-start : goal.slice_bounds-piece-start
slice_bounds-piece-start c = let a = c.args in omega (arith, places-start a.n c.unsigned_decimal-written.ensures)

pub slice_bounds-piece-count : goal.slice_bounds-piece-count
slice_bounds-piece-count c = let a = c.args in omega (arith, places-start a.n c.unsigned_decimal-written.ensures)

pub piece-requires : goal.piece-requires
piece-requires c =
    let a = c.args in
    room_for_decimal a.n c.unsigned_decimal-written.ensures a.room.now a.at a.text.now c.requires c.piece-next.ensures

pub returns : goal.returns
returns c =
    let a = c.args in
    wrote_field a.n c.unsigned_decimal-written.ensures a.room.now a.at a.text.now c.requires c.piece-next.ensures c.piece.ensures
