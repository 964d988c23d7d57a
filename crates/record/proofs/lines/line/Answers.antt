-- A name and a decimal (`field`), and one byte more (`wrote-byte`).
use mathlib.Core.List.{◌++◌}
use native.Mathlib.Omega.{arith}
use Rattle.numerals.proofs.Filling.{length-decimal}
use lib.ListN.{length-append}
use Rattle.numerals.specs.Writing.{decimal}
use Rattle.texts.specs.Lines.{text_of}
use Rattle.texts.proofs.Rooms.{wrote_byte}
use Rattle.record.proofs.lines.line.Goals as goal

pub field-end-requires : goal.field-end-requires
field-end-requires c = omega (arith, length-append c.args.name.now (decimal c.args.n), length-decimal c.args.n)

pub bounds-room-end : goal.bounds-room-end
bounds-room-end c = omega (arith, length-append c.args.name.now (decimal c.args.n), length-decimal c.args.n)

pub overflow_add-result : goal.overflow_add-result
overflow_add-result c = omega (arith, length-append c.args.name.now (decimal c.args.n), length-decimal c.args.n)

pub returns : goal.returns
unfolding text_of
returns c =
    let l = length-append c.args.name.now (decimal c.args.n) in
    let d = length-decimal c.args.n in
    (wrote_byte c.args.room.now c.args.at (c.args.name.now ++ decimal c.args.n) 10 (omega arith) c.field-end.ensures, omega arith)
