-- Line behind line: what is written is the lines so far (`cells-more`).
use mathlib.Core.Path.{◌≡◌, refl}
use native.Mathlib.Omega.{arith}
use Rattle.texts.specs.Lines.{text_of}
use Rattle.texts.proofs.Rooms.{wrote_none}
use Rattle.record.specs.Inner.Cells.{lines_from}
use Rattle.record.proofs.Texts.{cells-more}
use Rattle.record.proofs.lines.cells.Goals as goal

pub loop-k-init : goal.loop-k-init
unfolding lines_from text_of
loop-k-init c =
    let a = c.args in
    (refl, (wrote_none a.room.now a.at, omega arith))

pub loop-k-preserved : goal.loop-k-preserved
loop-k-preserved c =
    let a = c.args in
    let more = cells-more a.room.now a.at a.names.now a.r a.from c.loop-k.k (omega arith) c.loop-k.invariant.1 c.cell-next.ensures in
    (omega arith, more)

pub returns : goal.returns
returns c =
    let all : c.loop-k.k ≡ c.args.n = omega arith in
    rw all at c.loop-k.invariant.1
