-- A line, or an ORG and the line behind it (`line_on`, `line-apart`).
-- Assumes nothing.
use native.Mathlib.Omega.{arith}
use mathlib.Core.Path.{ap}
use lib.ListN.{length}
use Rattle.texts.proofs.Rooms.{wrote_on, wrote_as}
use Rattle.listing.proofs.Texts.{line_on, line-apart, line_apart_length}
use Rattle.listing.proofs.lines.line_from.Goals as goal

pub line-requires : goal.line-requires
line-requires c =
    let a = c.args in
    (omega (arith, ap length (line_on a.behind a.from a.e c.if-from-behind.true)), c.requires.2)

pub returns-then-from-behind : goal.returns-then-from-behind
returns-then-from-behind c =
    let a = c.args in
    wrote_as _ _ _ _ (line_on a.behind a.from a.e c.if-from-behind.true) c.line.ensures

pub line-next-requires : goal.line-next-requires
line-next-requires c =
    let a = c.args in
    (omega (arith, line_apart_length a.behind a.from a.e c.if-from-behind.false), c.requires.1)

pub line-requires-2 : goal.line-requires-2
line-requires-2 c =
    let a = c.args in
    (omega (arith, line_apart_length a.behind a.from a.e c.if-from-behind.false), c.requires.2)

pub returns : goal.returns
returns c =
    let a = c.args in
    wrote_as a.room.now a.at _ _
    (line-apart a.behind a.from a.e c.if-from-behind.false)
    (wrote_on a.room.now a.at _ _ (omega arith) c.line-next.ensures c.line-2.ensures)
