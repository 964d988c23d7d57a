-- The place after what is written from 0 on is its length, and 64 bytes hold it (`lines-short`).
-- Assumes nothing.
use native.Mathlib.Omega.{arith}
use Rattle.listing.proofs.Texts.{lines-short}
use Rattle.listing.proofs.lines.line_length.Goals as goal

pub line_from-requires : goal.line_from-requires
line_from-requires c =
    let a = c.args in
    (omega (arith, lines-short a.behind a.from a.e), c.requires.0, c.requires.1)

pub returns : goal.returns
returns c =
    let a = c.args in
    (omega arith, omega (arith, lines-short a.behind a.from a.e))
