-- What is kept fits 32 bits, and the rest is out of range.
use mathlib.Core.Path.{◌∙◌, ap}
use mir.Facts.{to_z-of_z}
use mir.Syntax.{w64}
use Rattle.expressions.specs.Worths.{within32}
use Rattle.expressions.proofs.Ranges.{kept}
use Rattle.expressions.proofs.worths.within.Goals as goal

pub returns : goal.returns
returns c =
    let v = c.args.v in
    rw (c.ok_or.ensures.value, c.ok.ensures.value) (kept _ c.try_from.result c.try_from.ensures ∙ ap within32 (to_z-of_z {w = w64} {z = v} c.ranges.v))
