-- The loop keeps its place plus the blanks that are left there: that is where they end.
use mathlib.Core.Path.{sym, ◌∙◌}
use native.Mathlib.Omega.{arith}
use Rattle.tokens.proofs.Blanks.{blanks-more, blanks-stop, blanks-none}
use Rattle.tokens.proofs.tokens.skip.Goals as goal

pub returns-then-not-is_blank : goal.returns-then-not-is_blank
returns-then-not-is_blank c =
    let a = c.args in
    omega (arith, blanks-stop a.s.now c.loop-i.i (omega arith) (sym c.is_blank.ensures ∙ c.if-not-is_blank.true))

pub loop-i-preserved : goal.loop-i-preserved
loop-i-preserved c =
    let a = c.args in
    omega (arith, blanks-more a.s.now c.loop-i.i (omega arith) (sym c.is_blank.ensures ∙ c.if-not-is_blank.false))

pub returns : goal.returns
returns c =
    let a = c.args in
    grind (arith, blanks-none a.s.now c.loop-i.i, blanks-none a.s.now a.from, c.loop-i.auto.i-end)
