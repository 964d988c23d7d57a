-- The quotient of the readings, cut toward zero, fits an `i32`; it leaves 16 bits at -32768/-1 alone.
use Prim.Native.Nat.{ℕ}
use mathlib.Core.Bool.{Bool, false}
use mathlib.Core.Path.{sym, ap, ap₂, ◌∙◌}
use lib.Signed.{quot_z}
use borrow.Author.Tests.{eq-eqb, ne_eqb}
use Rattle.arithmetic.specs.Cells.{cell, leaves16}
use Rattle.arithmetic.specs.Operations.{outcome, DIV}
use Rattle.std.proofs.Common.{Some}
use Rattle.arithmetic.proofs.Laws.{quotient-leaves}
use Rattle.arithmetic.proofs.Readings.{Computed, computed, divides, quotient-small, quotient-within}
use Rattle.arithmetic.proofs.div.Goals as goal

quotient : (c : goal.After-signed_of-2) → Computed quot_z c.signed_of.result c.signed_of-2.result c.args.x c.args.y
quotient c =
    computed quot_z c.args.x c.args.y c.signed_of.ensures c.signed_of-2.ensures c.ranges.x c.ranges.y quotient-within

pub returns-then-y-eq0 : goal.returns-then-y-eq0
unfolding DIV
returns-then-y-eq0 c = rw (eq-eqb c.args.y 0 c.if-y-eq0.true)

pub nonzero_div-quotient : goal.nonzero_div-quotient
nonzero_div-quotient c =
    divides c.args.x c.args.y (quotient c) c.signed_of-2.ensures c.ranges.y c.if-y-eq0.false

pub cell_of-requires : goal.cell_of-requires
cell_of-requires c =
    rw (quotient c).right (quotient-small c.args.x c.args.y c.ranges.x.fits)

pub returns : goal.returns
unfolding DIV
returns c =
    let q = c.before.before.before in let x = c.args.x in
    let y = c.args.y in
    let value = c.cell_of.ensures ∙ ap cell (quotient q).right in
    let leaving = c.leaves.ensures ∙ ap leaves16 (quotient q).right ∙ sym (quotient-leaves x y c.ranges.x.fits c.ranges.y.fits) in
    rw (ne_eqb y 0 c.if-y-eq0.false) (ap Some (c.outcome_of.ensures ∙ ap₂ (λ (v : ℕ) (o : Bool). outcome v false o) value leaving))
