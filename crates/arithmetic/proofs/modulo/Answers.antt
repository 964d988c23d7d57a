-- The remainder of the readings, with the dividend's sign, fits an `i32`, since the quotient does.
use lib.Signed.{quot_z, rem_z}
use native.Mathlib.Omega.{arith}
use borrow.Author.Tests.{eq-eqb, ne_eqb}
use Rattle.arithmetic.specs.Operations.{MOD}
use Rattle.arithmetic.proofs.Readings.{Computed, computed, divides, quotient-within, remainder_small, remainder_within}
use Rattle.arithmetic.proofs.modulo.Goals as goal

quotient : (c : goal.After-signed_of-2) → Computed quot_z c.signed_of.result c.signed_of-2.result c.args.x c.args.y
quotient c =
    computed quot_z c.args.x c.args.y c.signed_of.ensures c.signed_of-2.ensures c.ranges.x c.ranges.y quotient-within

remainder : (c : goal.After-signed_of-2) → Computed rem_z c.signed_of.result c.signed_of-2.result c.args.x c.args.y
remainder c =
    computed rem_z c.args.x c.args.y c.signed_of.ensures c.signed_of-2.ensures c.ranges.x c.ranges.y remainder_within

pub returns-then-y-eq0 : goal.returns-then-y-eq0
unfolding MOD
returns-then-y-eq0 c = rw (eq-eqb c.args.y 0 c.if-y-eq0.true)

pub nonzero_rem-remainder : goal.nonzero_rem-remainder
nonzero_rem-remainder c =
    divides c.args.x c.args.y (quotient c) c.signed_of-2.ensures c.ranges.y c.if-y-eq0.false

pub cell_of-requires : goal.cell_of-requires
cell_of-requires c =
    rw (remainder c).right (omega (arith, remainder_small c.args.x c.args.y c.ranges.x.fits))

pub returns : goal.returns
unfolding MOD
returns c =
    let q = c.before.before in rw (
      ne_eqb c.args.y 0 c.if-y-eq0.false,
      ← (remainder q).right,
      ← c.cell_of.ensures,
      c.outcome_of.ensures,
    )
