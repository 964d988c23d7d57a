-- The places of a decimal from its start on are its text (`places-text`).
use native.Mathlib.Omega.{arith}
use Rattle.ports.specs.Output.{number_put}
use Rattle.ports.proofs.Outcomes.{places-start, places-text}
use Rattle.ports.proofs.output.put_number.Goals as goal

pub slice_bounds-put_text-start : goal.slice_bounds-put_text-start
slice_bounds-put_text-start c = omega (arith, places-start _ c.ranges.x.fits c.signed_decimal-text.ensures)

pub slice_bounds-put_text-count : goal.slice_bounds-put_text-count
slice_bounds-put_text-count c = omega (arith, places-start _ c.ranges.x.fits c.signed_decimal-text.ensures)

pub returns : goal.returns
unfolding number_put
returns c =
    let a = c.args in
    rw (places-text a.x c.ranges.x.fits c.signed_decimal-text.ensures) at c.put_text.ensures
