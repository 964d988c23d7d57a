-- The tests are the range's, of the number that the `i32` holds; what is left modulo 65536 is the number's cell (Ranges).
use mathlib.Core.Path.{sym}
use native.Mathlib.Omega.{arith}
use mir.Syntax.{w16, w32}
use mir.Val.{of_z}
use mir.ValLaws.{to_z_pos, to_z-of_z}
use Rattle.statements.proofs.Ranges.{below, above, inside, near, cell-rest, cell-small}
use Rattle.statements.proofs.results.in_range.Goals.{then-z-least-via-then-z-least, then-z-least-via-else-z-least+then-z-gt65535}
use Rattle.statements.proofs.results.in_range.Goals as goal

pub returns-then-z-least : goal.returns-then-z-least
returns-then-z-least c =
    let e = to_z-of_z w32 c.args.z c.ranges.z in
    let l = to_z-of_z w32 c.args.least c.ranges.least in
    elim c.then-z-least.branch [
      | then-z-least-via-then-z-least w ↦ sym (below c.args.least c.args.z (rw (e, l) at w.if-z-least.true))
      | then-z-least-via-else-z-least+then-z-gt65535 w ↦
          sym (above c.args.least c.args.z (rw (e, l) at w.if-z-least.false) (rw e at w.if-z-gt65535.true))
    ]

pub returns : goal.returns
returns c =
    let z = c.args.z in
    let e = to_z-of_z w32 z c.ranges.z in
    let l = to_z-of_z w32 c.args.least c.ranges.least in
    let f = rw (e, l) at c.if-z-least.false in
    let g = rw e at c.if-z-gt65535.false in
    let m = near c.args.least z c.requires f g in
    let h = to_z_pos w32 (of_z w16 z) (omega (arith, cell-small z m)) in
    rw (c.rem_euclid.ensures.value, e, cell-rest z m, h) (sym (inside c.args.least z f g))
