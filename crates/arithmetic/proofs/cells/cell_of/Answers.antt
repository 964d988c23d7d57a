-- A number below 0 is raised by 65536, any other is kept; both are the number's cell.
use mathlib.Core.Path.{◌≡◌, ◌∙◌}
use native.Mathlib.Omega.{arith}
use lib.IntN.{pos, ◌+ℤ◌}
use mir.Syntax.{w32}
use mir.Val.{to_z, of_z}
use mir.ValLaws.{to_z_pos, to_z-of_z}
use Rattle.arithmetic.specs.Cells.{cell}
use Rattle.arithmetic.proofs.Readings.{raised, kept, cell-small}
use Rattle.arithmetic.proofs.cells.cell_of.Goals as goal

below-zero : (c : goal.Then-z-lt0) → to_z w32 (of_z w32 c.args.z) +ℤ pos 65536 ≡ pos (cell c.args.z)
below-zero c =
    let e = to_z-of_z w32 c.args.z c.ranges.z in
    rw e (raised c.args.z (rw e at c.if-z-lt0.true) c.requires)

from_zero : (c : goal.Else-z-lt0) → to_z w32 (of_z w32 c.args.z) ≡ pos (cell c.args.z)
from_zero c =
    let e = to_z-of_z w32 c.args.z c.ranges.z in
    e ∙ kept c.args.z (rw e at c.if-z-lt0.false)

-- an `i32` holds a cell
held : (c : goal.Then-z-lt0) → to_z w32 (cell c.args.z) ≡ pos (cell c.args.z)
held c =
    to_z_pos w32 (cell c.args.z) (omega (arith, cell-small c.args.z c.requires))

pub overflow_add-result : goal.overflow_add-result
overflow_add-result c =
    rw (below-zero c) (record { sfits = omega (arith, cell-small c.args.z c.requires) })

pub overflow_cast-result : goal.overflow_cast-result
overflow_cast-result c =
    rw (below-zero c, held c) (tt, record { fits = cell-small c.args.z c.requires })

pub overflow_cast-result-else-z-lt0 : goal.overflow_cast-result-else-z-lt0
overflow_cast-result-else-z-lt0 c = rw (from_zero c) (tt, record { fits = cell-small c.args.z c.requires })

pub returns-then-z-lt0 : goal.returns-then-z-lt0
returns-then-z-lt0 c = rw (below-zero c, held c)

pub returns-else-z-lt0 : goal.returns-else-z-lt0
returns-else-z-lt0 c = rw (from_zero c)
