-- Below 32768 a cell is its own reading; from there on 65536 is taken away, and an `i32` holds the difference.
use mathlib.Core.Path.{sym, ◌∙◌}
use native.Mathlib.Omega.{arith}
use mir.Syntax.{w16, w32}
use mir.ValLaws.{to_z_pos, to_z-of_z}
use Rattle.arithmetic.proofs.Readings.{lowered, small, fits}
use Rattle.arithmetic.proofs.cells.signed_of.Goals as goal

pub overflow_sub-result : goal.overflow_sub-result
overflow_sub-result c =
    let x = c.args.x in
    rw (to_z_pos w32 x (omega arith), lowered x (omega arith) (omega arith)) (fits _ (omega (arith, small x (omega arith))))

pub returns-then-x-lt32768 : goal.returns-then-x-lt32768
returns-then-x-lt32768 c =
    let x = c.args.x in
    to_z_pos w32 x (omega arith) ∙ sym (to_z_pos w16 x (omega (arith, c.if-x-lt32768.true)))

pub returns-else-x-lt32768 : goal.returns-else-x-lt32768
returns-else-x-lt32768 c =
    let x = c.args.x in
    rw (to_z_pos w32 x (omega arith), lowered x (omega arith) (omega arith))
    (to_z-of_z w32 _ (fits _ (omega (arith, small x (omega arith)))))
