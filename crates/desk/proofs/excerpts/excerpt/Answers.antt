-- Nothing for a column that the line does not have; else both lines (`line-shown`).
use native.Mathlib.Omega.{arith}
use lib.ListN.{length}
use Rattle.desk.proofs.Shown.{from-within, nowhere-shown, outside-shown, line-shown}
use Rattle.desk.proofs.excerpts.excerpt.Goals as goal

pub returns-in_default : goal.returns-in_default
returns-in_default c =
    nowhere-shown c.args.room.now c.args.line.now c.args.column (omega (arith, c.in_default.ensures))

pub returns-then-line-place : goal.returns-then-line-place
returns-then-line-place c =
    let p = c.in-Some.ensures in
    outside-shown c.args.room.now c.args.line.now c.args.column p.0 (omega (arith, p.1))

pub shown_end-end-requires : goal.shown_end-end-requires
shown_end-end-requires c =
    let p = c.in-Some.ensures in
    omega (arith, from-within (length c.args.line.now) c.args.column p.0 (omega (arith, p.1)))

pub overflow_sub-place : goal.overflow_sub-place
overflow_sub-place c =
    let p = c.in-Some.ensures in
    omega (arith, p.1, from-within (length c.args.line.now) c.args.column p.0 (omega (arith, p.1)))

pub put_caret-requires : goal.put_caret-requires
put_caret-requires c =
    let p = c.in-Some.ensures in
    omega (arith, p.1, from-within (length c.args.line.now) c.args.column p.0 (omega (arith, p.1)))

pub returns : goal.returns
returns c =
    let p = c.in-Some.ensures in
    line-shown c.args.room.now c.args.line.now c.args.column p.0 (omega (arith, p.1))
    c.shown_from-from.ensures c.shown_end-end.ensures c.put_part-next.ensures (rw p.1 at c.put_caret.ensures)
