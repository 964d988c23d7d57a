-- The first n of 80 blanks are n blanks; then piece behind piece (`caret-put`).
use native.Mathlib.Omega.{arith}
use Rattle.desk.proofs.Shown.{blanks-taken, blanks-length, caret_put}
use Rattle.desk.proofs.excerpts.put_caret.Goals as goal

pub piece-caret-requires : goal.piece-caret-requires
piece-caret-requires c =
    omega (arith, blanks-length c.args.n 80 (omega arith))

pub piece-requires : goal.piece-requires
piece-requires c =
    omega (arith, blanks-length c.args.n 80 (omega arith))

pub returns : goal.returns
returns c =
    let n = c.args.n in
    caret_put c.args.room.now c.args.at n (omega arith) c.piece-first.ensures
    (rw (blanks-taken n 80 (omega arith)) at c.piece-caret.ensures)
    c.piece.ensures
