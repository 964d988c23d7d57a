-- Piece behind piece (`part-put`).
use native.Mathlib.Omega.{arith}
use lib.ListN.{length-map}
use Rattle.desk.specs.Excerpts.{shown_byte}
use Rattle.desk.proofs.Shown.{part_put}
use Rattle.desk.proofs.excerpts.put_part.Goals as goal

pub piece-requires : goal.piece-requires
piece-requires c =
    omega (arith, length-map c.args.part.now shown_byte)

pub returns : goal.returns
returns c =
    part_put c.args.room.now c.args.part.now (omega arith) c.piece-first.ensures c.put_shown-last.ensures c.piece.ensures
