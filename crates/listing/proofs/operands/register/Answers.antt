-- A mark, and a register's name by its letters behind it (`register-text`).
-- Assumes nothing.
use native.Mathlib.Omega.{arith}
use mathlib.Core.Path.{ap}
use lib.ListN.{length}
use Rattle.texts.proofs.Rooms.{wrote_on, wrote_as}
use Rattle.listing.proofs.Letters.{register-letters}
use Rattle.listing.proofs.Texts.{register-text}
use Rattle.listing.proofs.operands.register.Goals as goal

pub piece-name-requires : goal.piece-name-requires
piece-name-requires c = omega (arith, ap length (register-text c.args.r))

pub letters-requires : goal.letters-requires
letters-requires c =
    let r = c.args.r in
    omega (arith, ap length (register-text r), ap length (register-letters r c.register_name.ensures))

pub returns : goal.returns
returns c =
    let a = c.args in
    let name = wrote_as _ _ _ _ (register-letters a.r c.register_name.ensures) c.letters.ensures in
    wrote_as a.room.now a.at _ _ (register-text a.r)
    (wrote_on a.room.now a.at _ _ (omega arith) c.piece-name.ensures name)
