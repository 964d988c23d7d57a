-- A displacement, and a register in brackets behind it (`indexed-text`).
-- Assumes nothing.
use native.Mathlib.Omega.{arith}
use Rattle.texts.proofs.Rooms.{wrote_on, wrote_as}
use Rattle.listing.proofs.Texts.{indexed-text, indexed-length}
use Rattle.listing.proofs.operands.indexed.Goals as goal

pub signed_field-bracket-requires : goal.signed_field-bracket-requires
signed_field-bracket-requires c = omega (arith, indexed-length c.args.r c.args.d)

pub in_brackets-requires : goal.in_brackets-requires
in_brackets-requires c = omega (arith, indexed-length c.args.r c.args.d)

pub returns : goal.returns
returns c =
    let a = c.args in
    wrote_as a.room.now a.at _ _ (indexed-text a.r a.d)
    (wrote_on a.room.now a.at _ _ (omega arith) c.signed_field-bracket.ensures c.in_brackets.ensures)
