-- The opcode's name by its letters, and its operands behind it (`instruction-text`).
-- Assumes nothing.
use native.Mathlib.Omega.{arith}
use mathlib.Core.Path.{ap}
use lib.ListN.{length}
use Rattle.texts.proofs.Rooms.{wrote_on, wrote_as}
use Rattle.listing.proofs.Letters.{opcode-letters}
use Rattle.listing.proofs.Texts.{instruction-text, instruction-length}
use Rattle.listing.proofs.lines.instruction.Goals as goal

pub letters-behind-requires : goal.letters-behind-requires
letters-behind-requires c =
    let i = c.args.i in
    omega (arith, instruction-length i, ap length (opcode-letters i.op c.opcode_name.ensures))

pub operands-requires : goal.operands-requires
operands-requires c =
    let i = c.args.i in
    omega (arith, instruction-length i, ap length (opcode-letters i.op c.opcode_name.ensures))

pub returns : goal.returns
returns c =
    let a = c.args in
    let name = wrote_as _ _ _ _ (opcode-letters a.i.op c.opcode_name.ensures) c.letters-behind.ensures in
    wrote_as a.room.now a.at _ _ (instruction-text a.i)
    (wrote_on a.room.now a.at _ _ (omega arith) name c.operands.ensures)
