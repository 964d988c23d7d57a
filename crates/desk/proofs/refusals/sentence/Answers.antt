-- Piece behind piece (`sentence-told`).
use native.Mathlib.Omega.{arith}
use Rattle.numerals.specs.Bytes.{bytes}
use Rattle.desk.proofs.Told.{field_length, sentence_told}
use Rattle.desk.proofs.refusals.sentence.Goals as goal

pub field-second-requires : goal.field-second-requires
field-second-requires c =
    omega (arith, field_length (bytes ":") c.narrow.result)

pub field-refused-requires : goal.field-refused-requires
field-refused-requires c =
    omega (arith, field_length (bytes ":") c.narrow.result, field_length (bytes ":") c.narrow-2.result)

pub field-told-requires : goal.field-told-requires
field-told-requires c =
    omega (
      arith,
      field_length (bytes ":") c.narrow.result,
      field_length (bytes ":") c.narrow-2.result,
      field_length (bytes ": refused ") c.args.refusal.number,
    )

pub returns : goal.returns
returns c =
    sentence_told c.args.room.now c.args.path.now c.args.refusal.number c.requires c.narrow.ensures c.narrow-2.ensures
    c.name-first.ensures c.field-second.ensures c.field-refused.ensures c.field-told.ensures c.put-colon.ensures
    (rw c.reason.ensures at c.put-last.ensures) c.put.ensures
