-- Piece behind piece (`lines-told`).
use native.Mathlib.Omega.{arith}
use Rattle.numerals.specs.Bytes.{bytes}
use Rattle.desk.proofs.Told.{field_length, lines-told}
use Rattle.desk.proofs.refusals.lines.Goals as goal

pub field-second-requires : goal.field-second-requires
field-second-requires c =
    omega (arith, field_length (bytes "refused=") c.args.refusal.number)

pub field-third-requires : goal.field-third-requires
field-third-requires c =
    omega (arith, field_length (bytes "refused=") c.args.refusal.number, field_length (bytes "\nline=") c.narrow.result)

pub field-last-requires : goal.field-last-requires
field-last-requires c =
    omega (
      arith,
      field_length (bytes "refused=") c.args.refusal.number,
      field_length (bytes "\nline=") c.narrow.result,
      field_length (bytes "\ncolumn=") c.narrow-2.result,
    )

pub returns : goal.returns
returns c =
    lines-told c.args.room.now c.args.refusal.number c.requires c.narrow.ensures c.narrow-2.ensures
    c.field-second.ensures c.field-third.ensures c.field-last.ensures c.put.ensures
