-- By what the statement comes to.
use native.Mathlib.Omega.{arith}
use mathlib.Core.List.{append-nil}
use mathlib.Core.Path.{refl, sym, ◌∙◌}
use Rattle.uses.specs.Inner.Held.{uses_held}
use Rattle.walking.proofs.Kept.{room-said, cells-read, uses-read}
use Rattle.walking.proofs.walk.keep_line.Goals as goal

pub returns-in_default : goal.returns-in_default
returns-in_default c =
    let a = c.args in
    let e = c.in_default.is in (
      cells-read a.line.now a.cells.now a.at e refl,
      λ s part. uses-read (uses_held s a.row.now a.aways.now a.count) a.number a.line.now a.at e (sym (append-nil _)),
      omega arith,
      omega arith,
    )

pub note_statement-requires : goal.note_statement-requires
note_statement-requires c = (
  c.requires.0 ∙ c.in-Ok.is,
  c.requires.1,
  c.requires.2,
  c.requires.3,
  room-said c.args.at c.in-Ok.says c.in-Ok.is c.requires.4,
  c.requires.5,
)

pub returns : goal.returns
returns c =
    let a = c.args in
    let e = c.in-Ok.is in (
      cells-read a.line.now a.cells.now a.at e c.write_statement.ensures,
      λ s part. uses-read (uses_held s a.row.now a.aways.now a.count) a.number a.line.now a.at e (c.note_statement.ensures.0 s part),
      c.note_statement.ensures.1,
      c.note_statement.ensures.2,
    )
