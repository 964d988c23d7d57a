-- An instruction that a line says is allowed as it stands.
use mathlib.Core.Path.{ap, ◌∙◌}
use Rattle.std.proofs.Common.{Ok}
use Rattle.walking.proofs.Said.{allowed-said}
use Rattle.walking.proofs.Words.{as_said}
use Rattle.walking.proofs.writing.write_statement.Goals as goal

pub write_words-requires : goal.write_words-requires
write_words-requires c =
    (allowed-said c.args.line.now (c.requires.0 ∙ ap Ok c.in-Instruction.is), c.requires.1)

pub returns-in-Instruction : goal.returns-in-Instruction
returns-in-Instruction c =
    let a = c.args in
    as_said a.line.now a.cells.now a.at c.in-Instruction.is c.write_words.ensures

pub returns-in-Data : goal.returns-in-Data
returns-in-Data c =
    let a = c.args in
    as_said a.line.now a.cells.now a.at c.in-Data.is c.write_cells.ensures
