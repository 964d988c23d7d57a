-- By the token there: no word, a word that is not DATA, or DATA with its items (CellsGiven.antt).
use mathlib.Core.Path.{sym, ap, ◌∙◌}
use lib.Seq.{sets}
use Rattle.statements.specs.Cells.{is_data}
use Rattle.statements.proofs.CellsGiven.{no_word_cells, no_data_cells, data_cells}
use Rattle.statements.proofs.cells.write_body.Goals.{else-is_word-via-then-is_word+else-is_data, else-is_word-via-else-is_word}
use Rattle.statements.proofs.cells.write_body.Goals as goal

pub returns-then-is_data : goal.returns-then-is_data
returns-then-is_data c =
    let g = ap is_data (sym c.statement_word.ensures) ∙ sym c.if-is_data.ensures in
    c.write_cells.ensures
    ∙ sym (ap (sets c.args.row.now c.args.at) (data_cells c.args.s.now c.args.w (sym c.if-is_word.ensures) g))

pub returns-else-is_word : goal.returns-else-is_word
returns-else-is_word c =
    elim c.else-is_word.branch [
      | else-is_word-via-then-is_word+else-is_data w ↦
          let g = ap is_data (sym w.statement_word.ensures) ∙ sym w.if-is_data.ensures in
          sym (ap (sets c.args.row.now c.args.at) (no_data_cells c.args.s.now c.args.w (sym w.if-is_word.ensures) g))
      | else-is_word-via-else-is_word w ↦ sym (ap (sets c.args.row.now c.args.at) (no_word_cells c.args.s.now c.args.w (sym w.if-is_word.ensures)))
    ]
