-- Each test that fails leaves the line without a label; where both pass, the word and the `:` are the label.
use mathlib.Core.Path.{sym}
use Rattle.statements.proofs.Beginning.{no_label_word, no_colon, is_label}
use Rattle.statements.proofs.labels.label.Goals.{then-not-is_word-via-then-not-is_word, then-not-is_word-via-else-not-is_word+then-not-colon_at}
use Rattle.statements.proofs.labels.label.Goals as goal

pub returns-then-not-is_word : goal.returns-then-not-is_word
returns-then-not-is_word c =
    elim c.then-not-is_word.branch [
      | then-not-is_word-via-then-not-is_word w ↦ no_label_word c.args.s.now c.next_token-w.ensures (sym w.if-not-is_word.ensures)
      | then-not-is_word-via-else-not-is_word+then-not-colon_at w ↦
          no_colon c.args.s.now c.next_token-w.ensures (sym w.if-not-is_word.ensures) (sym w.if-not-colon_at.ensures)
    ]

pub returns : goal.returns
returns c = is_label c.args.s.now c.next_token-w.ensures (sym c.if-not-is_word.ensures) (sym c.if-not-colon_at.ensures) c.next_token.ensures
