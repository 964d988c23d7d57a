-- Each way out is one outcome of the first word, and `operands_at` does the rest. Assumes nothing.
use mathlib.Core.Path.{sym, ◌∙◌}
use Rattle.std.proofs.Common.{rules}
use Rattle.isa.proofs.Refusals.{past_the_end, at_a_word, refused_word}
use Rattle.isa.proofs.decoding.decode.Goals as goal

pub returns-then-m-from : goal.returns-then-m-from
returns-then-m-from c = sym (past_the_end _ _ c.if-m-from.true)

pub returns-in_err-first_word : goal.returns-in_err-first_word
returns-in_err-first_word c =
    rw (refused_word _ _ c.in_err-first_word.field-0.0 (sym c.first_word.ensures ∙ c.in_err-first_word.was)) (search rules)

pub returns : goal.returns
returns c = c.operands_at.ensures ∙ sym (at_a_word _ _)
