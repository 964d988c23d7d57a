-- The prefix is tested byte by byte; past the end there is none.
use mathlib.Core.Path.{sym, ◌∙◌}
use Rattle.numerals.specs.Reading.{radix_at}
use lib.ListN.{get_or-eq_default}
use borrow.Author.Tests.{eq-eqb, ne_eqb}
use Rattle.numerals.proofs.reading.radix_at.Goals as goal

pub returns-then-s-at : goal.returns-then-s-at
unfolding radix_at
returns-then-s-at c = simp (get_or-eq_default c.args.s.now 0 c.if-s-at.true)

pub returns-then-s-at-ne48 : goal.returns-then-s-at-ne48
unfolding radix_at
returns-then-s-at-ne48 c = simp (ne_eqb _ _ c.if-s-at-ne48.true)

pub returns-then-byte_at-eq120 : goal.returns-then-byte_at-eq120
unfolding radix_at
returns-then-byte_at-eq120 c = simp (eq-eqb _ _ c.if-s-at-ne48.false, eq-eqb _ _ (sym c.byte_at.ensures ∙ c.if-byte_at-eq120.true))

pub returns-else-byte_at-eq120 : goal.returns-else-byte_at-eq120
unfolding radix_at
returns-else-byte_at-eq120 c = simp (eq-eqb _ _ c.if-s-at-ne48.false, ne_eqb _ _ (λ e. c.if-byte_at-eq120.false (c.byte_at.ensures ∙ e)))
