-- Each line's text is the one that its arm writes; an origin's address fits a decimal.
-- Assumes nothing.
use native.Mathlib.Omega.{arith}
use mathlib.Core.Path.{sym, ap, subst, ◌∙◌}
use lib.ListN.{length}
use Rattle.texts.proofs.Rooms.{wrote_as}
use Rattle.listing.specs.Lines.{line_of}
use Rattle.listing.specs.Inner.Begins.{Addressed}
use Rattle.listing.proofs.Texts.{origin-text, holds_text, reserves_text, finish-text}
use Rattle.listing.proofs.lines.entry.Goals as goal

pub overflow_cast-n : goal.overflow_cast-n
overflow_cast-n c = let h = subst Addressed c.in-Origin.is c.requires.1 in omega arith

pub field-requires : goal.field-requires
field-requires c = omega (arith, ap length (origin-text _ ∙ ap line_of (sym c.in-Origin.is)))

pub instruction-requires : goal.instruction-requires
instruction-requires c = omega (arith, ap length (ap line_of c.in-Instructs.is))

pub field-requires-in-Holds : goal.field-requires-in-Holds
field-requires-in-Holds c = omega (arith, ap length (holds_text _ ∙ ap line_of (sym c.in-Holds.is)))

pub field-requires-in-Reserves : goal.field-requires-in-Reserves
field-requires-in-Reserves c = omega (arith, ap length (reserves_text _ ∙ ap line_of (sym c.in-Reserves.is)))

pub piece-requires : goal.piece-requires
piece-requires c = omega (arith, ap length (finish-text ∙ ap line_of (sym c.in-Finish.is)))

pub returns-in-Origin : goal.returns-in-Origin
returns-in-Origin c = wrote_as _ _ _ _ (origin-text _ ∙ ap line_of (sym c.in-Origin.is)) c.field.ensures

pub returns-in-Instructs : goal.returns-in-Instructs
returns-in-Instructs c = wrote_as _ _ _ _ (ap line_of (sym c.in-Instructs.is)) c.instruction.ensures

pub returns-in-Holds : goal.returns-in-Holds
returns-in-Holds c = wrote_as _ _ _ _ (holds_text _ ∙ ap line_of (sym c.in-Holds.is)) c.field-in-Holds.ensures

pub returns-in-Reserves : goal.returns-in-Reserves
returns-in-Reserves c = wrote_as _ _ _ _ (reserves_text _ ∙ ap line_of (sym c.in-Reserves.is)) c.field-in-Reserves.ensures

pub returns-in-Finish : goal.returns-in-Finish
returns-in-Finish c = wrote_as _ _ _ _ (finish-text ∙ ap line_of (sym c.in-Finish.is)) c.piece.ensures
