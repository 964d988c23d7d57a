-- Each kind's text is the one that its arm writes.
-- Assumes nothing.
use native.Mathlib.Omega.{arith}
use mathlib.Core.Path.{sym, ap, ◌∙◌}
use lib.ListN.{length}
use Rattle.texts.proofs.Rooms.{wrote_none, wrote_as}
use Rattle.listing.specs.Pieces.{text_of}
use Rattle.listing.proofs.Texts.{operand_text, immediate-text, memory-text, relative-text}
use Rattle.listing.proofs.operands.operand.Goals as goal

pub field-requires : goal.field-requires
field-requires c = omega (arith, ap length (immediate-text _ ∙ ap operand_text (sym c.in-Immediate.is)))

pub register-requires : goal.register-requires
register-requires c = omega (arith, ap length (ap operand_text c.in-Register.is))

pub field-requires-in-Memory : goal.field-requires-in-Memory
field-requires-in-Memory c = omega (arith, ap length (memory-text _ ∙ ap operand_text (sym c.in-Memory.is)))

pub in_brackets-requires : goal.in_brackets-requires
in_brackets-requires c = omega (arith, ap length (ap operand_text c.in-Indirect.is))

pub indexed-requires : goal.indexed-requires
indexed-requires c = omega (arith, ap length (ap operand_text c.in-IndexedX.is))

pub indexed-requires-in-IndexedY : goal.indexed-requires-in-IndexedY
indexed-requires-in-IndexedY c = omega (arith, ap length (ap operand_text c.in-IndexedY.is))

pub indexed-requires-in-IndexedSp : goal.indexed-requires-in-IndexedSp
indexed-requires-in-IndexedSp c = omega (arith, ap length (ap operand_text c.in-IndexedSp.is))

pub signed_field-requires : goal.signed_field-requires
signed_field-requires c = omega (arith, ap length (relative-text c.in-Relative.d ∙ ap operand_text (sym c.in-Relative.is)))

pub returns-in-Absent : goal.returns-in-Absent
unfolding text_of
returns-in-Absent c = rw c.in-Absent.is (wrote_none _ _)

pub returns-in-Immediate : goal.returns-in-Immediate
returns-in-Immediate c = wrote_as _ _ _ _ (immediate-text _ ∙ ap operand_text (sym c.in-Immediate.is)) c.field.ensures

pub returns-in-Register : goal.returns-in-Register
returns-in-Register c = wrote_as _ _ _ _ (ap operand_text (sym c.in-Register.is)) c.register.ensures

pub returns-in-Memory : goal.returns-in-Memory
returns-in-Memory c = wrote_as _ _ _ _ (memory-text _ ∙ ap operand_text (sym c.in-Memory.is)) c.field-in-Memory.ensures

pub returns-in-Indirect : goal.returns-in-Indirect
returns-in-Indirect c = wrote_as _ _ _ _ (ap operand_text (sym c.in-Indirect.is)) c.in_brackets.ensures

pub returns-in-IndexedX : goal.returns-in-IndexedX
returns-in-IndexedX c = wrote_as _ _ _ _ (ap operand_text (sym c.in-IndexedX.is)) c.indexed.ensures

pub returns-in-IndexedY : goal.returns-in-IndexedY
returns-in-IndexedY c = wrote_as _ _ _ _ (ap operand_text (sym c.in-IndexedY.is)) c.indexed-in-IndexedY.ensures

pub returns-in-IndexedSp : goal.returns-in-IndexedSp
returns-in-IndexedSp c = wrote_as _ _ _ _ (ap operand_text (sym c.in-IndexedSp.is)) c.indexed-in-IndexedSp.ensures

pub returns-in-Relative : goal.returns-in-Relative
returns-in-Relative c = wrote_as _ _ _ _ (relative-text _ ∙ ap operand_text (sym c.in-Relative.is)) c.signed_field.ensures
