-- By the reply of `items`: accepted items are written, and refused ones have no cells (Writes.antt).
use Rattle.std.proofs.Common.{is_ok, ap, sym, ◌∙◌}
use Rattle.items.proofs.Writes.{accepted_ok, none_refused}
use Rattle.items.proofs.writing.write_cells.Goals as goal

pub write_items-requires : goal.write_items-requires
write_items-requires c = accepted_ok _ _ (ap is_ok (sym c.items.ensures) ∙ sym c.is_ok.ensures.value ∙ c.if-is_ok.true)

pub returns-else-is_ok : goal.returns-else-is_ok
returns-else-is_ok c = rw (none_refused _ _ (ap is_ok (sym c.items.ensures) ∙ sym c.is_ok.ensures.value ∙ c.if-is_ok.false))
