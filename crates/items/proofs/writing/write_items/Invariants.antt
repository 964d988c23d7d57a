-- The loop's invariant: the items that are left are accepted, and their cells, written from `at + k` on, give what all of them give; and no
-- more cells are written than bytes passed. Each turn is a law of Writes.antt. The measure is what is left of the line.
use Prim.Native.Nat.{◌+◌, ◌-◌, ◌≤◌}
use mathlib.Core.Bool.{true}
use mathlib.Core.Path.{◌≡◌}
use lib.ListN.{length}
use lib.Seq.{sets}
use Rattle.tokens.specs.Reading.{tokens_from}
use Rattle.items.specs.Reading.{item, walk}
use Rattle.items.specs.Inner.Turns.{accepted}
use Rattle.items.specs.Writing.{cells_from}
use Rattle.items.proofs.writing.write_items.Given as goal

abbrev pub invariant-loop-value : goal.invariant-loop-value
invariant-loop-value l = (l.k ≤ l.item_at.at) × (length l.row ≡ length l.initial.row) × (accepted (walk l.s item (tokens_from l.s l.item_at.at)) ≡ true)
    × (sets l.initial.row l.at (cells_from l.s (tokens_from l.s l.initial.item_at.at)) ≡ sets l.row (l.at + l.k) (cells_from l.s (tokens_from l.s l.item_at.at)))

abbrev pub decreases-loop-value : goal.decreases-loop-value
decreases-loop-value l = length l.s - l.item_at.at
