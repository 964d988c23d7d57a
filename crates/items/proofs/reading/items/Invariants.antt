-- The loop's invariant: the verdict on the whole row is the verdict on what is left, with the cells and the ranges of what is read; and
-- no more cells are counted than bytes passed. Each turn is a law of Walks.antt. The measure is what is left of the line.
use Prim.Native.Nat.{◌-◌, ◌≤◌}
use mathlib.Core.Path.{◌≡◌}
use lib.ListN.{length}
use Rattle.tokens.specs.Reading.{tokens_from}
use Rattle.items.specs.Reading.{item, walk, items_read}
use Rattle.items.specs.Inner.Turns.{verdict}
use Rattle.items.proofs.reading.items.Given as goal

abbrev pub invariant-loop-value : goal.invariant-loop-value
invariant-loop-value l = (l.cells ≤ l.at.at) × (items_read l.s (tokens_from l.s l.initial.at.at) ≡ verdict l.cells l.fit (walk l.s item (tokens_from l.s l.at.at)))

abbrev pub decreases-loop-value : goal.decreases-loop-value
decreases-loop-value l = length l.s - l.at.at
