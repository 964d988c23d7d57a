-- The loop's invariant: what stands before the name stands before the place that the loop has come to (Found).
use mathlib.Core.Path.{◌≡◌}
use Rattle.columns.specs.Columns.{mark_before}
use Rattle.columns.proofs.own.mark_before.Given as goal

abbrev pub invariant-loop-at : goal.invariant-loop-at
invariant-loop-at l = mark_before l.line l.name ≡ mark_before l.line l.at
