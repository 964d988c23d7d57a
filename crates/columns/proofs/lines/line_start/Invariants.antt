-- The loop's invariant: the line looked for is so many lines behind the one that the loop has come to (LineStarts).
use Prim.Native.Nat.{◌-◌}
use mathlib.Core.Path.{◌≡◌}
use Rattle.columns.specs.Columns.{start_after}
use Rattle.columns.proofs.lines.line_start.Given as goal

abbrev pub invariant-loop : goal.invariant-loop
invariant-loop l = start_after l.source (l.number - 1) 0 ≡ start_after l.source (l.number - l.counter) l.from
