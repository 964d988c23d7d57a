-- The loop keeps its place plus the line that is left there: that is where the line ends.
use Prim.Native.Nat.{◌+◌}
use mathlib.Core.Path.{◌≡◌}
use lib.ListN.{drop}
use Rattle.tokens.specs.Reading.{line_length}
use Rattle.tokens.proofs.lines.line_end.Given as goal

abbrev pub invariant-loop-i : goal.invariant-loop-i
invariant-loop-i l = l.from + line_length (drop l.from l.s) ≡ l.i + line_length (drop l.i l.s)
