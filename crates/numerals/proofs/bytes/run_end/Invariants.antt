-- The loop keeps its place plus the run that is left there: that is where the run ends.
use Prim.Native.Nat.{◌+◌}
use mathlib.Core.Path.{◌≡◌}
use lib.ListN.{drop}
use Rattle.numerals.specs.Reading.{run}
use Rattle.numerals.proofs.bytes.run_end.Given as goal

abbrev pub invariant-loop-i : goal.invariant-loop-i
invariant-loop-i l = l.from + run l.below (drop l.from l.s) ≡ l.i + run l.below (drop l.i l.s)
