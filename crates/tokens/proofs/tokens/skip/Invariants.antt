-- The loop keeps its place plus the blanks that are left there: that is where they end.
use Prim.Native.Nat.{◌+◌}
use mathlib.Core.Path.{◌≡◌}
use lib.ListN.{drop}
use Rattle.tokens.specs.Reading.{blanks}
use Rattle.tokens.proofs.tokens.skip.Given as goal

abbrev pub invariant-loop-i : goal.invariant-loop-i
invariant-loop-i l = l.from + blanks (drop l.from l.s) ≡ l.i + blanks (drop l.i l.s)
