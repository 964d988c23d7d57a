-- No 0 is passed by eights. A turn then passes a cell that is not 0, so that what is left of the string is one shorter.
use mathlib.Core.Path.{◌≡◌}
use Prim.Native.Nat.{◌+◌, ◌-◌}
use lib.ListN.{length, drop}
use Rattle.ports.specs.Output.{string_of}
use Rattle.ports.proofs.output.zero_at.Given as goal

abbrev pub invariant-loop-i : goal.invariant-loop-i
invariant-loop-i l = l.i + length (string_of (drop l.i l.m)) ≡ l.from + length (string_of (drop l.from l.m))

abbrev pub decreases-loop-i : goal.decreases-loop-i
decreases-loop-i l = length l.m - l.i
