-- What is measured, and the measure of what is left, is the measure of all (`Measuring`).
use Prim.Native.Nat.{◌-◌}
use lib.ListN as list
use Rattle.listing.proofs.Loops.{Measuring}
use Rattle.listing.proofs.walking.measured.Given as goal

abbrev pub invariant-loop-at : goal.invariant-loop-at
invariant-loop-at l = Measuring l.memory l.map l.length l.behind l.at

abbrev pub decreases-loop-at : goal.decreases-loop-at
decreases-loop-at l = list.length l.map - l.at
