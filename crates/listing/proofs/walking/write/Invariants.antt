-- Writing what is left behind what is written is writing all of it (`Writing`); no instruction fails, for all lines were found.
use Prim.Native.Nat.{◌-◌}
use lib.ListN.{length}
use Rattle.listing.proofs.Loops.{Writing}
use Rattle.listing.proofs.walking.write.Given as goal

abbrev pub invariant-loop-at : goal.invariant-loop-at
invariant-loop-at l = Writing l.initial.room l.memory l.map l.room l.put l.behind l.at

abbrev pub decreases-loop-at : goal.decreases-loop-at
decreases-loop-at l = length l.map - l.at
