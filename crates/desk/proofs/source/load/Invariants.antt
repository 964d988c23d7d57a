-- What is held lies within the room. The measure is the room that is left.
use lib.ListN.{length}
use mathlib.Core.Path.{◌≡◌}
use Prim.Native.Nat.{◌≤◌, ◌-◌}
use Rattle.desk.proofs.source.load.Given as goal

abbrev pub invariant-loop-held : goal.invariant-loop-held
invariant-loop-held g l = (l.held ≤ length l.room) × (length l.room ≡ length l.initial.room)

abbrev pub decreases-loop-held : goal.decreases-loop-held
decreases-loop-held g l = length l.room - l.held
