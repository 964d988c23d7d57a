-- The room is not passed, and each turn but the last holds a byte more.
use Rattle.std.proofs.Common.{◌≡◌, ◌≤◌, ◌-◌, length}
use Rattle.speed.proofs.read_full.Given as goal

abbrev pub invariant-loop-held : goal.invariant-loop-held
invariant-loop-held g l = (l.held ≤ length l.room) × (length l.room ≡ length l.initial.room)

abbrev pub decreases-loop-held : goal.decreases-loop-held
decreases-loop-held g l = length l.room - l.held
