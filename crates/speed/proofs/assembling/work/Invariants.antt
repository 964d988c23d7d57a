-- No more are accepted than were assembled.
use Rattle.std.proofs.Common.{◌≤◌}
use Rattle.speed.proofs.assembling.work.Given as goal

abbrev pub invariant-loop : goal.invariant-loop
invariant-loop g l = l.times ≤ l.counter
