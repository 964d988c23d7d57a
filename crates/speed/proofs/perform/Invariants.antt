-- The steps fit: each run adds at most 4,294,967,295, and there are at most as many runs.
use Rattle.std.proofs.Common.{◌≤◌, ◌*◌}
use Rattle.speed.proofs.perform.Given as goal

abbrev pub invariant-loop : goal.invariant-loop
invariant-loop l = l.steps ≤ l.counter * 4294967295
