use mathlib.Core.Path.{◌≡◌}
use mathlib.Core.Bool.{true}
use Prim.Native.Nat.{◌-◌, ◌≤◌}
use lib.ListN.{length}
use Rattle.machine.specs.Stops.{good_loan}
use Rattle.machine.specs.Inner.Lent.{running}
use Rattle.machine.specs.Runs.{run_of}
use Rattle.machine.proofs.Runs.{later}
use Rattle.machine.proofs.run.running_on.Given as goal

abbrev pub invariant-loop-count : goal.invariant-loop-count
invariant-loop-count l = (later l.count (run_of (l.budget - l.count) l.input (running l.r l.m l.out l.taken l.written)) ≡ run_of l.budget l.input (running l.initial.r l.initial.m l.initial.out l.initial.taken l.initial.written)) × (good_loan l.input (running l.r l.m l.out l.taken l.written) ≡ true) × (l.count ≤ l.budget) × (length l.m ≡ length l.initial.m) × (length l.out ≡ length l.initial.out)

abbrev pub decreases-loop-count : goal.decreases-loop-count
decreases-loop-count l = l.budget - l.count
