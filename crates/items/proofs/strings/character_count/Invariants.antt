-- The loop's invariant: what is left of the string at the cursor has all but `count` of its characters (Counts.antt), each of a byte at least.
-- The measure is what is left of the line.
use Prim.Native.Nat.{◌+◌, ◌-◌, ◌≤◌}
use lib.ListN.{length}
use Rattle.items.proofs.Counts.{Left}
use Rattle.items.proofs.strings.character_count.Given as goal

abbrev pub invariant-loop-next : goal.invariant-loop-next
invariant-loop-next l = (l.from + l.count ≤ l.at.at) × Left l.s l.from l.at.at l.count

abbrev pub decreases-loop-next : goal.decreases-loop-next
decreases-loop-next l = length l.s - l.at.at
