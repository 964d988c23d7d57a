-- The loop's invariant: what is left of the string at the cursor, written from `at + n` on, gives what the whole string gives (Writes.antt); and
-- no more cells are written than bytes passed. The measure is what is left of the line.
use Prim.Native.Nat.{◌+◌, ◌-◌, ◌≤◌}
use mathlib.Core.Path.{◌≡◌}
use lib.ListN.{length}
use Rattle.items.proofs.Writes.{Left}
use Rattle.items.proofs.writing.write_string.Given as goal

abbrev pub invariant-loop-b : goal.invariant-loop-b
invariant-loop-b l = (l.n ≤ l.inside.at) × (length l.row ≡ length l.initial.row) × Left l.s l.from l.initial.row (l.at + l.k) l.inside.at l.row (l.at + l.n)

abbrev pub decreases-loop-b : goal.decreases-loop-b
decreases-loop-b l = length l.s - l.inside.at
