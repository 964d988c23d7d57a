-- The count is that of the marks that the loop has passed.
use Prim.Native.Nat.{ℕ, ◌≤◌}
use mathlib.Core.Path.{◌≡◌}
use lib.Dec.{eqb}
use lib.ListN.{take}
use Rattle.std.specs.List.{count_by}
use Rattle.assembler.proofs.counting.counted.Given as goal

abbrev pub invariant-loop-m : goal.invariant-loop-m
invariant-loop-m l = (l.count ≤ l.m-index) × (l.count ≡ count_by (λ (m : ℕ). eqb m l.mark) (take l.m-index l.marks))
