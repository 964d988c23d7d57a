-- The loop cuts after each digit, and the worth that is left stays the same; cutting on the way is cutting at the end.
use Prim.Native.Nat.{◌-◌, ◌≤◌}
use mathlib.Core.Path.{◌≡◌}
use lib.ListN.{take, drop}
use Rattle.numerals.proofs.Worths.{cut_after}
use Rattle.numerals.proofs.reading.worth_of.Given as goal

abbrev pub invariant-loop-i : goal.invariant-loop-i
invariant-loop-i l = (l.i ≤ l.end) × (l.v ≤ 65536)
    × (cut_after l.radix 0 (take (l.end - l.from) (drop l.from l.s)) ≡ cut_after l.radix l.v (take (l.end - l.i) (drop l.i l.s)))
