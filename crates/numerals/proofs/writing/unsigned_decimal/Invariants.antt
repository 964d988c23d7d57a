-- Each turn puts the last digit in front of those written, and the rest of the decimal is that of the tenth that is left.
use Prim.Native.Nat.{◌≤◌}
use Rattle.numerals.proofs.Filling.{Filled}
use Rattle.numerals.proofs.writing.unsigned_decimal.Given as goal

abbrev pub invariant-loop-i : goal.invariant-loop-i
invariant-loop-i l = (1 ≤ l.i) × (l.i ≤ 11) × Filled l.n l.bytes l.i l.left
