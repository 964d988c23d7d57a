-- The form of the row from the cursor on stays that of the rest, with what is next and the height; a token more takes a byte at least.
use Prim.Native.Nat.{◌-◌, ◌≤◌}
use mathlib.Core.Bool.{true}
use mathlib.Core.Path.{◌≡◌}
use lib.ListN.{length}
use Rattle.tokens.specs.Reading.{tokens_from}
use Rattle.expressions.specs.Inner.Scanning.{right_form}
use Rattle.expressions.proofs.scanning.right_form.Given as goal

abbrev pub invariant-loop-t : goal.invariant-loop-t
invariant-loop-t l = (l.scan.height ≤ l.at.at) × (l.scan.height ≤ length l.s) × (right_form (tokens_from l.s l.fn.from.at) true 0 ≡ right_form (tokens_from l.s l.at.at) l.scan.operand l.scan.height)

abbrev pub decreases-loop-t : goal.decreases-loop-t
decreases-loop-t l = length l.s - l.at.at
