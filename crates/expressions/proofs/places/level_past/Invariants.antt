-- The level of the row from the cursor on stays that of the rest, with what is next and the height; a token more takes a byte at least.
use Prim.Native.Nat.{◌-◌, ◌≤◌}
use mathlib.Core.Bool.{true}
use mathlib.Core.Path.{◌≡◌}
use lib.ListN.{length}
use Rattle.codes.specs.Limits.{deepest}
use Rattle.tokens.specs.Reading.{tokens_from}
use Rattle.expressions.specs.Inner.Scanning.{level_at}
use Rattle.expressions.proofs.places.level_past.Given as goal

abbrev pub invariant-loop-further : goal.invariant-loop-further
invariant-loop-further l = (l.scan.height ≤ deepest) × (level_at (tokens_from l.s l.fn.from.at) true 0 ≡ level_at (tokens_from l.s l.at.at) l.scan.operand l.scan.height)

abbrev pub decreases-loop-further : goal.decreases-loop-further
decreases-loop-further l = length l.s - l.at.at
