-- The loop keeps where the string closes: counted from the opening quote, and counted on from the cursor, it is the same place (Quoted.antt).
use Prim.Native.Nat.{◌+◌, ◌-◌, ◌≤◌}
use mathlib.Core.Path.{◌≡◌}
use lib.ListN.{length, drop}
use Rattle.tokens.specs.Reading.{closing, further}
use Rattle.tokens.proofs.tokens.string_token.Given as goal

abbrev pub invariant-loop-next : goal.invariant-loop-next
invariant-loop-next l = (l.at + 1 ≤ l.inside.at) × (closing (drop (l.at + 1) l.s) ≡ further (l.inside.at - (l.at + 1)) (closing (drop l.inside.at l.s)))

abbrev pub decreases-loop-next : goal.decreases-loop-next
decreases-loop-next l = length l.s - l.inside.at
