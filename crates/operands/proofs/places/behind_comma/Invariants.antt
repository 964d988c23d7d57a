-- One turn of the loop passes one token; what is behind the first comma stays (Located).
use Prim.Native.Nat.{◌-◌}
use mathlib.Core.Path.{◌≡◌}
use lib.ListN.{length}
use Rattle.tokens.specs.Reading.{tokens_from}
use Rattle.operands.specs.Places.{after_comma}
use Rattle.operands.proofs.places.behind_comma.Given as goal

abbrev pub invariant-loop-at : goal.invariant-loop-at
invariant-loop-at l = after_comma (tokens_from l.s l.at.at) ≡ after_comma (tokens_from l.s l.initial.at.at)

abbrev pub decreases-loop-at : goal.decreases-loop-at
decreases-loop-at l = length l.s - l.at.at
