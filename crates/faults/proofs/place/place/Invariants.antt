-- The fault's place stays that from here on; a byte opens one parenthesis at most.
use Prim.Native.Nat.{◌≤◌}
use mathlib.Core.Path.{◌≡◌}
use Rattle.faults.specs.Walk.{place}
use Rattle.faults.specs.Inner.Stages.{opens_in}
use Rattle.faults.specs.Inner.Turns.{lex_at, place_at}
use Rattle.faults.proofs.place.place.Given as goal

abbrev pub invariant-loop-at : goal.invariant-loop-at
invariant-loop-at l = (place l.line ≡ place_at l.line l.walk.stage l.walk.began l.at) × (l.walk.began ≤ l.at) × (opens_in (lex_at l.line l.walk.stage l.walk.began l.at) ≤ l.at)
