-- One turn of the loop passes one token; what is left to search has the same place (Located).
use Prim.Native.Nat.{◌-◌}
use mathlib.Core.Path.{◌≡◌}
use lib.ListN.{length}
use Rattle.tokens.specs.Reading.{tokens_from}
use Rattle.items.specs.Places.{out_from, number_out_in}
use Rattle.items.proofs.places.number_out.Given as goal

abbrev pub invariant-loop-t : goal.invariant-loop-t
invariant-loop-t l = number_out_in (tokens_from l.s l.initial.at.at) ≡ out_from l.begins (tokens_from l.s l.at.at)

abbrev pub decreases-loop-t : goal.decreases-loop-t
decreases-loop-t l = length l.s - l.at.at
