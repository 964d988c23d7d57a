-- One turn of the loop reads one operand; what is left to read is listed as before (Lists).
use Prim.Native.Nat.{◌-◌}
use mathlib.Core.Path.{◌≡◌}
use lib.ListN.{length}
use Rattle.tokens.specs.Reading.{tokens_from}
use Rattle.operands.specs.Reading.{operand, walk}
use Rattle.operands.specs.Inner.Peeks.{listed}
use Rattle.operands.proofs.listed.some_operands.Given as goal

abbrev pub invariant-loop-o : goal.invariant-loop-o
invariant-loop-o l = listed l.initial.all (walk l.s operand (tokens_from l.s l.initial.at.at)) ≡ listed l.all (walk l.s operand (tokens_from l.s l.at.at))

abbrev pub decreases-loop-o : goal.decreases-loop-o
decreases-loop-o l = length l.s - l.at.at
