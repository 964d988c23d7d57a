-- The bytes shown so far stand in the room, as a copy of the part that is shown byte by byte.
use mathlib.Core.List.{map}
use lib.ListN.{length}
use Rattle.ports.proofs.Overwrites.{Copied}
use Rattle.desk.specs.Excerpts.{shown_byte}
use Rattle.desk.proofs.excerpts.put_shown.Given as goal

abbrev pub invariant-loop-k : goal.invariant-loop-k
invariant-loop-k l = Copied l.initial.room l.at (map shown_byte l.part) (length l.part) l.room l.k
