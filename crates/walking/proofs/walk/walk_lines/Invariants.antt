-- The loop over the lines: `Left` holds at each turn, and each turn is a law of Walks.antt.
use Rattle.std.proofs.Common.{◌-◌, length}
use Rattle.walking.proofs.Walks.{Left}
use Rattle.walking.proofs.walk.walk_lines.Given as goal

abbrev pub invariant-loop-from : goal.invariant-loop-from
invariant-loop-from l =
    Left (length l.initial.marks) l.s l.starts l.keys l.values l.marks l.cells l.row l.aways (length l.initial.cells) (length l.initial.row)
    (length l.initial.aways) l.c l.from l.number l.uses

abbrev pub decreases-loop-from : goal.decreases-loop-from
decreases-loop-from l = length l.s - l.from
