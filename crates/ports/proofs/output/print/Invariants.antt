-- Each turn copies one low byte more (`copy_more`).
use mathlib.Core.List.{map}
use lib.ListN.{drop}
use Rattle.ports.specs.Output.{low_byte}
use Rattle.ports.proofs.Overwrites.{Copied}
use Rattle.ports.proofs.output.print.Given as goal

abbrev pub invariant-loop-k : goal.invariant-loop-k
invariant-loop-k l = Copied l.initial.out l.at (map low_byte (drop l.from l.m)) l.n l.out l.k
