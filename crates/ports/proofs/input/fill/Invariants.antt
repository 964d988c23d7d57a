-- Each turn copies one byte more (`copy_more`), and the 0 cell is one element more at the end (`copy_last`).
use lib.ListN.{length}
use Rattle.ports.proofs.Overwrites.{Copied}
use Rattle.ports.proofs.input.fill.Given as goal

abbrev pub invariant-loop-k : goal.invariant-loop-k
invariant-loop-k l = Copied l.initial.m l.to l.text (length l.text) l.m l.k
