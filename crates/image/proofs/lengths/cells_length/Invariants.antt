-- What is measured and what is left to measure are the whole (`left-length`).
use mathlib.Core.Path.{◌≡◌}
use Prim.Native.Nat.{◌+◌}
use lib.ListN.{length}
use Rattle.image.specs.Inner.Pieces.{cells_text}
use Rattle.image.proofs.Texts.{left}
use Rattle.image.proofs.lengths.cells_length.Given as goal

abbrev pub invariant-loop-address : goal.invariant-loop-address
invariant-loop-address l = l.n + length (left l.memory l.map l.address) ≡ length (cells_text l.memory l.map)
