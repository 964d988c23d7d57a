-- Line behind line: what is written is the lines so far (`cells-more`).
use mathlib.Core.Path.{◌≡◌}
use lib.ListN.{length}
use Prim.Native.Nat.{◌+◌, ◌*◌, ◌≤◌}
use Rattle.texts.specs.Lines.{text_of}
use Rattle.texts.specs.Inner.Wrote.{Wrote}
use Rattle.record.specs.Inner.Cells.{lines_from}
use Rattle.record.proofs.lines.cells.Given as goal

abbrev pub invariant-loop-k : goal.invariant-loop-k
invariant-loop-k l = (length l.room ≡ length l.initial.room) × (Wrote l.initial.room l.at (text_of (lines_from l.names l.r l.from l.k)) l.room l.next × (l.next ≤ l.at + 20 * l.k))
