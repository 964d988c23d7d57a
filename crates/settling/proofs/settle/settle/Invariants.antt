-- All labels before the i-th pass, their words are in their cells, and the last of them is on the line kept.
use Rattle.std.proofs.Common.{◌≡◌, ◌≤◌, length}
use Rattle.sources.specs.Inner.Assembling.{passes, uses_verdict, filled}
use Rattle.labels.specs.Inner.Labels.{labels_in}
use Rattle.uses.specs.Inner.Held.{uses_held}
use Rattle.settling.proofs.Laws.{Second}
use Rattle.settling.proofs.settle.settle.Given as goal

abbrev pub invariant-loop-i : goal.invariant-loop-i
invariant-loop-i l =
    let bs = labels_in l.s l.starts l.keys l.values l.count in
    (l.i ≤ l.uses)
    × (uses_verdict bs (uses_held l.s l.row l.aways l.i) ≡ passes)
    × (l.cells ≡ filled bs (uses_held l.s l.row l.aways l.i) l.initial.cells)
    × (length l.cells ≡ length l.initial.cells)
    × Second bs l.s l.row l.aways l.i l.before
