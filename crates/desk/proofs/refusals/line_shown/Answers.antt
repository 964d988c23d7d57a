-- The part that is shown is the line (`part-there`).
use Prim.Native.Nat.{◌≤◌}
use lib.ListN.{length}
use Rattle.columns.proofs.LineStarts.{part_within, part_there}
use Rattle.desk.proofs.Shown.{shown_as}
use borrow.Author.Rules.{rules}
use Rattle.desk.proofs.refusals.line_shown.Goals as goal

pub slice_bounds-excerpt-end : goal.slice_bounds-excerpt-end
slice_bounds-excerpt-end c =
    let a = c.args in
    let h : c.line_end-end.result ≤ length a.source.now =
    part_within a.source.now a.refusal.line.0 c.line_start-from.ensures c.line_end-end.ensures in
    search rules

pub returns : goal.returns
returns c =
    let a = c.args in
    shown_as a.room.now a.refusal.column.0 (part_there a.source.now a.refusal.line.0 c.line_start-from.ensures c.line_end-end.ensures)
    c.excerpt.ensures
