-- The groups of lines, one behind the other (`lines-on`); the registers' names, three bytes each, are those of their lines.
use mathlib.Core.List.{◌++◌}
use Prim.Native.Nat.{◌≤◌}
use lib.ListN.{length, get_or}
use native.Mathlib.Omega.{arith}
use Rattle.record.specs.Record.{end_lines, low_lines, high_lines, special_lines, position_lines}
use Rattle.record.specs.Inner.Cells.{lines_from}
use Rattle.record.proofs.Texts.{lines_on}
use Rattle.codes.specs.Registers.{A}
use Rattle.record.proofs.lines.write.Goals as goal

pub returns : goal.returns
unfolding lines_from
returns c =
    let a = c.args in
    let first = end_lines a.stop a.steps (get_or a.r A 0) in
    let numbered = low_lines a.r ++ high_lines a.r in
    let h : 0 ≤ length a.room.now = omega arith in
    let two = lines_on a.room.now 0 first numbered 60 200 h c.end-first.ensures c.cells-special.ensures in
    let three = lines_on a.room.now 0 (first ++ numbered) (special_lines a.r) 260 100 h two c.cells-last.ensures in
    lines_on a.room.now 0 (first ++ numbered ++ special_lines a.r) (position_lines a.taken a.written) 360 40 h three c.positions.ensures
