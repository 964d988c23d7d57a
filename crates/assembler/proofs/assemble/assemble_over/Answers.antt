-- By what the walk answers: a line, the source's end or no more than its labels can be refused (Walks).
use mathlib.Core.Path.{ap, ◌∙◌}
use lib.ListN.{length}
use Rattle.std.proofs.Common.{Err}
use Rattle.sources.specs.Inner.Assembling.{work_of, memory_of}
use Rattle.walking.specs.Inner.Walking.{Holds}
use Rattle.assembler.proofs.Walks.{not-walked, late_at_end, all-walked, walk-passed}
use Rattle.assembler.proofs.assemble.assemble_over.Goals as goal

-- a line is refused
pub returns-in-Err-InLine : goal.returns-in-Err-InLine
returns-in-Err-InLine c =
    let w = c.walk in
    let a = c.args in
    let s = a.s.now in
    let M = length a.marks.now in
    let held =
    Holds s w.new.starts w.new.keys w.new.values w.new.marks w.new.cells
    w.new.row w.new.aways (work_of M s) in
    not-walked M s a.memory.now a.map.now w.result c.in-Err-InLine.why c.in-Err-InLine.line held (memory_of (work_of M s)) (work_of M s).place.marks _
    (c.in-Err-InLine.is ∙ ap Err c.in-Err-InLine.field-0-is) w.ensures c.refused_line.ensures

-- the source's end is
pub returns-in-Err-Late : goal.returns-in-Err-Late
returns-in-Err-Late c =
    let w = c.walk in
    let a = c.args in
    let s = a.s.now in
    let M = length a.marks.now in
    let held =
    Holds s w.new.starts w.new.keys w.new.values w.new.marks w.new.cells
    w.new.row w.new.aways (work_of M s) in
    late_at_end M s a.memory.now a.map.now w.result c.in-Err-Late.line held (memory_of (work_of M s)) (work_of M s).place.marks _ (c.in-Err-Late.is ∙ ap Err c.in-Err-Late.field-0-is)
    w.ensures c.refused.ensures

-- neither is

pub returns-in-Ok : goal.returns-in-Ok
returns-in-Ok c =
    let w = c.walk in
    let a = c.args in
    let s = a.s.now in
    let M = length a.marks.now in
    let held =
    Holds s w.new.starts w.new.keys w.new.values w.new.marks w.new.cells
    w.new.row w.new.aways (work_of M s) in
    let h = walk-passed M s held w.result c.in-Ok.field-0.labels c.in-Ok.field-0.uses c.in-Ok.is w.ensures in
    all-walked M s a.memory.now a.map.now w.new.starts w.new.keys w.new.values w.new.marks
    w.new.cells w.new.row w.new.aways c.in-Ok.field-0.labels c.in-Ok.field-0.uses _ h.0 h.1
    c.settle_and_accept.ensures

-- what the walk alone was lent keeps its length
