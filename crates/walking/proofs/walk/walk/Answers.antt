-- A refusal of a line, then that of the source's end; else every label is bound.
use lib.ListN.{length}
use Rattle.std.proofs.lemmas.Result.{err_from_is_err_and}
use Rattle.sources.specs.Inner.Assembling.{work_of, lines_verdict, last_line}
use Rattle.walking.specs.Inner.Walking.{work_in, Holds, end_of}
use Rattle.walking.proofs.Ends.{early-stop, refused-late, passes-end, all_held}
use Rattle.walking.proofs.walk.walk.Goals as goal

pub returns-then-is_late : goal.returns-then-is_late
returns-then-is_late c =
    let l = c.walk_lines in
    let starts = l.new.starts in
    let keys = l.new.keys in
    let values = l.new.values in
    let marks = l.new.marks in
    let cells = l.new.cells in
    let row = l.new.row in
    let aways = l.new.aways in
    let s = c.args.s.now in
    let m = length c.args.marks.now in
    let v = lines_verdict m s in
    let w = work_of m s in
    let n = last_line s in
    refused-late s starts keys values marks cells row aways v w n c.in_ok-counters.was l.ensures c.is_late.ensures
    c.if-is_late.true

pub returns-in_err-counters : goal.returns-in_err-counters
returns-in_err-counters c =
    let l = c.walk_lines in
    let starts = l.new.starts in
    let keys = l.new.keys in
    let values = l.new.values in
    let marks = l.new.marks in
    let cells = l.new.cells in
    let row = l.new.row in
    let aways = l.new.aways in
    let s = c.args.s.now in
    let m = length c.args.marks.now in
    let v = lines_verdict m s in
    let w = work_of m s in
    let n = last_line s in
    let e = end_of m s in
    let p = err_from_is_err_and c.from_residual.result c.from_residual.ensures.1 in
    rw (p.1, p.2) (early-stop v e (Holds s starts keys values marks cells row aways w) w n (work_in s starts keys values marks cells row aways) c.in_err-counters.was l.ensures)

pub returns : goal.returns
returns c =
    let q = c.bind_here-d in
    let l = c.walk_lines in
    let starts = l.new.starts in
    let keys = l.new.keys in
    let values = l.new.values in
    let marks = l.new.marks in
    let cells = l.new.cells in
    let row = l.new.row in
    let aways = l.new.aways in
    let s = c.args.s.now in
    let m = length c.args.marks.now in
    let v = lines_verdict m s in
    let w = work_of m s in
    let n = last_line s in (
      passes-end s starts keys values marks cells row aways v w n c.in_ok-counters.was l.ensures c.is_late.ensures
          c.if-is_late.false,
      all_held s starts keys values marks cells row aways v w n c.in_ok-counters.was l.ensures q.new.values q.result q.ensures.2
          q.ensures.3,
    )
