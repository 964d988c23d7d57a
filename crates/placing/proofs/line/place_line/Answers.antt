-- Without a label, the line is its statement.
use Prim.Native.Nat.{◌+◌}
use lib.ListN.{length}
use Rattle.labels.specs.Inner.Labels.{words}
use Rattle.labels.proofs.Laws.{length-words}
use Rattle.placing.specs.Inner.State.{place_in}
use Rattle.placing.proofs.LineLaws.{as_read, absent_placed}
use Rattle.placing.proofs.line.place_line.Goals as goal

pub returns-in-None : goal.returns-in-None
returns-in-None c =
    let a = c.args in
    let p = c.requires in
    let e = c.place_statement in
    let M = length a.marks.now in
    let place = place_in a.s.now a.starts.now a.keys.now a.values.now a.marks.now a.c in
    let n = a.c.bound + a.c.waiting in
    let long = length-words a.s.now a.starts.now a.keys.now n in (
      e.ensures.0,
      λ k. as_read M k place a.line.now (place_in a.s.now a.starts.now a.keys.now e.new.values e.new.marks) e.result p.3
          (absent_placed M k a.s.now a.starts.now a.keys.now a.starts.now a.keys.now a.values.now a.marks.now
          e.new.values e.new.marks a.line.now a.c a.read e.result c.in-None.is e.ensures.1
          (e.ensures.2 k (words a.s.now a.starts.now a.keys.now n) long)),
    )
