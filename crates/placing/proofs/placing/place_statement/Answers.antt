-- What fails has its own number; what passes is placed.
use lib.ListN.{length}
use Rattle.std.proofs.lemmas.Result.{err_from_is_err_and}
use Rattle.placing.specs.Inner.State.{state_of}
use Rattle.placing.proofs.LineLaws.{own-fails, own-passes}
use Rattle.placing.proofs.placing.place_statement.Goals as goal

pub returns-in_err-says : goal.returns-in_err-says
returns-in_err-says c =
    let r = err_from_is_err_and c.from_residual.result c.from_residual.ensures.1 in
    rw r.1 (tt, tt, λ k ws l. own-fails k _ c.in_err-says.was r.2)

pub returns : goal.returns
returns c =
    let a = c.args in
    let e = c.place in (
      e.ensures.0,
      e.ensures.1,
      λ k ws l. own-passes (length a.marks.now) k (state_of ws a.values.now a.marks.now a.c) (state_of ws e.new.values e.new.marks)
          e.result c.in_ok-says.was c.act.ensures.0 (e.ensures.2 k ws l),
    )
