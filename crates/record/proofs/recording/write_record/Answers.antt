-- Each position as 32 bits (`position-told`), and one law for each way out.
use mathlib.Core.Path.{◌∙◌}
use Rattle.std.proofs.Common.{rules}
use Rattle.std.proofs.lemmas.Result.{MatchResult-at_ok, MatchResult-at_err, err_from_is_err_and}
use Rattle.record.proofs.Outcomes.{Told, position-told, recorded-taken, recorded-written, recorded-fitted}
use Rattle.record.proofs.recording.write_record.Goals.{After-map_err, After-map_err-2}
use Rattle.record.proofs.recording.write_record.Goals as goal

taken : (c : After-map_err) → Told c.args.ran.registers.taken c.map_err.result
taken c = position-told c.args.ran.registers.taken c.try_from.result c.map_err.result (λ e why p. search rules) c.try_from.ensures c.map_err.ensures.cases

written : (c : After-map_err-2) → Told c.args.ran.registers.written c.map_err-2.result
written c = position-told c.args.ran.registers.written c.try_from-2.result c.map_err-2.result (λ e why p. search rules) c.try_from-2.ensures c.map_err-2.ensures.cases

pub returns-in_err-taken : goal.returns-in_err-taken
returns-in_err-taken c =
    let t = MatchResult-at_err _ _ _ c.in_err-taken.was (taken (goal.at.returns-in_err-taken c).After-map_err) in
    let p = err_from_is_err_and c.from_residual.result c.from_residual.ensures.1 in
    rw (p.1, p.2, t.1) (recorded-taken c.args.ran c.args.room.now t.0)

pub returns-in_err-written : goal.returns-in_err-written
returns-in_err-written c =
    let s = MatchResult-at_ok _ _ _ c.in_ok-taken.was (taken (goal.at.returns-in_err-written c).After-map_err) in
    let t = MatchResult-at_err _ _ _ c.in_err-written.was (written (goal.at.returns-in_err-written c).After-map_err-2) in
    let p = err_from_is_err_and c.from_residual-in_err-written.result c.from_residual-in_err-written.ensures.1 in
    rw (p.1, p.2, t.1) (recorded-written c.args.ran c.args.room.now s.0 t.0)

pub returns : goal.returns
returns c =
    let s = MatchResult-at_ok _ _ _ c.in_ok-taken.was (taken (goal.at.returns c).After-map_err) in
    let t = MatchResult-at_ok _ _ _ c.in_ok-written.was (written (goal.at.returns c).After-map_err-2) in
    rw (s.1, t.1) at c.put.ensures ∙ recorded-fitted c.args.ran c.args.room.now s.0 t.0
