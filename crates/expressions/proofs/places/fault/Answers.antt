-- A whole sum has its fault where the reader of sums found it; anything else is refused before 6 and 7.
use Rattle.expressions.proofs.Verdicts.{fault_whole, fault_more, fault_fails}
use Rattle.expressions.proofs.places.fault.Goals as goal

pub returns-in-Ok : goal.returns-in-Ok
returns-in-Ok c =
    let a = c.args in
    fault_whole a.s.now a.from.at c.in-Ok.read c.in-Ok.ensures c.next_token.ensures c.is_end.ensures c.if-is_end.true c.fault_place.ensures

pub returns-in_default : goal.returns-in_default
returns-in_default c =
    let a = c.args in
    fault_more a.s.now a.from.at c.in-Ok.read c.in-Ok.ensures c.next_token.ensures c.is_end.ensures c.if-is_end.false

pub returns-in_default-2 : goal.returns-in_default-2
returns-in_default-2 c = let a = c.args in fault_fails a.s.now a.from.at _ c.in_default.ensures
