-- One law for each way out; `exactly` leads from the listing as a function to its meaning.
use mathlib.Core.Path.{sym, ◌∙◌}
use Rattle.listing.proofs.Outcomes.{lists-bad, lists-good, lists-undecoded}
use Rattle.listing.proofs.giving.list.Goals as goal

pub returns-then-not-good_loan : goal.returns-then-not-good_loan
returns-then-not-good_loan c =
    let a = c.args in
    lists-bad a.memory.now a.map.now a.room.now (sym c.good_loan.ensures ∙ c.if-not-good_loan.true)

pub measured-requires : goal.measured-requires
measured-requires c = sym c.good_loan.ensures ∙ c.if-not-good_loan.false

pub given-requires : goal.given-requires
given-requires c =
    (sym c.good_loan.ensures ∙ c.if-not-good_loan.false, sym c.measured.ensures ∙ c.in-Ok.is)

pub returns-in-Err : goal.returns-in-Err
returns-in-Err c =
    let a = c.args in
    lists-undecoded a.memory.now a.map.now a.room.now (sym c.good_loan.ensures ∙ c.if-not-good_loan.false)
    (sym c.in-Err.is ∙ c.measured.ensures)

pub returns-in-Ok : goal.returns-in-Ok
returns-in-Ok c =
    let a = c.args in
    lists-good a.memory.now a.map.now a.room.now (sym c.good_loan.ensures ∙ c.if-not-good_loan.false)
    c.given.ensures
