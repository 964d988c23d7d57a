-- One law for each way out; a good loan gives what measuring and writing ask (`loan-good`).
use native.Mathlib.Omega.{arith}
use mathlib.Core.Path.{sym, ◌∙◌}
use Rattle.image.proofs.Outcomes.{loan-good, printed-bad, printed-short, printed-done}
use Rattle.image.proofs.printing.print.Goals as goal

pub returns-then-not-good_loan : goal.returns-then-not-good_loan
returns-then-not-good_loan c =
    let a = c.args in
    printed-bad a.memory.now a.map.now a.room.now (sym c.good_loan.ensures ∙ c.if-not-good_loan.true)

pub text_length-length-requires : goal.text_length-length-requires
text_length-length-requires c =
    let a = c.args in
    let g = loan-good a.memory.now a.map.now (sym c.good_loan.ensures ∙ c.if-not-good_loan.false) in
    (g.0, g.1)

pub returns-then-room-length : goal.returns-then-room-length
returns-then-room-length c =
    let a = c.args in
    printed-short a.memory.now a.map.now a.room.now
    (sym c.good_loan.ensures ∙ c.if-not-good_loan.false)
    (omega (arith, c.text_length-length.ensures))

pub write-requires : goal.write-requires
write-requires c =
    let a = c.args in
    let g = loan-good a.memory.now a.map.now
    (sym c.good_loan.ensures ∙ c.if-not-good_loan.false) in
    (g.0, g.1, omega (arith, c.text_length-length.ensures))

pub returns : goal.returns
returns c =
    let a = c.args in
    printed-done a.memory.now a.map.now a.room.now
    (sym c.good_loan.ensures ∙ c.if-not-good_loan.false)
    c.text_length-length.ensures
    (omega (arith, c.text_length-length.ensures))
    c.write.ensures
