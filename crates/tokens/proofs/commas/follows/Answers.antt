-- Each way cites what the byte after the blanks tells (Peeks.antt).
use Rattle.std.proofs.Common.{◌≡◌, sym, ◌∙◌, get_or, arith}
use Rattle.tokens.proofs.Peeks.{follows-past, follows-comment, follows-comma, follows-neither}
use Rattle.tokens.proofs.commas.follows.Goals as goal
use Rattle.tokens.proofs.commas.follows.Goals.{In-Some}

byte : (c : In-Some) → get_or c.args.s.now c.skip-at.result 0 ≡ c.in-Some.field-0.now
byte c = sym (c.in-Some.ensures.lookup.4 (omega arith) 0)

pub returns-in_default : goal.returns-in_default
returns-in_default c = follows-past c.args.s.now c.args.from.at c.skip-at.result c.skip-at.ensures c.in_default.ensures.lookup.3

pub returns-in-59 : goal.returns-in-59
returns-in-59 c =
    let e = byte (goal.at.returns-in-59 c).In-Some in
    follows-comment c.args.s.now c.args.from.at c.skip-at.result c.skip-at.ensures c.in-Some.ensures.lookup.3.0 (e ∙ c.in-59.is)

pub returns-in-44 : goal.returns-in-44
returns-in-44 c =
    let e = byte (goal.at.returns-in-44 c).In-Some in
    follows-comma c.args.s.now c.args.from.at c.skip-at.result c.skip-at.ensures c.in-Some.ensures.lookup.3.0 (e ∙ c.in-44.is)

pub returns-in_default-b : goal.returns-in_default-b
returns-in_default-b c =
    let e = byte (goal.at.returns-in_default-b c).In-Some in
    follows-neither c.args.s.now c.args.from.at c.skip-at.result c.skip-at.ensures c.in-Some.ensures.lookup.3.0 (omega arith) (omega arith)
