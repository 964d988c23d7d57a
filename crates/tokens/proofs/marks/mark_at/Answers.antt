-- Each way cites what the byte after the blanks tells (Peeks.antt).
use Rattle.std.proofs.Common.{◌≡◌, None, sym, ap, ◌∙◌, get_or, arith, rules}
use Rattle.tokens.specs.Bytes.{is_mark}
use Rattle.tokens.proofs.Peeks.{mark-past, mark_is, mark-none}
use Rattle.tokens.proofs.marks.mark_at.Goals as goal
use Rattle.tokens.proofs.marks.mark_at.Goals.{In_ok-b}

byte : (c : In_ok-b) → get_or c.args.s.now c.skip-at.result 0 ≡ c.in_ok-b.field-0.now
byte c = sym (c.in_ok-b.ensures.lookup.4 (omega arith) 0)

pub returns-in_err-b : goal.returns-in_err-b
returns-in_err-b c =
    let r : c.from_residual.result ≡ None = search rules in
    r ∙ mark-past c.args.s.now c.args.from.at c.skip-at.result c.skip-at.ensures c.in_err-b.ensures.lookup.3

pub returns-then-is_mark : goal.returns-then-is_mark
returns-then-is_mark c =
    let e = byte (goal.at.returns-then-is_mark c).In_ok-b in
    rw (← e) (mark_is c.args.s.now c.args.from.at c.skip-at.result c.skip-at.ensures c.in_ok-b.ensures.lookup.3.0
    (ap is_mark e ∙ sym c.is_mark.ensures ∙ c.if-is_mark.true))

pub returns : goal.returns
returns c =
    let e = byte (goal.at.returns c).In_ok-b in
    mark-none c.args.s.now c.args.from.at c.skip-at.result c.skip-at.ensures (ap is_mark e ∙ sym c.is_mark.ensures ∙ c.if-is_mark.false)
