-- Each test leads where the definition's does (Tests).
use mathlib.Core.Path.{sym, ap, ◌∙◌}
use native.Mathlib.Omega.{arith}
use Rattle.faults.specs.Walk.{between}
use Rattle.faults.proofs.Lexing.{begin-blank, begin-mark}
use Rattle.faults.proofs.Tests.{begin-ended, begin-first, begin-letter, begin-quote, begin-comment, begin-none}
use Rattle.faults.proofs.stages.begin.Goals as goal

pub returns-then-is_ended : goal.returns-then-is_ended
returns-then-is_ended c =
    let a = c.args in
    sym (begin-ended a.st a.b (sym c.is_ended.ensures ∙ c.if-is_ended.true))

pub returns-then-is_blank : goal.returns-then-is_blank
returns-then-is_blank c =
    let a = c.args in
    let n = sym c.is_ended.ensures ∙ c.if-is_ended.false in
    ap between c.by_blank.ensures ∙ sym (begin-blank a.st a.b n (sym c.is_blank.ensures ∙ c.if-is_blank.true))

pub returns-then-rank-lt10 : goal.returns-then-rank-lt10
returns-then-rank-lt10 c =
    let a = c.args in
    let n = sym c.is_ended.ensures ∙ c.if-is_ended.false in
    c.first_digit.ensures ∙ sym (begin-first a.st a.b n (omega arith))

pub returns-then-rank-lt17 : goal.returns-then-rank-lt17
returns-then-rank-lt17 c =
    let a = c.args in
    let n = sym c.is_ended.ensures ∙ c.if-is_ended.false in
    sym (begin-letter a.st a.b n (omega arith) (omega arith))

pub returns-then-b-eq34 : goal.returns-then-b-eq34
returns-then-b-eq34 c =
    let a = c.args in
    let n = sym c.is_ended.ensures ∙ c.if-is_ended.false in
    sym (begin-quote a.st a.b n c.if-b-eq34.true)

pub returns-then-b-eq59 : goal.returns-then-b-eq59
returns-then-b-eq59 c =
    let a = c.args in
    let n = sym c.is_ended.ensures
    ∙ c.if-is_ended.false in
    ap between c.comment.ensures ∙ sym (begin-comment a.st a.b n c.if-b-eq59.true)

pub returns-then-is_mark : goal.returns-then-is_mark
returns-then-is_mark c =
    let a = c.args in
    let n = sym c.is_ended.ensures
    ∙ c.if-is_ended.false in
    ap between c.by_mark.ensures ∙ sym (begin-mark a.st a.b n (sym c.is_mark.ensures ∙ c.if-is_mark.true))

pub returns : goal.returns
returns c =
    let a = c.args in
    let n = sym c.is_ended.ensures
    ∙ c.if-is_ended.false in
    let k = sym c.is_blank.ensures
    ∙ c.if-is_blank.false in
    sym (begin-none a.st a.b n k (omega arith) c.if-b-eq34.false c.if-b-eq59.false (sym c.is_mark.ensures ∙ c.if-is_mark.false))
