-- Each way tests the byte's class as the definition does (Here.antt), by its rank and as a number (Classes.antt).
use mathlib.Core.Logic.{⊎_elim}
use mathlib.Core.Path.{sym, ap, ◌∙◌}
use Prim.Native.Nat.{ℕ}
use native.Mathlib.Omega.{arith}
use lib.ListN.{get_or}
use borrow.Author.Tests.{eq-eqb, ne_eqb}
use Rattle.tokens.specs.Rows.{token}
use Rattle.tokens.specs.declared.Kind.TheVariants.{Word}
use Rattle.tokens.proofs.Classes.{is_digit_lem, no_digit, is_word_lem, no-word, high_no_blank, is_inside, no_low_mark, no_high_mark, is-mark}
use Rattle.tokens.proofs.Here.{here_end, here-number, here-word, here-string, here-comment, here-mark, here-stray}
use Rattle.tokens.proofs.tokens.token_here.Goals as goal

pub returns-then-s-at : goal.returns-then-s-at
returns-then-s-at c =
    let a = c.args in
    c.spanning.ensures ∙ sym (here_end a.s.now a.at a.directly c.if-s-at.true)

pub returns-then-rank-lt10 : goal.returns-then-rank-lt10
returns-then-rank-lt10 c =
    let a = c.args in
    let b = get_or a.s.now a.at 0 in
    let l = c.if-s-at.false in
    c.number_token.ensures ∙ sym (here-number a.s.now a.at a.directly l (is_digit_lem b (omega arith)))

pub returns-then-rank-lt17 : goal.returns-then-rank-lt17
returns-then-rank-lt17 c =
    let a = c.args in
    let b = get_or a.s.now a.at 0 in
    let l = c.if-s-at.false in
    c.spanning-then-rank-lt17.ensures ∙ ap (λ (e : ℕ). token Word a.at a.directly e) c.run_end.ensures
    ∙ sym (here-word a.s.now a.at a.directly l (no_digit b (omega arith)) (is_word_lem b (omega arith)))

pub returns-then-b-eq34 : goal.returns-then-b-eq34
returns-then-b-eq34 c =
    let a = c.args in
    let b = get_or a.s.now a.at 0 in
    let l = c.if-s-at.false in
    c.string_token.ensures
    ∙ sym (here-string a.s.now a.at a.directly l (no-word b (omega arith)) (eq-eqb b 34 c.if-b-eq34.true))

pub returns-then-b-eq59 : goal.returns-then-b-eq59
returns-then-b-eq59 c =
    let a = c.args in
    let b = get_or a.s.now a.at 0 in
    let l = c.if-s-at.false in
    let w = no-word b (omega arith) in
    let q = ne_eqb b 34 c.if-b-eq34.false in
    let k = eq-eqb b 59 c.if-b-eq59.true in
    c.spanning-then-b-eq59.ensures
    ∙ sym (here-comment a.s.now a.at a.directly l w q k)

pub returns-then-b-lt33 : goal.returns-then-b-lt33
returns-then-b-lt33 c =
    let a = c.args in
    let b = get_or a.s.now a.at 0 in
    let l = c.if-s-at.false in
    let w = no-word b (omega arith) in
    let q = ne_eqb b 34 c.if-b-eq34.false in
    let k = ne_eqb b 59 c.if-b-eq59.false in
    c.spanning-then-b-lt33.ensures
    ∙ sym (here-stray a.s.now a.at a.directly l w q k (⊎_elim (no_low_mark b) (λ h. no_high_mark b h.1) c.then-b-lt33.either))

pub returns : goal.returns
returns c =
    let a = c.args in
    let b = get_or a.s.now a.at 0 in
    let l = c.if-s-at.false in
    let w = no-word b (omega arith) in
    let q = ne_eqb b 34 c.if-b-eq34.false in
    let k = ne_eqb b 59 c.if-b-eq59.false in
    let m = is-mark b w (high_no_blank b (omega arith)) q k (is_inside 32 126 b (omega arith) (omega arith)) in
    c.spanning-2.ensures
    ∙ sym (here-mark a.s.now a.at a.directly l w q k m)
