-- A value that is found, counted as the operand asks.
use borrow.Author.Rules.{rules}
use mathlib.Core.Path.{◌≡◌, subst}
use Rattle.codes.specs.declared.refusals.Refusal.{Refusal}
use Rattle.sources.specs.Uses.{value_of}
use Rattle.labels.specs.Inner.Labels.{window, labels_in}
use Rattle.std.proofs.Common.{ℕ, Result, Err}
use Rattle.settling.specs.Inner.Settling.{Finds}
use Rattle.settling.proofs.Laws.{tells_none, tells-plain, tells-far}
use Rattle.settling.proofs.words.word.Goals as goal

pub returns-then-away-eq0 : goal.returns-then-away-eq0
returns-then-away-eq0 c =
    let a = c.args in
    let bs = labels_in a.s.now a.starts.now a.keys.now a.values.now a.count in
    let found = subst (λ (w : Result ℕ Refusal). Finds (value_of bs (window a.s.now a.start a.size)) w) c.in_ok-v.was c.look_up.ensures in
    tells-plain bs a.s.now a.start a.size a.cell a.away c.in_ok-v.v found c.if-away-eq0.true

pub returns-in_err-v : goal.returns-in_err-v
returns-in_err-v c =
    let a = c.args in
    let bs = labels_in a.s.now a.starts.now a.keys.now a.values.now a.count in
    let found = subst (λ (w : Result ℕ Refusal). Finds (value_of bs (window a.s.now a.start a.size)) w) c.in_err-v.was c.look_up.ensures in
    let r : c.from_residual.result ≡ Err c.in_err-v.field-0.0 = search rules in
    rw r (tells_none bs a.s.now a.start a.size a.cell a.away c.in_err-v.field-0.0 found.0 found.1)

pub returns : goal.returns
returns c =
    let a = c.args in
    let bs = labels_in a.s.now a.starts.now a.keys.now a.values.now a.count in
    let found = subst (λ (w : Result ℕ Refusal). Finds (value_of bs (window a.s.now a.start a.size)) w) c.in_ok-v.was c.look_up.ensures in
    tells-far bs a.s.now a.start a.size a.cell a.away c.in_ok-v.v found c.if-away-eq0.false c.distance.result c.distance.ensures
