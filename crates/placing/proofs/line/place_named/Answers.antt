-- The label's refusal is the line's; behind a label that passes, the line is its statement.
use borrow.Author.Rules.{rules}
use Prim.Native.Nat.{◌+◌}
use mathlib.Core.Path.{◌≡◌, sym, ap, subst, ◌∙◌}
use native.Mathlib.Omega.{arith}
use lib.ListN.{length}
use Rattle.std.proofs.Common.{Some, Err}
use Rattle.statements.specs.declared.LineRead.{LineRead}
use Rattle.sources.specs.Placing.{labelled}
use Rattle.sources.specs.Inner.Assembling.{label_verdict}
use Rattle.labels.specs.Inner.Labels.{words}
use Rattle.labels.proofs.Laws.{length-words}
use Rattle.placing.specs.Inner.State.{place_in, FairDid}
use Rattle.placing.proofs.LabelLaws.{label-within}
use Rattle.placing.proofs.LineLaws.{as_read, tells_by, label-fails, named_placed}
use Rattle.placing.proofs.line.place_named.Goals as goal

pub declare-requires : goal.declare-requires
declare-requires c =
    let a = c.args in
    let p = c.requires in
    let w = label-within a.line.now (ap (λ (r : LineRead). r.label) (sym p.3) ∙ p.6) in
    (p.0, p.1.starts-long, p.1.keys_long, w.0, w.1, omega (arith, w.1, p.4), p.5)

pub returns-in_err-d : goal.returns-in_err-d
returns-in_err-d c =
    let a = c.args in
    let p = c.requires in
    let d = c.declare in
    let starts = d.new.starts in
    let keys = d.new.keys in
    let place = place_in a.s.now a.starts.now a.keys.now a.values.now a.marks.now a.c in
    let f = c.in_err-d in
    let r : c.from_residual.result ≡ Err f.field-0.0 = search rules in (
      search rules,
      λ k. rw r (as_read (length a.marks.now) k place a.line.now (λ z. place) (Err f.field-0.0) p.3
          (label-fails (length a.marks.now) k place (record { bytes = a.line.now; read = a.read }) p.6
          (tells_by k (label_verdict k place a.line.now (Some a.n)) (labelled place a.line.now (Some a.n))
          (place_in a.s.now starts keys a.values.now a.marks.now) f.was (d.ensures.1 k a.values.now a.marks.now p.1.values_long)))),
    )

pub returns : goal.returns
returns c =
    let a = c.args in
    let p = c.requires in
    let d = c.declare in
    let starts = d.new.starts in
    let keys = d.new.keys in
    let place = place_in a.s.now a.starts.now a.keys.now a.values.now a.marks.now a.c in
    let g = c.in_ok-d in
    let fair = subst FairDid g.was d.ensures.0 in
    let n = g.d.bound + g.d.waiting in
    let e = c.place_statement in
    let long = length-words a.s.now starts keys n in (
      e.ensures.0,
      λ k. as_read (length a.marks.now) k place a.line.now (place_in a.s.now starts keys e.new.values e.new.marks) e.result p.3
          (named_placed (length a.marks.now) k a.s.now a.starts.now a.keys.now starts keys a.values.now a.marks.now
          e.new.values e.new.marks a.line.now a.c a.read g.d e.result p.6
          (tells_by k (label_verdict k place a.line.now (Some a.n)) (labelled place a.line.now (Some a.n))
          (place_in a.s.now starts keys a.values.now a.marks.now) g.was (d.ensures.1 k a.values.now a.marks.now p.1.values_long))
          e.ensures.1 (e.ensures.2 k (words a.s.now starts keys n) long)),
    )
