-- Each refusal is the first test that fails; behind the last test, cells and labels are what `acted` says.
use mathlib.Core.Path.{refl, sym, ◌∙◌}
use native.Mathlib.Omega.{arith}
use lib.ListN.{length}
use Rattle.placing.proofs.TestLaws.{moved-low}
use Rattle.placing.proofs.PlaceLaws.{place-by, placed_state}
use Rattle.placing.proofs.placing.place.Goals as goal

pub returns-then-label_out : goal.returns-then-label_out
returns-then-label_out c =
    let a = c.args in (
      tt,
      tt,
      λ k ws l. place-by (length a.marks.now) k a.c a.a ws a.values.now a.marks.now l (sym c.label_out.ensures ∙ c.if-label_out.true)
          refl refl refl,
    )

pub returns-then-reserves_out : goal.returns-then-reserves_out
returns-then-reserves_out c =
    let a = c.args in (
      tt,
      tt,
      λ k ws l. place-by (length a.marks.now) k a.c a.a ws a.values.now a.marks.now l (sym c.label_out.ensures ∙ c.if-label_out.false)
          (sym c.reserves_out.ensures ∙ c.if-reserves_out.true) refl refl,
    )

pub returns-then-is_past : goal.returns-then-is_past
returns-then-is_past c =
    let a = c.args in (
      tt,
      tt,
      λ k ws l. place-by (length a.marks.now) k a.c a.a ws a.values.now a.marks.now l (sym c.label_out.ensures ∙ c.if-label_out.false)
          (sym c.reserves_out.ensures ∙ c.if-reserves_out.false) (sym c.is_past.ensures ∙ c.if-is_past.true) refl,
    )

pub returns-then-is_taken : goal.returns-then-is_taken
returns-then-is_taken c =
    let a = c.args in (
      tt,
      tt,
      λ k ws l. place-by (length a.marks.now) k a.c a.a ws a.values.now a.marks.now l (sym c.label_out.ensures ∙ c.if-label_out.false)
          (sym c.reserves_out.ensures ∙ c.if-reserves_out.false) (sym c.is_past.ensures ∙ c.if-is_past.false)
          (sym c.is_taken.ensures ∙ c.if-is_taken.true),
    )

pub returns : goal.returns
returns c =
    let a = c.args in
    let p = c.requires in
    let M = length a.marks.now in
    let not-far = sym c.reserves_out.ensures ∙ c.if-reserves_out.false in
    let not_beyond = sym c.is_past.ensures ∙ c.if-is_past.false in
    let low = moved-low M a.a.moves a.c.at.0 a.a.claims p.3 p.0.low p.2 not-far not_beyond in
    let e = c.bind_by-d.ensures in (
      record { low = omega (arith, c.moved.ensures); few = e.0.few },
      e.2,
      λ k ws l. (
        place-by M k a.c a.a ws a.values.now a.marks.now l (sym c.label_out.ensures ∙ c.if-label_out.false) not-far not_beyond
            (sym c.is_taken.ensures ∙ c.if-is_taken.false),
        placed_state a.c c.bind_by-d.result a.a ws a.values.now _ a.marks.now _ (record { 0 = c.moved.result })
            (e.3 ws a.marks.now l) c.paint.ensures c.moved.ensures,
      ),
    )
