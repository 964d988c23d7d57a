-- The walk over the lines, then the labels: reply, memory and map.
use Prim.Native.Nat.{ℕ}
use mathlib.Core.List.{List}
use mathlib.Core.Path.{◌≡◌, refl, sym, ap, ap₂, subst, ◌∙◌}
use Rattle.codes.specs.declared.refusals.Refusal.{Refusal as Why}
use Rattle.codes.specs.Refusals.{number}
use Rattle.columns.specs.Columns.{line_numbered, pointed}
use Rattle.columns.specs.declared.Pointed.{Pointed}
use Rattle.labels.specs.Inner.Labels.{labels_in}
use Rattle.statements.proofs.Labelling.{never}
use Rattle.sources.specs.Placing.{Bound, bindings}
use Rattle.sources.specs.Uses.{Use}
use Rattle.sources.specs.Order.{Refusal, ◌on◌}
use Rattle.sources.specs.Inner.Assembling.{Verdict, passes, refused, and_then, work_of, uses_verdict, late_verdict, memory_of, lines_verdict, source_verdict}
use Rattle.sources.specs.Inner.Pointing.{nowhere, line_then, nowhere_then, label_point, source_point}
use Rattle.sources.specs.declared.Line.{Line}
use Rattle.uses.specs.Inner.Held.{uses_held}
use Rattle.walking.specs.Inner.Walking.{Holds, Ends, end_of, walk_verdict}
use Rattle.walking.specs.declared.Walked.{Walked}
use Rattle.std.proofs.Common.{Result, Ok, Err}
use Rattle.walking.specs.declared.Stopped.{Stopped}
use Rattle.walking.specs.declared.Stopped.TheVariants.{InLine, Late}
use Rattle.walking.proofs.Ends.{walk_refused, walk-late}
use Rattle.assembler.specs.Promise.{Told, refusal}
use Rattle.assembler.specs.Inner.Parts.{refusal_at, Outcome, outcome_by, outcome_of_uses, outcome_of}
use Rattle.assembler.proofs.Outcomes.{with, refused_as}

-- three groups of checks: the first two decide, or the third does
early : (a b c : Verdict) {why : Refusal} → and_then a b ≡ refused why → and_then a (and_then b c) ≡ refused why
early passes passes c e = never (cc)
early passes (refused x) c e = e
early (refused x) b c e = e

late : (a b c : Verdict) → and_then a b ≡ passes → and_then a (and_then b c) ≡ c
late passes passes c e = refl
late passes (refused x) c e = never (cc)
late (refused x) b c e = never (cc)

-- where they point: a line does, and the end nowhere; or the third group
further_point : (s : List ℕ) (a b : Verdict) (p : Pointed) → and_then a b ≡ passes → line_then s a (nowhere_then b p) ≡ p
further_point s passes passes p e = refl
further_point s passes (refused x) p e = never (cc)
further_point s (refused x) b p e = never (cc)

module _ (M : ℕ) (s : List ℕ) where
  early-whole : {why : Refusal} → walk_verdict M s ≡ refused why → source_verdict M s ≡ refused why
  unfolding late_verdict
  early-whole e = early (lines_verdict M s) (end_of M s) (uses_verdict (bindings (work_of M s).place) (work_of M s).uses) e

  late-whole : walk_verdict M s ≡ passes → source_verdict M s ≡ uses_verdict (bindings (work_of M s).place) (work_of M s).uses
  unfolding late_verdict
  late-whole e = late (lines_verdict M s) (end_of M s) (uses_verdict (bindings (work_of M s).place) (work_of M s).uses) e

  -- where the labels that operands name point
  abbrev uses_point : Pointed
  uses_point = label_point s (bindings (work_of M s).place) (work_of M s).uses

  line_point : {why : Refusal} → lines_verdict M s ≡ refused why → source_point M s ≡ pointed (line_numbered s why.line) why.number
  line_point e = ap (λ (v : Verdict). line_then s v (nowhere_then (end_of M s) uses_point)) e

  end_point : {why : Refusal} → lines_verdict M s ≡ passes → end_of M s ≡ refused why → source_point M s ≡ nowhere
  end_point e f = ap₂ (λ (v w : Verdict). line_then s v (nowhere_then w uses_point)) e f

  uses-point : walk_verdict M s ≡ passes → source_point M s ≡ uses_point
  uses-point e = further_point s (lines_verdict M s) (end_of M s) uses_point e

  module _ (memory map : List ℕ) where
    -- a line is refused
    pub not-walked : (r : Result Walked Stopped) (f : Why) (l : Line) (H : ℕ → ℕ → Type 0) (image marks : List ℕ) (t : Told) → r ≡ Err (InLine f l)
        → Ends (lines_verdict M s) (end_of M s) H r
        → t ≡ refusal_at (number f on l.0) (pointed (line_numbered s l.0) (number f))
        → with memory map t memory map ≡ outcome_by (source_verdict M s) (source_point M s) image marks memory map
    not-walked r f l H image marks t e h g =
        let v : lines_verdict M s ≡ refused (number f on l.0) = subst (Ends (lines_verdict M s) (end_of M s) H) e h in
        refused_as memory map t (number f) l (source_verdict M s) (source_point M s) image marks (g ∙ ap (refusal_at (number f on l.0)) (sym (line_point v)))
        (early-whole (walk_refused (lines_verdict M s) (end_of M s) H e h))

    -- the source's end is refused
    pub late_at_end : (r : Result Walked Stopped) (l : Line) (H : ℕ → ℕ → Type 0) (image marks : List ℕ) (t : Told) → r ≡ Err (Late l)
        → Ends (lines_verdict M s) (end_of M s) H r
        → t ≡ refusal (6 on l.0) 0 0
        → with memory map t memory map ≡ outcome_by (source_verdict M s) (source_point M s) image marks memory map
    late_at_end r l H image marks t e h g =
        let v = subst (Ends (lines_verdict M s) (end_of M s) H) e h in
        refused_as memory map t 6 l (source_verdict M s) (source_point M s) image marks (g ∙ ap (refusal_at (6 on l.0)) (sym (end_point v.0 v.1)))
        (early-whole (walk-late (lines_verdict M s) (end_of M s) H e h))

    -- the rows hold what the work has come to
    module _ (starts keys vs ms cells row aways : List ℕ) (labels uses : ℕ) where
      pub all-walked : (o : Outcome) → walk_verdict M s ≡ passes → Holds s starts keys vs ms cells row aways (work_of M s) labels uses
          → o ≡ outcome_of_uses s (labels_in s starts keys vs labels) (uses_held s row aways uses) cells ms memory map
          → o ≡ outcome_of M s memory map
      unfolding memory_of
      all-walked o e h g =
          let w = work_of M s in
          let a : outcome_of_uses s (labels_in s starts keys vs labels) (uses_held s row aways uses) cells ms memory map
          ≡ outcome_of_uses s (bindings w.place) w.uses cells ms memory map =
          ap₂ (λ (bs : List Bound) (us : List Use). outcome_of_uses s bs us cells ms memory map) h.bound h.uses in
          let b : outcome_of_uses s (bindings w.place) w.uses cells ms memory map
          ≡ outcome_of_uses s (bindings w.place) w.uses w.cells w.place.marks memory map =
          ap₂ (λ (c k : List ℕ). outcome_of_uses s (bindings w.place) w.uses c k memory map) h.cells h.marks in
          let d = ap₂ (λ (v : Verdict) (p : Pointed). outcome_by v p (memory_of w) w.place.marks memory map) (sym (late-whole e)) (sym (uses-point e)) in
          g ∙ a ∙ b ∙ d

-- where the walk passes
pub walk-passed : (M : ℕ) (s : List ℕ) (H : ℕ → ℕ → Type 0) (r : Result Walked Stopped) (labels uses : ℕ) → r ≡ Ok (record { labels = labels; uses = uses })
    → Ends (lines_verdict M s) (end_of M s) H r
    → (walk_verdict M s ≡ passes) × H labels uses
walk-passed M s H r labels uses e h = subst (Ends (lines_verdict M s) (end_of M s) H) e h
