-- The first check that fails points where `point_of` says, and nowhere else.
use Prim.Native.Nat.{ℕ, ◌+◌}
use mathlib.Core.List.{List, ◌∷◌, map}
use mathlib.Core.Logic.{◌⊎◌, inl, inr}
use mathlib.Core.Path.{◌≡◌, sym, ap, subst, ◌∙◌}
use lib.ListN.{length}
use Rattle.tokens.specs.Lines.{Lines}
use Rattle.tokens.specs.Reading.{lines_of}
use Rattle.tokens.proofs.Top.{source_lines, one_list}
use Rattle.statements.specs.FirstFailing.{Check, Pass, First}
use Rattle.statements.proofs.FirstFails.{first-once}
use Rattle.columns.specs.Columns.{pointed_at, pointed}
use Rattle.columns.specs.declared.Pointed.{Pointed}
use Rattle.columns.proofs.Top as OfColumns
use Rattle.sources.specs.Sources.{Said, UpToEnd, Before}
use Rattle.sources.specs.Placing.{Bound, start, judged_line, place_of, bindings}
use Rattle.sources.specs.Uses.{Use, uses_of}
use Rattle.sources.specs.Order.{Refusal, loan_checks, line_checks, Passed, end_checks, use_checks, late_checks, FirstFailing}
use Rattle.sources.specs.Order as Order
use Rattle.sources.specs.Pointing.{columns_of, column_checks, FailsAt, of_loans, of_line, at-end, of_label}
use Rattle.sources.specs.Inner.Assembling.{Verdict, loan_verdict, end_verdict, uses_verdict, second_refused}
use Rattle.sources.specs.Inner.Pointing.{nowhere_then, label_point_by, label_point, point_of}
use Rattle.sources.proofs.Verdicts.{tells-pass, tells_first, first-before, first-behind, first-apart}
use Rattle.sources.proofs.LateDecided.{loans_tell, end-tells, uses_tell}
use Rattle.sources.proofs.Walk.{walk-passes, walk-fails}
use Rattle.sources.proofs.Whole.{up_to_end_here, last-there, place-there, uses-there, loans-pass}
use Rattle.sources.proofs.PointedLines.{its-line, line-there, line_points}
use Rattle.sources.proofs.PointedLabels.{labels-found}

-- a reading's labels in operands, and what the labels are bound to
abbrev labels_in : List Said → List Use
labels_in xs = uses_of 1 0 (map judged_line xs)

abbrev values_in : ℕ → List Said → List Bound
values_in M xs = bindings (place_of M xs)

abbrev end_of : ℕ → List Said → List (Check Refusal)
end_of M xs = end_checks (length xs) (place_of M xs)

-- Without its column, it is the first check that fails.
pub forget : {M N : ℕ} {source : List ℕ} {why : Refusal} {c i : ℕ} → FailsAt M N source why c i → FirstFailing M N source why
unfolding late_checks
forget (of_loans f) = Order.of_loans f
forget (of_line {xs = xs} {bytes = bytes} h l b t f at) = Order.of_line {xs = xs} {bytes = bytes} h l b t f
forget {M} {why = why} (at-end {xs = xs} h s t f) =
    Order.of_labels {xs = xs} h s t
    (first-before (end_of M xs) (use_checks (values_in M xs) (labels_in xs)) why f)
forget {M} {why = why} (of_label {xs = xs} h s t e f at) =
    Order.of_labels {xs = xs} h s t
    (first-behind (end_of M xs) (use_checks (values_in M xs) (labels_in xs)) why e f)

module _ (M N : ℕ) (source : List ℕ) where
  -- ---- what is found, by what fails

  of_loans_found : (why : Refusal) → First (loan_checks M N source) why → point_of M N source ≡ pointed_at 0 0
  unfolding point_of
  of_loans_found why f = rw (tells_first (loan_verdict M N source) (loan_checks M N source) (loans_tell M N source) f)

  of_line_found : {lines rest : List (List ℕ)} {xs : List Said} {bytes : List ℕ} (why : Refusal) → Pass (loan_checks M N source) → Lines source lines
      → Before lines xs (bytes ∷ rest)
      → Passed M 1 (start M) xs
      → First (line_checks M (1 + length xs) (place_of M xs) bytes) why
      → point_of M N source ≡ pointed bytes why.number
  unfolding point_of
  of_line_found {rest = rest} {xs} {bytes} why h l b t f =
      let c : Before (lines_of source) xs (bytes ∷ rest) =
      subst (λ (q : List (List ℕ)). Before q xs (bytes ∷ rest)) (one_list l (source_lines source)) b in
      rw (loans-pass M N source h, walk-fails M bytes 1 (start M) c t f, its-line M (1 + length xs) (place_of M xs) bytes why f)
      (ap (λ (x : List ℕ). pointed x why.number) (line-there source c))

  module _ {xs : List Said} (h : Pass (loan_checks M N source)) (u : UpToEnd (lines_of source) xs) (t : Passed M 1 (start M) xs) where
    late-found : point_of M N source ≡ nowhere_then (end_verdict (length xs) (place_of M xs)) (label_point source (values_in M xs) (labels_in xs))
    unfolding point_of
    late-found = rw (loans-pass M N source h, walk-passes M 1 (start M) u t, last-there M N source u, place-there M N source u, uses-there M N source u)

    at_end_found : (why : Refusal) → First (end_of M xs) why → point_of M N source ≡ pointed_at 0 0
    at_end_found why f =
        let e = tells_first (end_verdict (length xs) (place_of M xs)) (end_of M xs) (end-tells (length xs) (place_of M xs)) f in
        late-found ∙ ap (λ (v : Verdict). nowhere_then v (label_point source (values_in M xs) (labels_in xs))) e

    of_label_found : (why : Refusal) → Pass (end_of M xs) → First (use_checks (values_in M xs) (labels_in xs)) why
        → (c : ℕ) × First (column_checks (values_in M xs) (labels_in xs) (columns_of (map judged_line xs))) c × (point_of M N source ≡ pointed_at c 0)
    of_label_found why e f =
        let p = tells-pass (end_verdict (length xs) (place_of M xs)) (end_of M xs) (end-tells (length xs) (place_of M xs)) e in
        let q = tells_first (uses_verdict (values_in M xs) (labels_in xs)) (use_checks (values_in M xs) (labels_in xs)) (uses_tell (values_in M xs) (labels_in xs)) f in
        let x = labels-found source (values_in M xs) u why f in (
          x.0,
          x.1,
          late-found
              ∙ ap (λ (v : Verdict). nowhere_then v (label_point source (values_in M xs) (labels_in xs))) p
              ∙ ap (label_point_by source (second_refused 0 (values_in M xs) (labels_in xs))) q
              ∙ ap (λ (c : ℕ). pointed_at c 0) x.2,
        )

  -- ---- what is pointed at is found

  pub found : {why : Refusal} {c i : ℕ} → FailsAt M N source why c i → point_of M N source ≡ pointed_at c i
  found {why} (of_loans f) = of_loans_found why f
  found {why} (of_line {bytes = bytes} h l b t f at) = of_line_found why h l b t f ∙ OfColumns.points_found bytes at
  found {why} (at-end h s t f) = at_end_found h (up_to_end_here s) t why f
  found {why} (of_label {xs = xs} h s t e f at) =
      let x = of_label_found h (up_to_end_here s) t why e f in
      let one = first-once (column_checks (values_in M xs) (labels_in xs) (columns_of (map judged_line xs))) x.1 at in
      x.2 ∙ ap (λ (c : ℕ). pointed_at c 0) one

  pub points_once : {why : Refusal} {c i : ℕ} → FailsAt M N source why c i → ((point_of M N source).column.0 ≡ c) × ((point_of M N source).place ≡ i)
  points_once f = (ap (λ (p : Pointed). p.column.0) (found f), ap (λ (p : Pointed). p.place) (found f))

  -- ---- what is found is pointed at

  at_point : {why : Refusal} {p : Pointed} → point_of M N source ≡ p → FailsAt M N source why p.column.0 p.place
      → FailsAt M N source why (point_of M N source).column.0 (point_of M N source).place
  at_point {why} e f = subst (λ (q : Pointed). FailsAt M N source why q.column.0 q.place) (sym e) f

  pub fails_at : {why : Refusal} → FirstFailing M N source why → FailsAt M N source why (point_of M N source).column.0 (point_of M N source).place
  unfolding late_checks
  fails_at {why} (Order.of_loans f) = at_point (of_loans_found why f) (of_loans f)
  fails_at {why} (Order.of_line {xs = xs} {bytes = bytes} h l b t f) =
      at_point (of_line_found why h l b t f) (of_line {xs = xs} {bytes = bytes} h l b t f (line_points M (1 + length xs) (place_of M xs) bytes why f))
  fails_at {why} (Order.of_labels {xs = xs} h s t f) =
      go (first-apart (end_of M xs) (use_checks (values_in M xs) (labels_in xs)) why f)
    where
      go : First (end_of M xs) why
          ⊎ (Pass (end_of M xs) × First (use_checks (values_in M xs) (labels_in xs)) why)
          → FailsAt M N source why (point_of M N source).column.0 (point_of M N source).place
      go (inl f) = at_point (at_end_found h (up_to_end_here s) t why f) (at-end {xs = xs} h s t f)
      go (inr (e, f)) =
          let x = of_label_found h (up_to_end_here s) t why e f in
          at_point x.2 (of_label {xs = xs} h s t e f x.1)
