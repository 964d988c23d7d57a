-- The verdict on a line tells its checks: the label's, the line's own, those of its act.
use Prim.Native.Nat.{ℕ, ◌≤◌, ◌<◌}
use mathlib.Core.Bool.{Bool, ◌||◌}
use mathlib.Core.List.{List, [], ◌∷◌, Memᴰ}
use mathlib.Core.Logic.{◌⊎◌}
use mathlib.Core.Path.{◌≡◌, refl, ap, subst}
use lib.Dec.{leb, ltb}
use lib.ListN.{length}
use Rattle.std.proofs.Common.{Option, Some, None, Result, Ok, Err}
use Rattle.statements.specs.declared.Failure.{Failure}
use Rattle.values.specs.declared.Name.{Name}
use Rattle.statements.specs.Statements.{Reading, Says}
use Rattle.statements.specs.FirstFailing.{Check, check, Pass}
use Rattle.statements.specs.Checks.{checks}
use Rattle.statements.specs.Judging.{number_of, judged}
use Rattle.statements.specs.Reading.{line_read}
use Rattle.statements.specs.declared.Statement.{Statement}
use Rattle.statements.proofs.Top as Lines
use Rattle.statements.proofs.FirstFails.{answered, first-answered, pass-answered}
use Rattle.statements.proofs.Labelling.{never}
use Rattle.codes.specs.Limits.{most_labels, longest_label}
use Rattle.sources.specs.Sources.{spelled}
use Rattle.sources.specs.Placing.{does, does_read, Place, names, labelled}
use Rattle.sources.specs.Order.{Refusal, ◌on◌, LabelOut, ReservesTooFar, PastEnd, ClaimedTwice, OfLabel, OfAct, line_checks}
use Rattle.sources.specs.Inner.Assembling.{passes, test, read_line, among, name_verdict, label_verdict, own_verdict, act_verdict, line_verdict}
use Rattle.sources.specs.declared.Act.{Act}
use Rattle.sources.proofs.Tests.{Decides, lt_decides, le_decides, or_decides, among_decides, label_decides, reserves_decides, past_decides, taken_decides}
use Rattle.sources.proofs.Verdicts.{Tells, tells_none, tells-test, tells-join}

-- a line's own checks, with its number
abbrev on_line : ℕ → List (Check ℕ) → List (Check Refusal)
on_line k cs = answered (λ n. n on k) cs

module _ (M k : ℕ) (p : Place) (bytes : List ℕ) where
  own-tells : Tells (own_verdict k (line_read bytes).statement) (on_line k (checks bytes))
  own-tells = go (line_read bytes).statement refl
    where
      go : (x : Result Statement Failure) → (line_read bytes).statement ≡ x → Tells (own_verdict k x) (on_line k (checks bytes))
      go (Ok s) e = pass-answered (λ n. n on k) (checks bytes) ((Lines.passes-exactly bytes).0 (s, e))
      go (Err f) e = first-answered (λ n. n on k) (checks bytes) (number_of f) ((Lines.refused-exactly bytes (number_of f)).0 (f, e, refl))

  -- ---- its label

  abbrev OverLimit : List ℕ → Type 0
  OverLimit w = (longest_label < length w) ⊎ (most_labels ≤ length (names p))

  abbrev Again : List ℕ → Type 0
  Again w = Memᴰ w (names p)

  abbrev pub label_checks : List (Check Refusal)
  label_checks = check (10 on k) (OfLabel bytes OverLimit) ∷ check (9 on k) (OfLabel bytes Again) ∷ []

  -- what is tested of a line's label is so of it, as there is no other
  of_label : (P : List ℕ → Type 0) {n : Name} {b : Bool} → (line_read bytes).label ≡ Some n → Decides b (P (spelled bytes n))
      → Decides b (OfLabel bytes P)
  of_label P {n} e d = (
    λ h. let f = (Lines.label-exactly bytes h.0).1 h.1 in
        let q : h.0 ≡ n = cc in
        d.0 (subst (λ (m : Name). P (spelled bytes m)) q h.2),
    λ f. (n, (Lines.label-exactly bytes n).0 e, d.1 f),
  )

  no_label : (P : List ℕ → Type 0) → (line_read bytes).label ≡ None → OfLabel bytes P → ⊥
  no_label P e h = (Lines.no_label_exactly bytes).0 e h.0 h.1

  label-tells : Tells (label_verdict k p bytes (line_read bytes).label) label_checks
  unfolding name_verdict Pass
  label-tells = go (line_read bytes).label refl
    where
      go : (l : Option Name) → (line_read bytes).label ≡ l → Tells (label_verdict k p bytes l) label_checks
      go None e = (no_label OverLimit e, (no_label Again e, tt))
      go (Some n) e =
          let w = spelled bytes n in
          let over = or_decides (ltb longest_label (length w)) (leb most_labels (length (names p))) (lt_decides longest_label (length w))
          (le_decides most_labels (length (names p))) in
          tells-test (10 on k) (ltb longest_label (length w) || leb most_labels (length (names p))) (OfLabel bytes OverLimit)
          (test (9 on k) (among w (names p)) ∷ []) (check (9 on k) (OfLabel bytes Again) ∷ []) (of_label OverLimit e over)
          (tells-test (9 on k) (among w (names p)) (OfLabel bytes Again) [] [] (of_label Again e (among_decides w (names p))) tells_none)

  -- ---- its act

  abbrev pub act_checks : List (Check Refusal)
  act_checks =
      check (6 on k) (OfAct bytes (λ l a. LabelOut (labelled p bytes l) a))
      ∷ check (6 on k) (OfAct bytes (λ l a. ReservesTooFar a.moves p.at))
      ∷ check (11 on k) (OfAct bytes (λ l a. PastEnd M p.at a))
      ∷ check (12 on k) (OfAct bytes (λ l a. ClaimedTwice p a))
      ∷ []

  module _ {l : Option Name} {r : Reading} {s : Statement} (x : Says bytes l r) (e : judged r ≡ Ok s) where
    -- what is tested of the act of a line's reading is so of the line, as there is no other
    of_act : (P : Option Name → Act → Type 0) {b : Bool} → Decides b (P l (does s)) → Decides b (OfAct bytes P)
    of_act P d = (λ h. d.0 (here h), λ f. (l, r, s, x, e, d.1 f))
      where
        here : OfAct bytes P → P l (does s)
        here h =
            let o = Lines.one-reading bytes h.3 x in
            let j = ap judged o.1 in
            let f = h.4 in
            let q : h.2 ≡ s = cc in
            subst (λ (m : Option Name). P m (does s)) o.0 (subst (λ (t : Statement). P h.0 (does t)) q h.5)

    act-tells : Tells (act_verdict M k (labelled p bytes l) (does s)) act_checks
    unfolding act_verdict
    act-tells =
        tells-test (6 on k) _ _ _ _ (of_act (λ m a. LabelOut (labelled p bytes m) a) (label_decides (labelled p bytes l) (does s)))
        (tells-test (6 on k) _ _ _ _ (of_act (λ m a. ReservesTooFar a.moves p.at) (reserves_decides (does s).moves p.at))
        (tells-test (11 on k) _ _ _ _ (of_act (λ m a. PastEnd M p.at a) (past_decides M p.at (does s)))
        (tells-test (12 on k) _ _ _ _ (of_act (λ m a. ClaimedTwice p a) (taken_decides p.marks p.at (does s).claims)) tells_none)))

  -- where the line's own checks pass
  act-behind : own_verdict k (line_read bytes).statement ≡ passes
      → Tells (act_verdict M k (labelled p bytes (line_read bytes).label) (does_read (line_read bytes).statement)) act_checks
  act-behind h = go (line_read bytes).statement refl h
    where
      go : (y : Result Statement Failure) → (line_read bytes).statement ≡ y → own_verdict k y ≡ passes
          → Tells (act_verdict M k (labelled p bytes (line_read bytes).label) (does_read y)) act_checks
      go (Ok s) e h =
          let q = (Lines.says-exactly bytes).0 (ap (λ (y : Result Statement Failure). record { label = (line_read bytes).label; statement = y }) e) in
          act-tells q.1 q.2
      go (Err f) e h = never (cc)

  -- ---- the whole line

  pub line-tells : Tells (line_verdict M k p (read_line bytes)) (line_checks M k p bytes)
  unfolding line_verdict line_checks checks
  line-tells =
      tells-join (label_verdict k p bytes (line_read bytes).label) _ label_checks _ label-tells
      (λ e. tells-join (own_verdict k (line_read bytes).statement) _ (on_line k (checks bytes)) act_checks own-tells act-behind)
