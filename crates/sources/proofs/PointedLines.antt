-- Where a line's refusal points: whichever of the line's checks is the first that fails, there is something that it points at.
use Prim.Native.Nat.{ℕ, ◌+◌, ◌-◌, ◌<◌}
use mathlib.Core.List.{List, ◌∷◌, ◌++◌}
use mathlib.Core.Logic.{◌⊎◌, inl, inr}
use mathlib.Core.Path.{◌≡◌, refl, sym, ap, subst, ◌∙◌}
use native.Mathlib.Omega.{arith}
use lib.ListN.{length}
use Rattle.tokens.specs.declared.Token.{Token}
use Rattle.tokens.specs.Reading.{lines_of}
use Rattle.names.specs.declared.Word.{Word}
use Rattle.std.proofs.Common.{Option, Ok}
use Rattle.values.specs.declared.Name.{Name}
use Rattle.statements.specs.Statements.{Reading, nothing, Says}
use Rattle.statements.specs.FirstFailing.{Check, Pass, First}
use Rattle.statements.specs.Checks.{checks, failures}
use Rattle.statements.specs.Judging.{number_of, judged}
use Rattle.statements.specs.Reading.{line_read}
use Rattle.statements.specs.declared.Statement.{Statement}
use Rattle.statements.specs.declared.Statement.TheVariants.{Nothing}
use Rattle.statements.proofs.Top as Lines
use Rattle.statements.proofs.Lines.{outcome}
use Rattle.statements.proofs.FirstFails.{pass-none, answered}
use Rattle.statements.proofs.Judgements.{Outcome, passes, refused}
use Rattle.statements.proofs.Labelling.{never}
use Rattle.columns.specs.Points as Points
use Rattle.columns.specs.Points.{PointsIn}
use Rattle.columns.specs.Columns.{pointed, line_after, line_numbered}
use Rattle.columns.proofs.Top as OfColumns
use Rattle.sources.specs.Sources.{Said, Before, at_start, further}
use Rattle.sources.specs.Placing.{idle, does, Place, labelled}
use Rattle.sources.specs.Order.{Refusal, ◌on◌, LabelOut, ReservesTooFar, PastEnd, ClaimedTwice, OfAct, line_checks}
use Rattle.sources.specs.declared.Act.{Act}
use Rattle.sources.proofs.Verdicts.{first-apart, first_unanswered, pass_unanswered}
use Rattle.sources.proofs.LineDecided.{label_checks, act_checks}
use Rattle.sources.proofs.Numbers.{Each, first_such}

-- ---- the refused line, in its source

-- each check of a line answers with the line's number
on_line : (M k : ℕ) (p : Place) (bytes : List ℕ) → Each (λ why. why.line ≡ k) (line_checks M k p bytes)
unfolding Each line_checks
on_line M k p bytes =
    (refl, (refl, (refl, (refl, (refl, (refl, (refl, (refl, (refl, (refl, (refl, (refl, (refl, (refl, tt))))))))))))))

pub its-line : (M k : ℕ) (p : Place) (bytes : List ℕ) (why : Refusal) → First (line_checks M k p bytes) why → why.line ≡ k
its-line M k p bytes why f = first_such (λ w. w.line ≡ k) (line_checks M k p bytes) (on_line M k p bytes) f

-- the line behind those before it
behind : {lines rest : List (List ℕ)} {xs : List Said} {bytes : List ℕ} → Before lines xs (bytes ∷ rest) → line_after lines (length xs) ≡ bytes
unfolding line_after
behind at_start = refl
behind (further s not_end b) = behind b

pub line-there : (source : List ℕ) {rest : List (List ℕ)} {xs : List Said} {bytes : List ℕ} → Before (lines_of source) xs (bytes ∷ rest)
    → line_numbered source (1 + length xs) ≡ bytes
line-there source {xs = xs} b = let e : 1 + length xs - 1 ≡ length xs = omega arith in ap (line_after (lines_of source)) e ∙ behind b

-- ---- what each of its checks points at

module _ (M k : ℕ) (p : Place) (bytes : List ℕ) where
  abbrev Pointing : ℕ → Type 0
  Pointing f = PointsIn bytes f (pointed bytes f).column.0 (pointed bytes f).place

  of_own : (n : ℕ) → First (checks bytes) n → Pointing n
  of_own n f =
      let x = (Lines.refused-exactly bytes n).1 f in
      subst Pointing x.2 (OfColumns.own_points bytes x.0 ((Lines.fails-exactly bytes x.0).0 x.1))

  -- the line's own checks pass, told apart as they are told to the reader
  own-pass : Pass (checks bytes) → Pass (failures bytes)
  own-pass h = go (outcome bytes)
    where
      go : Outcome (failures bytes) (line_read bytes).statement → Pass (failures bytes)
      go (passes s e q) = q
      go (refused f e g) = absurd (pass-none (checks bytes) (number_of f) h ((Lines.refused-exactly bytes (number_of f)).0 (f, e, refl)))

  -- a line without a statement is idle
  says_something : {l : Option Name} {r : Reading} {s : Statement} → Says bytes l r → judged r ≡ Ok s → (does s ≡ idle → ⊥)
      → (w : Token) × (x : Word) × (ts : List Token) × Points.Statement bytes w x ts
  unfolding judged does
  says_something {l} {r} {s} says e busy = OfColumns.statement_of bytes says (λ q. busy (still q))
    where
      still : r ≡ nothing → does s ≡ idle
      still q =
          let j : Ok Nothing ≡ Ok s = ap judged (sym q) ∙ e in
          let z : s ≡ Nothing = cc in
          ap does z

  of_act : (f : ℕ) (P : Option Name → Act → Type 0) → (f ≡ 6) ⊎ ((f ≡ 11) ⊎ (f ≡ 12)) → ((l : Option Name) → P l idle → ⊥) → Pass (checks bytes)
      → OfAct bytes P
      → Pointing f
  of_act f P e busy h (l, r, s, says, j, x) =
      let w = says_something says j (λ q. busy l (subst (P l) q x)) in
      OfColumns.statement_points bytes e (own-pass h) w.3

  no_label_out : (l : Option Name) → LabelOut (labelled p bytes l) idle → ⊥
  no_label_out l (e, h, m) = never (cc)

  none-claimed : (n : ℕ) → n < idle.claims → ⊥
  none-claimed n h = omega (arith, h)

  at_label : (why : Refusal) → First (label_checks M k p bytes) why → Pointing why.number
  unfolding First
  at_label why (inl (x, e)) = subst (λ (w : Refusal). Pointing w.number) e (OfColumns.label_points bytes (inr refl) x.1)
  at_label why (inr (_, inl (x, e))) = subst (λ (w : Refusal). Pointing w.number) e (OfColumns.label_points bytes (inl refl) x.1)
  at_label why (inr (_, inr (_, f))) = absurd f

  at_act : (why : Refusal) → Pass (checks bytes) → First (act_checks M k p bytes) why → Pointing why.number
  unfolding First
  at_act why h (inl (x, e)) =
      subst (λ (w : Refusal). Pointing w.number) e (of_act 6 (λ l a. LabelOut (labelled p bytes l) a) (inl refl) no_label_out h x)
  at_act why h (inr (_, inl (x, e))) =
      subst (λ (w : Refusal). Pointing w.number) e (of_act 6 (λ l a. ReservesTooFar a.moves p.at) (inl refl) (λ l f. f) h x)
  at_act why h (inr (_, inr (_, inl (x, e)))) =
      subst (λ (w : Refusal). Pointing w.number) e (of_act 11 (λ l a. PastEnd M p.at a) (inr (inl refl)) (λ l f. none-claimed 0 f.0) h x)
  at_act why h (inr (_, inr (_, inr (_, inl (x, e))))) =
      subst (λ (w : Refusal). Pointing w.number) e (of_act 12 (λ l a. ClaimedTwice p a) (inr (inr refl)) (λ l f. none-claimed f.0 f.1) h x)
  at_act why h (inr (_, inr (_, inr (_, inr (_, f))))) = absurd f

  pub line_points : (why : Refusal) → First (line_checks M k p bytes) why → Pointing why.number
  unfolding line_checks checks
  line_points why f = by_label (first-apart (label_checks M k p bytes) (own ++ act_checks M k p bytes) why f)
    where
      own : List (Check Refusal)
      own = answered (λ n. n on k) (checks bytes)

      by_own : First own why ⊎ (Pass own × First (act_checks M k p bytes) why) → Pointing why.number
      by_own (inl f) =
          let x = first_unanswered (λ n. n on k) (checks bytes) f in
          subst (λ (w : Refusal). Pointing w.number) x.2 (of_own x.0 x.1)
      by_own (inr (h, f)) = at_act why (pass_unanswered (λ n. n on k) (checks bytes) h) f

      by_label : First (label_checks M k p bytes) why ⊎ (Pass (label_checks M k p bytes) × First (own ++ act_checks M k p bytes) why) → Pointing why.number
      by_label (inl f) = at_label why f
      by_label (inr (h, f)) = by_own (first-apart own (act_checks M k p bytes) why f)
