-- The verdict on a source is the first check that fails, or a reading that passes every check.
use Prim.Native.Nat.{ℕ}
use mathlib.Core.List.{List, [], ◌∷◌, ◌++◌, map}
use mathlib.Core.Path.{◌≡◌, refl, sym, ap, ap₂, subst, ◌∙◌}
use lib.ListN.{length, length-map}
use Rattle.tokens.specs.Reading.{lines_of}
use Rattle.tokens.proofs.Top.{source_lines, one_list}
use Rattle.std.proofs.Common.{Option}
use Rattle.values.specs.declared.Name.{Name}
use Rattle.statements.specs.Statements.{Reading}
use Rattle.statements.specs.FirstFailing.{Pass}
use Rattle.statements.proofs.Top as Lines
use Rattle.statements.proofs.Labelling.{never}
use Rattle.sources.specs.Sources.{Said, said, UpToEnd, over, ends, more, SourceText, Before}
use Rattle.sources.specs.Placing.{Place, start, Judged, judged_line, place_after, place_of, bindings}
use Rattle.sources.specs.Uses.{Use, uses_of}
use Rattle.sources.specs.Order.{Refusal, loan_checks, Passed, end_checks, use_checks, late_checks, FirstFailing, of_loans, of_line, of_labels, Passing}
use Rattle.sources.specs.Inner.Assembling.{Verdict, passes, refused, and_then, read_line, up_to_end, loan_verdict, walk_lines, lines_read, work_of, late_verdict, verdict_of}
use Rattle.sources.proofs.Verdicts.{Tells, tells-pass, tells_first}
use Rattle.sources.proofs.Works.{place_of_start, uses_of_start}
use Rattle.sources.proofs.LateDecided.{loans_tell, late-tells}
use Rattle.sources.proofs.Ends.{end-ends, others_go_on}
use Rattle.sources.proofs.Walk.{read-line, cut, walk-passes, walk-fails, Walked, all_pass, one-fails, walked}

-- ---- no source has two readings

same_line : (bytes : List ℕ) {l l' : Option Name} {r r' : Reading} → (l ≡ l') × (r ≡ r') → said bytes l r ≡ said bytes l' r'
same_line bytes e = ap₂ (λ (l : Option Name) (r : Reading). said bytes l r) e.0 e.1

one_up_to_end : {ls : List (List ℕ)} {xs ys : List Said} → UpToEnd ls xs → UpToEnd ls ys → xs ≡ ys
one_up_to_end over over = refl
one_up_to_end (ends {bytes} s) (ends s') = ap (λ (x : Said). x ∷ []) (same_line bytes (Lines.one-reading bytes s s'))
one_up_to_end (ends {bytes} s) (more s' not_end u) = absurd (not_end (Lines.one-reading bytes s' s).1)
one_up_to_end (more {bytes} s not_end u) (ends s') = absurd (not_end (Lines.one-reading bytes s s').1)
one_up_to_end (more {bytes} s not_end u) (more s' not-end' u') =
    ap₂ (λ (x : Said) (xs : List Said). x ∷ xs) (same_line bytes (Lines.one-reading bytes s s')) (one_up_to_end u u')

pub one_source_text : {source : List ℕ} {xs ys : List Said} → SourceText source xs → SourceText source ys → xs ≡ ys
one_source_text {ys = ys} s t = one_up_to_end s.read (subst (λ (ls : List (List ℕ)). UpToEnd ls ys) (one_list t.has s.has) t.read)

-- ---- the reader sees a source's reading

pub lines-read : {xs : List Said} {ls : List (List ℕ)} → UpToEnd ls xs → map read_line (up_to_end ls) ≡ map judged_line xs
unfolding up_to_end
lines-read over = refl
lines-read (ends {bytes} {lines} s) = ap (map read_line) (cut bytes lines s end-ends) ∙ ap (λ (x : Judged). x ∷ []) (read-line bytes s)
lines-read (more {bytes} {lines} {xs} {l} {r} s not_end u) =
    ap (map read_line) (cut bytes lines s (others_go_on r not_end))
    ∙ ap₂ (λ (x : Judged) (xs : List Judged). x ∷ xs) (read-line bytes s) (lines-read u)

pub up_to_end_here : {source : List ℕ} {xs : List Said} → SourceText source xs → UpToEnd (lines_of source) xs
up_to_end_here {source} {xs} s = subst (λ (ls : List (List ℕ)). UpToEnd ls xs) (one_list s.has (source_lines source)) s.read

pub source-read : {source : List ℕ} {xs : List Said} → SourceText source xs → lines_read source ≡ map judged_line xs
source-read s = lines-read (up_to_end_here s)

-- ---- after the last line

late_as : (v : Verdict) {n n' : ℕ} {p p' : Place} {us us' : List Use} → n ≡ n' → p ≡ p' → us ≡ us'
    → Tells v (end_checks n p ++ use_checks (bindings p) us)
    → Tells v (end_checks n' p' ++ use_checks (bindings p') us')
late_as v {n} {n'} {p} {p'} {us} {us'} e f g t =
    subst (λ (ws : List Use). Tells v (end_checks n' p' ++ use_checks (bindings p') ws)) g
    (subst (λ (q : Place). Tells v (end_checks n' q ++ use_checks (bindings q) us)) f
    (subst (λ (i : ℕ). Tells v (end_checks i p ++ use_checks (bindings p) us)) e t))

module _ (M N : ℕ) (source : List ℕ) where
  abbrev lines : List (List ℕ)
  lines = up_to_end (lines_of source)

  abbrev late : Verdict
  late = late_verdict (work_of M source) (length lines)

  -- what the walk comes to, of lines with their readings
  module _ {xs : List Said} (u : UpToEnd (lines_of source) xs) where
    pub last-there : length lines ≡ length xs
    last-there = sym (length-map lines read_line) ∙ ap length (lines-read u) ∙ length-map xs judged_line

    pub place-there : (work_of M source).place ≡ place_of M xs
    place-there = place_of_start M (lines_read source) ∙ ap (place_after (start M)) (lines-read u)

    pub uses-there : (work_of M source).uses ≡ uses_of 1 0 (map judged_line xs)
    uses-there = uses_of_start M (lines_read source) ∙ ap (uses_of 1 0) (lines-read u)

    late-here : Tells late (late_checks (place_of M xs) xs)
    unfolding late_checks
    late-here = late_as late last-there place-there uses-there (late-tells (work_of M source) (length lines))

  -- ---- the verdict

  verdict-by : {a b c : Verdict} → loan_verdict M N source ≡ a → walk_lines M 1 (start M) lines ≡ b → late ≡ c
      → verdict_of M N source ≡ and_then a (and_then b c)
  unfolding verdict_of
  verdict-by e f g = rw (e, f, g)

  pub loans-pass : Pass (loan_checks M N source) → loan_verdict M N source ≡ passes
  loans-pass = tells-pass (loan_verdict M N source) (loan_checks M N source) (loans_tell M N source)

  pub fails-complete : {why : Refusal} → FirstFailing M N source why → verdict_of M N source ≡ refused why
  fails-complete (of_loans f) = verdict-by (tells_first (loan_verdict M N source) (loan_checks M N source) (loans_tell M N source) f) refl refl
  fails-complete (of_line {lines = ls} {rest} {xs} {bytes} h l b t f) =
      let c : Before (lines_of source) xs (bytes ∷ rest) =
      subst (λ (q : List (List ℕ)). Before q xs (bytes ∷ rest)) (one_list l (source_lines source)) b in
      verdict-by (loans-pass h) (walk-fails M bytes 1 (start M) c t f) refl
  fails-complete (of_labels {xs} h s t f) =
      let u = up_to_end_here s in
      verdict-by (loans-pass h) (walk-passes M 1 (start M) u t) (tells_first late (late_checks (place_of M xs) xs) (late-here u) f)

  pub passes-complete : {xs : List Said} → Passing M N source xs → verdict_of M N source ≡ passes
  passes-complete {xs} h =
      let u = up_to_end_here h.text in
      verdict-by (loans-pass h.loans) (walk-passes M 1 (start M) u h.lines)
      (tells-pass late (late_checks (place_of M xs) xs) (late-here u) h.labels)

  -- ---- one of the two holds

  pub data Decision : Type 0 where
    fails : (why : Refusal) → FirstFailing M N source why → Decision
    accepts : (xs : List Said) → Passing M N source xs → Decision

  pub decision : Decision
  decision = loans (loan_verdict M N source) (loans_tell M N source)
    where
      text : {xs : List Said} → UpToEnd (lines_of source) xs → SourceText source xs
      text u = record { lines = lines_of source; has = source_lines source; read = u }

      labels : {xs : List Said} → Pass (loan_checks M N source) → UpToEnd (lines_of source) xs → Passed M 1 (start M) xs
          → (v : Verdict) → Tells v (late_checks (place_of M xs) xs) → Decision
      labels {xs} h u t passes f = accepts xs (record { loans = h; text = text u; lines = t; labels = f })
      labels {xs} h u t (refused why) f = fails why (of_labels {xs = xs} h (text u) t f)

      on : Pass (loan_checks M N source) → Walked M 1 (start M) (lines_of source) → Decision
      on h (all_pass xs u t) = labels h u t late (late-here u)
      on h (one-fails xs bytes rest why b t f) = fails why (of_line {xs = xs} {bytes = bytes} h (source_lines source) b t f)

      loans : (v : Verdict) → Tells v (loan_checks M N source) → Decision
      loans passes h = on h (walked M (lines_of source) 1 (start M))
      loans (refused why) f = fails why (of_loans f)

  pub fails-sound : {why : Refusal} → verdict_of M N source ≡ refused why → FirstFailing M N source why
  fails-sound {why} e = go decision
    where
      go : Decision → FirstFailing M N source why
      go (fails other f) = let g = fails-complete f in let q : other ≡ why = cc in subst (FirstFailing M N source) q f
      go (accepts xs h) = let g = passes-complete h in never (cc)

  pub passes-sound : verdict_of M N source ≡ passes → (xs : List Said) × Passing M N source xs
  passes-sound e = go decision
    where
      go : Decision → (xs : List Said) × Passing M N source xs
      go (fails why f) = let g = fails-complete f in never (cc)
      go (accepts xs h) = (xs, h)
