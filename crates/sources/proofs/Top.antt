-- What the meaning of a source promises (demands 2 and 3): every source is accepted with one image, or refused with one number and line,
-- never both; no source has two readings; and the assembler as a function answers exactly so.
use Prim.Native.Nat.{ℕ, ◌≤◌, ◌<◌}
use mathlib.Core.Bool.{Bool, true, false}
use mathlib.Core.List.{List, ◌∷◌, ◌++◌, map}
use mathlib.Core.Logic.{◌↔◌, ◌⊎◌, inl, inr}
use mathlib.Core.Path.{◌≡◌, refl, sym, ap, ap₂, subst, ◌∙◌}
use lib.Dec.{eqb}
use lib.ListN.{length, get_or}
use borrow.Author.Tests.{eqb-true, eqb-false}
use Rattle.tokens.specs.Lines.{Lines}
use Rattle.tokens.proofs.Spacing.{Over}
use Rattle.names.specs.declared.Word.TheVariants as W
use Rattle.statements.specs.Statements.{HasWord}
use Rattle.statements.specs.FirstFailing.{Pass}
use Rattle.statements.proofs.Labelling.{never}
use Rattle.columns.specs.Columns.{pointed_at}
use Rattle.columns.specs.declared.Pointed.{Pointed}
use Rattle.codes.specs.Limits.{longest_source}
use Rattle.codes.specs.Marks.{free, code_mark, data_mark, reserved_mark}
use Rattle.sources.specs.Sources.{Said, SourceText}
use Rattle.sources.specs.Placing.{Place, Judged, judged_line}
use Rattle.sources.specs.Order.{Refusal, loan_checks, Passed, FirstFailing, Passing}
use Rattle.sources.specs.Pointing.{FailsAt}
use Rattle.sources.specs.BeforeK4.{before, PassedBefore, FirstBefore}
use Rattle.sources.specs.Image.{blocks, Apart, Image, Accepted, cells_marked}
use Rattle.sources.specs.Inner.Assembling.{Verdict, passes, refused, start_work, work_after, lines_read, verdict_of, memory_of}
use Rattle.sources.specs.Inner.Pointing.{point_of}
use Rattle.sources.specs.Inner.Assembling.{Assembled, accepted, refuses, assembled_by, assemble_of}
use Rattle.sources.proofs.Verdicts.{tells-pass}
use Rattle.sources.proofs.LateDecided.{loans_tell}
use Rattle.sources.proofs.Whole as Whole
use Rattle.sources.proofs.Whole.{source-read, fails-complete, passes-complete, fails-sound, passes-sound}
use Rattle.sources.proofs.Filling.{all_read}
use Rattle.sources.proofs.Images as Images
use Rattle.sources.proofs.Images.{image-there, one-image}
use Rattle.sources.proofs.Small as Small
use Rattle.sources.proofs.Counts as Counts
use Rattle.sources.proofs.Counts.{cells_of_mark}
use Rattle.sources.proofs.Below as Below
use Rattle.sources.proofs.Numbers as Numbers
use Rattle.sources.proofs.BeforeK4 as BeforeK4
use Rattle.sources.proofs.Pointing as Pointing
use Rattle.sources.proofs.Comments as Comments
use Rattle.sources.proofs.Spacing as Spacing
use Rattle.sources.proofs.Spacing.{SameLines}
use Rattle.sources.proofs.Edges as Edges
use Rattle.sources.proofs.Edges.{Edges}
use Rattle.sources.proofs.PointedExamples as PointedExamples
use Rattle.sources.proofs.PointedExamples.{PointedExamples}
use Rattle.sources.proofs.Examples as Examples
use Rattle.sources.proofs.Examples.{Examples}

-- demand 3: no source has two readings
pub one-reading : {source : List ℕ} {xs ys : List Said} → SourceText source xs → SourceText source ys → xs ≡ ys
one-reading = Whole.one_source_text

-- a map that passes check 1 has M bytes
map-length : (M N : ℕ) (source : List ℕ) → Pass (loan_checks M N source) → N ≡ M
unfolding loan_checks Pass
map-length M N source h = go (eqb N M) refl
  where
    go : (b : Bool) → eqb N M ≡ b → N ≡ M
    go true e = eqb-true N M e
    go false e = absurd (h.0 (inr (inr (eqb-false N M e))))

module _ (M N : ℕ) (source : List ℕ) where
  -- memory and map that the walk over some lines leaves
  abbrev memory_by : List Judged → List ℕ
  memory_by xs = memory_of (work_after 1 (start_work M) xs)

  abbrev map_by : List Judged → List ℕ
  map_by xs = (work_after 1 (start_work M) xs).place.marks

  reply-by : {v : Verdict} → verdict_of M N source ≡ v → assemble_of M N source ≡ assembled_by v (memory_by (lines_read source)) (map_by (lines_read source))
  unfolding assemble_of
  reply-by e = ap (λ (v : Verdict). assembled_by v (memory_by (lines_read source)) (map_by (lines_read source))) e

  image_of : {xs : List Said} → Passing M N source xs → Image M (blocks M xs) (memory_by (map judged_line xs)) (map_by (map judged_line xs))
  image_of {xs} h = image-there M xs (all_read h.text.read) h.lines

  -- ---- refused

  -- demand 3: number and line are those of the first check that fails, in document 01's order
  pub refused-exactly : (why : Refusal) → (assemble_of M N source ≡ refuses why) ↔ FirstFailing M N source why
  refused-exactly why = (λ e. fails-sound M N source (out (verdict_of M N source) refl e), λ f. reply-by (fails-complete M N source f))
    where
      out : (v : Verdict) → verdict_of M N source ≡ v → assemble_of M N source ≡ refuses why → verdict_of M N source ≡ refused why
      out passes e f = let g = reply-by e in never (cc)
      out (refused other) e f = let g = reply-by e in e ∙ (cc)

  -- ---- accepted

  -- demand 3: accepted exactly when the rules of writing give it a reading that passes every listed check; with memory and map that this
  -- reading defines
  pub accepted-exactly : (memory marks : List ℕ) → (assemble_of M N source ≡ accepted memory marks) ↔ Accepted M N source memory marks
  accepted-exactly memory marks = (λ e. sound (verdict_of M N source) refl e, complete)
    where
      fine : {xs : List Said} → Passing M N source xs → assemble_of M N source ≡ accepted (memory_by (map judged_line xs)) (map_by (map judged_line xs))
      fine h = reply-by (passes-complete M N source h) ∙ ap (λ (x : List Judged). accepted (memory_by x) (map_by x)) (source-read h.text)

      sound : (v : Verdict) → verdict_of M N source ≡ v → assemble_of M N source ≡ accepted memory marks → Accepted M N source memory marks
      sound passes e f =
          let x = passes-sound M N source e in
          let h = x.1 in
          let g = fine h in
          let p : memory_by (map judged_line x.0) ≡ memory = cc in
          let q : map_by (map judged_line x.0) ≡ marks = cc in
          let bs = blocks M x.0 in
          record {
            reading = x.0;
            passing = h;
            image = subst (λ (k : List ℕ). Image M bs memory k) q (subst (λ (m : List ℕ). Image M bs m (map_by (map judged_line x.0))) p (image_of h));
          }
      sound (refused why) e f = let g = reply-by e in never (cc)

      complete : Accepted M N source memory marks → assemble_of M N source ≡ accepted memory marks
      complete a =
          let u = one-image (image_of a.passing) a.image in
          fine a.passing ∙ ap₂ accepted u.0 u.1

  -- ---- one of the two, and one reply

  -- Every source is accepted or refused, whatever is lent;
  pub decided : ((memory : List ℕ) × (marks : List ℕ) × Accepted M N source memory marks) ⊎ ((why : Refusal) × FirstFailing M N source why)
  decided = go (assemble_of M N source) refl
    where
      go : (r : Assembled) → assemble_of M N source ≡ r
          → ((memory : List ℕ) × (marks : List ℕ) × Accepted M N source memory marks) ⊎ ((why : Refusal) × FirstFailing M N source why)
      go (accepted m k) e = inl (m, k, (accepted-exactly m k).0 e)
      go (refuses why) e = inr (why, (refused-exactly why).0 e)

  -- it is never both,
  pub never_both : {memory marks : List ℕ} {why : Refusal} → Accepted M N source memory marks → FirstFailing M N source why → ⊥
  never_both {memory} {marks} {why} a f =
      let e = (accepted-exactly memory marks).1 a in
      let g = (refused-exactly why).1 f in
      never (cc)

  pub passing-never : {xs : List Said} {why : Refusal} → Passing M N source xs → FirstFailing M N source why → ⊥
  passing-never h f =
      let e = passes-complete M N source h in
      let g = fails-complete M N source f in
      never (cc)

  -- there is one image,
  pub one_image_only : {m k m' k' : List ℕ} → Accepted M N source m k → Accepted M N source m' k' → (m ≡ m') × (k ≡ k')
  one_image_only {m} {k} {m'} {k'} a b =
      let e = (accepted-exactly m k).1 a in
      let g = (accepted-exactly m' k').1 b in
      (cc, cc)

  -- and one number and line.
  pub one-refusal : {why why' : Refusal} → FirstFailing M N source why → FirstFailing M N source why' → why ≡ why'
  one-refusal {why} {why'} a b =
      let e = (refused-exactly why).1 a in
      let g = (refused-exactly why').1 b in
      cc

  -- ---- for the records

  -- No cell is claimed by two statements of an accepted source.
  pub no_cell_twice : {memory marks : List ℕ} (a : Accepted M N source memory marks) → Apart (blocks M a.reading)
  no_cell_twice a = Images.apart M a.reading (all_read a.passing.text.read) a.passing.lines

  -- Each cell of its image is below 65536, and its free cells and its reserved cells hold 0.
  pub cells-small : {memory marks : List ℕ} → Accepted M N source memory marks → (a : ℕ) → get_or memory a 0 < 65536
  cells-small a = Small.image-small a

  pub free_hold_zero : {memory marks : List ℕ} → Accepted M N source memory marks → (a : ℕ) → get_or marks a free ≡ free → get_or memory a 0 ≡ 0
  free_hold_zero a = Small.image-free a

  pub reserved_hold_zero : {memory marks : List ℕ} → Accepted M N source memory marks → (a : ℕ) → get_or marks a free ≡ reserved_mark → get_or memory a 0 ≡ 0
  reserved_hold_zero a = Small.image-reserved a

  -- The numbers of cells marked 1, 2 and 3 are those of the cells that its instructions, its DATA and its RES give.
  pub code-counted : {memory marks : List ℕ} (a : Accepted M N source memory marks) → cells_marked code_mark marks ≡ cells_of_mark code_mark (blocks M a.reading)
  code-counted a = Counts.code-cells a

  pub data_counted : {memory marks : List ℕ} (a : Accepted M N source memory marks) → cells_marked data_mark marks ≡ cells_of_mark data_mark (blocks M a.reading)
  data_counted a = Counts.data_cells a

  pub reserved-counted : {memory marks : List ℕ} (a : Accepted M N source memory marks)
      → cells_marked reserved_mark marks ≡ cells_of_mark reserved_mark (blocks M a.reading)
  reserved-counted a = Counts.reserved-cells a

-- A refusal's number is one of 1 to 16, and never 0.
pub refusal-numbered : {M N : ℕ} {source : List ℕ} {why : Refusal} → FirstFailing M N source why → (1 ≤ why.number) × (why.number ≤ 16)
refusal-numbered = Numbers.refusal-numbered

-- "for a source 5 goes" (02, K4), and nothing else: with 15 and 16 read as 5, each refusal is the one of before, and back;
pub as_before : {M N : ℕ} {source : List ℕ} {why : Refusal} → FirstFailing M N source why → FirstBefore M N source (before why)
as_before = BeforeK4.as_before

pub before_back : {M N : ℕ} {source : List ℕ} {old : Refusal} → FirstBefore M N source old → (why : Refusal) × FirstFailing M N source why × (before why ≡ old)
before_back = BeforeK4.before_back

-- and the lines that pass are the same, so that the sources accepted are.
pub passed-before : (M k : ℕ) (p : Place) (xs : List Said) → Passed M k p xs ↔ PassedBefore M k p xs
passed-before = BeforeK4.passed-before

-- An accepted image depends on source and M alone: the map's length is M, and what memory and map held plays no part.
pub source_and_M_alone : {M N N' : ℕ} {source m k m' k' : List ℕ} → Accepted M N source m k → Accepted M N' source m' k' → (m ≡ m') × (k ≡ k')
source_and_M_alone {M} {N} {N'} {source} {m} {k} {m'} {k'} a b =
    let e : N' ≡ N = map-length M N' source b.passing.loans ∙ sym (map-length M N source a.passing.loans) in
    one_image_only M N source a (subst (λ (n : ℕ). Accepted M n source m' k') e b)

-- Two sources are accepted with the same image, or refused with the same number and line.
abbrev pub Alike : ℕ → ℕ → List ℕ → List ℕ → Type 0
Alike M N source source' =
    ((memory marks : List ℕ) → Accepted M N source memory marks ↔ Accepted M N source' memory marks)
    × ((why : Refusal) → FirstFailing M N source why ↔ FirstFailing M N source' why)

-- they are, where the assembler as a function answers both in one way
answered-alike : (M N : ℕ) (source source' : List ℕ) → assemble_of M N source ≡ assemble_of M N source' → Alike M N source source'
answered-alike M N source source' e = (
  λ memory marks. (accepted-from source source' memory marks e, accepted-from source' source memory marks (sym e)),
  λ why. (refused-from source source' why e, refused-from source' source why (sym e)),
)
  where
    accepted-from : (s t : List ℕ) (memory marks : List ℕ) → assemble_of M N s ≡ assemble_of M N t → Accepted M N s memory marks → Accepted M N t memory marks
    accepted-from s t memory marks e a = (accepted-exactly M N t memory marks).0 (sym e ∙ (accepted-exactly M N s memory marks).1 a)

    refused-from : (s t : List ℕ) (why : Refusal) → assemble_of M N s ≡ assemble_of M N t → FirstFailing M N s why → FirstFailing M N t why
    refused-from s t why e f = (refused-exactly M N t why).0 (sym e ∙ (refused-exactly M N s why).1 f)

-- What stands below END changes nothing: two sources whose lines are the same up to END, and neither of which fails 1 or 2, are
-- accepted with the same image or refused with the same number and line.
pub below_end : (M N : ℕ) (source source' : List ℕ) (above : List (List ℕ)) (e : List ℕ) (rest rest' : List (List ℕ))
    → Lines source (above ++ (e ∷ rest))
    → Lines source' (above ++ (e ∷ rest'))
    → HasWord e W.End
    → Pass (loan_checks M N source)
    → Pass (loan_checks M N source')
    → Alike M N source source'
below_end M N source source' above e rest rest' l l' w h h' =
    answered-alike M N source source'
    (Below.below_end M N source source' above e rest rest' l l' w (tells-pass _ _ (loans_tell M N source) h)
    (tells-pass _ _ (loans_tell M N source') h'))

-- Adding a comment, or blanks, at the end of any line of an accepted source changes no image, while the source stays as short as sources
-- must be. Spacing.antt has the same for blanks between tokens, refusals included, and says what is not true.
pub comment-added : (M N : ℕ) {source source' : List ℕ} (above below : List (List ℕ)) (line tail : List ℕ) {memory marks : List ℕ}
    → Lines source (above ++ (line ∷ below))
    → Lines source' (above ++ ((line ++ tail) ∷ below))
    → Over tail
    → length source' ≤ longest_source
    → Accepted M N source memory marks
    → Accepted M N source' memory marks
comment-added M N {source} {source'} above below line tail {memory} {marks} l l' o n a =
    (accepted-exactly M N source' memory marks).0
    (Comments.comment-accepted M N above below line tail l l' o n ((accepted-exactly M N source memory marks).1 a))

-- Nor does a line of blanks and a comment alone, put anywhere.
pub comment_line_added : (M N : ℕ) {source source' : List ℕ} (above below : List (List ℕ)) (line : List ℕ) {memory marks : List ℕ}
    → Lines source (above ++ below)
    → Lines source' (above ++ (line ∷ below))
    → Over line
    → length source' ≤ longest_source
    → Accepted M N source memory marks
    → Accepted M N source' memory marks
comment_line_added M N {source} {source'} above below line {memory} {marks} l l' o n a =
    (accepted-exactly M N source' memory marks).0
    (Comments.comment_line_accepted M N above below line l l' o n ((accepted-exactly M N source memory marks).1 a))

-- Sources whose lines up to END have the same tokens, blanks between them apart, are accepted with the same image or refused with the same
-- number and line. A blank counts only where the rules ask for directness: before a label's `:`, and between `-` and its number.
pub blanks-changed : (M N : ℕ) {source source' : List ℕ} {lines lines' : List (List ℕ)} → Lines source lines → Lines source' lines'
    → SameLines lines lines'
    → length source ≤ longest_source
    → length source' ≤ longest_source
    → Alike M N source source'
blanks-changed M N {source} {source'} l l' same n n' = answered-alike M N source source' (Spacing.spacing_same M N l l' same n n')

-- "Give every refusal from 3 on a column" (02, K4): the first check that fails points somewhere, and `point_of` says where;
pub fails_at : (M N : ℕ) (source : List ℕ) {why : Refusal} → FirstFailing M N source why
    → FailsAt M N source why (point_of M N source).column.0 (point_of M N source).place
fails_at = Pointing.fails_at

-- nowhere else,
pub points_once : (M N : ℕ) (source : List ℕ) {why : Refusal} {c i : ℕ} → FailsAt M N source why c i
    → ((point_of M N source).column.0 ≡ c) × ((point_of M N source).place ≡ i)
points_once = Pointing.points_once

-- and without its column and place it is the first check that fails.
pub forget : {M N : ℕ} {source : List ℕ} {why : Refusal} {c i : ℕ} → FailsAt M N source why c i → FirstFailing M N source why
forget = Pointing.forget

-- Number, line, column and operand's place together are exactly those of the meaning.
pub points_exactly : (M N : ℕ) (source : List ℕ) (why : Refusal) (c i : ℕ)
    → (FirstFailing M N source why × (point_of M N source ≡ pointed_at c i)) ↔ FailsAt M N source why c i
points_exactly M N source why c i = (
  λ h. subst (λ (p : Pointed). FailsAt M N source why p.column.0 p.place) h.1 (fails_at M N source h.0),
  λ f. (forget f, Pointing.found M N source f),
)

-- So a source has one refusal at most: one number, one line, one column and one operand's place.
pub one_point : (M N : ℕ) (source : List ℕ) {why why' : Refusal} {c c' i i' : ℕ} → FailsAt M N source why c i → FailsAt M N source why' c' i'
    → (why ≡ why') × (c ≡ c') × (i ≡ i')
one_point M N source f g =
    let p = points_once M N source f in
    let q = points_once M N source g in
    (one-refusal M N source (forget f) (forget g), sym p.0 ∙ q.0, sym p.1 ∙ q.1)

-- Sources with where their refusals point.
pub pointed-examples : PointedExamples
pointed-examples = PointedExamples.examples

-- Sources that are easily misread, with the paper's numbers.
pub examples : Examples
examples = Examples.examples

-- Each limit at both its ends.
pub edges : Edges
edges = Edges.edges
