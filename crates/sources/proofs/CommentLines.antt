-- Adding a line of blanks and a comment alone changes no image either, though it moves the lines after it: two sources that differ in such
-- lines, and else have the same tokens in each line up to END (Spacing.antt), are accepted with the same memory and map, or refused with
-- the same number.
use Prim.Native.Nat.{ℕ, ◌+◌, ◌≤◌}
use mathlib.Core.Bool.{Bool, true, false, cond, false≢true}
use mathlib.Core.List.{List, [], ◌∷◌, ◌++◌, map, append-nil}
use mathlib.Core.Path.{◌≡◌, refl, sym, ap, subst₂}
use native.Mathlib.Nat.{add-zero}
use lib.ListN.{length}
use Rattle.tokens.specs.Lines.{Lines}
use Rattle.tokens.specs.Reading.{lines_of, tokens_from}
use Rattle.tokens.proofs.Top.{source_lines, one_list, line_row, one-row}
use Rattle.tokens.proofs.Spacing.{Over, over-row}
use Rattle.tokens.proofs.Respacing.{line-itself}
use Rattle.std.proofs.Common.{Option, Some, None, Result, Ok, Err}
use Rattle.statements.specs.declared.Statement.{Statement}
use Rattle.statements.specs.declared.Failure.{Failure}
use Rattle.values.specs.declared.Name.{Name}
use Rattle.values.proofs.Spacing as L
use Rattle.values.proofs.Spacing.{AlikeLabel, AlikeList, some}
use Rattle.operands.specs.declared.Given.{Given}
use Rattle.statements.specs.Judging.{number_of}
use Rattle.statements.specs.Reading.{label_read, after_label, statement_read, line_read}
use Rattle.statements.specs.Statements.{end, Says}
use Rattle.statements.specs.declared.Statement.TheVariants as S
use Rattle.statements.proofs.Labelling.{never}
use Rattle.statements.proofs.Spacing.{ReadAlike, end_read}
use Rattle.codes.specs.Limits.{longest_source}
use Rattle.sources.specs.Placing.{does, Bound, Place, start, Judged, acted, after, bindings}
use Rattle.sources.specs.Uses.{Use, use_by, use_of, uses_by, uses_read}
use Rattle.sources.specs.Order.{◌on◌}
use Rattle.sources.specs.Inner.Assembling.{Test, test, Verdict, passes, refused, first_of, and_then, read_line, ends_it, up_to_end, loan_verdict, taken, name_verdict, label_verdict, own_verdict, act_verdict, line_verdict, walk_lines, Work, work_of, start_work, worked, work_after, end_verdict, use_verdict, uses_verdict, filled, late_verdict, verdict_of, memory_of, assembled_by, Assembled, accepted, refuses, assemble_of}
use Rattle.sources.specs.declared.Act.{Act}
use Rattle.sources.proofs.Spacing.{SameTokens, tokens, read_alike, says-ends, ends_same, verdict-same, after_same, worked_same, loans-same}

-- ---- answers that differ in a refusal's line alone

pub data SameAnswer : Assembled → Assembled → Type 0 where
  image : (memory marks : List ℕ) → SameAnswer (accepted memory marks) (accepted memory marks)
  refusal : (n k k' : ℕ) → SameAnswer (refuses (n on k)) (refuses (n on k'))

data SameVerdict : Verdict → Verdict → Type 0 where
  pass : SameVerdict passes passes
  refuse : (n k k' : ℕ) → SameVerdict (refused (n on k)) (refused (n on k'))

then_same : {v v' w w' : Verdict} → SameVerdict v v' → SameVerdict w w' → SameVerdict (and_then v w) (and_then v' w')
then_same pass g = g
then_same (refuse n k k') g = refuse n k k'

verdict-itself : (v : Verdict) → SameVerdict v v
verdict-itself passes = pass
verdict-itself (refused why) = refuse why.number why.line why.line

-- the same checks, with other lines
data SameTests : List Test → List Test → Type 0 where
  none : SameTests [] []
  one : (n k k' : ℕ) (y : Bool) {ts ts' : List Test} → SameTests ts ts' → SameTests (test (n on k) y ∷ ts) (test (n on k') y ∷ ts')

first-same : {ts ts' : List Test} → SameTests ts ts' → SameVerdict (first_of ts) (first_of ts')
unfolding first_of
first-same none = pass
first-same (one n k k' true h) = refuse n k k'
first-same (one n k k' false h) = first-same h

answer-same : {v v' : Verdict} (m m' k k' : List ℕ) → SameVerdict v v' → m ≡ m' → k ≡ k' → SameAnswer (assembled_by v m k) (assembled_by v' m' k')
answer-same m m' k k' pass e f = rw (e, f) (image m' k')
answer-same m m' k k' (refuse n x x') e f = refusal n x x'

-- ---- a line as another line's number would have it

module _ (k k' : ℕ) where
  label-near : (p : Place) (bytes : List ℕ) (l : Option Name) → SameVerdict (label_verdict k p bytes l) (label_verdict k' p bytes l)
  unfolding name_verdict
  label-near p bytes None = pass
  label-near p bytes (Some n) = first-same (one 10 k k' _ (one 9 k k' _ none))

  own-near : (r : Result Statement Failure) → SameVerdict (own_verdict k r) (own_verdict k' r)
  own-near (Ok s) = pass
  own-near (Err why) = refuse (number_of why) k k'

  act-near : (M : ℕ) (p : Place) (a : Act) → SameVerdict (act_verdict M k p a) (act_verdict M k' p a)
  unfolding act_verdict
  act-near M p a = first-same (one 6 k k' _ (one 6 k k' _ (one 11 k k' _ (one 12 k k' _ none))))

  line-near : (M : ℕ) (p : Place) (x : Judged) → SameVerdict (line_verdict M k p x) (line_verdict M k' p x)
  unfolding line_verdict
  line-near M p x = then_same (label-near p x.bytes x.read.label) (then_same (own-near x.read.statement) (act-near M _ _))

  end-near : (p : Place) → SameVerdict (end_verdict k p) (end_verdict k' p)
  unfolding end_verdict
  end-near p = first-same (one 6 k k' _ none)

-- ---- labels that operands name, each with its line

record SameUse (u u' : Use) : Type 0 where
  name : u.name ≡ u'.name
  cell : u.cell ≡ u'.cell
  counted : u.counted ≡ u'.counted

abbrev SameUses : List Use → List Use → Type 0
SameUses us us' = AlikeList SameUse us us'

uses-join : {us us' vs vs' : List Use} → SameUses us us' → SameUses vs vs' → SameUses (us ++ vs) (us' ++ vs')
uses-join L.none h = h
uses-join (some e g) h = some e (uses-join g h)

use_near : (k k' cell next : ℕ) (bytes : List ℕ) (g : Given) → SameUses (use_of k bytes cell next g) (use_of k' bytes cell next g)
use_near k k' cell next bytes g = go g.label
  where
    go : (l : Option Name)
        → SameUses (use_by k bytes cell next g.operand l) (use_by k' bytes cell next g.operand l)
    go None = L.none
    go (Some n) = some (record { name = refl; cell = refl; counted = refl }) L.none

uses-near : (k k' at : ℕ) (bytes : List ℕ) (r : Result Statement Failure) → SameUses (uses_read k bytes at r) (uses_read k' bytes at r)
unfolding uses_by
uses-near k k' at bytes (Ok S.Nothing) = L.none
uses-near k k' at bytes (Ok (S.Instruction op a b)) = uses-join (use_near k k' _ _ bytes a) (use_near k k' _ _ bytes b)
uses-near k k' at bytes (Ok (S.Org v)) = L.none
uses-near k k' at bytes (Ok (S.Equ v)) = L.none
uses-near k k' at bytes (Ok (S.Res v)) = L.none
uses-near k k' at bytes (Ok (S.Data n)) = L.none
uses-near k k' at bytes (Ok S.End) = L.none
uses-near k k' at bytes (Err why) = L.none

use_verdict_near : (bs : List Bound) (u u' : Use) → SameUse u u' → SameVerdict (use_verdict bs u) (use_verdict bs u')
unfolding use_verdict
use_verdict_near bs u u' h = rw (h.name, h.counted) (first-same (one 13 u.line u'.line _ (one 14 u.line u'.line _ none)))

uses_verdict_near : (bs : List Bound) {us us' : List Use} → SameUses us us' → SameVerdict (uses_verdict bs us) (uses_verdict bs us')
unfolding uses_verdict
uses_verdict_near bs L.none = pass
uses_verdict_near bs (some {a = u} {a' = u'} e h) = then_same (use_verdict_near bs u u' e) (uses_verdict_near bs h)

filled-same : (bs : List Bound) {us us' : List Use} → SameUses us us' → (m : List ℕ) → filled bs us m ≡ filled bs us' m
unfolding filled
filled-same bs L.none m = refl
filled-same bs (some {a' = u'} e h) m = rw (e.name, e.cell, e.counted) (filled-same bs h _)

-- ---- what a walk has come to

record SameWork (w w' : Work) : Type 0 where
  place : w.place ≡ w'.place
  cells : w.cells ≡ w'.cells
  uses : SameUses w.uses w'.uses

uses-itself : (us : List Use) → SameUses us us
uses-itself [] = L.none
uses-itself (u ∷ us) = some (record { name = refl; cell = refl; counted = refl }) (uses-itself us)

worked-near : (k k' : ℕ) (w w' : Work) (x : Judged) → SameWork w w' → SameWork (worked k w x) (worked k' w' x)
unfolding worked
worked-near k k' w w' x h =
    record {
      place = rw h.place;
      cells = rw (h.place, h.cells);
      uses = uses-join h.uses (rw h.place (uses-near k k' w'.place.at x.bytes x.read.statement));
    }

-- ---- a line of blanks and a comment alone

-- what it says: no label, and nothing
abbrev Idle : List ℕ → Type 0
Idle c = line_read c ≡ record { label = None; statement = Ok S.Nothing }

over-idle : {c : List ℕ} → Over c → Idle c
unfolding line_read label_read after_label statement_read
over-idle {c} o = let e : tokens_from c 0 ≡ [] = one-row (line_row c) (over-row 0 true o) in rw e

module _ (c : List ℕ) (h : Idle c) where
  idle-verdict : (M k : ℕ) (p : Place) → line_verdict M k p (read_line c) ≡ passes
  unfolding line_verdict act_verdict first_of does taken
  idle-verdict M k p = rw h

  idle-after : (p : Place) → after p (read_line c) ≡ p
  unfolding after acted does
  idle-after p = rw (h, add-zero p.at, append-nil p.waiting)

  idle-worked : (k : ℕ) (w : Work) → worked k w (read_line c) ≡ w
  unfolding worked uses_by
  idle-worked k w = rw (idle-after w.place, h, append-nil w.uses)

  idle-goes : ends_it (line_read c).statement ≡ false
  idle-goes = rw h

-- ---- lines one by one

data Texts : List (List ℕ) → List (List ℕ) → Type 0 where
  over : Texts [] []
  line : {b b' : List ℕ} {bs bs' : List (List ℕ)} → ReadAlike b b' → Texts bs bs' → Texts (b ∷ bs) (b' ∷ bs')
  added : {c : List ℕ} {bs bs' : List (List ℕ)} → Idle c → Texts bs bs' → Texts bs (c ∷ bs')
  dropped : {c : List ℕ} {bs bs' : List (List ℕ)} → Idle c → Texts bs bs' → Texts (c ∷ bs) bs'

walk-near : (M k k' : ℕ) (p : Place) {bs bs' : List (List ℕ)} → Texts bs bs' → SameVerdict (walk_lines M k p bs) (walk_lines M k' p bs')
unfolding walk_lines
walk-near M k k' p over = pass
walk-near M k k' p (line {b} {b'} h t) =
    rw (verdict-same b b' h M k p, after_same b b' h p)
    (then_same (line-near k k' M p (read_line b')) (walk-near M (k + 1) (k' + 1) (after p (read_line b')) t))
walk-near M k k' p (added {c} h t) = rw (idle-verdict c h M k' p, idle-after c h p) (walk-near M k (k' + 1) p t)
walk-near M k k' p (dropped {c} h t) = rw (idle-verdict c h M k p, idle-after c h p) (walk-near M (k + 1) k' p t)

work-near : (k k' : ℕ) (w w' : Work) {bs bs' : List (List ℕ)} → Texts bs bs' → SameWork w w'
    → SameWork (work_after k w (map read_line bs)) (work_after k' w' (map read_line bs'))
unfolding work_after
work-near k k' w w' over h = h
work-near k k' w w' (line {b} {b'} r t) h =
    work-near (k + 1) (k' + 1) (worked k w (read_line b)) (worked k' w' (read_line b')) t (rw (worked_same b b' r k w) (worked-near k k' w w' (read_line b') h))
work-near k k' w w' (added {c} r t) h = work-near k (k' + 1) w (worked k' w' (read_line c)) t (rw (idle-worked c r k' w') h)
work-near k k' w w' (dropped {c} r t) h = work-near (k + 1) k' (worked k w (read_line c)) w' t (rw (idle-worked c r k w) h)

-- ---- sources

-- the lines of two sources, one by one with the same tokens, up to END, and between them lines of blanks and a comment alone
pub data SameText : List (List ℕ) → List (List ℕ) → Type 0 where
  over : SameText [] []
  line : {b b' : List ℕ} {bs bs' : List (List ℕ)} → SameTokens b b' → SameText bs bs' → SameText (b ∷ bs) (b' ∷ bs')
  added : {c : List ℕ} {bs bs' : List (List ℕ)} → Over c → SameText bs bs' → SameText bs (c ∷ bs')
  dropped : {c : List ℕ} {bs bs' : List (List ℕ)} → Over c → SameText bs bs' → SameText (c ∷ bs) bs'
  ends : {b b' : List ℕ} {bs bs' : List (List ℕ)} {l l' : Option Name} → Says b l end → Says b' l' end → AlikeLabel b b' l l'
      → SameText (b ∷ bs) (b' ∷ bs')

cut-near : (y y' : Bool) → y ≡ y' → {bs bs' : List (List ℕ)} → Texts bs bs' → Texts (cond y [] bs) (cond y' [] bs')
cut-near true true e t = over
cut-near true false e t = absurd (false≢true (sym e))
cut-near false true e t = absurd (false≢true e)
cut-near false false e t = t

texts : {bs bs' : List (List ℕ)} → SameText bs bs' → Texts (up_to_end bs) (up_to_end bs')
unfolding up_to_end
texts over = over
texts (line {b} {b'} h t) =
    let g = read_alike h in
    line g (cut-near (ends_it (line_read b).statement) (ends_it (line_read b').statement) (ends_same b b' g.statement) (texts t))
texts (added {c} o t) = let h = over-idle o in rw (idle-goes c h) (added h (texts t))
texts (dropped {c} o t) = let h = over-idle o in rw (idle-goes c h) (dropped h (texts t))
texts (ends {b} {b'} e e' h) = rw (says-ends e, says-ends e') (line (end_read e e' h) over)

late-near : (k k' : ℕ) (w w' : Work) → SameWork w w' → SameVerdict (late_verdict w k) (late_verdict w' k')
unfolding late_verdict
late-near k k' w w' h = rw h.place (then_same (end-near k k' w'.place) (uses_verdict_near (bindings w'.place) h.uses))

memory-same : (w w' : Work) → SameWork w w' → memory_of w ≡ memory_of w'
unfolding memory_of
memory-same w w' h = rw (h.place, h.cells) (filled-same (bindings w'.place) h.uses w'.cells)

parts-near : (M N : ℕ) (source source' : List ℕ) → loan_verdict M N source ≡ loan_verdict M N source'
    → Texts (up_to_end (lines_of source)) (up_to_end (lines_of source'))
    → SameAnswer (assemble_of M N source) (assemble_of M N source')
unfolding assemble_of verdict_of
parts-near M N source source' e t =
    let h = work-near 1 1 (start_work M) (start_work M) t (record { place = refl; cells = refl; uses = uses-itself (start_work M).uses }) in
    let l : SameVerdict (loan_verdict M N source) (loan_verdict M N source') = rw e (verdict-itself (loan_verdict M N source')) in
    let m = memory-same (work_of M source) (work_of M source') h in
    let v : SameVerdict (verdict_of M N source) (verdict_of M N source') =
    then_same l (then_same (walk-near M 1 1 (start M) t) (late-near _ _ (work_of M source) (work_of M source') h)) in
    answer-same (memory_of (work_of M source)) (memory_of (work_of M source')) (work_of M source).place.marks (work_of M source').place.marks v m
    (ap (λ (p : Place). p.marks) h.place)

-- Sources that differ in lines of blanks and a comment, and else have the same tokens in each line up to END, none of them longer than a
-- source may be, are accepted with the same memory and map, or refused with the same number.
pub text_same : (M N : ℕ) {source source' : List ℕ} {lines lines' : List (List ℕ)} → Lines source lines → Lines source' lines'
    → SameText lines lines'
    → length source ≤ longest_source
    → length source' ≤ longest_source
    → SameAnswer (assemble_of M N source) (assemble_of M N source')
text_same M N {source} {source'} has has' same n n' =
    parts-near M N source source' (loans-same M N source source' n n')
    (subst₂ (λ (bs bs' : List (List ℕ)). Texts (up_to_end bs) (up_to_end bs')) (one_list has (source_lines source)) (one_list has' (source_lines source'))
    (texts same))

accepted-image : {a a' : Assembled} {memory marks : List ℕ} → SameAnswer a a' → a ≡ accepted memory marks → a' ≡ accepted memory marks
accepted-image (image m k) e = e
accepted-image (refusal n k k') e = never (cc)

-- So where one of them is accepted, the other is, with the same image.
pub image-same : (M N : ℕ) {source source' : List ℕ} {lines lines' : List (List ℕ)} {memory marks : List ℕ} → Lines source lines
    → Lines source' lines'
    → SameText lines lines'
    → length source ≤ longest_source
    → length source' ≤ longest_source
    → assemble_of M N source ≡ accepted memory marks
    → assemble_of M N source' ≡ accepted memory marks
image-same M N has has' same n n' e = accepted-image (text_same M N has has' same n n') e

-- ---- one such line

text-itself : (bs : List (List ℕ)) → SameText bs bs
text-itself [] = over
text-itself (b ∷ bs) = line (tokens (line-itself true b)) (text-itself bs)

line-put : (xs ys : List (List ℕ)) (c : List ℕ) → Over c → SameText (xs ++ ys) (xs ++ (c ∷ ys))
line-put [] ys c o = added o (text-itself ys)
line-put (x ∷ xs) ys c o = line (tokens (line-itself true x)) (line-put xs ys c o)

-- A line of blanks and a comment alone, put before, between or after the lines of an accepted source, changes no image.
pub comment_line_same : (M N : ℕ) {source source' : List ℕ} (xs ys : List (List ℕ)) (c : List ℕ) {memory marks : List ℕ} → Lines source (xs ++ ys)
    → Lines source' (xs ++ (c ∷ ys))
    → Over c
    → length source ≤ longest_source
    → length source' ≤ longest_source
    → assemble_of M N source ≡ accepted memory marks
    → assemble_of M N source' ≡ accepted memory marks
comment_line_same M N xs ys c has has' o n n' e = image-same M N has has' (line-put xs ys c o) n n' e
