-- Cells that are written with 0 in the places of labels, and filled at the end, come to the cells that each line gives, line by line: a
-- label's cell lies in its own line's block, which no later line touches; and a cell that RES reserves is 0, as is each that is free.
use Prim.Native.Nat.{ℕ, ◌+◌, ◌≤◌, ◌<◌}
use mathlib.Core.List.{List, [], ◌∷◌, map}
use mathlib.Core.Path.{◌≡◌, refl, sym, ap, subst, ◌∙◌}
use native.Mathlib.Omega.{arith}
use lib.ListN.{length, get_or, replicate, set, length-replicate, get_or-replicate}
use lib.Seq.{sets, length-sets}
use Rattle.statements.specs.Statements.{Reading, Says}
use Rattle.statements.specs.FirstFailing.{Pass}
use Rattle.statements.specs.Judging.{judged}
use Rattle.std.proofs.Common.{Result, Ok}
use Rattle.statements.specs.declared.Statement.{Statement}
use Rattle.statements.specs.declared.Failure.{Failure}
use Rattle.statements.proofs.Top as statements
use Rattle.codes.specs.Marks.{free}
use Rattle.sources.specs.Sources.{Said, UpToEnd, over, ends, more}
use Rattle.sources.specs.Placing.{does, does_read, moved_by, Bound, Place, start, acted, Judged, judged_line, after, place_of, next_from, bindings}
use Rattle.sources.specs.Uses.{value_of, Use, uses_by, uses_read, uses_of, counted_word}
use Rattle.sources.specs.Order.{line_checks, Passed}
use Rattle.sources.specs.Image.{given_by, block_of}
use Rattle.sources.specs.Inner.Assembling.{raw_read, Work, start_work, worked, work_after, filled, memory_of}
use Rattle.sources.proofs.Works.{place_of_work, uses_of_work}
use Rattle.sources.proofs.Passing.{passing-says, passed-line}
use Rattle.sources.proofs.Stores.{Outside, sets-other, sets_same, set-sets, zero-there}
use Rattle.sources.proofs.Contents.{claims-count, marked-cells, filled_append, Inside, line-cells}

-- every line of a list has its reading
abbrev pub Read : List Said → Type 0
Read [] = Unit {0}
Read (x ∷ xs) = Says x.bytes x.label x.says × Read xs

pub all_read : {ls : List (List ℕ)} {xs : List Said} → UpToEnd ls xs → Read xs
all_read over = tt
all_read (ends s) = (s, tt)
all_read (more s e u) = (s, all_read u)

-- ---- one line at its place

-- what holds of a line that passes, by what its statement comes to
pub record FitsBy (M k : ℕ) (bs : List Bound) (p : Place) (bytes : List ℕ) (r : Reading) (j : Result Statement Failure) : Type 0 where
  pub within : 0 < (does_read j).claims → p.at + (does_read j).claims ≤ M
  pub untaken : (i : ℕ) → i < (does_read j).claims → get_or p.marks (p.at + i) free ≡ free
  pub marking : 0 < (does_read j).claims → (does_read j).mark ≡ free → ⊥
  pub given-long : length (given_by bs bytes (moved_by (does_read j).moves p.at) r) ≡ (does_read j).claims
  pub raw-within : length (raw_read bytes j) ≤ (does_read j).claims
  pub fills : (m : List ℕ) → ((i : ℕ) → i < (does_read j).claims → get_or m (p.at + i) 0 ≡ 0)
      → filled bs (uses_read k bytes p.at j) (sets m p.at (raw_read bytes j))
      ≡ sets m p.at (given_by bs bytes (moved_by (does_read j).moves p.at) r)
  pub uses-inside : Inside p.at (does_read j).claims (uses_read k bytes p.at j)

abbrev pub Fits : ℕ → ℕ → List Bound → Place → Said → Type 0
Fits M k bs p x = FitsBy M k bs p x.bytes x.says (judged x.says)

module _ (M k : ℕ) (bs : List Bound) (p : Place) (x : Said) where
  pub fits : Says x.bytes x.label x.says → Pass (line_checks M k p x.bytes) → Fits M k bs p x
  fits h c =
      let q = passing-says M k p x.bytes c in
      let s = q.2 in
      let o = statements.one-reading x.bytes q.3 h in
      let e : judged x.says ≡ Ok s = ap judged (sym o.1) ∙ q.4 in
      let f = passed-line M k p x.bytes h e c in
      let l = line-cells bs k x.bytes p.at x.says h e in
      let n = claims-count s in
      subst (FitsBy M k bs p x.bytes x.says) (sym e)
      (record {
        within = f.0;
        untaken = f.1;
        marking = marked-cells s;
        given-long = l.given-long (moved_by (does s).moves p.at) ∙ sym n;
        raw-within = omega (arith, l.raw-within, n);
        fills = λ m z. l.fills m (λ i h. z i (omega (arith, n)));
        uses-inside = subst (λ (c : ℕ). Inside p.at c (uses_by k x.bytes p.at s)) (sym n) l.uses-inside;
      })

module _ {M k : ℕ} {bs : List Bound} {p : Place} (x : Said) (f : Fits M k bs p x) where
  -- a cell that is marked before the line is none of its own
  pub not-its : (c : ℕ) → (get_or p.marks c free ≡ free → ⊥) → Outside c p.at (does_read (judged x.says)).claims
  not-its c t i h e = t (ap (λ (a : ℕ). get_or p.marks a free) e ∙ f.untaken i h)

  -- it keeps its mark
  pub keeps-mark : (c : ℕ) → (get_or p.marks c free ≡ free → ⊥) → get_or (after p (judged_line x)).marks c free ≡ get_or p.marks c free
  unfolding after acted
  keeps-mark c t =
      let a = does_read (judged x.says) in
      let o = not-its c t in
      let n = length-replicate {A = ℕ} a.claims a.mark in
      sets-other (replicate a.claims a.mark) p.marks p.at c (λ i h e. o i (omega (arith, n)) e)

  -- a cell that the line claims gets the line's mark
  pub gets_mark : length p.marks ≡ M → (i : ℕ) → i < (does_read (judged x.says)).claims
      → get_or (after p (judged_line x)).marks (p.at + i) free ≡ (does_read (judged x.says)).mark
  unfolding after acted
  gets_mark l i h =
      let a = does_read (judged x.says) in
      let n = length-replicate {A = ℕ} a.claims a.mark in
      sets_same (replicate a.claims a.mark) p.marks p.at i (omega (arith, f.within (omega arith))) (omega arith)
      ∙ get_or-replicate a.claims i a.mark 0 h

  -- a cell that is free behind the line is none of its own
  pub still-free : length p.marks ≡ M → (c : ℕ) → get_or (after p (judged_line x)).marks c free ≡ free
      → Outside c p.at (does_read (judged x.says)).claims
  still-free l c e i h q =
      f.marking (omega arith) (sym (gets_mark l i h) ∙ ap (λ (a : ℕ). get_or (after p (judged_line x)).marks a free) (sym q) ∙ e)

  -- and was free before it
  pub was_free : length p.marks ≡ M → (c : ℕ) → get_or (after p (judged_line x)).marks c free ≡ free → get_or p.marks c free ≡ free
  unfolding after acted
  was_free l c e =
      let a = does_read (judged x.says) in
      let o = still-free l c e in
      let n = length-replicate {A = ℕ} a.claims a.mark in
      sym (sets-other (replicate a.claims a.mark) p.marks p.at c (λ i h q. o i (omega (arith, n)) q)) ∙ e

  -- where free cells are 0 before the line, they are behind it
  pub still-zero : length p.marks ≡ M → (m : List ℕ) → ((a : ℕ) → get_or p.marks a free ≡ free → get_or m a 0 ≡ 0) → (a : ℕ)
      → get_or (after p (judged_line x)).marks a free ≡ free
      → get_or (sets m p.at (block_of bs p.at x).given) a 0 ≡ 0
  still-zero l m z a e =
      let o = still-free l a e in
      sets-other (block_of bs p.at x).given m p.at a (λ i h q. o i (omega (arith, f.given-long)) q) ∙ z a (was_free l a e)

-- the map stays as long
pub marks-long : (p : Place) (x : Judged) → length (after p x).marks ≡ length p.marks
unfolding after acted
marks-long p x =
    let a = does_read x.read.statement in
    length-sets p.marks p.at (replicate a.claims a.mark)

-- ---- lines

-- the cells of lines, written with 0 in the places of labels
unfoldable pub raw_written : ℕ → List Judged → List ℕ → List ℕ
raw_written at [] m = m
raw_written at (x ∷ xs) m = raw_written (next_from at x) xs (sets m at (raw_read x.bytes x.read.statement))

-- the cells that lines give, written line by line
unfoldable pub written : List Bound → ℕ → List Said → List ℕ → List ℕ
written bs at [] m = m
written bs at (x ∷ xs) m = written bs (next_from at (judged_line x)) xs (sets m at (block_of bs at x).given)

module _ (M : ℕ) (bs : List Bound) where
  -- a store into a marked cell can come before the lines that follow
  set_before : (k : ℕ) (p : Place) (xs : List Said) → Read xs → Passed M k p xs → (c v : ℕ) → (get_or p.marks c free ≡ free → ⊥) → (m : List ℕ)
      → set (raw_written p.at (map judged_line xs) m) c v ≡ raw_written p.at (map judged_line xs) (set m c v)
  unfolding raw_written Passed after acted
  set_before k p [] s h c v t m = refl
  set_before k p (x ∷ xs) s h c v t m =
      let f = fits M k bs p x s.0 h.0 in
      let q = after p (judged_line x) in
      let raw = raw_read x.bytes (judged x.says) in
      let o = not-its x f c t in
      set_before (k + 1) q xs s.1 h.1 c v (λ e. t (sym (keeps-mark x f c t) ∙ e)) (sets m p.at raw)
      ∙ ap (raw_written q.at (map judged_line xs)) (set-sets raw m p.at c v (λ i l e. o i (omega (arith, f.raw-within)) e))

  -- so can filling labels' cells that are marked
  filled-before : (k : ℕ) (p : Place) (xs : List Said) → Read xs → Passed M k p xs → (at n : ℕ)
      → ((i : ℕ) → i < n → get_or p.marks (at + i) free ≡ free → ⊥)
      → (us : List Use)
      → Inside at n us
      → (m : List ℕ)
      → filled bs us (raw_written p.at (map judged_line xs) m) ≡ raw_written p.at (map judged_line xs) (filled bs us m)
  unfolding filled
  filled-before k p xs s h at n t [] i m = refl
  filled-before k p xs s h at n t (u ∷ us) i m =
      let v = counted_word u.counted (value_of bs u.name) in
      let c = i.0 in
      ap (filled bs us)
      (set_before k p xs s h u.cell v (λ e. t c.0 c.1 (ap (λ (a : ℕ). get_or p.marks a free) (sym c.2) ∙ e)) m)
      ∙ filled-before k p xs s h at n t us i.1 (set m u.cell v)

  -- lines that pass, over cells that are 0 where they are free: filling at the end is giving line by line
  pub filling : (k : ℕ) (p : Place) (xs : List Said) → length p.marks ≡ M → Read xs → Passed M k p xs → (m : List ℕ)
      → ((a : ℕ) → get_or p.marks a free ≡ free → get_or m a 0 ≡ 0)
      → filled bs (uses_of k p.at (map judged_line xs)) (raw_written p.at (map judged_line xs) m) ≡ written bs p.at xs m
  unfolding raw_written written uses_of filled Passed after acted
  filling k p [] l s h m z = refl
  filling k p (x ∷ xs) l s h m z =
      let f = fits M k bs p x s.0 h.0 in
      let q = after p (judged_line x) in
      let a = does_read (judged x.says) in
      let js = map judged_line xs in
      let us = uses_read k x.bytes p.at (judged x.says) in
      let vs = uses_of (k + 1) q.at js in
      let raw = sets m p.at (raw_read x.bytes (judged x.says)) in
      let own : filled bs us (raw_written q.at js raw) ≡ raw_written q.at js (filled bs us raw) =
      filled-before (k + 1) q xs s.1 h.1 p.at a.claims
      (λ i t e. f.marking (omega arith) (sym (gets_mark x f l i t) ∙ e)) us f.uses-inside raw in
      filled_append bs us vs (raw_written q.at js raw)
      ∙ ap (filled bs vs) (own ∙ ap (raw_written q.at js) (f.fills m (λ i t. z (p.at + i) (f.untaken i t))))
      ∙ filling (k + 1) q xs (marks-long p (judged_line x) ∙ l) s.1 h.1 (sets m p.at (block_of bs p.at x).given) (still-zero x f l m z)

-- ---- the walk over the lines

work-cells : (k : ℕ) (w : Work) (js : List Judged) → (work_after k w js).cells ≡ raw_written w.place.at js w.cells
unfolding work_after worked raw_written after acted
work-cells k w [] = refl
work-cells k w (x ∷ js) = work-cells (k + 1) (worked k w x) js

-- what the walk leaves in memory is what the lines give, over zeros
pub memory-written : (M : ℕ) (xs : List Said) → Read xs → Passed M 1 (start M) xs
    → memory_of (work_after 1 (start_work M) (map judged_line xs)) ≡ written (bindings (place_of M xs)) 0 xs (replicate M 0)
unfolding memory_of start_work start
memory-written M xs s h =
    let js = map judged_line xs in
    let w = start_work M in
    let bs = bindings (place_of M xs) in
    let zeros : List ℕ = replicate M 0 in
    let p : bindings (work_after 1 w js).place ≡ bs = ap bindings (place_of_work 1 w js) in
    let c = work-cells 1 w js in
    let u = uses_of_work 1 w js in
    ap (λ (b : List Bound). filled b (work_after 1 w js).uses (work_after 1 w js).cells) p
    ∙ ap (λ (us : List Use). filled bs us (work_after 1 w js).cells) u
    ∙ ap (filled bs (uses_of 1 0 js)) c
    ∙ filling M bs 1 (start M) xs (length-replicate {A = ℕ} M 0) s h zeros (λ a e. zero-there M a)

-- and the map is that of the lines' place
pub work-marks : (M : ℕ) (xs : List Said) → (work_after 1 (start_work M) (map judged_line xs)).place.marks ≡ (place_of M xs).marks
unfolding start_work
work-marks M xs = ap (λ (p : Place). p.marks) (place_of_work 1 (start_work M) (map judged_line xs))
