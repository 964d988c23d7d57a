-- The lines of a memory and its map agree with them, where its reserved cells hold 0.
use Prim.Native.Nat.{ℕ, suc, ◌+◌, ◌-◌, ◌≤◌, ◌<◌}
use mathlib.Core.Bool.{Bool, true, false, cond}
use mathlib.Core.List.{List, [], ◌∷◌, ◌++◌, map, append-nil}
use mathlib.Core.Path.{◌≡◌, refl, sym, ap, subst, ◌∙◌}
use native.Mathlib.Omega.{arith}
use lib.Dec.{eqb, leb}
use lib.ListN.{length, get_or, take, drop, length-append, length-replicate, get_or-append}
use lib.Seq.{get_or-append-add, take-append_seam}
use borrow.Author.Tests.{eqb-true, leb-true, leb-false}
use Rattle.codes.specs.Limits.{most_cells, longest_source}
use Rattle.codes.specs.Marks.{free, code_mark, data_mark, reserved_mark, largest_mark}
use Rattle.image.proofs.Top as image
use Rattle.image.proofs.Top.{Loan}
use Rattle.isa.specs.Encoding.{words_of, allowed}
use Rattle.isa.specs.Inner.Words.{word_of}
use Rattle.isa.specs.Operands.{operand_words}
use Rattle.isa.specs.declared.Instruction.{Instruction}
use Rattle.isa.specs.declared.Operand.{Operand}
use Rattle.isa.specs.declared.Operand.TheVariants as O
use Rattle.sources.proofs.Stores.{zero-there}
use Rattle.listing.specs.Decodes.{Instructions, none, then}
use Rattle.listing.specs.Lines.{text_of_lines}
use Rattle.listing.specs.Listing.{reserved_lines, RunLines, code-run, data_run, reserved-run, origin_at, LinesOf, ends, one-run, Leaves, given, Replies, bad-loan, undecoded, too_long}
use Rattle.listing.specs.Listing as L
use Rattle.listing.specs.Runs.{Run, HoldCells, FirstRun, Runs, over, next}
use Rattle.listing.specs.declared.Entry.{Entry}
use Rattle.listing.specs.declared.Entry.TheVariants.{Origin, Instructs, Holds, Reserves}
use Rattle.recovered.proofs.Said.{Sound}
use Rattle.recovered.proofs.Placed.{HoldZero, Good, ends-here, skips, gives}

-- ---- an instruction whose words are cells can be written

abbrev pub Below : List ℕ → Type 0
Below ws = (j : ℕ) → j < length ws → get_or ws j 0 < 65536

word_below : (o : Operand) (ws : List ℕ) → Below (operand_words o ++ ws) → (word_of o < 65536) × Below ws
word_below O.Absent ws f = (omega arith, f)
word_below (O.Immediate v) ws f = (f 0 (omega arith), λ j l. f (suc j) (omega arith))
word_below (O.Register r) ws f = (f 0 (omega arith), λ j l. f (suc j) (omega arith))
word_below (O.Memory a) ws f = (f 0 (omega arith), λ j l. f (suc j) (omega arith))
word_below (O.Indirect r) ws f = (f 0 (omega arith), λ j l. f (suc j) (omega arith))
word_below (O.IndexedX d) ws f = (f 0 (omega arith), λ j l. f (suc j) (omega arith))
word_below (O.IndexedY d) ws f = (f 0 (omega arith), λ j l. f (suc j) (omega arith))
word_below (O.IndexedSp d) ws f = (f 0 (omega arith), λ j l. f (suc j) (omega arith))
word_below (O.Relative d) ws f = (f 0 (omega arith), λ j l. f (suc j) (omega arith))

sound : (i : Instruction) → allowed i ≡ true → Below (words_of i) → Sound i
unfolding words_of
sound i e f =
    let p = word_below i.first (operand_words i.second) (λ j l. f (suc j) (omega arith)) in
    let q = word_below i.second [] (subst Below (sym (append-nil (operand_words i.second))) p.1) in
    record { is_allowed = e; first_below = p.0; second_below = q.0 }

-- ---- cells with one mark, split in two

module _ (memory marks : List ℕ) (at k : ℕ) (xs ys : List ℕ) (h : HoldCells memory marks at (xs ++ ys) k) where
  pub first_part : HoldCells memory marks at xs k
  first_part i l =
      let p = h i (omega (arith, length-append xs ys)) in
      (p.0 ∙ get_or-append xs ys 0 i l, p.1)

  pub second_part : HoldCells memory marks (at + length xs) ys k
  second_part i l =
      let p = h (length xs + i) (omega (arith, length-append xs ys)) in
      let z : at + length xs + i ≡ at + (length xs + i) = omega arith in
      (ap (λ (a : ℕ). get_or memory a 0) z ∙ p.0 ∙ get_or-append-add xs ys i 0, ap (λ (a : ℕ). get_or marks a free) z ∙ p.1)

module _ (memory marks : List ℕ) (cells : (a : ℕ) → get_or memory a 0 < 65536) (most : length memory ≤ most_cells)
    (known : (a : ℕ) → a < length memory → get_or marks a free ≤ largest_mark) (reserved-zero : HoldZero memory marks reserved_mark) where
  below : (at : ℕ) (xs : List ℕ) (k : ℕ) → HoldCells memory marks at xs k → Below xs
  below at xs k h j l = subst (λ (x : ℕ). x < 65536) (h j l).0 (cells (at + j))

  -- a data run
  data_good : (xs : List ℕ) (at : ℕ) {fs : List Entry} → HoldCells memory marks at xs data_mark → at + length xs ≤ length memory
      → Good memory marks (at + length xs) fs → Good memory marks at (map Holds xs ++ fs)
  data_good [] at {fs} h l g = let z : at + 0 ≡ at = omega arith in subst (λ (a : ℕ). Good memory marks a fs) z g
  data_good (x ∷ xs) at {fs} h l g =
      let z : at + 1 + length xs ≡ at + suc (length xs) = omega arith in
      gives (Holds x) (below at (x ∷ xs) data_mark h 0 (omega arith)) (first_part memory marks at data_mark (x ∷ []) xs h) (omega arith)
      (data_good xs (at + 1) (second_part memory marks at data_mark (x ∷ []) xs h) (omega arith) (subst (λ (a : ℕ). Good memory marks a fs) (sym z) g))

  -- a code run
  code-good : {ws : List ℕ} {is : List Instruction} → Instructions ws is → (at : ℕ) {fs : List Entry} → HoldCells memory marks at ws code_mark
      → at + length ws ≤ length memory
      → Good memory marks (at + length ws) fs → Good memory marks at (map Instructs is ++ fs)
  code-good none at {fs} h l g = let z : at + 0 ≡ at = omega arith in subst (λ (a : ℕ). Good memory marks a fs) z g
  code-good (then {ws = ws} i e r) at {fs} h l g =
      let n = length-append (words_of i) ws in
      let z : at + length (words_of i ++ ws) ≡ at + length (words_of i) + length ws = omega arith in
      let f = first_part memory marks at code_mark (words_of i) ws h in
      gives (Instructs i) (sound i e (below at (words_of i) code_mark f)) f (omega arith)
      (code-good r (at + length (words_of i)) (second_part memory marks at code_mark (words_of i) ws h) (omega arith) (subst (λ (a : ℕ). Good memory marks a fs) z g))

  -- so many reserved cells, as one RES and as the lines of a run
  abbrev Reserved : ℕ → ℕ → Type 0
  Reserved at n = (i : ℕ) → i < n → get_or marks (at + i) free ≡ reserved_mark

  reserve-good : (n at : ℕ) {fs : List Entry} → n < 65536 → Reserved at n → at + n ≤ length memory → Good memory marks (at + n) fs
      → Good memory marks at (Reserves n ∷ fs)
  reserve-good n at {fs} h k l g =
      let e = length-replicate {A = ℕ} n 0 in
      gives (Reserves n) h
      (λ i t. let m = k i (omega arith) in (reserved-zero (at + i) m ∙ sym (zero-there n i), m))
      (omega arith)
      (subst (λ (c : ℕ). Good memory marks (at + c) fs) (sym e) g)

  reserved-good : (n at : ℕ) {fs : List Entry} → Reserved at n → at + n ≤ length memory → Good memory marks (at + n) fs
      → Good memory marks at (reserved_lines n ++ fs)
  unfolding reserved_lines
  reserved-good n at {fs} k l g = go (leb n 65535) refl
    where
      go : (b : Bool) → leb n 65535 ≡ b
          → Good memory marks at (cond b (Reserves n ∷ []) (Reserves 65535 ∷ Reserves (n - 65535) ∷ []) ++ fs)
      go true e = reserve-good n at (omega (arith, leb-true n 65535 e)) k l g
      go false e =
          let f = leb-false n 65535 e in
          let z : at + n ≡ at + 65535 + (n - 65535) = omega arith in
          reserve-good 65535 at (omega arith) (λ i t. k i (omega arith)) (omega arith)
          (reserve-good (n - 65535) (at + 65535) (omega arith)
          (λ i t. let y : at + 65535 + i ≡ at + (65535 + i) = omega arith in ap (λ (a : ℕ). get_or marks a free) y ∙ k (65535 + i) (omega arith))
          (omega arith)
          (subst (λ (a : ℕ). Good memory marks a fs) z g))

  -- a run
  run-good : {at : ℕ} (r : Run) → FirstRun memory marks at r → {xs fs : List Entry} → RunLines r xs
      → Good memory marks (r.from + length r.cells) fs → Good memory marks r.from (xs ++ fs)
  run-good r c (code-run k is) g =
      code-good is r.from (subst (λ (m : ℕ). HoldCells memory marks r.from r.cells m) k c.agrees) c.within g
  run-good r c (reserved-run k) g = reserved-good (length r.cells) r.from (λ i t. (c.agrees i t).1 ∙ k) c.within g
  run-good r c (data_run n o) g =
      let m : r.mark ≡ data_mark =
      omega (arith, n, o, c.claimed, (c.agrees 0 c.some).1, known (r.from + 0) (omega (arith, c.within, c.some))) in
      data_good r.cells r.from (subst (λ (j : ℕ). HoldCells memory marks r.from r.cells j) m c.agrees) c.within g

  -- with its ORG, where it needs one
  origin-good : {at : ℕ} (r : Run) → FirstRun memory marks at r → {es : List Entry} → Good memory marks r.from es
      → Good memory marks at (origin_at at r.from ++ es)
  origin-good {at} r c {es} g = go (eqb r.from at) refl
    where
      go : (b : Bool) → eqb r.from at ≡ b → Good memory marks at (cond b [] (Origin (record { 0 = r.from }) ∷ []) ++ es)
      go true e = subst (λ (a : ℕ). Good memory marks a es) (eqb-true r.from at e) g
      go false e = skips r.from c.further (omega (arith, c.within, c.some)) c.between g

  -- the lines of all runs
  pub lines-good : {at : ℕ} {rs : List Run} {es : List Entry} → Runs memory marks at rs → LinesOf at rs es → Good memory marks at es
  lines-good (over f) ends = ends-here f
  lines-good (next {r = r} c d) (one-run x y) = origin-good r c (run-good r c x (lines-good d y))

-- ---- where a listing is given

pub record Lists (memory marks text : List ℕ) : Type 0 where
  pub runs : List Run
  pub lines : List Entry
  pub loan : Loan memory marks
  pub has-runs : Runs memory marks 0 runs
  pub has-lines : LinesOf 0 runs lines
  pub its-text : text_of_lines lines ≡ text
  pub short : length (text_of_lines lines) ≤ longest_source

-- a text at the head of a room is known by its length
same_text : (room s t : List ℕ) → length s ≡ length t → s ++ drop (length s) room ≡ t ++ drop (length t) room → s ≡ t
same_text room s t n e =
    sym (take-append_seam s (drop (length s) room))
    ∙ ap (take (length s)) e
    ∙ ap (λ (k : ℕ). take k (t ++ drop (length t) room)) n
    ∙ take-append_seam t (drop (length t) room)

pub lists : {memory marks room text : List ℕ} → Replies memory marks room (given text room) → Lists memory marks text
lists {memory} {marks} {room} {text} h = out h refl
  where
    out : {l : Leaves} → Replies memory marks room l → l ≡ given text room → Lists memory marks text
    out (bad-loan n) e = absurd (omega (arith, ap (λ (l : Leaves). l.refusal) e))
    out (undecoded g r b) e = absurd (omega (arith, ap (λ (l : Leaves). l.refusal) e))
    out (too_long g r x t) e = absurd (omega (arith, ap (λ (l : Leaves). l.refusal) e))
    out (L.gives {rs} {es} g r x t u) e = record {
      runs = rs;
      lines = es;
      loan = (image.good-exactly memory marks).0 g;
      has-runs = r;
      has-lines = x;
      its-text = same_text room (text_of_lines es) text (ap (λ (l : Leaves). l.text) e) (ap (λ (l : Leaves). l.room) e);
      short = u;
    }
