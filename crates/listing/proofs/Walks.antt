-- The lines from an address on, as the code walks them: one law for each thing that may begin there, and what each does to the text.
use Prim.Native.Nat.{ℕ, zero, suc, ◌+◌, ◌-◌, ◌≤◌, ◌<◌}
use mathlib.Core.Bool.{Bool, true, false, cond, ◌&&◌, false≢true}
use mathlib.Core.List.{List, [], ◌∷◌, ◌++◌, map, append_assoc}
use mathlib.Core.Path.{◌≡◌, refl, sym, ap, ap₂, subst, ◌∙◌}
use native.Mathlib.Nat.{sub-zero}
use native.Mathlib.Decide.{dec_lt}
use native.Mathlib.Omega.{arith}
use lib.Dec.{eqb, leb}
use lib.ListN.{length, get_or, take, drop, length-drop, take-append-drop, drop_of_length-le}
use lib.Seq.{drop-cons, ext_get_or, get_or-drop, get_or-take, take-take, length-take-le, slice}
use Rattle.std.specs.List.{list_all, prefix_len}
use Rattle.std.proofs.lemmas.List.{drop-take}
use borrow.Author.Tests.{eqb-true, eqb-false, eq-eqb, ne_eqb, leb-false, le-leb}
use Rattle.codes.specs.Limits.{most_cells}
use Rattle.codes.specs.Marks.{free, code_mark, reserved_mark}
use Rattle.numerals.specs.Bytes.{LF}
use Rattle.isa.specs.Encoding.{words_of}
use Rattle.isa.specs.Decoding.{decode_of}
use Rattle.isa.specs.declared.Decoded.{Decoded}
use Rattle.std.proofs.Common.{Result, Ok, Err}
use Rattle.isa.specs.declared.Undecoded.{Undecoded}
use Rattle.isa.specs.declared.Address.{Address}
use Rattle.isa.specs.declared.Instruction.{Instruction}
use Rattle.isa.proofs.Tests.{both_true, never}
use Rattle.isa.proofs.RoundTrip.{Returns, encode_decode, decode_there, size-read}
use Rattle.listing.specs.Lines.{line_of, text_of_lines}
use Rattle.listing.specs.Runs.{Run, run, HoldCells, FirstRun, Runs, over, next}
use Rattle.listing.specs.Listing.{reserved_lines, data_run, reserved-run, origin_at}
use Rattle.listing.specs.Inner.Walk.{joined, runs_from, Parts, whole, fails, before, parts_by, parts_from}
use Rattle.listing.specs.Inner.Walk.{Found, found, failing, code_lines, run_lines, joined_by, lines_from}
use Rattle.listing.specs.Inner.Begins.{every_code, code_by, reserved_run, reserved_by, begins_at, rest, line_text, Addressed}
use Rattle.listing.specs.declared.Begins.{Begins}
use Rattle.listing.specs.declared.Begins.TheVariants as B
use Rattle.listing.specs.declared.Entry.{Entry}
use Rattle.listing.specs.declared.Entry.TheVariants.{Origin, Instructs, Holds, Reserves, Finish}
use Rattle.listing.proofs.Covered.{covered-from, one_list, second_part}
use Rattle.listing.proofs.Decoded.{parts-head}
use Rattle.listing.proofs.Exactly.{run-complete}

-- ---- marks of code

-- std's test of each mark
pub every_by_each : (ks : List ℕ) → every_code ks ≡ list_all (λ (k : ℕ). eqb k code_mark) ks
unfolding every_code
every_by_each [] = refl
every_by_each (k ∷ ks) = rw (every_by_each ks)

-- the marks from one address up to another, as they are read
pub read-slice : (marks : List ℕ) (at to : ℕ) → at ≤ to → take (to - at) (drop at marks) ≡ slice at to marks
read-slice marks at to h =
    let q : at + (to - at) ≡ to = omega arith in
    sym (rw q at (drop-take at (to - at) marks))

-- mark by mark
all-marks : (ks : List ℕ) → every_code ks ≡ true → (j : ℕ) → j < length ks → get_or ks j free ≡ code_mark
unfolding every_code
all-marks [] e j h = absurd (omega arith)
all-marks (k ∷ ks) e zero h = eqb-true k code_mark (both_true (eqb k code_mark) (every_code ks) e).0
all-marks (k ∷ ks) e (suc j) h = all-marks ks (both_true (eqb k code_mark) (every_code ks) e).1 j (omega arith)

marks-all : (ks : List ℕ) → ((j : ℕ) → j < length ks → get_or ks j free ≡ code_mark) → every_code ks ≡ true
unfolding every_code
marks-all [] f = refl
marks-all (k ∷ ks) f = rw (eq-eqb k code_mark (f 0 (omega arith)), marks-all ks (λ j h. f (suc j) (omega arith)))

abbrev Coded : List ℕ → ℕ → ℕ → Type 0
Coded marks at to = (a : ℕ) → at ≤ a → a < to → get_or marks a free ≡ code_mark

every-coded : (marks : List ℕ) (at to : ℕ) → to ≤ length marks → every_code (slice at to marks) ≡ true → Coded marks at to
every-coded marks at to l e a h u =
    let z : at + (a - at) ≡ a = omega arith in
    let j : a - at < length (slice at to marks) = omega (arith, length-drop at (take to marks), length-take-le to marks l) in
    sym (get_or-drop at (take to marks) (a - at) free ∙ ap (λ (b : ℕ). get_or (take to marks) b free) z ∙ get_or-take to marks a free u)
    ∙ all-marks (slice at to marks) e (a - at) j

coded-every : (marks : List ℕ) (at to : ℕ) → to ≤ length marks → Coded marks at to → every_code (slice at to marks) ≡ true
coded-every marks at to l f =
    marks-all (slice at to marks)
    (λ j h. let u : at + j < to = omega (arith, h, length-drop at (take to marks), length-take-le to marks l) in
    get_or-drop at (take to marks) j free ∙ get_or-take to marks (at + j) free u ∙ f (at + j) (omega arith) u)

-- ---- marks of reserved cells

-- std's word for the longest front that passes
pub reserved_by_prefix : (ks : List ℕ) → reserved_run ks ≡ prefix_len (λ (k : ℕ). eqb k reserved_mark) ks
unfolding reserved_run
reserved_by_prefix [] = refl
reserved_by_prefix (k ∷ ks) =
    let n = prefix_len (λ (k : ℕ). eqb k reserved_mark) ks in
    let one : suc n ≡ 1 + n = omega arith in
    rw (reserved_by_prefix ks) (ap (λ (m : ℕ). cond (eqb k reserved_mark) m 0) one)

-- so many marks of reserved cells, and no such mark behind them
reserved-head : (ks : List ℕ) (n : ℕ) → ((j : ℕ) → j < n → get_or ks j free ≡ reserved_mark) → (get_or ks n free ≡ reserved_mark → ⊥) → reserved_run ks ≡ n
unfolding reserved_run
reserved-head [] zero f s = refl
reserved-head [] (suc n) f s = let z = f 0 (omega arith) in absurd (omega (arith, z))
reserved-head (k ∷ ks) zero f s = rw (ne_eqb k reserved_mark s)
reserved-head (k ∷ ks) (suc n) f s =
    rw (eq-eqb k reserved_mark (f 0 (omega arith))) (ap suc (reserved-head ks n (λ j h. f (suc j) (omega arith)) s))

-- the same from an address on
reserved-count : (marks : List ℕ) (at n : ℕ) → ((j : ℕ) → j < n → get_or marks (at + j) free ≡ reserved_mark)
    → (get_or marks (at + n) free ≡ reserved_mark → ⊥)
    → reserved_run (drop at marks) ≡ n
reserved-count marks at n f s =
    reserved-head (drop at marks) n (λ j h. get_or-drop at marks j free ∙ f j h) (λ e. s (sym (get_or-drop at marks n free) ∙ e))

-- ---- lines side by side

-- a line, and those behind it
abbrev pub line_before : ℕ → ℕ → Entry → Found → Found
line_before behind at e rest = joined_by (origin_at behind at) (found (e ∷ [])) rest

data_lines : (r : Run) → (r.mark ≡ code_mark → ⊥) → (r.mark ≡ reserved_mark → ⊥) → run_lines r ≡ found (map Holds r.cells)
data_lines r n m = run-complete {r = r} (data_run n m)

reserved-lines : (r : Run) → r.mark ≡ reserved_mark → run_lines r ≡ found (reserved_lines (length r.cells))
reserved-lines r k = run-complete {r = r} (reserved-run k)

code_lines_lem : (r : Run) → r.mark ≡ code_mark → run_lines r ≡ code_lines (parts_from r.cells 0 r.from)
unfolding run_lines
code_lines_lem r k = rw (eq-eqb r.mark code_mark k)

-- one line, then the others of its run
line_first : (os : List Entry) (e : Entry) (es : List Entry) (f : Found)
    → joined_by os (found (e ∷ es)) f ≡ joined_by os (found (e ∷ [])) (joined_by [] (found es) f)
line_first os e es (found fs) = refl
line_first os e es (failing a) = refl

instructs-first : (os : List Entry) (i : Instruction) (p : Parts) (f : Found)
    → joined_by os (code_lines (before i p)) f ≡ joined_by os (found (Instructs i ∷ [])) (joined_by [] (code_lines p) f)
instructs-first os i (whole is) (found fs) = refl
instructs-first os i (whole is) (failing a) = refl
instructs-first os i (fails a) f = refl

none_first : (f : Found) → joined_by [] (found []) f ≡ f
none_first (found fs) = refl
none_first (failing a) = refl

data_join : (behind at k x : ℕ) (rs : List Run) → (k ≡ code_mark → ⊥) → (k ≡ reserved_mark → ⊥)
    → lines_from behind (joined at k x rs) ≡ line_before behind at (Holds x) (lines_from (at + 1) rs)
unfolding lines_from
data_join behind at k x [] n o = rw (data_lines (run at k (x ∷ [])) n o)
data_join behind at k x (r ∷ rs) n o = go (eqb r.from (at + 1)) (eqb r.mark k) refl refl
  where
    go : (a b : Bool) → eqb r.from (at + 1) ≡ a → eqb r.mark k ≡ b
        → lines_from behind (cond (a && b) (run at k (x ∷ r.cells) ∷ rs) (run at k (x ∷ []) ∷ r ∷ rs))
        ≡ line_before behind at (Holds x) (lines_from (at + 1) (r ∷ rs))
    go true true p q =
        let f = eqb-true r.from (at + 1) p in
        let m = eqb-true r.mark k q in
        let z : at + suc (length r.cells) ≡ r.from + length r.cells = omega arith in
        let u : lines_from (at + 1) (r ∷ rs) ≡ joined_by [] (found (map Holds r.cells)) (lines_from (r.from + length r.cells) rs) =
        rw (p, data_lines r (λ e. n (sym m ∙ e)) (λ e. o (sym m ∙ e))) in
        let v : lines_from behind (run at k (x ∷ r.cells) ∷ rs)
        ≡ joined_by (origin_at behind at) (found (Holds x ∷ map Holds r.cells)) (lines_from (at + suc (length r.cells)) rs) =
        rw (data_lines (run at k (x ∷ r.cells)) n o) in
        v ∙ ap (λ (a : ℕ). joined_by (origin_at behind at) (found (Holds x ∷ map Holds r.cells)) (lines_from a rs)) z
        ∙ line_first (origin_at behind at) (Holds x) (map Holds r.cells) (lines_from (r.from + length r.cells) rs)
        ∙ ap (line_before behind at (Holds x)) (sym u)
    go true false p q = rw (data_lines (run at k (x ∷ [])) n o)
    go false b p q = rw (data_lines (run at k (x ∷ [])) n o)

module _ (memory marks : List ℕ) (alike : length marks ≡ length memory) where
  abbrev runs : ℕ → List Run
  runs at = runs_from at (drop at memory) (drop at marks)

  there : (at : ℕ) → at ≤ length memory → Runs memory marks at (runs at)
  there at h = covered-from memory marks at h alike

  pub rest_end : (behind at : ℕ) → length memory ≤ at → rest memory marks behind at ≡ found (Finish ∷ [])
  unfolding runs_from lines_from
  rest_end behind at h = rw (drop_of_length-le memory h)

  step : (at : ℕ) → at < length memory
      → runs at ≡ cond (eqb (get_or marks at free) free) (runs (at + 1)) (joined at (get_or marks at free) (get_or memory at 0) (runs (at + 1)))
  unfolding runs_from
  step at h =
      let z : suc at ≡ at + 1 = omega arith in
      let m : drop at memory ≡ get_or memory at 0 ∷ drop (at + 1) memory = drop-cons memory at 0 h ∙ ap (λ (n : ℕ). get_or memory at 0 ∷ drop n memory) z in
      let k : drop at marks ≡ get_or marks at free ∷ drop (at + 1) marks =
      drop-cons marks at free (omega (arith, alike)) ∙ ap (λ (n : ℕ). get_or marks at free ∷ drop n marks) z in
      ap₂ (runs_from at) m k

  pub rest-free : (behind at : ℕ) → at < length memory → get_or marks at free ≡ free → rest memory marks behind at ≡ rest memory marks behind (at + 1)
  rest-free behind at h e = ap (lines_from behind) (step at h ∙ rw (eq-eqb (get_or marks at free) free e))

  pub rest_data : (behind at : ℕ) → at < length memory → (get_or marks at free ≡ free → ⊥) → (get_or marks at free ≡ code_mark → ⊥)
      → (get_or marks at free ≡ reserved_mark → ⊥)
      → rest memory marks behind at ≡ line_before behind at (Holds (get_or memory at 0)) (rest memory marks (at + 1) (at + 1))
  rest_data behind at h n m o =
      ap (lines_from behind) (step at h ∙ rw (ne_eqb (get_or marks at free) free n))
      ∙ data_join behind at (get_or marks at free) (get_or memory at 0) (runs (at + 1)) m o

  -- ---- the run that begins at a claimed cell

  record Here (at k : ℕ) : Type 0 where
    first : Run
    others : List Run
    are : runs at ≡ first ∷ others
    fits : FirstRun memory marks at first
    later : Runs memory marks (first.from + length first.cells) others
    begins : first.from ≡ at
    marked : first.mark ≡ k

  here : (at k : ℕ) → at < length memory → get_or marks at free ≡ k → (k ≡ free → ⊥) → Here at k
  here at k h m claimed = go refl (there at (omega arith))
    where
      begins : (r : Run) → FirstRun memory marks at r → r.from ≡ at
      begins r c =
          elim (dec_lt at r.from) [
            | yes l ↦ absurd (claimed (sym m ∙ c.between at (omega arith) l))
            | no l ↦ omega (arith, c.further)
          ]

      go : {rs : List Run} → runs at ≡ rs → Runs memory marks at rs → Here at k
      go e (over f) = absurd (claimed (sym m ∙ f at (omega arith)))
      go e (next {rs = ts} {r = r} c d) =
          let b = begins r c in
          let z : r.from + 0 ≡ at = omega arith in
          record {
            first = r;
            others = ts;
            are = e;
            fits = c;
            later = d;
            begins = b;
            marked = sym (c.agrees 0 c.some).1 ∙ ap (λ (a : ℕ). get_or marks a free) z ∙ m;
          }

  -- its cells are memory's from there on
  cells_are : (at k : ℕ) (t : Here at k) → take (length t.first.cells) (drop at memory) ≡ t.first.cells
  cells_are at k t =
      let c = t.fits in
      let n = length t.first.cells in
      let y = length-take-le n (drop at memory) (omega (arith, length-drop at memory, c.within, t.begins)) in
      ext_get_or 0 (take n (drop at memory)) t.first.cells y
      (λ j h. let l : j < n = omega (arith, h, y) in
      get_or-take n (drop at memory) j 0 l ∙ get_or-drop at memory j 0 ∙ ap (λ (a : ℕ). get_or memory (a + j) 0) (sym t.begins) ∙ (c.agrees j l).0)

  -- its lines, and those of the runs behind it
  lines-here : (behind at k : ℕ) (t : Here at k)
      → rest memory marks behind at
      ≡ joined_by (origin_at behind at) (run_lines (run at k t.first.cells)) (lines_from (at + length t.first.cells) t.others)
  unfolding lines_from
  lines-here behind at k t =
      let r = t.first in
      let z : r ≡ run at k r.cells =
      ap (λ (a : ℕ). run a r.mark r.cells) t.begins ∙ ap (λ (m : ℕ). run at m r.cells) t.marked in
      ap (lines_from behind) t.are ∙ ap (λ (q : Run). lines_from behind (q ∷ t.others)) z

  -- ---- a reserved cell

  module _ (at : ℕ) (below : at < length memory) (k : get_or marks at free ≡ reserved_mark) where
    reserved-here : Here at reserved_mark
    reserved-here = here at reserved_mark below k (λ e. absurd (omega (arith, e)))

    -- how long it is
    size-here : ℕ
    size-here = length reserved-here.first.cells

    -- its cells are there, each with its mark, and the mark behind them is another
    inside-here : (0 < size-here) × (at + size-here ≤ length memory)
    unfolding size-here
    inside-here = let c = reserved-here.fits in (c.some, omega (arith, c.within, reserved-here.begins))

    marks-here : (j : ℕ) → j < size-here → get_or marks (at + j) free ≡ reserved_mark
    unfolding size-here
    marks-here j l =
        ap (λ (a : ℕ). get_or marks (a + j) free) (sym reserved-here.begins) ∙ (reserved-here.fits.agrees j l).1 ∙ reserved-here.marked

    stops-here : get_or marks (at + size-here) free ≡ reserved_mark → ⊥
    unfolding size-here
    stops-here e =
        reserved-here.fits.stops
        (ap (λ (a : ℕ). get_or marks (a + length reserved-here.first.cells) free) reserved-here.begins ∙ e ∙ sym reserved-here.marked)

    -- how many cells are reserved from one of them on
    count-here : (j : ℕ) → j ≤ size-here → reserved_run (drop (at + j) marks) ≡ size-here - j
    count-here j h =
        reserved-count marks (at + j) (size-here - j)
        (λ i l. let z : at + j + i ≡ at + (j + i) = omega arith in
        ap (λ (a : ℕ). get_or marks a free) z ∙ marks-here (j + i) (omega (arith, l)))
        (λ e. let z : at + j + (size-here - j) ≡ at + size-here = omega (arith, h) in
        stops-here (ap (λ (a : ℕ). get_or marks a free) (sym z) ∙ e))

    all_here : reserved_run (drop at marks) ≡ size-here
    all_here = let z : at + 0 ≡ at = omega arith in ap (λ (a : ℕ). reserved_run (drop a marks)) (sym z) ∙ count-here 0 (omega arith) ∙ sub-zero size-here

    -- the lines of the run, and those behind it
    rest-run : (behind : ℕ) → rest memory marks behind at
        ≡ joined_by (origin_at behind at) (found (reserved_lines size-here)) (rest memory marks (at + size-here) (at + size-here))
    unfolding size-here
    rest-run behind =
        let n = length reserved-here.first.cells in
        let z : reserved-here.first.from + n ≡ at + n = ap (λ (a : ℕ). a + n) reserved-here.begins in
        let y : reserved-here.others ≡ runs (at + n) =
        one_list memory marks (subst (λ (a : ℕ). Runs memory marks a reserved-here.others) z reserved-here.later)
        (there (at + n) inside-here.1) in
        lines-here behind at reserved_mark reserved-here
        ∙ ap₂ (λ (f g : Found). joined_by (origin_at behind at) f g) (reserved-lines (run at reserved_mark reserved-here.first.cells) refl)
        (ap (lines_from (at + n)) y)

  -- ---- a code cell

  code_here : (behind at : ℕ) (t : Here at code_mark)
      → rest memory marks behind at
      ≡ joined_by (origin_at behind at) (code_lines (parts_from t.first.cells 0 at)) (lines_from (at + length t.first.cells) t.others)
  code_here behind at t =
      lines-here behind at code_mark t
      ∙ ap (λ (f : Found). joined_by (origin_at behind at) f (lines_from (at + length t.first.cells) t.others))
      (code_lines_lem (run at code_mark t.first.cells) refl)

  -- an instruction whose words are all marked as code
  module _ (behind at : ℕ) (below : at < length memory) (i : Instruction) (n : Address) (read : decode_of memory at ≡ Ok (record { instruction = i; next = n }))
      (coded : Coded marks at n.0) where
    read_here : Returns memory at i n
    read_here = encode_decode memory at i n read

    t : Here at code_mark
    t =
        let z = read_here.onward in
        here at code_mark below (coded at (omega arith) z) (λ e. absurd (omega (arith, e)))

    size : ℕ
    size = n.0 - at

    inside : size ≤ length t.first.cells
    unfolding size
    inside =
        let c = t.fits in
        let b = t.begins in
        elim (dec_lt (length t.first.cells) (n.0 - at)) [
          | yes l ↦
              absurd (c.stops (coded (t.first.from + length t.first.cells) (omega (arith, b)) (omega (arith, b)) ∙ sym t.marked))
          | no l ↦ omega arith
        ]

    more : List ℕ
    more = drop size t.first.cells

    words : words_of i ≡ take size t.first.cells
    unfolding size
    words =
        read_here.its-words ∙ sym (take-take size (length t.first.cells) (drop at memory) inside) ∙ ap (take size) (cells_are at code_mark t)

    split : t.first.cells ≡ words_of i ++ more
    unfolding more
    split = sym (take-append-drop size t.first.cells) ∙ ap (λ (l : List ℕ). l ++ drop size t.first.cells) (sym words)

    words_size : length (words_of i) ≡ size
    words_size = ap length words ∙ length-take-le size t.first.cells inside

    behind_it : at + size ≡ n.0
    unfolding size
    behind_it = let z = read_here.onward in omega (arith, z)

    length_more : size + length more ≡ length t.first.cells
    unfolding more
    length_more = let l = inside in omega (arith, l, length-drop size t.first.cells)

    held : HoldCells memory marks at (words_of i ++ more) code_mark
    held =
        subst (λ (ws : List ℕ). HoldCells memory marks at ws code_mark) split
        (subst (λ (k : ℕ). HoldCells memory marks at t.first.cells k) t.marked
        (subst (λ (a : ℕ). HoldCells memory marks a t.first.cells t.first.mark) t.begins t.fits.agrees))

    -- where the run ends
    ends_at : t.first.from + length t.first.cells ≡ n.0 + length more
    ends_at = omega (arith, t.begins, length_more, behind_it)

    left-run : 0 < length more → FirstRun memory marks n.0 (run n.0 code_mark more)
    left-run l =
        let z : at + length (words_of i) ≡ n.0 = omega (arith, words_size, behind_it) in
        record {
          further = omega arith;
          between = λ a u v. absurd (omega arith);
          some = l;
          within = omega (arith, ends_at, t.fits.within);
          agrees = subst (λ (a : ℕ). HoldCells memory marks a more code_mark) z (second_part memory marks at code_mark (words_of i) more held);
          claimed = λ e. absurd (omega (arith, e));
          stops = λ e. t.fits.stops (ap (λ (a : ℕ). get_or marks a free) ends_at ∙ e ∙ sym t.marked);
        }

    runs-next : Runs memory marks n.0 (runs n.0)
    runs-next = there n.0 read_here.within

    last-lines : lines_from (at + length t.first.cells) t.others ≡ lines_from (n.0 + length more) t.others
    last-lines =
        let z : at + length t.first.cells ≡ n.0 + length more = omega (arith, length_more, behind_it) in
        ap (λ (a : ℕ). lines_from a t.others) z

    left : (ws : List ℕ) → more ≡ ws
        → rest memory marks n.0 n.0 ≡ joined_by [] (code_lines (parts_from ws 0 n.0)) (lines_from (n.0 + length ws) t.others)
    unfolding lines_from parts_from
    left [] e =
        let z : t.first.from + length t.first.cells ≡ n.0 = omega (arith, ends_at, ap length e) in
        let y : n.0 ≡ n.0 + 0 = omega arith in
        ap (lines_from n.0) (one_list memory marks runs-next (subst (λ (a : ℕ). Runs memory marks a t.others) z t.later))
        ∙ ap (λ (a : ℕ). lines_from a t.others) y ∙ sym (none_first (lines_from (n.0 + 0) t.others))
    left (w ∷ ws) e =
        let l : 0 < length more = omega (arith, ap length e) in
        let q = run n.0 code_mark (w ∷ ws) in
        let f = subst (λ (vs : List ℕ). FirstRun memory marks n.0 (run n.0 code_mark vs)) e (left-run l) in
        let z : t.first.from + length t.first.cells ≡ n.0 + suc (length ws) = omega (arith, ends_at, ap length e) in
        let r : runs n.0 ≡ q ∷ t.others =
        one_list memory marks runs-next (next {r = q} f (subst (λ (a : ℕ). Runs memory marks a t.others) z t.later)) in
        ap (lines_from n.0) r
        ∙ ap₂ (λ (b : Bool) (x : Found). joined_by (cond b [] (Origin (record { 0 = n.0 }) ∷ [])) x (lines_from (n.0 + suc (length ws)) t.others))
        (eq-eqb n.0 n.0 refl) (code_lines_lem q refl)

    pub rest-code : rest memory marks behind at ≡ line_before behind at (Instructs i) (rest memory marks n.0 n.0)
    rest-code =
        let z : at + length (words_of i) ≡ n.0 = omega (arith, words_size, behind_it) in
        let os = origin_at behind at in
        let f = lines_from (n.0 + length more) t.others in
        code_here behind at t
        ∙ ap₂ (λ (p : Parts) (g : Found). joined_by os (code_lines p) g)
        (ap (λ (ws : List ℕ). parts_from ws 0 at) split ∙ parts-head i more at read_here.is_allowed) last-lines
        ∙ ap (λ (a : ℕ). joined_by os (code_lines (before i (parts_from more 0 a))) f) z
        ∙ instructs-first os i (parts_from more 0 n.0) f
        ∙ ap (line_before behind at (Instructs i)) (sym (left more refl))

  -- no instruction, or one with a word that is not marked as code
  pub rest-bad : (behind at : ℕ) → at < length memory → get_or marks at free ≡ code_mark
      → ((i : Instruction) (n : Address) → decode_of memory at ≡ Ok (record { instruction = i; next = n }) → Coded marks at n.0 → ⊥)
      → rest memory marks behind at ≡ failing at
  unfolding parts_from
  rest-bad behind at h k bad =
      code_here behind at s
      ∙ ap (λ (p : Parts). joined_by (origin_at behind at) (code_lines p) (lines_from (at + length s.first.cells) s.others)) (parts s.first.cells refl)
    where
      s : Here at code_mark
      s = here at code_mark h k (λ e. absurd (omega (arith, e)))

      no_read : (i : Instruction) (n : Address) → decode_of s.first.cells 0 ≡ Ok (record { instruction = i; next = n }) → ⊥
      no_read i n e =
          let r = encode_decode s.first.cells 0 i n e in
          let l = size-read s.first.cells 0 i n e in
          let z : n.0 - 0 ≡ length (words_of i) = omega (arith, l) in
          let w : take (length (words_of i)) (drop at memory) ≡ words_of i =
          sym (take-take (length (words_of i)) (length s.first.cells) (drop at memory) (omega (arith, l, r.within)))
          ∙ ap (take (length (words_of i))) (cells_are at code_mark s) ∙ ap (λ (k : ℕ). take k s.first.cells) (sym z) ∙ sym r.its-words in
          bad i (record { 0 = at + length (words_of i) }) (decode_there i memory at r.is_allowed w)
          (λ a u v. let j : s.first.from + (a - at) ≡ a = omega (arith, s.begins) in
          ap (λ (x : ℕ). get_or marks x free) (sym j) ∙ (s.fits.agrees (a - at) (omega (arith, l, r.within))).1 ∙ s.marked)

      by : (w : ℕ) (ws : List ℕ) → s.first.cells ≡ w ∷ ws → (d : Result Decoded Undecoded) → decode_of (w ∷ ws) 0 ≡ d
          → parts_by at d (λ more. parts_from ws more (at + 1)) ≡ fails at
      by w ws e (Ok r) f = absurd (no_read r.instruction r.next (ap (λ (l : List ℕ). decode_of l 0) e ∙ f))
      by w ws e (Err why) f = refl

      parts : (ws : List ℕ) → s.first.cells ≡ ws → parts_from ws 0 at ≡ fails at
      parts [] e = absurd (omega (arith, ap length e, s.fits.some))
      parts (w ∷ ws) e = by w ws e (decode_of (w ∷ ws) 0) refl

  -- ---- what begins at an address

  -- what each of them says of the lines from there on
  abbrev pub Goes : ℕ → ℕ → Begins → Type 0
  Goes behind at B.Nothing = rest memory marks behind at ≡ rest memory marks behind (at + 1)
  Goes behind at (B.Line e n) =
      (rest memory marks behind at ≡ line_before behind at e (rest memory marks n.0 n.0)) × (at < n.0) × (n.0 ≤ length memory) × Addressed e
  Goes behind at B.Fails = rest memory marks behind at ≡ failing at

  goes-code : (behind at : ℕ) → at < length memory → get_or marks at free ≡ code_mark → (d : Result Decoded Undecoded) → decode_of memory at ≡ d
      → Goes behind at (code_by marks at d)
  goes-code behind at h k (Ok g) e = go (every_code (slice at g.next.0 marks)) refl
    where
      r : Returns memory at g.instruction g.next
      r = encode_decode memory at g.instruction g.next e

      go : (b : Bool) → every_code (slice at g.next.0 marks) ≡ b → Goes behind at (cond b (B.Line (Instructs g.instruction) g.next) B.Fails)
      go true t =
          (rest-code behind at h g.instruction g.next e (every-coded marks at g.next.0 (omega (arith, r.within, alike)) t), r.onward, r.within, tt)
      go false t = rest-bad behind at h k (λ j m f c. absurd (differs j m f c))
        where
          differs : (j : Instruction) (m : Address) → decode_of memory at ≡ Ok (record { instruction = j; next = m }) → Coded marks at m.0 → ⊥
          differs j m f c =
              let z : m ≡ g.next = cc in
              let y = coded-every marks at m.0 (omega (arith, ap (λ (x : Address). x.0) z, r.within, alike)) c in
              false≢true (sym t ∙ ap (λ (x : Address). every_code (slice at x.0 marks)) (sym z) ∙ y)
  goes-code behind at h k (Err why) e = rest-bad behind at h k (λ j m f c. never (cc))

  -- "a run of 65,536 as `RES 65535`, `RES 1`" (02, K2): what is left behind the first of them is reserved too
  goes-reserved : (behind at : ℕ) → at < length memory → length memory ≤ most_cells → get_or marks at free ≡ reserved_mark
      → Goes behind at (reserved_by at (reserved_run (drop at marks)))
  unfolding reserved_lines
  goes-reserved behind at h m k =
      subst (λ (n : ℕ). Goes behind at (reserved_by at n)) (sym (all_here at h k)) (go (leb size 65535) refl)
    where
      size : ℕ
      size = size-here at h k

      go : (b : Bool) → leb size 65535 ≡ b
          → Goes behind at (cond b (B.Line (Reserves size) (record { 0 = at + size })) (B.Line (Reserves 65535) (record { 0 = at + 65535 })))
      go true e = let i = inside-here at h k in (rest-run at h k behind ∙ rw e, omega (arith, i.0), i.1, tt)
      go false e =
          let l = leb-false size 65535 e in
          let i = inside-here at h k in
          let below : at + 65535 < length memory = omega (arith, l, i.1) in
          let j = marks-here at h k 65535 l in
          let left : size-here (at + 65535) below j ≡ size - 65535 =
          sym (all_here (at + 65535) below j) ∙ count-here at h k 65535 (omega (arith, l)) in
          let z : at + 65535 + (size - 65535) ≡ at + size = omega (arith, l) in
          let f = rest memory marks (at + size) (at + size) in
          let y : rest memory marks (at + 65535) (at + 65535) ≡ joined_by [] (found (Reserves (size - 65535) ∷ [])) f =
          rest-run (at + 65535) below j (at + 65535)
          ∙ rw (left, eq-eqb (at + 65535) (at + 65535) refl, le-leb (size - 65535) 65535 (omega (arith, i.1, m)), z) in (
            rest-run at h k behind ∙ rw e (line_first (origin_at behind at) (Reserves 65535) (Reserves (size - 65535) ∷ []) f)
                ∙ ap (line_before behind at (Reserves 65535)) (sym y),
            omega arith,
            omega (arith, l, i.1),
            tt,
          )

  pub goes : (behind at : ℕ) → at < length memory → length memory ≤ most_cells → Goes behind at (begins_at memory marks at)
  unfolding begins_at
  goes behind at h m =
      go (eqb (get_or marks at free) free) (eqb (get_or marks at free) code_mark) (eqb (get_or marks at free) reserved_mark) refl refl refl
    where
      go : (a b c : Bool) → eqb (get_or marks at free) free ≡ a → eqb (get_or marks at free) code_mark ≡ b → eqb (get_or marks at free) reserved_mark ≡ c
          → Goes behind at
          (cond a B.Nothing
          (cond b (code_by marks at (decode_of memory at))
          (cond c (reserved_by at (reserved_run (drop at marks))) (B.Line (Holds (get_or memory at 0)) (record { 0 = at + 1 })))))
      go true b c p q r = rest-free behind at h (eqb-true (get_or marks at free) free p)
      go false true c p q r = goes-code behind at h (eqb-true (get_or marks at free) code_mark q) (decode_of memory at) refl
      go false false true p q r = goes-reserved behind at h m (eqb-true (get_or marks at free) reserved_mark r)
      go false false false p q r = (
        rest_data behind at h (eqb-false (get_or marks at free) free p) (eqb-false (get_or marks at free) code_mark q)
            (eqb-false (get_or marks at free) reserved_mark r),
        omega arith,
        omega arith,
        tt,
      )

-- ---- the text

-- the text of lines side by side
pub text-join : (es fs : List Entry) → text_of_lines (es ++ fs) ≡ text_of_lines es ++ text_of_lines fs
unfolding text_of_lines
text-join [] fs = refl
text-join (e ∷ es) fs =
    ap (λ (t : List ℕ). line_of e ++ (LF ∷ t)) (text-join es fs) ∙ sym (append_assoc (line_of e) (LF ∷ text_of_lines es) (text_of_lines fs))

-- a line with its ORG, and the text of those behind it
pub line-text : (behind at : ℕ) (e : Entry) (es : List Entry) → text_of_lines (origin_at behind at ++ ((e ∷ []) ++ es)) ≡ line_text behind at e ++ text_of_lines es
line-text behind at e es =
    ap text_of_lines (sym (append_assoc (origin_at behind at) (e ∷ []) es)) ∙ text-join (origin_at behind at ++ (e ∷ [])) es

-- ---- what begins at an address, by its mark

module _ (memory marks : List ℕ) (at : ℕ) where
  pub begins-free : get_or marks at free ≡ free → B.Nothing ≡ begins_at memory marks at
  unfolding begins_at
  begins-free e = rw (eq-eqb (get_or marks at free) free e)

  pub begins-code : (get_or marks at free ≡ free → ⊥) → get_or marks at free ≡ code_mark → {b : Begins} → b ≡ code_by marks at (decode_of memory at)
      → b ≡ begins_at memory marks at
  unfolding begins_at
  begins-code n e h = rw (ne_eqb (get_or marks at free) free n, eq-eqb (get_or marks at free) code_mark e) h

  pub begins-reserved : get_or marks at free ≡ reserved_mark → {b : Begins} → b ≡ reserved_by at (reserved_run (drop at marks))
      → b ≡ begins_at memory marks at
  unfolding begins_at
  begins-reserved e h =
      rw (
        ne_eqb (get_or marks at free) free (λ z. absurd (omega (arith, e, z))),
        ne_eqb (get_or marks at free) code_mark (λ z. absurd (omega (arith, e, z))),
        eq-eqb (get_or marks at free) reserved_mark e,
      ) h

  pub begins_data : (get_or marks at free ≡ free → ⊥) → (get_or marks at free ≡ code_mark → ⊥) → (get_or marks at free ≡ reserved_mark → ⊥)
      → B.Line (Holds (get_or memory at 0)) (record { 0 = at + 1 }) ≡ begins_at memory marks at
  unfolding begins_at
  begins_data n m o =
      rw (ne_eqb (get_or marks at free) free n, ne_eqb (get_or marks at free) code_mark m, ne_eqb (get_or marks at free) reserved_mark o)
