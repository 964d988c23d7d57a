-- Lines that agree with memory and map, in the order of addresses, are accepted and leave that memory and map.
use Prim.Native.Nat.{ℕ, zero, suc, ◌+◌, ◌-◌, ◌≤◌, ◌<◌}
use mathlib.Core.Bool.{Bool, true, false, ◌&&◌}
use mathlib.Core.List.{List, [], ◌∷◌, ◌++◌, map, Memᴰ}
use mathlib.Core.Logic.{inl, inr}
use mathlib.Core.Path.{◌≡◌, refl, sym, ap, ap₂, subst, ◌∙◌}
use native.Mathlib.Decide.{dec_lt}
use native.Mathlib.Omega.{arith}
use lib.Dec.{ltb}
use lib.ListN.{length, get_or, replicate, length-replicate}
use lib.Seq.{sets}
use borrow.Author.Tests.{le-ltb}
use Rattle.codes.specs.Limits.{most_cells}
use Rattle.codes.specs.Marks.{free}
use Rattle.std.proofs.Common.{None, Result, Ok}
use Rattle.statements.specs.declared.Statement.{Statement}
use Rattle.statements.specs.declared.Failure.{Failure}
use Rattle.statements.specs.FirstFailing.{Pass}
use Rattle.statements.specs.Judging.{judged}
use Rattle.statements.specs.Statements.{end}
use Rattle.statements.proofs.Labelling.{never}
use Rattle.sources.specs.Sources.{UpToEnd, ends, more, SourceText}
use Rattle.sources.specs.Placing.{does, does_read, Bound, Place, start, bound_to, labelled, moved_by, acted, Judged, judged_line, after, place_after, bindings}
use Rattle.sources.specs.Uses.{Use, uses_by, uses_of}
use Rattle.sources.specs.Order.{loan_checks, line_checks, Passed, late_checks, end_checks, use_checks}
use Rattle.sources.specs.Image.{Block, blocks_of, Has, Image, Accepted}
use Rattle.sources.specs.Inner.Assembling.{Verdict, passes, first_of, label_out, reserves_too_far, past_end, taken, act_verdict, read_line, line_verdict}
use Rattle.sources.proofs.Verdicts.{Tells}
use Rattle.sources.proofs.LineDecided.{line-tells}
use Rattle.sources.proofs.Stores.{sets-other, zero-there}
use Rattle.sources.proofs.Walk.{read-line}
use Rattle.listing.specs.Lines.{line_of, text_of_lines}
use Rattle.listing.specs.Runs.{HoldCells, Free}
use Rattle.listing.specs.declared.Entry.{Entry}
use Rattle.listing.specs.declared.Entry.TheVariants.{Origin, Instructs, Holds, Reserves, Finish}
use Rattle.recovered.proofs.Entries.{Writable, reading_in, said_in, statement_in, cells_in, mark_in, next_in, entry-says, entry-judged, entry_gives, entry-claims, entry-mark, entry-moves, AllWritable, text-lines}

-- the cells with a mark hold 0
abbrev pub HoldZero : List ℕ → List ℕ → ℕ → Type 0
HoldZero memory marks mark = (a : ℕ) → get_or marks a free ≡ mark → get_or memory a 0 ≡ 0

-- a line that claims cells, and can be written
abbrev pub Claims : Entry → Type 0
Claims (Origin a) = ⊥
Claims (Instructs i) = Writable (Instructs i)
Claims (Holds x) = Writable (Holds x)
Claims (Reserves n) = Writable (Reserves n)
Claims Finish = ⊥

-- lines agree with memory and map from an address on
pub data Good (memory marks : List ℕ) : ℕ → List Entry → Type 0 where
  ends-here : {at : ℕ} → ((a : ℕ) → at ≤ a → get_or marks a free ≡ free) → Good memory marks at (Finish ∷ [])
  skips : {at : ℕ} {es : List Entry} (n : ℕ) → at ≤ n → n < 65536 → Free marks at n → Good memory marks n es
      → Good memory marks at (Origin (record { 0 = n }) ∷ es)
  gives : {at : ℕ} {es : List Entry} (e : Entry) → Claims e → HoldCells memory marks at (cells_in e) (mark_in e)
      → at + length (cells_in e) ≤ length memory
      → Good memory marks (at + length (cells_in e)) es
      → Good memory marks at (e ∷ es)

claims_writable : (e : Entry) → Claims e → Writable e
claims_writable (Origin a) h = absurd h
claims_writable (Instructs i) h = h
claims_writable (Holds x) h = h
claims_writable (Reserves n) h = h
claims_writable Finish h = absurd h

claims-next : (at : ℕ) (e : Entry) → Claims e → next_in at e ≡ at + length (cells_in e)
claims-next at (Origin a) h = absurd h
claims-next at (Instructs i) h = refl
claims-next at (Holds x) h = refl
claims-next at (Reserves n) h = ap (λ (c : ℕ). at + c) (sym (length-replicate n 0))
claims-next at Finish h = absurd h

claims_no_end : (e : Entry) → Claims e → reading_in e ≡ end → ⊥
claims_no_end (Origin a) h q = h
claims_no_end (Instructs i) h q = never (cc)
claims_no_end (Holds x) h q = never (cc)
claims_no_end (Reserves n) h q = never (cc)
claims_no_end Finish h q = h

module _ {memory marks : List ℕ} where
  -- ---- the text

  pub good_writable : {at : ℕ} {es : List Entry} → Good memory marks at es → AllWritable es
  good_writable (ends-here f) = (tt, tt)
  good_writable (skips n l h f g) = (h, good_writable g)
  good_writable (gives e c h l g) = (claims_writable e c, good_writable g)

  up-to-end : {at : ℕ} {es : List Entry} → Good memory marks at es → UpToEnd (map line_of es) (map said_in es)
  up-to-end (ends-here f) = ends (entry-says Finish tt)
  up-to-end (skips n l h f g) = more (entry-says (Origin (record { 0 = n })) h) (λ q. never (cc)) (up-to-end g)
  up-to-end (gives e c h l g) = more (entry-says e (claims_writable e c)) (claims_no_end e c) (up-to-end g)

  pub good-text : {at : ℕ} {es : List Entry} → Good memory marks at es → SourceText (text_of_lines es) (map said_in es)
  good-text {es = es} g = record { lines = map line_of es; has = text-lines es (good_writable g); read = up-to-end g }

-- ---- a line passes

untaken : (m : List ℕ) (at n : ℕ) → ((i : ℕ) → i < n → get_or m (at + i) free ≡ free) → taken m at n ≡ false
unfolding taken
untaken m at zero h = refl
untaken m at (suc n) h = rw (untaken m at n (λ i l. h i (omega arith)), h n (omega arith))

-- no label waits
abbrev place_at : ℕ → List Bound → List ℕ → Place
place_at at bs m = record { at = at; bound = bs; waiting = []; marks = m }

abbrev judged_in : Entry → Judged
judged_in e = record { bytes = line_of e; read = record { label = None; statement = Ok (statement_in e) } }

judged-in : (e : Entry) → Writable e → judged_line (said_in e) ≡ judged_in e
judged-in e h = ap (λ (s : Result Statement Failure). record { bytes = line_of e; read = record { label = None; statement = s } }) (entry-judged e h)

no_label : (at : ℕ) (bs : List Bound) (m : List ℕ) (e : Entry) → label_out (labelled (place_at at bs m) (line_of e) None) (does (statement_in e)) ≡ false
unfolding does
no_label at bs m (Origin a) = refl
no_label at bs m (Instructs i) = refl
no_label at bs m (Holds x) = refl
no_label at bs m (Reserves n) = refl
no_label at bs m Finish = refl

not_too_far : (at : ℕ) (e : Entry) → at + length (cells_in e) ≤ most_cells → reserves_too_far (does (statement_in e)).moves at ≡ false
unfolding does
not_too_far at (Origin a) l = refl
not_too_far at (Instructs i) l = refl
not_too_far at (Holds x) l = refl
not_too_far at (Reserves n) l = le-ltb most_cells (at + n) (omega (arith, length-replicate {A = ℕ} n 0))
not_too_far at Finish l = refl

not-past : (M at n : ℕ) → at + n ≤ M → (ltb 0 n && ltb M (at + n)) ≡ false
not-past M at n h = rw (le-ltb M (at + n) h) (and_no (ltb 0 n))
  where
    and_no : (b : Bool) → (b && false) ≡ false
    and_no true = refl
    and_no false = refl

passes_line : (M k at : ℕ) (bs : List Bound) (m : List ℕ) (e : Entry) → Writable e
    → reserves_too_far (does (statement_in e)).moves at ≡ false
    → past_end M at (does (statement_in e)) ≡ false
    → taken m at (does (statement_in e)).claims ≡ false
    → Pass (line_checks M k (place_at at bs m) (line_of e))
unfolding line_verdict act_verdict first_of
passes_line M k at bs m e h f p t =
    let q = place_at at bs m in
    let r : line_verdict M k q (judged_in e) ≡ passes = rw (no_label at bs m e, f, p, t) in
    let v : line_verdict M k q (read_line (line_of e)) ≡ passes = ap (line_verdict M k q) (read-line (line_of e) (entry-says e h) ∙ judged-in e h) ∙ r in
    subst (λ (x : Verdict). Tells x (line_checks M k q (line_of e))) v (line-tells M k q (line_of e))

-- ---- the place behind a line

after-entry : (at : ℕ) (bs : List Bound) (m : List ℕ) (e : Entry) → Writable e
    → (cs : List Bound) × (after (place_at at bs m) (judged_line (said_in e))
    ≡ place_at (next_in at e) cs (sets m at (replicate (length (cells_in e)) (mark_in e))))
unfolding after acted does bound_to
after-entry at bs m (Origin a) h = (bs, ap (after (place_at at bs m)) (judged-in (Origin a) h))
after-entry at bs m (Instructs i) h = (
  bs ++ [],
  ap (after (place_at at bs m)) (judged-in (Instructs i) h)
      ∙ ap (λ (n : ℕ). place_at (at + n) (bs ++ []) (sets m at (replicate n (mark_in (Instructs i))))) (entry-claims (Instructs i) h),
)
after-entry at bs m (Holds x) h = (bs ++ [], ap (after (place_at at bs m)) (judged-in (Holds x) h))
after-entry at bs m (Reserves n) h = (
  bs ++ [],
  ap (after (place_at at bs m)) (judged-in (Reserves n) h)
      ∙ ap (λ (c : ℕ). place_at (at + n) (bs ++ []) (sets m at (replicate c (mark_in (Reserves n))))) (entry-claims (Reserves n) h),
)
after-entry at bs m Finish h =
    let z : at + 0 ≡ at = omega arith in
    (bs ++ [], ap (after (place_at at bs m)) (judged-in Finish h) ∙ ap (λ (n : ℕ). place_at n (bs ++ []) m) z)

-- cells further on stay as they were
further_on : (m : List ℕ) (at n k : ℕ) → ((a : ℕ) → at ≤ a → get_or m a free ≡ free)
    → (a : ℕ) → at + n ≤ a → get_or (sets m at (replicate n k)) a free ≡ free
further_on m at n k f a l =
    sets-other (replicate n k) m at a (λ i h e. omega (arith, length-replicate n k)) ∙ f a (omega arith)

module _ {memory marks : List ℕ} (most : length memory ≤ most_cells) where
  passed : {at : ℕ} {es : List Entry} → Good memory marks at es → (k : ℕ) (bs : List Bound) (m : List ℕ)
      → ((a : ℕ) → at ≤ a → get_or m a free ≡ free)
      → Passed (length memory) k (place_at at bs m) (map said_in es)
  unfolding Passed does taken
  passed {at} (ends-here f) k bs m z = (passes_line (length memory) k at bs m Finish tt refl refl refl, tt)
  passed {at} (skips {es = es} n l h f g) k bs m z =
      let o = Origin (record { 0 = n }) in
      let a = after-entry at bs m o h in (
        passes_line (length memory) k at bs m o h refl refl refl,
        subst (λ (p : Place). Passed (length memory) (k + 1) p (map said_in es)) (sym a.1) (passed g (k + 1) a.0 m (λ b t. z b (omega arith))),
      )
  passed {at} (gives {es = es} e c h l g) k bs m z =
      let w = claims_writable e c in
      let n = length (cells_in e) in
      let a = after-entry at bs m e w in
      let y = entry-claims e w in
      let m' = sets m at (replicate n (mark_in e)) in (
        passes_line (length memory) k at bs m e w (not_too_far at e (omega arith))
            (subst (λ (j : ℕ). (ltb 0 j && ltb (length memory) (at + j)) ≡ false) (sym y) (not-past (length memory) at n l))
            (subst (λ (j : ℕ). taken m at j ≡ false) (sym y) (untaken m at n (λ i t. z (at + i) (omega arith)))),
        subst (λ (p : Place). Passed (length memory) (k + 1) p (map said_in es)) (sym a.1)
            (subst (λ (b : ℕ). Passed (length memory) (k + 1) (place_at b a.0 m') (map said_in es)) (sym (claims-next at e c))
            (passed g (k + 1) a.0 m' (further_on m at n (mark_in e) z))),
      )

-- ---- after the last line

none-waits : (es : List Entry) → AllWritable es → (at : ℕ) (bs : List Bound) (m : List ℕ)
    → (place_after (place_at at bs m) (map judged_line (map said_in es))).waiting ≡ []
unfolding place_after
none-waits [] h at bs m = refl
none-waits (e ∷ es) h at bs m =
    let a = after-entry at bs m e h.0 in
    ap (λ (p : Place). (place_after p (map judged_line (map said_in es))).waiting) a.1 ∙ none-waits es h.1 _ a.0 _

-- no operand names a label
no_use : (k at : ℕ) (e : Entry) → uses_by k (line_of e) at (statement_in e) ≡ []
unfolding uses_by
no_use k at (Origin a) = refl
no_use k at (Instructs i) = refl
no_use k at (Holds x) = refl
no_use k at (Reserves n) = refl
no_use k at Finish = refl

no_uses : (es : List Entry) → AllWritable es → (k at : ℕ) → uses_of k at (map judged_line (map said_in es)) ≡ []
unfolding uses_of
no_uses [] h k at = refl
no_uses (e ∷ es) h k at =
    ap (λ (x : Judged). uses_of k at (x ∷ map judged_line (map said_in es))) (judged-in e h.0)
    ∙ ap₂ (λ (us vs : List Use). us ++ vs) (no_use k at e) (no_uses es h.1 (k + 1) _)

-- ---- the image

unfoldable entry_blocks : ℕ → List Entry → List Block
entry_blocks at [] = []
entry_blocks at (e ∷ es) = record { from = at; mark = mark_in e; given = cells_in e } ∷ entry_blocks (next_in at e) es

blocks-are : (bs : List Bound) (es : List Entry) → AllWritable es → (at : ℕ) → blocks_of bs at (map said_in es) ≡ entry_blocks at es
unfolding blocks_of entry_blocks
blocks-are bs [] h at = refl
blocks-are bs (e ∷ es) h at =
    let j = entry-judged e h.0 in
    let next = moved_by (does_read (judged (reading_in e))).moves at in
    let n : next ≡ next_in at e = ap (λ (s : Result Statement Failure). moved_by (does_read s).moves at) j ∙ entry-moves at e h.0 in
    let k : (does_read (judged (reading_in e))).mark ≡ mark_in e = ap (λ (s : Result Statement Failure). (does_read s).mark) j ∙ entry-mark e in
    ap₂ (λ (b : Block) (cs : List Block). b ∷ cs)
    (ap₂ (λ (y : ℕ) (g : List ℕ). record { from = at; mark = y; given = g }) k (entry_gives bs next e h.0))
    (ap (λ (a : ℕ). blocks_of bs a (map said_in es)) n ∙ blocks-are bs es h.1 (next_in at e))

module _ {memory marks : List ℕ} where
  block_holds : {at : ℕ} {es : List Entry} → Good memory marks at es → (b : Block) → Memᴰ b (entry_blocks at es) → (i : ℕ) → i < length b.given
      → (get_or memory (b.from + i) 0 ≡ get_or b.given i 0) × (get_or marks (b.from + i) free ≡ b.mark)
  unfolding entry_blocks
  block_holds (ends-here f) b (Memᴰ.head e) i l = absurd (omega (arith, ap (λ (c : Block). length c.given) e))
  block_holds (ends-here f) b (Memᴰ.tail m) i l = elim m [ ]
  block_holds (skips n t h f g) b (Memᴰ.head e) i l = absurd (omega (arith, ap (λ (c : Block). length c.given) e))
  block_holds (skips n t h f g) b (Memᴰ.tail m) i l = block_holds g b m i l
  block_holds {at} (gives e c h t g) b (Memᴰ.head q) i l =
      subst (λ (d : Block). (j : ℕ) → j < length d.given → (get_or memory (d.from + j) 0 ≡ get_or d.given j 0) × (get_or marks (d.from + j) free ≡ d.mark))
      (sym q) h i l
  block_holds {at} (gives {es = es} e c h t g) b (Memᴰ.tail m) i l =
      block_holds g b (subst (λ (a : ℕ). Memᴰ b (entry_blocks a es)) (claims-next at e c) m) i l

  not_listed : {at : ℕ} {es : List Entry} → Good memory marks at es → (a : ℕ) → at ≤ a
      → ((b : Block) → Memᴰ b (entry_blocks at es) → Has b a → ⊥)
      → get_or marks a free ≡ free
  unfolding entry_blocks
  not_listed (ends-here f) a l n = f a l
  not_listed (skips k t h f g) a l n =
      elim (dec_lt a k) [
        | yes u ↦ f a l u
        | no u ↦ not_listed g a (omega arith) (λ b m. n b (Memᴰ.tail m))
      ]
  not_listed {at} (gives {es = es} e c h t g) a l n =
      elim (dec_lt a (at + length (cells_in e))) [
        | yes u ↦ absurd (n (record { from = at; mark = mark_in e; given = cells_in e }) (Memᴰ.head refl) (a - at, omega arith, omega arith))
        | no u ↦
            not_listed g a (omega arith)
            (λ b m. n b (Memᴰ.tail (subst (λ (x : ℕ). Memᴰ b (entry_blocks x es)) (sym (claims-next at e c)) m)))
      ]

  module _ (free-zero : HoldZero memory marks free) (same_length : length marks ≡ length memory)
      (some : 1 ≤ length memory) (most : length memory ≤ most_cells) where
    good-image : (bs : List Bound) {es : List Entry} → Good memory marks 0 es → Image (length memory) (blocks_of bs 0 (map said_in es)) memory marks
    good-image bs {es} g =
        subst (λ (cs : List Block). Image (length memory) cs memory marks) (sym (blocks-are bs es (good_writable g) 0))
        (record {
          memory-long = refl;
          map-long = same_length;
          given = block_holds g;
          elsewhere = λ a n. let z = not_listed g a (omega arith) n in (free-zero a z, z);
        })

    -- what agrees with memory and map is accepted, and gives them back
    pub good-accepted : {es : List Entry} → Good memory marks 0 es → length (text_of_lines es) ≤ 32768
        → Accepted (length memory) (length marks) (text_of_lines es) memory marks
    unfolding loan_checks Pass late_checks end_checks use_checks start
    good-accepted {es} g t =
        let w = good_writable g in
        let p = none-waits es w 0 [] (replicate (length memory) free) in
        let late = place_after (start (length memory)) (map judged_line (map said_in es)) in
        record {
          reading = map said_in es;
          passing = record {
            loans = (λ z. elim z [ inl e ↦ omega arith | inr x ↦ elim x [ inl e ↦ omega arith | inr f ↦ f same_length ] ], (λ z. omega arith, tt));
            text = good-text g;
            lines = passed most g 1 [] (replicate (length memory) free) (λ a l. zero-there (length memory) a);
            labels = (
              λ z. let y = ap length p in omega (arith, z.0, y),
              subst (λ (us : List Use). Pass (use_checks (bindings late) us)) (sym (no_uses es w 1 0)) tt,
            );
          };
          image = good-image _ g;
        }
