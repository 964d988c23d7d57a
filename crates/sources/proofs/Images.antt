-- The image of a reading that passes every check: there is one, and only one, and the assembler as a function leaves it.
use Prim.Native.Nat.{ℕ, ◌+◌, ◌-◌, ◌≤◌, ◌<◌}
use mathlib.Core.Bool.{Bool, true, false}
use mathlib.Core.List.{List, [], ◌∷◌, map, Memᴰ}
use mathlib.Core.Logic.{◌⊎◌, inl, inr}
use mathlib.Core.Path.{◌≡◌, refl, sym, ap, subst, ◌∙◌}
use native.Mathlib.Omega.{arith}
use lib.Dec.{ltb}
use lib.ListN.{length, get_or, replicate, length-replicate, get_or-replicate}
use lib.Seq.{sets, length-sets, ext_get_or}
use borrow.Author.Tests.{ltb-true, ltb-false}
use Rattle.statements.specs.FirstFailing.{Pass}
use Rattle.statements.specs.Statements.{Says}
use Rattle.statements.specs.Judging.{judged}
use Rattle.codes.specs.Marks.{free}
use Rattle.sources.specs.Sources.{Said}
use Rattle.sources.specs.Placing.{does_read, Bound, Place, start, acted, judged_line, after, place_after, place_of, next_from, bindings}
use Rattle.sources.specs.Order.{line_checks, Passed}
use Rattle.sources.specs.Image.{Block, block_of, blocks_of, blocks, Has, Apart, Image}
use Rattle.sources.specs.Inner.Assembling.{start_work, work_after, memory_of}
use Rattle.sources.proofs.Stores.{Outside, sets-other, sets_same, zero-there}
use Rattle.sources.proofs.Filling.{Read, fits, still-free, was_free, marks-long, written, memory-written, work-marks}

-- ---- from a place on, over a memory

-- what holds of memory and map behind the lines, by what held before them
record Filled (bs : List Block) (m k m' k' : List ℕ) : Type 0 where
  memory-long : length m' ≡ length m
  map-long : length k' ≡ length k
  kept : (a : ℕ) → (get_or k a free ≡ free → ⊥) → (get_or m' a 0 ≡ get_or m a 0) × (get_or k' a free ≡ get_or k a free)
  given : (b : Block) → Memᴰ b bs → (i : ℕ) → i < length b.given
      → (get_or m' (b.from + i) 0 ≡ get_or b.given i 0) × (get_or k' (b.from + i) free ≡ b.mark)
  elsewhere : (a : ℕ) → ((b : Block) → Memᴰ b bs → Has b a → ⊥) → (get_or m' a 0 ≡ get_or m a 0) × (get_or k' a free ≡ get_or k a free)

-- one block before others
module _ (b : Block) (bs : List Block) (m k m' k' : List ℕ)
    (there : 0 < length b.given → (b.from + length b.given ≤ length m) × (b.from + length b.given ≤ length k))
    (marks : 0 < length b.given → b.mark ≡ free → ⊥) (untaken : (i : ℕ) → i < length b.given → get_or k (b.from + i) free ≡ free) where
  abbrev m₁ : List ℕ
  m₁ = sets m b.from b.given

  abbrev k₁ : List ℕ
  k₁ = sets k b.from (replicate (length b.given) b.mark)

  out_of : (a : ℕ) → Outside a b.from (length b.given) → (get_or m₁ a 0 ≡ get_or m a 0) × (get_or k₁ a free ≡ get_or k a free)
  out_of a o = (
    sets-other b.given m b.from a o,
    sets-other (replicate (length b.given) b.mark) k b.from a
        (λ i h e. o i (omega (arith, length-replicate (length b.given) b.mark)) e),
  )

  here : (i : ℕ) → i < length b.given → (get_or m₁ (b.from + i) 0 ≡ get_or b.given i 0) × (get_or k₁ (b.from + i) free ≡ b.mark)
  here i h =
      let n = length b.given in
      let t = there (omega arith) in
      let l = length-replicate n b.mark in (
        sets_same b.given m b.from i t.0 h,
        sets_same (replicate n b.mark) k b.from i (omega (arith, t.1)) (omega arith) ∙ get_or-replicate n i b.mark 0 h,
      )

  fill : Filled bs m₁ k₁ m' k' → Filled (b ∷ bs) m k m' k'
  fill f = record {
    memory-long = f.memory-long ∙ length-sets m b.from b.given;
    map-long = f.map-long ∙ length-sets k b.from (replicate (length b.given) b.mark);
    kept = λ a t.
        let o : Outside a b.from (length b.given) = λ i h e. t (ap (λ (c : ℕ). get_or k c free) e ∙ untaken i h) in
        let u = out_of a o in
        let v = f.kept a (λ e. t (sym u.1 ∙ e)) in
        (v.0 ∙ u.0, v.1 ∙ u.1);
    given = λ c h i l. by c i l h;
    elsewhere = λ a t.
        let u = out_of a (λ i h e. t b (Memᴰ.head refl) (i, h, e)) in
        let v = f.elsewhere a (λ c h s. t c (Memᴰ.tail h) s) in
        (v.0 ∙ u.0, v.1 ∙ u.1);
  }
    where
      first : (i : ℕ) → i < length b.given → (get_or m' (b.from + i) 0 ≡ get_or b.given i 0) × (get_or k' (b.from + i) free ≡ b.mark)
      first i l =
          let u = here i l in
          let v = f.kept (b.from + i) (λ e. marks (omega arith) (sym u.1 ∙ e)) in
          (v.0 ∙ u.0, v.1 ∙ u.1)

      by : (c : Block) (i : ℕ) → i < length c.given → Memᴰ c (b ∷ bs)
          → (get_or m' (c.from + i) 0 ≡ get_or c.given i 0) × (get_or k' (c.from + i) free ≡ c.mark)
      by c i l (Memᴰ.head e) =
          subst (λ (d : Block). i < length d.given → (get_or m' (d.from + i) 0 ≡ get_or d.given i 0) × (get_or k' (d.from + i) free ≡ d.mark))
          (sym e) (first i) l
      by c i l (Memᴰ.tail h) = f.given c h i l

-- the same, by the number of cells that is claimed
line-fills : (M : ℕ) (b : Block) (bs : List Block) (m k m' k' : List ℕ) (count : ℕ) → length b.given ≡ count → length m ≡ M → length k ≡ M
    → (0 < count → b.from + count ≤ M)
    → (0 < count → b.mark ≡ free → ⊥)
    → ((i : ℕ) → i < count → get_or k (b.from + i) free ≡ free)
    → Filled bs (sets m b.from b.given) (sets k b.from (replicate count b.mark)) m' k'
    → Filled (b ∷ bs) m k m' k'
line-fills M b bs m k m' k' count c lm lk within marks untaken f =
    let g = subst (λ (n : ℕ). Filled bs (sets m b.from b.given) (sets k b.from (replicate n b.mark)) m' k') (sym c) f in
    fill b bs m k m' k' (λ h. (omega (arith, within (omega arith)), omega (arith, within (omega arith)))) (λ h. marks (omega arith))
    (λ i h. untaken i (omega arith)) g

-- ---- the lines

lines-fill : (M n : ℕ) (bs : List Bound) (p : Place) (m : List ℕ) (xs : List Said) → length m ≡ M → length p.marks ≡ M → Read xs → Passed M n p xs
    → Filled (blocks_of bs p.at xs) m p.marks (written bs p.at xs m) (place_after p (map judged_line xs)).marks
unfolding blocks_of written place_after Passed after acted
lines-fill M n bs p m [] lm lk x h = record {
  memory-long = refl;
  map-long = refl;
  kept = λ a t. (refl, refl);
  given = λ b t i l. elim t [ ];
  elsewhere = λ a t. (refl, refl);
}
lines-fill M n bs p m (x ∷ xs) lm lk s h =
    let a = does_read (judged x.says) in
    let b = block_of bs p.at x in
    let next = next_from p.at (judged_line x) in
    let q = after p (judged_line x) in
    let f = fits M n bs p x s.0 h.0 in
    let cells = sets m p.at b.given in
    line-fills M b (blocks_of bs next xs) m p.marks (written bs next xs cells) (place_after q (map judged_line xs)).marks a.claims f.given-long
    lm lk f.within f.marking f.untaken
    (lines-fill M (n + 1) bs q cells xs (length-sets m p.at b.given ∙ lm) (marks-long p (judged_line x) ∙ lk) s.1 h.1)

-- ---- the image is there

-- what the lines give over zeros, with any values for the labels
image-given : (M : ℕ) (bs : List Bound) (xs : List Said) → Read xs → Passed M 1 (start M) xs
    → Image M (blocks_of bs 0 xs) (written bs 0 xs (replicate M 0)) (place_of M xs).marks
unfolding start
image-given M bs xs s h =
    let l = length-replicate {A = ℕ} M 0 in
    let f = lines-fill M 1 bs (start M) (replicate M 0) xs l l s h in
    record {
      memory-long = f.memory-long ∙ l;
      map-long = f.map-long ∙ l;
      given = f.given;
      elsewhere = λ a t. let u = f.elsewhere a t in (u.0 ∙ zero-there M a, u.1 ∙ zero-there M a);
    }

-- what the walk leaves is the image
pub image-there : (M : ℕ) (xs : List Said) → Read xs → Passed M 1 (start M) xs
    → Image M (blocks M xs) (memory_of (work_after 1 (start_work M) (map judged_line xs))) (work_after 1 (start_work M) (map judged_line xs)).place.marks
image-there M xs s h =
    let w = work_after 1 (start_work M) (map judged_line xs) in
    let i = image-given M (bindings (place_of M xs)) xs s h in
    subst (λ (k : List ℕ). Image M (blocks M xs) (memory_of w) k) (sym (work-marks M xs))
    (subst (λ (m : List ℕ). Image M (blocks M xs) m (place_of M xs).marks) (sym (memory-written M xs s h)) i)

-- ---- one image

-- a block has a cell or not
pub has : (b : Block) (a : ℕ) → Has b a ⊎ (Has b a → ⊥)
has b a = go (ltb a b.from) (ltb a (b.from + length b.given)) refl refl
  where
    go : (c d : Bool) → ltb a b.from ≡ c → ltb a (b.from + length b.given) ≡ d → Has b a ⊎ (Has b a → ⊥)
    go true d e f = let l = ltb-true a b.from e in inr (λ h. omega (arith, h.1, h.2))
    go false true e f =
        let l = ltb-false a b.from e in
        let u = ltb-true a (b.from + length b.given) f in
        inl (a - b.from, omega arith, omega arith)
    go false false e f = let u = ltb-false a (b.from + length b.given) f in inr (λ h. omega (arith, h.1, h.2))

abbrev pub Somewhere : List Block → ℕ → Type 0
Somewhere bs a = (b : Block) × Memᴰ b bs × Has b a

abbrev pub Nowhere : List Block → ℕ → Type 0
Nowhere bs a = (b : Block) → Memᴰ b bs → Has b a → ⊥

-- a cell is in one of some blocks or in none
pub somewhere : (bs : List Block) (a : ℕ) → Somewhere bs a ⊎ Nowhere bs a
somewhere [] a = inr (λ b m h. elim m [ ])
somewhere (c ∷ bs) a = go (has c a) (somewhere bs a)
  where
    not-here : (Has c a → ⊥) → Nowhere bs a → (b : Block) → Memᴰ b (c ∷ bs) → Has b a → ⊥
    not-here n t b (Memᴰ.head e) h = n (subst (λ (d : Block). Has d a) e h)
    not-here n t b (Memᴰ.tail m) h = t b m h

    go : Has c a ⊎ (Has c a → ⊥) → Somewhere bs a ⊎ Nowhere bs a → Somewhere (c ∷ bs) a ⊎ Nowhere (c ∷ bs) a
    go (inl h) s = inl (c, Memᴰ.head refl, h)
    go (inr n) (inl s) = inl (s.0, Memᴰ.tail s.1, s.2)
    go (inr n) (inr t) = inr (not-here n t)

module _ {M : ℕ} {bs : List Block} {m k m' k' : List ℕ} (x : Image M bs m k) (y : Image M bs m' k') where
  cell-alike : (a : ℕ) → (get_or m a 0 ≡ get_or m' a 0) × (get_or k a 0 ≡ get_or k' a 0)
  cell-alike a = go (somewhere bs a)
    where
      go : Somewhere bs a ⊎ Nowhere bs a → (get_or m a 0 ≡ get_or m' a 0) × (get_or k a 0 ≡ get_or k' a 0)
      go (inl (b, t, (i, l, e))) =
          let u = x.given b t i l in
          let v = y.given b t i l in
          subst (λ (c : ℕ). (get_or m c 0 ≡ get_or m' c 0) × (get_or k c 0 ≡ get_or k' c 0)) (sym e) (u.0 ∙ sym v.0, u.1 ∙ sym v.1)
      go (inr t) =
          let u = x.elsewhere a t in
          let v = y.elsewhere a t in
          (u.0 ∙ sym v.0, u.1 ∙ sym v.1)

  -- blocks have one image at most
  pub one-image : (m ≡ m') × (k ≡ k')
  one-image = (
    ext_get_or 0 m m' (x.memory-long ∙ sym y.memory-long) (λ i h. (cell-alike i).0),
    ext_get_or 0 k k' (x.map-long ∙ sym y.map-long) (λ i h. (cell-alike i).1),
  )

-- ---- no cell is claimed by two statements

-- behind a line: its cells are marked, and what is free was free before
record Behind (p : Place) (b : Block) (marks : List ℕ) : Type 0 where
  taken-now : (a : ℕ) → Has b a → get_or marks a free ≡ free → ⊥
  free-before : (a : ℕ) → get_or marks a free ≡ free → get_or p.marks a free ≡ free

module _ (M : ℕ) (bs : List Bound) where
  behind : (n : ℕ) (p : Place) (x : Said) → length p.marks ≡ M → Says x.bytes x.label x.says → Pass (line_checks M n p x.bytes)
      → Behind p (block_of bs p.at x) (after p (judged_line x)).marks
  behind n p x l s h =
      let f = fits M n bs p x s h in
      record {
        taken-now = λ a u e. still-free x f l a e u.0 (omega (arith, u.1, f.given-long)) u.2;
        free-before = λ a e. was_free x f l a e;
      }

  untaken_block : (n : ℕ) (p : Place) (x : Said) → Says x.bytes x.label x.says → Pass (line_checks M n p x.bytes) → (a : ℕ)
      → Has (block_of bs p.at x) a
      → get_or p.marks a free ≡ free
  untaken_block n p x s h a u =
      let f = fits M n bs p x s h in
      ap (λ (j : ℕ). get_or p.marks j free) u.2 ∙ f.untaken u.0 (omega (arith, u.1, f.given-long))

  -- the cells of what follows are free as yet
  free_yet : (n : ℕ) (p : Place) (xs : List Said) → length p.marks ≡ M → Read xs → Passed M n p xs → (b : Block)
      → Memᴰ b (blocks_of bs p.at xs)
      → (a : ℕ)
      → Has b a
      → get_or p.marks a free ≡ free
  unfolding blocks_of Passed after acted
  free_yet n p [] l s h b t a u = elim t [ ]
  free_yet n p (x ∷ xs) l s h b t a u =
      by t (λ m. free_yet (n + 1) (after p (judged_line x)) xs (marks-long p (judged_line x) ∙ l) s.1 h.1 b m a u)
    where
      by : Memᴰ b (block_of bs p.at x ∷ blocks_of bs (after p (judged_line x)).at xs)
          → (Memᴰ b (blocks_of bs (after p (judged_line x)).at xs) → get_or (after p (judged_line x)).marks a free ≡ free)
          → get_or p.marks a free ≡ free
      by (Memᴰ.head e) f = untaken_block n p x s.0 h.0 a (subst (λ (c : Block). Has c a) e u)
      by (Memᴰ.tail m) f = (behind n p x l s.0 h.0).free-before a (f m)

  lines-apart : (n : ℕ) (p : Place) (xs : List Said) → length p.marks ≡ M → Read xs → Passed M n p xs → Apart (blocks_of bs p.at xs)
  unfolding blocks_of Passed after acted Apart
  lines-apart n p [] l s h = tt
  lines-apart n p (x ∷ xs) l s h =
      let k = marks-long p (judged_line x) ∙ l in (
        λ c m a u v. (behind n p x l s.0 h.0).taken-now a u (free_yet (n + 1) (after p (judged_line x)) xs k s.1 h.1 c m a v),
        lines-apart (n + 1) (after p (judged_line x)) xs k s.1 h.1,
      )

-- no cell is in two blocks of lines that pass
pub apart : (M : ℕ) (xs : List Said) → Read xs → Passed M 1 (start M) xs → Apart (blocks M xs)
unfolding start
apart M xs s h = lines-apart M (bindings (place_of M xs)) 1 (start M) xs (length-replicate {A = ℕ} M 0) s h
