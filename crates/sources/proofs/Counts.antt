-- The cells with a mark, counted on the map, are as many as the statements with that mark give.
use Prim.Native.Nat.{ℕ, zero, suc, ◌+◌, ◌≤◌, ◌<◌}
use mathlib.Core.Bool.{Bool, true, false, cond}
use mathlib.Core.List.{List, [], ◌∷◌, map}
use mathlib.Core.Path.{◌≡◌, refl, sym, ap, ◌∙◌}
use native.Mathlib.Omega.{arith}
use lib.Dec.{eqb}
use lib.ListN.{length, get_or, replicate, set, length-set, length-replicate}
use lib.Seq.{sets, get_or-set_other}
use borrow.Author.Tests.{ne_eqb}
use Rattle.statements.specs.Judging.{judged}
use Rattle.codes.specs.Marks.{free, code_mark, data_mark, reserved_mark}
use Rattle.sources.specs.Sources.{Said}
use Rattle.sources.specs.Placing.{does_read, Bound, Place, start, acted, judged_line, after, place_after, place_of, bindings}
use Rattle.sources.specs.Order.{Passed}
use Rattle.sources.specs.Image.{Block, block_of, blocks_of, blocks, Accepted, cells_marked}
use Rattle.sources.specs.Inner.Assembling.{start_work, work_after}
use Rattle.sources.proofs.Filling.{Read, all_read, fits, marks-long, work-marks}
use Rattle.sources.proofs.Images.{image-there, one-image}

-- a number, where a mark is the one that is counted
abbrev counted : Bool → ℕ → ℕ
counted b n = cond b n 0

-- how many cells the blocks with a mark have together
unfoldable pub cells_of_mark : ℕ → List Block → ℕ
cells_of_mark k [] = 0
cells_of_mark k (b ∷ bs) = cond (eqb b.mark k) (length b.given) 0 + cells_of_mark k bs

module _ (k : ℕ) (used : k ≡ free → ⊥) where
  not_free : eqb free k ≡ false
  not_free = ne_eqb free k (λ e. used (sym e))

  -- one more, where the new mark is counted
  one_more : (b : Bool) (n : ℕ) → cond b (suc n) n ≡ counted b 1 + n
  one_more true n = omega arith
  one_more false n = omega arith

  -- a free cell gets a mark
  set-counted : (m : List ℕ) (i v : ℕ) → i < length m → get_or m i free ≡ free → cells_marked k (set m i v) ≡ counted (eqb v k) 1 + cells_marked k m
  unfolding cells_marked
  set-counted [] i v h e = absurd (omega arith)
  set-counted (x ∷ m) zero v h e =
      let q : cells_marked k (x ∷ m) ≡ cells_marked k m =
      ap (λ (y : ℕ). cond (eqb y k) (suc (cells_marked k m)) (cells_marked k m)) e
      ∙ ap (λ (b : Bool). cond b (suc (cells_marked k m)) (cells_marked k m)) not_free in
      one_more (eqb v k) (cells_marked k m) ∙ ap (λ (n : ℕ). counted (eqb v k) 1 + n) (sym q)
  set-counted (x ∷ m) (suc i) v h e =
      go (eqb x k) (cells_marked k (set m i v)) (cells_marked k m) (set-counted m i v (omega arith) e)
    where
      go : (b : Bool) (n l : ℕ) → n ≡ counted (eqb v k) 1 + l → cond b (suc n) n ≡ counted (eqb v k) 1 + cond b (suc l) l
      go true n l q = omega (arith, q)
      go false n l q = q

  suc-counted : (b : Bool) (n c d l : ℕ) → c ≡ counted b n + d → d ≡ counted b 1 + l → c ≡ counted b (suc n) + l
  suc-counted true n c d l e f = omega (arith, e, f)
  suc-counted false n c d l e f = omega (arith, e, f)

  none-counted : (b : Bool) (n : ℕ) → n ≡ counted b 0 + n
  none-counted true n = omega arith
  none-counted false n = omega arith

  -- free cells in a row get a mark
  sets-counted : (n at v : ℕ) (m : List ℕ) → (0 < n → at + n ≤ length m) → ((i : ℕ) → i < n → get_or m (at + i) free ≡ free)
      → cells_marked k (sets m at (replicate n v)) ≡ counted (eqb v k) n + cells_marked k m
  sets-counted zero at v m w u = none-counted (eqb v k) (cells_marked k m)
  sets-counted (suc n) at v m w u =
      let l = w (omega arith) in
      let z : at + 0 ≡ at = omega arith in
      let now : get_or m at free ≡ free = ap (λ (a : ℕ). get_or m a free) (sym z) ∙ u 0 (omega arith) in
      let later : (i : ℕ) → i < n → get_or (set m at v) (suc at + i) free ≡ free =
      λ i h.
      let e : suc at + i ≡ at + suc i = omega arith in
      get_or-set_other m at (suc at + i) v free (λ q. omega arith) ∙ ap (λ (a : ℕ). get_or m a free) e ∙ u (suc i) (omega arith) in
      suc-counted (eqb v k) n (cells_marked k (sets (set m at v) (suc at) (replicate n v))) (cells_marked k (set m at v)) (cells_marked k m)
      (sets-counted n (suc at) v (set m at v) (λ h. omega (arith, length-set m at v)) later) (set-counted m at v (omega arith) now)

  zeros-counted : (n : ℕ) → cells_marked k (replicate n free) ≡ 0
  unfolding cells_marked
  zeros-counted zero = refl
  zeros-counted (suc n) =
      ap (λ (b : Bool). cond b (suc (cells_marked k (replicate n free))) (cells_marked k (replicate n free))) not_free ∙ zeros-counted n

  -- lines that pass add their own cells
  lines-counted : (M n : ℕ) (bs : List Bound) (p : Place) (xs : List Said) → length p.marks ≡ M → Read xs → Passed M n p xs
      → cells_marked k (place_after p (map judged_line xs)).marks ≡ cells_of_mark k (blocks_of bs p.at xs) + cells_marked k p.marks
  unfolding place_after Passed after acted blocks_of cells_of_mark
  lines-counted M n bs p [] l s h = omega arith
  lines-counted M n bs p (x ∷ xs) l s h =
      let f = fits M n bs p x s.0 h.0 in
      let a = does_read (judged x.says) in
      let q = after p (judged_line x) in
      let b = block_of bs p.at x in
      let here = eqb a.mark k in
      let own : cells_marked k q.marks ≡ counted here a.claims + cells_marked k p.marks =
      sets-counted a.claims p.at a.mark p.marks (λ w. omega (arith, f.within w)) f.untaken in
      let given : counted here (length b.given) ≡ counted here a.claims = ap (counted here) f.given-long in
      let rest = lines-counted M (n + 1) bs q xs (marks-long p (judged_line x) ∙ l) s.1 h.1 in
      omega (arith, own, given, rest)

  -- the map of a source whose lines pass
  pub marked-counted : (M : ℕ) (xs : List Said) → Read xs → Passed M 1 (start M) xs
      → cells_marked k (work_after 1 (start_work M) (map judged_line xs)).place.marks ≡ cells_of_mark k (blocks M xs)
  unfolding start
  marked-counted M xs s h =
      let c = lines-counted M 1 (bindings (place_of M xs)) (start M) xs (length-replicate {A = ℕ} M 0) s h in
      let z = zeros-counted M in
      ap (cells_marked k) (work-marks M xs) ∙ omega (arith, c, z)

  -- the map of an accepted source
  pub accepted-counted : {M N : ℕ} {source memory marks : List ℕ} (a : Accepted M N source memory marks)
      → cells_marked k marks ≡ cells_of_mark k (blocks M a.reading)
  accepted-counted {M} a =
      let s = all_read a.passing.text.read in
      let h = a.passing.lines in
      ap (cells_marked k) (one-image a.image (image-there M a.reading s h)).1 ∙ marked-counted M a.reading s h

-- "the numbers of code and data cells", and of reserved ones: those of the instructions' blocks, of DATA's and of RES's
pub code-cells : {M N : ℕ} {source memory marks : List ℕ} (a : Accepted M N source memory marks)
    → cells_marked code_mark marks ≡ cells_of_mark code_mark (blocks M a.reading)
code-cells = accepted-counted code_mark (λ e. omega arith)

pub data_cells : {M N : ℕ} {source memory marks : List ℕ} (a : Accepted M N source memory marks)
    → cells_marked data_mark marks ≡ cells_of_mark data_mark (blocks M a.reading)
data_cells = accepted-counted data_mark (λ e. omega arith)

pub reserved-cells : {M N : ℕ} {source memory marks : List ℕ} (a : Accepted M N source memory marks)
    → cells_marked reserved_mark marks ≡ cells_of_mark reserved_mark (blocks M a.reading)
reserved-cells = accepted-counted reserved_mark (λ e. omega arith)
