-- The runs cover exactly the claimed cells, in the order of addresses.
use Prim.Native.Nat.{ℕ, zero, suc, ◌+◌, ◌-◌, ◌≤◌, ◌<◌}
use mathlib.Core.Bool.{Bool, true, false, cond, ◌&&◌, false≢true}
use mathlib.Core.List.{List, [], ◌∷◌, ◌++◌}
use mathlib.Core.Path.{◌≡◌, refl, sym, ap, ap₂, subst, ◌∙◌}
use native.Mathlib.Decide.{dec_lt}
use native.Mathlib.Omega.{arith}
use lib.Dec.{eqb}
use lib.ListN.{length, get_or, drop, length-drop, length-append, get_or-append}
use lib.Seq.{ext_get_or, get_or-drop, get_or-append-add}
use borrow.Author.Tests.{eqb-true, eqb-false, eq-eqb}
use Rattle.codes.specs.Marks.{free}
use Rattle.image.proofs.Texts.{both_true}
use Rattle.listing.specs.Runs.{Run, run, HoldCells, Free, FirstRun, Runs, over, next}
use Rattle.listing.specs.Inner.Walk.{joined, runs_from}

-- ---- a part of a run's cells

module _ (memory marks : List ℕ) (at k : ℕ) (xs ys : List ℕ) (h : HoldCells memory marks at (xs ++ ys) k) where
  pub first_part : HoldCells memory marks at xs k
  first_part i l =
      let p = h i (omega (arith, length-append xs ys)) in
      (p.0 ∙ get_or-append xs ys 0 i l, p.1)

  pub second_part : HoldCells memory marks (at + length xs) ys k
  second_part i l =
      let p = h (length xs + i) (omega (arith, length-append xs ys)) in
      let z : at + length xs + i ≡ at + (length xs + i) = omega arith in
      (ap (λ (a : ℕ). get_or memory a 0) z ∙ p.0 ∙ get_or-append-add xs ys i 0, ap (λ (a : ℕ). get_or marks a free) z ∙ p.1)

-- ---- the walk finds runs

module _ (memory marks : List ℕ) where
  -- a free cell before
  widen : {at : ℕ} {rs : List Run} → get_or marks at free ≡ free → Runs memory marks (at + 1) rs → Runs memory marks at rs
  widen {at} z (over f) = over (λ a l. go a l (eqb a at) refl)
    where
      go : (a : ℕ) → at ≤ a → (b : Bool) → eqb a at ≡ b → get_or marks a free ≡ free
      go a l true e = subst (λ (x : ℕ). get_or marks x free ≡ free) (sym (eqb-true a at e)) z
      go a l false e = let n = eqb-false a at e in f a (omega (arith, n))
  widen {at} z (next {r = r} c d) =
      next {at = at} {r = r} (record {
        further = omega (arith, c.further);
        between = λ a l u. go a l u (eqb a at) refl;
        agrees = c.agrees;
        within = c.within;
        some = c.some;
        claimed = c.claimed;
        stops = c.stops;
      }) d
    where
      go : (a : ℕ) → at ≤ a → a < r.from → (b : Bool) → eqb a at ≡ b → get_or marks a free ≡ free
      go a l u true e = subst (λ (x : ℕ). get_or marks x free ≡ free) (sym (eqb-true a at e)) z
      go a l u false e = let n = eqb-false a at e in c.between a (omega (arith, n)) u

  module _ (at k x : ℕ) (mem : get_or memory at 0 ≡ x) (mk : get_or marks at free ≡ k) (here : at + 1 ≤ length memory)
      (claimed : k ≡ free → ⊥) where
    nothing-between : Free marks at at
    nothing-between a l u = absurd (omega arith)

    one_cell : HoldCells memory marks at (x ∷ []) k
    one_cell zero l = let z : at + 0 ≡ at = omega arith in (ap (λ (a : ℕ). get_or memory a 0) z ∙ mem, ap (λ (a : ℕ). get_or marks a free) z ∙ mk)
    one_cell (suc i) l = absurd (omega arith)

    alone : (get_or marks (at + 1) free ≡ k → ⊥) → FirstRun memory marks at (run at k (x ∷ []))
    alone n = record {
      further = omega arith;
      between = nothing-between;
      agrees = one_cell;
      within = here;
      some = omega arith;
      claimed = claimed;
      stops = n;
    }

    longer : (r : Run) → r.from ≡ at + 1 → r.mark ≡ k → FirstRun memory marks (at + 1) r → FirstRun memory marks at (run at k (x ∷ r.cells))
    longer r e f c = record {
      further = omega arith;
      between = nothing-between;
      agrees = cells;
      within = omega (arith, c.within);
      some = omega arith;
      claimed = claimed;
      stops =
          λ z. let y : r.from + length r.cells ≡ at + suc (length r.cells) = omega arith in
          c.stops (ap (λ (a : ℕ). get_or marks a free) y ∙ z ∙ sym f);
    }
      where
        cells : HoldCells memory marks at (x ∷ r.cells) k
        cells zero l = one_cell zero (omega arith)
        cells (suc i) l =
            let z : r.from + i ≡ at + suc i = omega arith in
            let h = c.agrees i (omega arith) in
            (ap (λ (a : ℕ). get_or memory a 0) (sym z) ∙ h.0, ap (λ (a : ℕ). get_or marks a free) (sym z) ∙ h.1 ∙ f)

    join : (rs : List Run) → Runs memory marks (at + 1) rs → Runs memory marks at (joined at k x rs)
    join [] c = next (alone (λ z. no_more c z)) c
      where
        no_more : Runs memory marks (at + 1) [] → get_or marks (at + 1) free ≡ k → ⊥
        no_more (over f) z = claimed (sym z ∙ f (at + 1) (omega arith))
    join (r ∷ rs) c = go (eqb r.from (at + 1) && eqb r.mark k) refl
      where
        inner : Runs memory marks (at + 1) (r ∷ rs) → FirstRun memory marks (at + 1) r × Runs memory marks (r.from + length r.cells) rs
        inner (next d e) = (d, e)

        go : (b : Bool) → (eqb r.from (at + 1) && eqb r.mark k) ≡ b
            → Runs memory marks at (cond b (run at k (x ∷ r.cells) ∷ rs) (run at k (x ∷ []) ∷ r ∷ rs))
        go true e =
            let p = both_true (eqb r.from (at + 1)) (eqb r.mark k) e in
            let f = eqb-true r.from (at + 1) p.0 in
            let z : r.from + length r.cells ≡ at + suc (length r.cells) = omega arith in
            next (longer r f (eqb-true r.mark k p.1) (inner c).0) (subst (λ (a : ℕ). Runs memory marks a rs) z (inner c).1)
        go false e = next (alone (λ z. differs z (eqb r.from (at + 1)) refl)) c
          where
            differs : get_or marks (at + 1) free ≡ k → (b : Bool) → eqb r.from (at + 1) ≡ b → ⊥
            differs z true q =
                let f = eqb-true r.from (at + 1) q in
                let y : r.from + 0 ≡ at + 1 = omega arith in
                let h = ((inner c).0.agrees 0 (inner c).0.some).1 in
                let m : r.mark ≡ k = sym h ∙ ap (λ (a : ℕ). get_or marks a free) y ∙ z in
                false≢true (sym e ∙ rw (q, eq-eqb r.mark k m))
            differs z false q =
                let n = eqb-false r.from (at + 1) q in
                let l = (inner c).0.further in
                claimed (sym z ∙ (inner c).0.between (at + 1) (omega arith) (omega (arith, n, l)))

  -- memory and map from an address on
  record From (at : ℕ) (ms ks : List ℕ) : Type 0 where
    cells : (i : ℕ) → get_or memory (at + i) 0 ≡ get_or ms i 0
    map : (i : ℕ) → get_or marks (at + i) free ≡ get_or ks i free
    rest : at + length ms ≡ length memory
    as_long : length ks ≡ length ms

  shift : {at x k : ℕ} {ms ks : List ℕ} → From at (x ∷ ms) (k ∷ ks) → From (at + 1) ms ks
  shift {at} f = record {
    cells = λ i. let z : at + 1 + i ≡ at + suc i = omega arith in ap (λ (a : ℕ). get_or memory a 0) z ∙ f.cells (suc i);
    map = λ i. let z : at + 1 + i ≡ at + suc i = omega arith in ap (λ (a : ℕ). get_or marks a free) z ∙ f.map (suc i);
    rest = omega (arith, f.rest);
    as_long = omega (arith, f.as_long);
  }

  covered : (ms ks : List ℕ) (at : ℕ) → From at ms ks → Runs memory marks at (runs_from at ms ks)
  unfolding runs_from
  covered [] [] at f = over {at = at} (λ a l. let z : a ≡ at + (a - at) = omega arith in ap (λ (b : ℕ). get_or marks b free) z ∙ f.map (a - at))
  covered [] (k ∷ ks) at f = absurd (omega (arith, f.as_long))
  covered (x ∷ ms) [] at f = absurd (omega (arith, f.as_long))
  covered (x ∷ ms) (k ∷ ks) at f =
      let z : at + 0 ≡ at = omega arith in
      go (eqb k free) refl (ap (λ (a : ℕ). get_or memory a 0) (sym z) ∙ f.cells 0) (ap (λ (a : ℕ). get_or marks a free) (sym z) ∙ f.map 0)
      (omega (arith, f.rest)) (covered ms ks (at + 1) (shift f))
    where
      go : (b : Bool) → eqb k free ≡ b → get_or memory at 0 ≡ x → get_or marks at free ≡ k → at + 1 ≤ length memory
          → Runs memory marks (at + 1) (runs_from (at + 1) ms ks)
          → Runs memory marks at (cond b (runs_from (at + 1) ms ks) (joined at k x (runs_from (at + 1) ms ks)))
      go true e m n t c = widen (n ∙ eqb-true k free e) c
      go false e m n t c = join at k x m n t (eqb-false k free e) (runs_from (at + 1) ms ks) c

  -- the runs from an address on are those that the walk finds
  pub covered-from : (at : ℕ) → at ≤ length memory → length marks ≡ length memory
      → Runs memory marks at (runs_from at (drop at memory) (drop at marks))
  covered-from at h l =
      covered (drop at memory) (drop at marks) at
      (record {
        cells = λ i. sym (get_or-drop at memory i 0);
        map = λ i. sym (get_or-drop at marks i free);
        rest = omega (arith, length-drop at memory);
        as_long = omega (arith, length-drop at memory, length-drop at marks);
      })

  pub all-covered : length marks ≡ length memory → Runs memory marks 0 (runs_from 0 memory marks)
  all-covered l = covered-from 0 (omega arith) l

-- ---- no other runs

module _ (memory marks : List ℕ) where
  first-mark : {at : ℕ} {r : Run} → FirstRun memory marks at r → get_or marks r.from free ≡ r.mark
  first-mark {r = r} c = let z : r.from ≡ r.from + 0 = omega arith in ap (λ (a : ℕ). get_or marks a free) z ∙ (c.agrees 0 c.some).1

  module _ {at : ℕ} {r s : Run} (c : FirstRun memory marks at r) (d : FirstRun memory marks at s) where
    not-before : r.from < s.from → ⊥
    not-before l = c.claimed (sym (first-mark c) ∙ d.between r.from c.further l)

    not_shorter : r.from ≡ s.from → r.mark ≡ s.mark → length r.cells < length s.cells → ⊥
    not_shorter e k l =
        c.stops (ap (λ (a : ℕ). get_or marks (a + length r.cells) free) e ∙ (d.agrees (length r.cells) l).1 ∙ sym k)

  one-run : {at : ℕ} {r s : Run} → FirstRun memory marks at r → FirstRun memory marks at s → r ≡ s
  one-run {at} {r} {s} c d =
      let e : r.from ≡ s.from = same_from (dec_lt r.from s.from) (dec_lt s.from r.from) in
      let k : r.mark ≡ s.mark = sym (first-mark c) ∙ ap (λ (a : ℕ). get_or marks a free) e ∙ first-mark d in
      let l : length r.cells ≡ length s.cells =
      same_length e k (dec_lt (length r.cells) (length s.cells)) (dec_lt (length s.cells) (length r.cells)) in
      let x : r.cells ≡ s.cells =
      ext_get_or 0 r.cells s.cells l
      (λ i h. sym (c.agrees i h).0 ∙ ap (λ (a : ℕ). get_or memory (a + i) 0) e ∙ (d.agrees i (omega (arith, h, l))).0) in
      ap (λ (a : ℕ). run a r.mark r.cells) e ∙ ap (λ (a : ℕ). run s.from a r.cells) k ∙ ap (run s.from s.mark) x
    where
      same_from : Dec (r.from < s.from) → Dec (s.from < r.from) → r.from ≡ s.from
      same_from (yes l) q = absurd (not-before c d l)
      same_from (no n) (yes l) = absurd (not-before d c l)
      same_from (no n) (no m) = omega arith

      same_length : r.from ≡ s.from → r.mark ≡ s.mark → Dec (length r.cells < length s.cells) → Dec (length s.cells < length r.cells)
          → length r.cells ≡ length s.cells
      same_length e k (yes l) q = absurd (not_shorter c d e k l)
      same_length e k (no n) (yes l) = absurd (not_shorter d c (sym e) (sym k) l)
      same_length e k (no n) (no m) = omega arith

  -- a longest row of cells with one mark: memory and map have one list of runs
  pub one_list : {at : ℕ} {rs ss : List Run} → Runs memory marks at rs → Runs memory marks at ss → rs ≡ ss
  one_list (over f) (over g) = refl
  one_list (over f) (next {r = s} d y) = absurd (d.claimed (sym (first-mark d) ∙ f s.from d.further))
  one_list (next {r = r} c x) (over g) = absurd (c.claimed (sym (first-mark c) ∙ g r.from c.further))
  one_list (next {rs = rs} {r} c x) (next {rs = ss} {r = s} d y) =
      let e = one-run c d in
      ap₂ (λ (a : Run) (bs : List Run). a ∷ bs) e
      (one_list x (subst (λ (a : Run). Runs memory marks (a.from + length a.cells) ss) (sym e) y))
