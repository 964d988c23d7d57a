-- A memory with 0 in its free and reserved cells has the same lines, so that the value of such a cell is never looked at.
use Prim.Native.Nat.{ℕ, zero, suc, ◌+◌, ◌<◌}
use mathlib.Core.Bool.{Bool, true, false, cond, ◌&&◌, ◌||◌}
use mathlib.Core.List.{List, [], ◌∷◌, map}
use mathlib.Core.Path.{◌≡◌, refl, sym, ap, ap₂, ◌∙◌}
use native.Mathlib.Omega.{arith}
use lib.Dec.{eqb}
use lib.ListN.{length, get_or}
use borrow.Author.Tests.{eqb-true, eqb-false, ne_eqb}
use Rattle.codes.specs.Marks.{free, code_mark, reserved_mark}
use Rattle.image.specs.Printing.{good_loan}
use Rattle.listing.specs.Runs.{Run, run}
use Rattle.listing.specs.Listing.{origin_at}
use Rattle.listing.specs.Inner.Walk.{joined, runs_from, Found, joined_by, run_lines, lines_from, list_of}

-- the mark of a cell that holds 0 in an image
abbrev pub empty : ℕ → Bool
empty k = eqb k free || eqb k reserved_mark

-- 0 in every free and every reserved cell
unfoldable pub cleared : List ℕ → List ℕ → List ℕ
cleared [] ks = []
cleared (x ∷ xs) [] = 0 ∷ cleared xs []
cleared (x ∷ xs) (k ∷ ks) = cond (empty k) 0 x ∷ cleared xs ks

pub cleared-length : (ms ks : List ℕ) → length (cleared ms ks) ≡ length ms
unfolding cleared
cleared-length [] ks = refl
cleared-length (x ∷ xs) [] = ap suc (cleared-length xs [])
cleared-length (x ∷ xs) (k ∷ ks) = ap suc (cleared-length xs ks)

-- ---- the runs

-- cells with one mark
unfoldable wiped : ℕ → List ℕ → List ℕ
wiped k [] = []
wiped k (x ∷ xs) = cond (eqb k reserved_mark) 0 x ∷ wiped k xs

wiped-length : (k : ℕ) (xs : List ℕ) → length (wiped k xs) ≡ length xs
unfolding wiped
wiped-length k [] = refl
wiped-length k (x ∷ xs) = ap suc (wiped-length k xs)

wiped-other : (k : ℕ) (xs : List ℕ) → (k ≡ reserved_mark → ⊥) → wiped k xs ≡ xs
unfolding wiped
wiped-other k [] n = refl
wiped-other k (x ∷ xs) n = rw (ne_eqb k reserved_mark n, wiped-other k xs n)

abbrev wipe : Run → Run
wipe r = run r.from r.mark (wiped r.mark r.cells)

wipe-joined : (at k x : ℕ) (rs : List Run) → joined at k (cond (eqb k reserved_mark) 0 x) (map wipe rs) ≡ map wipe (joined at k x rs)
unfolding wiped
wipe-joined at k x [] = refl
wipe-joined at k x (r ∷ rs) = go (cond (eqb k reserved_mark) 0 x) refl (eqb r.from (at + 1)) (eqb r.mark k) refl
  where
    go : (y : ℕ) → cond (eqb k reserved_mark) 0 x ≡ y → (a b : Bool) → eqb r.mark k ≡ b
        → cond (a && b) (run at k (y ∷ wiped r.mark r.cells) ∷ map wipe rs) (run at k (y ∷ []) ∷ wipe r ∷ map wipe rs)
        ≡ map wipe (cond (a && b) (run at k (x ∷ r.cells) ∷ rs) (run at k (x ∷ []) ∷ r ∷ rs))
    go y z true true e =
        ap₂ (λ (m v : ℕ). run at k (v ∷ wiped m r.cells) ∷ map wipe rs) (eqb-true r.mark k e) (sym z)
    go y z true false e = ap (λ (v : ℕ). run at k (v ∷ []) ∷ wipe r ∷ map wipe rs) (sym z)
    go y z false b e = ap (λ (v : ℕ). run at k (v ∷ []) ∷ wipe r ∷ map wipe rs) (sym z)

cleared-runs : (ms ks : List ℕ) (at : ℕ) → runs_from at (cleared ms ks) ks ≡ map wipe (runs_from at ms ks)
unfolding cleared runs_from
cleared-runs [] ks at = refl
cleared-runs (x ∷ xs) [] at = refl
cleared-runs (x ∷ xs) (k ∷ ks) at = go (eqb k free) (cleared-runs xs ks (at + 1))
  where
    go : (b : Bool) → runs_from (at + 1) (cleared xs ks) ks ≡ map wipe (runs_from (at + 1) xs ks)
        → cond b (runs_from (at + 1) (cleared xs ks) ks)
        (joined at k (cond (b || eqb k reserved_mark) 0 x) (runs_from (at + 1) (cleared xs ks) ks))
        ≡ map wipe (cond b (runs_from (at + 1) xs ks) (joined at k x (runs_from (at + 1) xs ks)))
    go true e = e
    go false e = ap (joined at k (cond (eqb k reserved_mark) 0 x)) e ∙ wipe-joined at k x (runs_from (at + 1) xs ks)

-- ---- the lines

wipe-lines : (r : Run) → run_lines (wipe r) ≡ run_lines r
unfolding run_lines
wipe-lines r = go (eqb r.mark reserved_mark) refl
  where
    go : (b : Bool) → eqb r.mark reserved_mark ≡ b → run_lines (wipe r) ≡ run_lines r
    go true e =
        let k = eqb-true r.mark reserved_mark e in
        rw (ne_eqb r.mark code_mark (λ z. absurd (omega (arith, k, z))), e, wiped-length r.mark r.cells)
    go false e = ap (λ (xs : List ℕ). run_lines (run r.from r.mark xs)) (wiped-other r.mark r.cells (eqb-false r.mark reserved_mark e))

cleared-lines : (rs : List Run) (behind : ℕ) → lines_from behind (map wipe rs) ≡ lines_from behind rs
unfolding lines_from
cleared-lines [] behind = refl
cleared-lines (r ∷ rs) behind =
    ap₂ (λ (f g : Found). joined_by (origin_at behind r.from) f g) (wipe-lines r)
    (ap (λ (n : ℕ). lines_from (r.from + n) (map wipe rs)) (wiped-length r.mark r.cells) ∙ cleared-lines rs (r.from + length r.cells))

pub unseen : (memory marks room : List ℕ) → list_of (cleared memory marks) marks room ≡ list_of memory marks room
unfolding list_of good_loan
unseen memory marks room = rw (cleared-length memory marks, cleared-runs memory marks 0, cleared-lines (runs_from 0 memory marks) 0)

-- ---- the cells

pub cleared-cells : (ms ks : List ℕ) (a : ℕ) → get_or ms a 0 < 65536 → get_or (cleared ms ks) a 0 < 65536
unfolding cleared
cleared-cells [] ks a h = h
cleared-cells (x ∷ xs) [] zero h = omega arith
cleared-cells (x ∷ xs) [] (suc a) h = cleared-cells xs [] a h
cleared-cells (x ∷ xs) (k ∷ ks) zero h = go (empty k)
  where
    go : (b : Bool) → cond b 0 x < 65536
    go true = omega arith
    go false = h
cleared-cells (x ∷ xs) (k ∷ ks) (suc a) h = cleared-cells xs ks a h

pub cleared-empty : (ms ks : List ℕ) (a : ℕ) → empty (get_or ks a free) ≡ true → get_or (cleared ms ks) a 0 ≡ 0
unfolding cleared
cleared-empty [] ks a e = refl
cleared-empty (x ∷ xs) [] zero e = refl
cleared-empty (x ∷ xs) [] (suc a) e = cleared-empty xs [] a refl
cleared-empty (x ∷ xs) (k ∷ ks) zero e = rw e
cleared-empty (x ∷ xs) (k ∷ ks) (suc a) e = cleared-empty xs ks a e

pub cleared-free : (ms ks : List ℕ) (a : ℕ) → get_or ks a free ≡ free → get_or (cleared ms ks) a 0 ≡ 0
cleared-free ms ks a e = cleared-empty ms ks a (ap empty e)

pub cleared-reserved : (ms ks : List ℕ) (a : ℕ) → get_or ks a free ≡ reserved_mark → get_or (cleared ms ks) a 0 ≡ 0
cleared-reserved ms ks a e = cleared-empty ms ks a (ap empty e)
