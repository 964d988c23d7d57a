-- The cell lines are those of the claimed cells, ascending, and no others.
use mathlib.Core.Path.{◌≡◌, refl, ap}
use mathlib.Core.Bool.{Bool, true, false, cond}
use mathlib.Core.Logic.{◌⊎◌, inl, inr}
use mathlib.Core.List.Memᴰ
use mathlib.Core.List.{List, [], ◌∷◌, ◌++◌, Memᴰ}
use Prim.Native.Nat.{ℕ, zero, suc, ◌+◌, ◌<◌}
use native.Mathlib.Omega.{arith}
use borrow.Author.Tests.{eqb-false, ne_eqb}
use lib.Dec.{eqb}
use lib.ListN.{length, get_or}
use Rattle.image.specs.Image.{cell_line, cell_lines}

-- a line is that of a claimed cell, by its place among marks that start at an address
pub record LineOf (memory : List ℕ) (at : ℕ) (marks : List ℕ) (line : List ℕ) : Type 0 where
  pub i : ℕ
  pub within : i < length marks
  pub claims : get_or marks i 0 ≡ 0 → ⊥
  pub is : line ≡ cell_line (at + i) (get_or marks i 0) (get_or memory (at + i) 0)

module _ (memory : List ℕ) (at mark : ℕ) (marks line : List ℕ) where
  later : LineOf memory (at + 1) marks line → LineOf memory at (mark ∷ marks) line
  later l =
      let e : at + suc l.i ≡ at + 1 + l.i = omega arith in
      record { i = suc l.i; within = omega (arith, l.within); claims = l.claims; is = rw e l.is }

  first : (mark ≡ 0 → ⊥) → line ≡ cell_line at mark (get_or memory at 0) → LineOf memory at (mark ∷ marks) line
  first n e = let z : at + 0 ≡ at = omega arith in record { i = 0; within = omega arith; claims = n; is = rw z e }

pub line_is : (memory : List ℕ) (at : ℕ) (marks line : List ℕ) → Memᴰ line (cell_lines memory at marks) → LineOf memory at marks line
unfolding cell_lines
line_is memory at [] line m = absurd (Memᴰ.not-nil m)
line_is memory at (mark ∷ marks) line m = go (eqb mark 0) refl (line_is memory (at + 1) marks line) m
  where
    this : List ℕ
    this = cell_line at mark (get_or memory at 0)

    rest : List (List ℕ)
    rest = cell_lines memory (at + 1) marks

    pick : eqb mark 0 ≡ false → (Memᴰ line rest → LineOf memory (at + 1) marks line) → (line ≡ this) ⊎ Memᴰ line rest
        → LineOf memory at (mark ∷ marks) line
    pick e found (inl p) = first memory at mark marks line (eqb-false mark 0 e) p
    pick e found (inr d) = later memory at mark marks line (found d)

    go : (b : Bool) → eqb mark 0 ≡ b → (Memᴰ line rest → LineOf memory (at + 1) marks line) → Memᴰ line (cond b rest (this ∷ rest))
        → LineOf memory at (mark ∷ marks) line
    go true e found d = later memory at mark marks line (found d)
    go false e found d = pick e found (Memᴰ.cases_cons d)

has : (memory : List ℕ) (at : ℕ) (marks line : List ℕ) (i : ℕ) → i < length marks → (get_or marks i 0 ≡ 0 → ⊥)
    → line ≡ cell_line (at + i) (get_or marks i 0) (get_or memory (at + i) 0)
    → Memᴰ line (cell_lines memory at marks)
unfolding cell_lines
has memory at [] line i h n e = absurd (omega arith)
has memory at (mark ∷ marks) line zero h n e =
    let z : at + 0 ≡ at = omega arith in
    rw (ne_eqb mark 0 n) (Memᴰ.head (rw z at e))
has memory at (mark ∷ marks) line (suc i) h n e =
    let s : at + suc i ≡ at + 1 + i = omega arith in
    go (eqb mark 0) (has memory (at + 1) marks line i (omega arith) n (rw s at e))
  where
    this : List ℕ
    this = cell_line at mark (get_or memory at 0)

    rest : List (List ℕ)
    rest = cell_lines memory (at + 1) marks

    go : (b : Bool) → Memᴰ line rest → Memᴰ line (cond b rest (this ∷ rest))
    go true d = d
    go false d = Memᴰ.tail d

pub line-has : (memory : List ℕ) (at : ℕ) (marks line : List ℕ) → LineOf memory at marks line → Memᴰ line (cell_lines memory at marks)
line-has memory at marks line l = has memory at marks line l.i l.within l.claims l.is

-- the lines of the first cells stand before those of the cells after them
pub lines_append : (memory : List ℕ) (at : ℕ) (a b : List ℕ) → cell_lines memory at (a ++ b) ≡ cell_lines memory at a ++ cell_lines memory (at + length a) b
unfolding cell_lines
lines_append memory at [] b = let z : at + 0 ≡ at = omega arith in rw z
lines_append memory at (mark ∷ a) b =
    let s : at + suc (length a) ≡ at + 1 + length a = omega arith in
    rw s (go (eqb mark 0) (lines_append memory (at + 1) a b))
  where
    this : List ℕ
    this = cell_line at mark (get_or memory at 0)

    front : List (List ℕ)
    front = cell_lines memory (at + 1) a

    back : List (List ℕ)
    back = cell_lines memory (at + 1 + length a) b

    go : (t : Bool) → cell_lines memory (at + 1) (a ++ b) ≡ front ++ back
        → cond t (cell_lines memory (at + 1) (a ++ b)) (this ∷ cell_lines memory (at + 1) (a ++ b)) ≡ cond t front (this ∷ front) ++ back
    go true e = e
    go false e = ap (λ (l : List (List ℕ)). this ∷ l) e
