-- Laws of the text: the cells that are left from an address on, how long they are, and how many are claimed.
use mathlib.Core.Path.{◌≡◌, refl, sym}
use mathlib.Core.Bool.{Bool, true, false, cond, not, ◌&&◌}
use mathlib.Core.List.{List, [], ◌∷◌, ◌++◌, append_assoc}
use Prim.Native.Nat.{ℕ, zero, suc, ◌+◌, ◌*◌, ◌≤◌, ◌<◌}
use native.Mathlib.Numerals.{add-one}
use native.Mathlib.Omega.{arith}
use borrow.Author.Tests.{eq-eqb, ne_eqb, eqb-true, eqb-false, leb-true, le-leb}
use lib.Dec.{leb, eqb}
use lib.ListN.{length, get_or, drop, length-append, drop_of_length-le}
use Rattle.std.specs.List.{count_by, list_all}
use Rattle.std.proofs.lemmas.List.Recursion.{is_count_by}
use lib.Seq.{drop-cons}
use Rattle.codes.specs.Marks.{reserved_mark, largest_mark}
use Rattle.numerals.specs.Bytes.{LF, bytes}
use Rattle.numerals.specs.Writing.{decimal_before, decimal}
use Rattle.numerals.proofs.Filling.{length-decimal}
use Rattle.texts.specs.Lines.{text_of}
use Rattle.texts.proofs.Texts.{text_append}
use Rattle.image.specs.Image.{cell_line, cell_lines, claimed, head_lines, image_text}
use Rattle.image.specs.Printing.{known_marks}
use Rattle.image.specs.Inner.Pieces.{piece, kind_and_value, cells_text}

pub both_true : (a b : Bool) → a && b ≡ true → (a ≡ true) × (b ≡ true)
both_true true b e = (refl, e)
both_true false b e = let z : ◌≡◌ {A = ℕ} 0 1 = cc in absurd (omega arith)

-- ---- the cells that are left

-- the text of the cells from an address on
abbrev pub left : List ℕ → List ℕ → ℕ → List ℕ
left memory marks i = text_of (cell_lines memory i (drop i marks))

-- a cell, and those after it
pub first_piece : (memory : List ℕ) (at mark : ℕ) (marks : List ℕ)
    → text_of (cell_lines memory at (mark ∷ marks)) ≡ piece at mark (get_or memory at 0) ++ text_of (cell_lines memory (at + 1) marks)
unfolding cell_lines piece text_of
first_piece memory at mark marks = go (eqb mark 0)
  where
    line : List ℕ
    line = cell_line at mark (get_or memory at 0)

    rest : List (List ℕ)
    rest = cell_lines memory (at + 1) marks

    go : (b : Bool) → text_of (cond b rest (line ∷ rest)) ≡ cond b [] (line ++ (LF ∷ [])) ++ text_of rest
    go true = refl
    go false = sym (append_assoc line (LF ∷ []) (text_of rest))

module _ (memory marks : List ℕ) (i : ℕ) where
  pub left-more : i < length marks → left memory marks i ≡ piece i (get_or marks i 0) (get_or memory i 0) ++ left memory marks (i + 1)
  left-more h = rw (drop-cons marks i 0 h, ← add-one i) (first_piece memory i (get_or marks i 0) (drop (i + 1) marks))

  pub left-none : length marks ≤ i → left memory marks i ≡ []
  unfolding cell_lines text_of
  left-none h = rw (drop_of_length-le marks h)

-- ---- lengths

pub piece-free : (at mark value : ℕ) → mark ≡ 0 → piece at mark value ≡ []
unfolding piece
piece-free at mark value e = rw (eq-eqb mark 0 e)

pub piece-claimed : (at mark value : ℕ) → (mark ≡ 0 → ⊥) → piece at mark value ≡ (bytes "cell=" ++ decimal at) ++ kind_and_value mark value ++ (LF ∷ [])
unfolding piece cell_line kind_and_value
piece-claimed at mark value n = rw (ne_eqb mark 0 n) (simp append_assoc)

-- the text of the three kinds
pub kind-reserved : (mark value : ℕ) → mark ≡ reserved_mark → kind_and_value mark value ≡ bytes ",reserved,0"
unfolding kind_and_value decimal decimal_before
kind-reserved mark value e = rw (eq-eqb mark reserved_mark e)

pub kind-code : (mark value : ℕ) → mark ≡ 1 → kind_and_value mark value ≡ bytes ",code," ++ decimal value
unfolding kind_and_value
kind-code mark value e = rw e

pub kind_data : (mark value : ℕ) → (mark ≡ reserved_mark → ⊥) → (mark ≡ 1 → ⊥) → kind_and_value mark value ≡ bytes ",data," ++ decimal value
unfolding kind_and_value
kind_data mark value r n = rw (ne_eqb mark reserved_mark r, ne_eqb mark 1 n)

-- how long it is
pub reserved-length : (mark value : ℕ) → mark ≡ reserved_mark → length (kind_and_value mark value) ≡ 11
reserved-length mark value e = rw (kind-reserved mark value e)

pub kind_and_value_length : (mark value : ℕ) → (mark ≡ reserved_mark → ⊥) → length (kind_and_value mark value) ≡ 6 + length (decimal value)
kind_and_value_length mark value r = go (eqb mark 1) refl
  where
    go : (b : Bool) → eqb mark 1 ≡ b → length (kind_and_value mark value) ≡ 6 + length (decimal value)
    go true e = rw (kind-code mark value (eqb-true mark 1 e)) (simp length-append)
    go false e = rw (kind_data mark value r (eqb-false mark 1 e)) (simp length-append)

pub piece-length : (at mark value : ℕ) → (mark ≡ 0 → ⊥) → length (piece at mark value) ≡ 6 + length (decimal at) + length (kind_and_value mark value)
piece-length at mark value n = rw (piece-claimed at mark value n) (simp length-append (omega arith))

-- no line is longer than 32 bytes
piece-short : (at mark value : ℕ) → length (piece at mark value) ≤ 32
piece-short at mark value = go (eqb mark 0) refl
  where
    claimed-short : (b : Bool) → eqb mark reserved_mark ≡ b
        → length (piece at mark value) ≡ 6 + length (decimal at) + length (kind_and_value mark value)
        → length (piece at mark value) ≤ 32
    claimed-short true e l = omega (arith, l, length-decimal at, reserved-length mark value (eqb-true mark reserved_mark e))
    claimed-short false e l =
        omega (arith, l, length-decimal at, length-decimal value, kind_and_value_length mark value (eqb-false mark reserved_mark e))

    go : (b : Bool) → eqb mark 0 ≡ b → length (piece at mark value) ≤ 32
    go true e = rw (piece-free at mark value (eqb-true mark 0 e)) (omega arith)
    go false e = claimed-short (eqb mark reserved_mark) refl (piece-length at mark value (eqb-false mark 0 e))

cells-short : (memory : List ℕ) (at : ℕ) (marks : List ℕ) → length (text_of (cell_lines memory at marks)) ≤ 32 * length marks
unfolding cell_lines text_of
cells-short memory at [] = omega arith
cells-short memory at (mark ∷ marks) =
    rw (first_piece memory at mark marks)
    (simp length-append (omega (arith, piece-short at mark (get_or memory at 0), cells-short memory (at + 1) marks)))

-- what the loop over the cells has measured, and what is left
pub left-length : (memory marks : List ℕ) (i : ℕ) → i < length marks
    → length (left memory marks i) ≡ length (piece i (get_or marks i 0) (get_or memory i 0)) + length (left memory marks (i + 1))
left-length memory marks i h = rw (left-more memory marks i h) (simp length-append)

pub cells-bound : (memory marks : List ℕ) → length (cells_text memory marks) ≤ 32 * length marks
cells-bound memory marks = cells-short memory 0 marks

-- the three lines before the cells
pub head-length : (size number : ℕ) → length (text_of (head_lines size number)) ≡ 25 + length (decimal size) + length (decimal number)
unfolding text_of
head-length size number = simp length-append (omega arith)

-- as they are written: two texts with a decimal, and an LF
pub head-text : (size number : ℕ)
    → text_of (head_lines size number)
    ≡ (bytes "version=1\nsize=" ++ decimal size) ++ (bytes "\nclaimed=" ++ decimal number) ++ (LF ∷ [])
unfolding text_of
head-text size number = simp append_assoc

pub image-length : (memory marks : List ℕ)
    → length (image_text memory marks) ≡ 25 + length (decimal (length memory)) + length (decimal (claimed marks)) + length (cells_text memory marks)
image-length memory marks =
    rw (text_append (head_lines (length memory) (claimed marks)) (cell_lines memory 0 marks))
    (simp length-append (omega (arith, head-length (length memory) (claimed marks))))

-- ---- how many cells are claimed

-- std's count of the marks that are not free
pub claimed_by_count : (marks : List ℕ) → claimed marks ≡ count_by (λ (mark : ℕ). not (eqb mark 0)) marks
unfolding claimed
claimed_by_count = is_count_by claimed (λ (mark : ℕ). not (eqb mark 0)) refl (λ (mark : ℕ) (marks : List ℕ). go (claimed marks) (eqb mark 0))
  where
    go : (n : ℕ) (b : Bool) → cond b n (suc n) ≡ cond (not b) (1 + n) n
    go n true = refl
    go n false = omega arith

pub claimed-within : (marks : List ℕ) → claimed marks ≤ length marks
unfolding claimed
claimed-within [] = omega arith
claimed-within (mark ∷ marks) = go (eqb mark 0) (claimed-within marks)
  where
    go : (b : Bool) → claimed marks ≤ length marks → cond b (claimed marks) (suc (claimed marks)) ≤ suc (length marks)
    go true h = omega arith
    go false h = omega arith

-- ---- marks

-- std's test of each mark
pub known_by_each : (marks : List ℕ) → known_marks marks ≡ list_all (λ (mark : ℕ). leb mark largest_mark) marks
unfolding known_marks
known_by_each [] = refl
known_by_each (mark ∷ marks) = rw (known_by_each marks)

-- no mark is above the largest, mark by mark
pub known-all : (marks : List ℕ) → known_marks marks ≡ true → (i : ℕ) → i < length marks → get_or marks i 0 ≤ largest_mark
unfolding known_marks
known-all [] e i h = absurd (omega arith)
known-all (mark ∷ marks) e zero h = leb-true mark largest_mark (both_true (leb mark largest_mark) (known_marks marks) e).0
known-all (mark ∷ marks) e (suc i) h = known-all marks (both_true (leb mark largest_mark) (known_marks marks) e).1 i (omega arith)

pub all_known : (marks : List ℕ) → ((i : ℕ) → i < length marks → get_or marks i 0 ≤ largest_mark) → known_marks marks ≡ true
unfolding known_marks
all_known [] f = refl
all_known (mark ∷ marks) f = rw (le-leb mark largest_mark (f 0 (omega arith)), all_known marks (λ i h. f (suc i) (omega arith)))
