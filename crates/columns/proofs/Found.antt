-- What the code finds in the row that a token begins; laws that the code's proofs cite.
use Prim.Native.Nat.{ℕ, zero, suc, ◌+◌, ◌-◌, ◌≤◌, ◌<◌}
use mathlib.Core.Bool.{true, false}
use mathlib.Core.List.{List, [], ◌∷◌}
use mathlib.Core.Logic.{◌⊎◌, inl, inr}
use mathlib.Core.Path.{◌≡◌, refl, ap, ◌∙◌}
use native.Mathlib.Omega.{arith}
use lib.ListN.{length, get_or}
use borrow.Author.Tests.{ne_eqb, le-leb}
use Rattle.tokens.specs.Bytes.{is_blank}
use Rattle.tokens.specs.Reading.{tokens_from}
use Rattle.tokens.specs.declared.Kind.{Kind}
use Rattle.tokens.specs.declared.Kind.TheVariants as K
use Rattle.tokens.specs.declared.Token.{Token}
use Rattle.names.specs.Names.{word_of}
use Rattle.names.specs.declared.Word.{Word}
use Rattle.operands.specs.Operands.{word_at}
use Rattle.statements.specs.Reading.{is_word}
use Rattle.statements.specs.Inner.Parts.{begun_by}
use Rattle.statements.specs.declared.Failure.{Failure}
use Rattle.statements.proofs.Beginning.{row_by}
use Rattle.statements.proofs.CellsGiven.{word_row}
use Rattle.statements.proofs.Labelling.{never}
use Rattle.faults.specs.Walk.{place}
use Rattle.columns.specs.Columns.{column_at, label_column, word_column_in, word_column, mark_before, place_by, place_in, pointed_at, read_again, pointed}

-- ---- the row that a token begins

module _ (line : List ℕ) (w : Token) where
  -- a row that begins with no word, or with nothing
  other_row : {A : Type 0} (f : List Token → A) (x : A) → is_word w.kind ≡ false → f [] ≡ x → ((ts : List Token) → f (w ∷ ts) ≡ x)
      → f (begun_by line w) ≡ x
  other_row {A} f x e a b = go w.kind refl
    where
      go : (k : Kind) → w.kind ≡ k → f (begun_by line w) ≡ x
      go K.End g = ap f (row_by line w g) ∙ a
      go K.Stray g = ap f (row_by line w g) ∙ b []
      go K.Word g = never (cc)
      go (K.Number v r) g = ap f (row_by line w g) ∙ b (tokens_from line w.next.at)
      go K.Text g = ap f (row_by line w g) ∙ b (tokens_from line w.next.at)
      go (K.Mark m) g = ap f (row_by line w g) ∙ b (tokens_from line w.next.at)

  pub no_word_column : is_word w.kind ≡ false → word_column_in line (begun_by line w) ≡ 0
  unfolding word_column_in
  no_word_column e = other_row (word_column_in line) 0 e refl (λ ts. rw e)

  pub some_word_column : is_word w.kind ≡ true → word_column_in line (begun_by line w) ≡ column_at line w.start
  unfolding word_column_in
  some_word_column e = ap (word_column_in line) (word_row line w e) ∙ rw e

  pub no_word_place : (why : Failure) → is_word w.kind ≡ false → place_in line why (begun_by line w) ≡ place line
  unfolding place_in
  no_word_place why e = other_row (place_in line why) (place line) e refl (λ ts. rw e)

  pub some_word_place : (why : Failure) → is_word w.kind ≡ true
      → place_in line why (begun_by line w) ≡ place_by line why w.start (word_of (word_at line w)) (tokens_from line w.next.at)
  unfolding place_in
  some_word_place why e = ap (place_in line why) (word_row line w e) ∙ rw e

-- ---- columns

pub in_line : (line : List ℕ) (p : ℕ) → p ≤ length line → column_at line p ≡ p + 1
unfolding column_at
in_line line p h = rw (le-leb p (length line) h)

-- ---- what is pointed at

module _ (line : List ℕ) where
  -- by the number
  pub of_label : {number : ℕ} → (number ≡ 9) ⊎ (number ≡ 10) → pointed line number ≡ pointed_at (label_column line) 0
  unfolding pointed
  of_label (inl e) = rw e
  of_label (inr e) = rw e

  pub of_word : {number : ℕ} → (number ≡ 11) ⊎ (number ≡ 12) → pointed line number ≡ pointed_at (word_column line) 0
  unfolding pointed
  of_word (inl e) = rw e
  of_word (inr e) = rw e

  pub of_checks : (number : ℕ) → (number ≡ 9 → ⊥) → (number ≡ 10 → ⊥) → (number ≡ 11 → ⊥) → (number ≡ 12 → ⊥)
      → pointed line number ≡ read_again line
  unfolding pointed
  of_checks number a b c d = rw (ne_eqb number 9 a, ne_eqb number 10 b, ne_eqb number 11 c, ne_eqb number 12 d)

-- ---- the mark before a name

module _ (line : List ℕ) where
  pub blank_before : (at : ℕ) → 0 < at → is_blank (get_or line (at - 1) 0) ≡ true → mark_before line at ≡ mark_before line (at - 1)
  unfolding mark_before
  blank_before zero l e = absurd (omega (arith, l))
  blank_before (suc p) l e =
      let z : suc p - 1 ≡ p = omega arith in
      let f : is_blank (get_or line p 0) ≡ true = rw z at e in
      rw (f, z)

  pub mark_stands : (at : ℕ) → 0 < at → is_blank (get_or line (at - 1) 0) ≡ false → mark_before line at ≡ at - 1
  unfolding mark_before
  mark_stands zero l e = absurd (omega (arith, l))
  mark_stands (suc p) l e =
      let z : suc p - 1 ≡ p = omega arith in
      let f : is_blank (get_or line p 0) ≡ false = rw z at e in
      rw (f, z)

  pub none_before : (at : ℕ) → at ≤ 0 → mark_before line at ≡ 0
  unfolding mark_before
  none_before zero h = refl
  none_before (suc p) h = absurd (omega (arith, h))
