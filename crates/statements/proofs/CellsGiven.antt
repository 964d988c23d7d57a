-- The cells that a line gives by DATA: those of the items that it says, and none where it says no DATA that passes.
use Prim.Native.Nat.{ℕ}
use mathlib.Core.Bool.{Bool, true, false}
use mathlib.Core.List.{List, [], ◌∷◌}
use mathlib.Core.Logic.{inl, inr}
use mathlib.Core.Path.{◌≡◌, refl, sym, ap, subst, ◌∙◌}
use Rattle.tokens.specs.Reading.{token_at, tokens_from}
use Rattle.tokens.specs.declared.Kind.{Kind}
use Rattle.tokens.specs.declared.Kind.TheVariants as K
use Rattle.tokens.specs.declared.Token.{Token}
use Rattle.tokens.proofs.Top.{line_row, one-row, row_goes_on}
use Rattle.names.specs.Names.{word_of}
use Rattle.names.specs.declared.Word.{Word}
use Rattle.names.specs.declared.Word.TheVariants as W
use Rattle.std.proofs.Common.{Option, Some, None, Result, Ok, Err}
use Rattle.values.specs.declared.Name.{Name}
use Rattle.items.specs.declared.ItemsFault.{ItemsFault}
use Rattle.items.specs.declared.ItemsFault.TheVariants.{WrongForm, OutOfRange}
use Rattle.operands.specs.Operands.{word_at}
use Rattle.items.specs.Items.{Item, Items, cells_of, all_in_range}
use Rattle.items.specs.Reading.{items_read}
use Rattle.items.specs.Writing.{cells_from}
use Rattle.items.proofs.Readings.{complete}
use Rattle.items.proofs.Top as Items
use Rattle.statements.specs.Statements.{cells, Body, items, LineText, labelled, unlabelled, Says}
use Rattle.statements.specs.Reading.{is_word, after_label}
use Rattle.statements.specs.Cells.{is_data, body_cells, cells_in}
use Rattle.statements.specs.Inner.Parts.{begun_by}
use Rattle.statements.proofs.Beginning.{row_by}
use Rattle.statements.proofs.Labelling.{never, word-kind, Labels, label_is, none_is, labels, label_after, behind-label}

-- ---- of the row that a token begins

module _ (line : List ℕ) (w : Token) where
  -- a token that is no word
  other-cells : (ts : List Token) → is_word w.kind ≡ false → body_cells line (w ∷ ts) ≡ []
  unfolding body_cells
  other-cells ts f = rw f

  pub no_word_cells : is_word w.kind ≡ false → body_cells line (begun_by line w) ≡ []
  unfolding body_cells
  no_word_cells f = go w.kind refl
    where
      go : (k : Kind) → w.kind ≡ k → body_cells line (begun_by line w) ≡ []
      go K.End e = ap (body_cells line) (row_by line w e)
      go K.Stray e = ap (body_cells line) (row_by line w e) ∙ other-cells [] f
      go K.Word e = never (cc)
      go (K.Number v r) e = ap (body_cells line) (row_by line w e) ∙ other-cells (tokens_from line w.next.at) f
      go K.Text e = ap (body_cells line) (row_by line w e) ∙ other-cells (tokens_from line w.next.at) f
      go (K.Mark b) e = ap (body_cells line) (row_by line w e) ∙ other-cells (tokens_from line w.next.at) f

  module _ (f : is_word w.kind ≡ true) where
    pub word_row : begun_by line w ≡ w ∷ tokens_from line w.next.at
    word_row = row_by line w (word-kind w.kind f)

    pub no_data_cells : is_data (word_of (word_at line w)) ≡ false → body_cells line (begun_by line w) ≡ []
    unfolding body_cells
    no_data_cells g = ap (body_cells line) word_row ∙ rw (f, g)

    pub data_cells : is_data (word_of (word_at line w)) ≡ true → body_cells line (begun_by line w) ≡ cells_from line (tokens_from line w.next.at)
    unfolding body_cells
    data_cells g = ap (body_cells line) word_row ∙ rw (f, g)

-- ---- of a reading

module _ (line : List ℕ) where
  body-cells : {us : List Token} {is : List Item} → Body line us (cells is) → all_in_range is ≡ true → body_cells line us ≡ cells_of is
  unfolding body_cells cells_from
  body-cells (items s f) q = rw (s.word, s.means, complete line f, q)

  text-cells : {ts : List Token} {l : Option Name} {is : List Item} → LineText line ts l (cells is) → all_in_range is ≡ true
      → body_cells line (after_label ts) ≡ cells_of is
  text-cells (labelled a b) q = ap (body_cells line) (label_after a) ∙ body-cells b q
  text-cells {ts} {is = is} (unlabelled none b) q = go (labels ts)
    where
      go : Labels ts → body_cells line (after_label ts) ≡ cells_of is
      go (label_is n us a) = absurd (none n us a)
      go (none_is _ _ g) = ap (body_cells line) g ∙ body-cells b q

  pub cells-exactly : {l : Option Name} {is : List Item} → Says line l (cells is) → all_in_range is ≡ true → cells_in line ≡ cells_of is
  unfolding cells_in
  cells-exactly x q = ap (λ (ts : List Token). body_cells line (after_label ts)) (one-row (line_row line) x.row) ∙ text-cells x.text q

-- ---- of no reading

data_word : (x : Word) → is_data x ≡ true → x ≡ W.Data
data_word (W.Instructs op) e = never (cc)
data_word W.Org e = never (cc)
data_word W.Equ e = never (cc)
data_word W.Res e = never (cc)
data_word W.Data e = refl
data_word W.End e = never (cc)
data_word W.Unknown e = never (cc)

module _ (line : List ℕ) where
  none_from : (at : ℕ) → ((is : List Item) → Items line (tokens_from line at) is → all_in_range is ≡ true → ⊥) → cells_from line (tokens_from line at) ≡ []
  none_from at n = go (items_read line (tokens_from line at)) refl
    where
      go : (r : Result ℕ ItemsFault) → items_read line (tokens_from line at) ≡ r → cells_from line (tokens_from line at) ≡ []
      go (Ok k) e = let h = (Items.cells-exactly line at).0 e in absurd (n h.0 h.1 h.2)
      go (Err WrongForm) e = Items.refused_writes_none line at (inl e)
      go (Err OutOfRange) e = Items.refused_writes_none line at (inr e)

  none_in : (at : ℕ) → ((is : List Item) → Body line (tokens_from line at) (cells is) → all_in_range is ≡ true → ⊥) → body_cells line (tokens_from line at) ≡ []
  none_in at n = by_kind (is_word w.kind) refl
    where
      w : Token
      w = token_at line at

      row : body_cells line (tokens_from line at) ≡ body_cells line (begun_by line w)
      row = ap (body_cells line) (row_goes_on line at)

      by-word : is_word w.kind ≡ true → (b : Bool) → is_data (word_of (word_at line w)) ≡ b → body_cells line (tokens_from line at) ≡ []
      by-word f true g =
          row
          ∙ data_cells line w f g
          ∙ none_from w.next.at
          (λ is i q. n is (rw (row_goes_on line at ∙ word_row line w f) (items (record { word = word-kind w.kind f; means = data_word (word_of (word_at line w)) g }) i)) q)
      by-word f false g = row ∙ no_data_cells line w f g

      by_kind : (b : Bool) → is_word w.kind ≡ b → body_cells line (tokens_from line at) ≡ []
      by_kind true f = by-word f (is_data (word_of (word_at line w))) refl
      by_kind false f = row ∙ no_word_cells line w f

  pub no_cells : ((l : Option Name) (is : List Item) → Says line l (cells is) → all_in_range is ≡ true → ⊥) → cells_in line ≡ []
  unfolding cells_in
  no_cells n = go (labels (tokens_from line 0))
    where
      go : Labels (tokens_from line 0) → body_cells line (after_label (tokens_from line 0)) ≡ []
      go (label_is m us a) =
          let h = behind-label line 0 a in
          let e : after_label (tokens_from line 0) ≡ tokens_from line h.0 = label_after a ∙ h.1 in
          ap (body_cells line) e
          ∙ none_in h.0
          (λ is b q. n (Some m) is (record { tokens = tokens_from line 0; row = line_row line; text = labelled a (subst (λ (vs : List Token). Body line vs (cells is)) (sym h.1) b) }) q)
      go (none_is none f g) =
          ap (body_cells line) g
          ∙ none_in 0 (λ is b q. n None is (record { tokens = tokens_from line 0; row = line_row line; text = unlabelled none b }) q)
