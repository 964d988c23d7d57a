-- What a row begins with, by the tokens that `next_token` hands back; laws that the code's proofs cite.
use Prim.Native.Nat.{ℕ, ◌+◌}
use Prim.Native.Char.{code}
use mathlib.Core.Bool.{Bool, true, false, ◌&&◌}
use mathlib.Core.List.{List, [], ◌∷◌}
use mathlib.Core.Path.{◌≡◌, refl, sym, ap, ◌∙◌}
use lib.ListN.{get_or}
use borrow.Author.Tests.{eqb-true}
use Rattle.tokens.specs.Reading.{token_at, after_kind, tokens_from}
use Rattle.tokens.specs.Rows.{token}
use Rattle.tokens.specs.declared.Kind.{Kind}
use Rattle.tokens.specs.declared.Kind.TheVariants as K
use Rattle.tokens.specs.declared.Token.{Token}
use Rattle.names.specs.Names.{word_of}
use Rattle.names.specs.declared.Word.{Word}
use Rattle.tokens.proofs.Heads.{row_of}
use Rattle.tokens.proofs.Top.{row_goes_on}
use Rattle.tokens.proofs.Colons.{colon-token, no_colon_token}
use Rattle.std.proofs.Common.{Some, Result, Ok, Err}
use Rattle.statements.specs.declared.Statement.{Statement}
use Rattle.statements.specs.declared.Failure.{Failure}
use Rattle.operands.specs.Operands.{word_at}
use Rattle.statements.specs.Reading.{is_word, is_colon, labelled, label_read, after_label, by_word, statement_read}
use Rattle.statements.specs.Inner.Parts.{colon_at, begun_by, no_label, LabelDone}
use Rattle.statements.specs.declared.Failure.TheVariants.{WrongForm}
use Rattle.statements.specs.declared.Statement.TheVariants.{Nothing}
use Rattle.statements.proofs.Labelling.{never, word-kind, colon_kind}

-- ---- the statement's word

module _ (line : List ℕ) (w : Token) where
  -- the row that it begins, by its kind
  pub row_by : {k : Kind} → w.kind ≡ k → begun_by line w ≡ after_kind k w (tokens_from line)
  row_by e = ap (λ (k : Kind). after_kind k w (tokens_from line)) e

  pub ended : w.kind ≡ K.End → Ok Nothing ≡ statement_read line (begun_by line w)
  unfolding statement_read
  ended e = sym (ap (statement_read line) (row_by e))

  -- a row of no word first
  no_word_read : (ts : List Token) → is_word w.kind ≡ false → statement_read line (w ∷ ts) ≡ Err WrongForm
  unfolding statement_read
  no_word_read ts f = rw f

  pub no-word : (w.kind ≡ K.End → ⊥) → (w.kind ≡ K.Word → ⊥) → Err WrongForm ≡ statement_read line (begun_by line w)
  no-word n m = sym (ap (statement_read line) (row_by refl) ∙ go w.kind refl)
    where
      go : (j : Kind) → w.kind ≡ j → statement_read line (after_kind j w (tokens_from line)) ≡ Err WrongForm
      go K.End e = absurd (n e)
      go K.Stray e = no_word_read [] (ap is_word e)
      go K.Word e = absurd (m e)
      go (K.Number v r) e = no_word_read (tokens_from line w.next.at) (ap is_word e)
      go K.Text e = no_word_read (tokens_from line w.next.at) (ap is_word e)
      go (K.Mark b) e = no_word_read (tokens_from line w.next.at) (ap is_word e)

  pub by_its_word : {x : Word} {st : Result Statement Failure} → w.kind ≡ K.Word → x ≡ word_of (word_at line w) → st ≡ by_word line x (tokens_from line w.next.at)
      → st ≡ statement_read line (begun_by line w)
  unfolding statement_read
  by_its_word {x} e f g = g ∙ sym (ap (statement_read line) (row_by e) ∙ rw (e, f))

-- ---- the label

module _ (line : List ℕ) where
  -- the row from a place on, by the token there
  row-there : (at : ℕ) {w : Token} → w ≡ token_at line at → tokens_from line at ≡ begun_by line w
  row-there at t = row_goes_on line at ∙ ap (begun_by line) (sym t)

  unlabelled-done : labelled (tokens_from line 0) ≡ false → {w : Token} → w ≡ token_at line 0 → LabelDone line (no_label w)
  unfolding label_read after_label
  unlabelled-done f t = record { named = rw f; behind = rw f (row-there 0 t) }

  not-labelled : (w : Token) (ts : List Token) → is_word w.kind ≡ false → labelled (w ∷ ts) ≡ false
  not-labelled w [] f = refl
  not-labelled w (c ∷ ts) f = rw f

  module _ {w : Token} (t : w ≡ token_at line 0) where
    -- the first token is no word
    pub no_label_word : is_word w.kind ≡ false → LabelDone line (no_label w)
    no_label_word f = unlabelled-done (go (token_at line 0).kind refl) t
      where
        g : is_word (token_at line 0).kind ≡ false
        g = ap (λ (v : Token). is_word v.kind) (sym t) ∙ f

        rest : List Token
        rest = tokens_from line (token_at line 0).next.at

        go : (k : Kind) → (token_at line 0).kind ≡ k → labelled (tokens_from line 0) ≡ false
        go K.End e = ap labelled (row_of line 0 e)
        go K.Stray e = ap labelled (row_of line 0 e)
        go K.Word e = never (cc)
        go (K.Number v r) e = ap labelled (row_of line 0 e) ∙ not-labelled (token_at line 0) rest g
        go K.Text e = ap labelled (row_of line 0 e) ∙ not-labelled (token_at line 0) rest g
        go (K.Mark b) e = ap labelled (row_of line 0 e) ∙ not-labelled (token_at line 0) rest g

    module _ (f : is_word w.kind ≡ true) where
      -- the token behind it
      abbrev c : Token
      c = token_at line w.next.at

      row_word : tokens_from line 0 ≡ w ∷ tokens_from line w.next.at
      row_word =
          row_of line 0 (ap (λ (v : Token). v.kind) (sym t) ∙ word-kind w.kind f)
          ∙ ap (λ (v : Token). v ∷ tokens_from line v.next.at) (sym t)

      row-two : {k : Kind} → c.kind ≡ k → tokens_from line 0 ≡ w ∷ after_kind k c (tokens_from line)
      row-two {k} e = row_word ∙ ap (λ (ts : List Token). w ∷ ts) (row_of line w.next.at e)

      labelled_by : labelled (tokens_from line 0) ≡ (is_colon c.kind && c.directly)
      labelled_by = go c.kind refl
        where
          go : (k : Kind) → c.kind ≡ k → labelled (tokens_from line 0) ≡ (is_colon c.kind && c.directly)
          go K.End e = ap labelled (row-two e) ∙ rw e
          go K.Stray e = ap labelled (row-two e) ∙ rw f
          go K.Word e = ap labelled (row-two e) ∙ rw f
          go (K.Number v r) e = ap labelled (row-two e) ∙ rw f
          go K.Text e = ap labelled (row-two e) ∙ rw f
          go (K.Mark b) e = ap labelled (row-two e) ∙ rw f

      -- no `:` stands right behind it
      pub no_colon : colon_at line w.next.at ≡ false → LabelDone line (no_label w)
      no_colon g = unlabelled-done (labelled_by ∙ go (is_colon c.kind) refl) t
        where
          go : (b : Bool) → is_colon c.kind ≡ b → (is_colon c.kind && c.directly) ≡ false
          go true h = rw (h, no_colon_token line w.next.at g (colon_kind c.kind h))
          go false h = rw h

      pub is_label : colon_at line w.next.at ≡ true → {v : Token} → v ≡ token_at line (w.next.at + 1)
          → LabelDone line (record { label = Some (record { start = w.start; end = w.next.at }); word = v })
      unfolding label_read after_label
      is_label g u =
          let d : c ≡ token (K.Mark (code ":")) w.next.at true (w.next.at + 1) =
          colon-token line w.next.at (eqb-true (get_or line w.next.at 0) (code ":") g) in
          let h : labelled (tokens_from line 0) ≡ true = labelled_by ∙ ap (λ (v : Token). is_colon v.kind && v.directly) d in
          let two = row-two (ap (λ (v : Token). v.kind) d) ∙ ap (λ (v : Token). w ∷ after_kind (K.Mark (code ":")) v (tokens_from line)) d in
          record { named = rw (h, two); behind = rw (h, two) (row-there (w.next.at + 1) u) }
