-- What stands before a name, blanks apart, is the mark before it in the line's row.
use Prim.Native.Nat.{ℕ, zero, suc, ◌+◌, ◌-◌, ◌<◌}
use mathlib.Core.Bool.{Bool, true, false, not, ◌&&◌}
use mathlib.Core.List.{List, [], ◌∷◌, ◌++◌}
use mathlib.Core.Path.{◌≡◌, refl, sym, ap, subst, ◌∙◌}
use native.Mathlib.Omega.{arith}
use lib.Dec.{T, ltb}
use lib.ListN.{length, get_or, drop, length-drop}
use lib.Seq.{drop-cons}
use borrow.Author.Tests.{ltb-true, ltb-false}
use Rattle.numerals.specs.Bytes.{is_word_byte}
use Rattle.tokens.specs.Bytes.{is_printable, is_blank, is_quote, is_semicolon, is_mark}
use Rattle.tokens.specs.Marks.{IsMark}
use Rattle.tokens.specs.Reading.{blanks, token_at, tokens_from}
use Rattle.tokens.specs.Rows.{RowOf}
use Rattle.tokens.specs.declared.Kind.{Kind}
use Rattle.tokens.specs.declared.Kind.TheVariants as K
use Rattle.tokens.specs.declared.Token.{Token}
use Rattle.tokens.proofs.Blanks.{blanks-more, blanks-stop, blanks-none}
use Rattle.tokens.proofs.Heads.{row_of, ends_of, row-head}
use Rattle.tokens.proofs.Meanings.{Means, token-means}
use Rattle.tokens.proofs.Places.{here-stands}
use Rattle.tokens.proofs.Top.{line_row, one-row}
use Rattle.statements.proofs.Labelling.{never, goes_on_lem}
use Rattle.columns.specs.Columns.{mark_before}
use Rattle.columns.proofs.Found.{blank_before, mark_stands}

-- a mark is no blank
solid : (b : ℕ) → T (is_mark b) → is_blank b ≡ false
unfolding is_mark
solid b t = go (is_printable b && not (is_word_byte b)) (is_blank b) (not (is_quote b) && not (is_semicolon b)) t
  where
    go : (x y z : Bool) → T (x && (not y && z)) → y ≡ false
    go true true z t = absurd t
    go true false z t = refl
    go false y z t = absurd t

module _ (line : List ℕ) where
  -- ---- blanks are passed

  one-blank : (n at : ℕ) → blanks (drop at line) ≡ suc n → (blanks (drop (at + 1) line) ≡ n → mark_before line (at + 1 + n) ≡ mark_before line (at + 1))
      → mark_before line (at + suc n) ≡ mark_before line at
  one-blank n at e h = by_place (ltb at (length line)) refl
    where
      by_byte : at < length line → (q : Bool) → is_blank (get_or line at 0) ≡ q → mark_before line (at + suc n) ≡ mark_before line at
      by_byte l true f =
          let g : blanks (drop (at + 1) line) ≡ n = omega (arith, blanks-more line at l f, e) in
          let z : at + suc n ≡ at + 1 + n = omega arith in
          let y : at + 1 - 1 ≡ at = omega arith in
          let f' : is_blank (get_or line (at + 1 - 1) 0) ≡ true = ap (λ (p : ℕ). is_blank (get_or line p 0)) y ∙ f in
          ap (mark_before line) z ∙ h g ∙ blank_before line (at + 1) (omega arith) f' ∙ ap (mark_before line) y
      by_byte l false f = absurd (omega (arith, blanks-stop line at l f, e))

      by_place : (q : Bool) → ltb at (length line) ≡ q → mark_before line (at + suc n) ≡ mark_before line at
      by_place true q = by_byte (ltb-true at (length line) q) (is_blank (get_or line at 0)) refl
      by_place false q = absurd (omega (arith, blanks-none line at (ltb-false at (length line) q), e))

  blanks-passed : (n at : ℕ) → blanks (drop at line) ≡ n → mark_before line (at + n) ≡ mark_before line at
  blanks-passed zero at e = let z : at + 0 ≡ at = omega arith in ap (mark_before line) z
  blanks-passed (suc n) at e = one-blank n at e (blanks-passed n (at + 1))

  starts-behind : (at : ℕ) → (token_at line at).start ≡ at + blanks (drop at line)
  unfolding token_at
  starts-behind at = (here-stands line (at + blanks (drop at line)) _).starts

  -- ---- the mark

  mark-there : (at b : ℕ) → (token_at line at).kind ≡ K.Mark b → mark_before line (token_at line at).next.at ≡ (token_at line at).start
  mark-there at b k =
      let p = (token_at line at).start in
      let e = (token_at line at).next.at in
      let m : Means line (K.Mark b) p e = subst (λ (x : Kind). Means line x p e) k (token-means line at) in
      let w = ends_of line at k in
      let d = drop-cons line p 0 (omega (arith, w.0, w.1)) in
      let i : get_or line p 0 ≡ b = same_head (sym d ∙ m.1) in
      let q : e ≡ p + 1 = omega (arith, w.0, w.1, ap length m.1, length-drop p line, length-drop e line) in
      let y : p + 1 - 1 ≡ p = omega arith in
      let s : is_blank (get_or line (p + 1 - 1) 0) ≡ false = ap (λ (x : ℕ). is_blank (get_or line x 0)) y ∙ ap is_blank i ∙ solid b m.0 in
      ap (mark_before line) q ∙ mark_stands line (p + 1) (omega arith) s ∙ y
    where
      same_head : {x y : ℕ} {xs ys : List ℕ} → x ∷ xs ≡ y ∷ ys → x ≡ y
      same_head e = cc

  -- ---- a mark and the token behind it

  next_to : (at b : ℕ) {m t : Token} {vs : List Token} → IsMark b m → tokens_from line at ≡ m ∷ t ∷ vs → mark_before line t.start ≡ m.start
  next_to at b {m} {t} {vs} k e =
      let h = (row-head line at e).0 in
      let g = goes_on_lem line at e (λ z. never (cc)) in
      let f = (row-head line m.next.at (sym g)).0 in
      let k' : (token_at line at).kind ≡ K.Mark b = ap (λ (x : Token). x.kind) h ∙ k in
      let s : t.start ≡ m.next.at + blanks (drop m.next.at line) = ap (λ (x : Token). x.start) (sym f) ∙ starts-behind m.next.at in
      ap (mark_before line) s
      ∙ blanks-passed (blanks (drop m.next.at line)) m.next.at refl
      ∙ ap (λ (x : Token). mark_before line x.next.at) (sym h)
      ∙ mark-there at b k'
      ∙ ap (λ (x : Token). x.start) h

  -- a stray token ends its row
  not-stray : (at : ℕ) (us : List Token) (u m : Token) (vs : List Token) → tokens_from line at ≡ u ∷ us ++ (m ∷ vs) → u.kind ≡ K.Stray → ⊥
  not-stray at us u m vs e k =
      let h = (row-head line at e).0 in
      let r = row_of line at (ap (λ (x : Token). x.kind) h ∙ k) in
      longer (token_at line at) us (sym r ∙ e)
    where
      longer : (v : Token) (ws : List Token) → ◌≡◌ {A = List Token} (v ∷ []) (u ∷ ws ++ (m ∷ vs)) → ⊥
      longer v [] e = never (cc)
      longer v (w ∷ ws) e = never (cc)

  module _ (m t : Token) (vs : List Token) (b : ℕ) (k : IsMark b m) where
    among : (at : ℕ) (us : List Token) → tokens_from line at ≡ us ++ (m ∷ t ∷ vs) → mark_before line t.start ≡ m.start
    among at [] e = next_to at b k e
    among at (u ∷ us) e = among u.next.at us (sym (goes_on_lem line at e (not-stray at us u m (t ∷ vs) e)))

    pub mark-exactly : (us : List Token) → RowOf line (us ++ (m ∷ t ∷ vs)) → mark_before line t.start ≡ m.start
    mark-exactly us r = among 0 us (one-row (line_row line) r)
