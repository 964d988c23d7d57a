-- Every line has a row: the one that the reader gives.
use Prim.Native.Nat.{ℕ, zero, suc, ◌+◌, ◌-◌, ◌≤◌, ◌<◌}
use Prim.Native.Char.{code}
use mathlib.Core.Bool.{Bool, true, false, cond, ◌&&◌, and-true, and-false}
use mathlib.Core.List.{List, [], ◌∷◌}
use mathlib.Core.Logic.{inl, inr}
use mathlib.Core.Path.{◌≡◌, refl, sym, ap, subst, subst₂, ◌∙◌}
use native.Mathlib.Nat.{add-zero}
use native.Mathlib.Omega.{arith}
use lib.Dec.{eqb, eqb-suc-zero}
use lib.ListN.{length, get_or, take, drop, length-drop, drop_of_length-le}
use lib.Seq.{drop-drop, drop-cons, length-take-le}
use Rattle.numerals.specs.Numbers.{cut}
use Rattle.tokens.specs.Bytes.{is_blank}
use Rattle.tokens.specs.Rows.{token, Row, RowOf, ended, comment, blank, mark, word, number, string, broken}
use Rattle.tokens.specs.Reading.{blanks, token_here, after_kind, tokens_from}
use Rattle.tokens.specs.declared.Kind.{Kind}
use Rattle.tokens.specs.declared.Kind.TheVariants.{End, Stray, Word, Number, Text, Mark}
use Rattle.tokens.specs.declared.Token.{Token}
use Rattle.tokens.proofs.Blanks.{ends-blanks}
use Rattle.tokens.proofs.Places.{EndsAt, here-stands}
use Rattle.tokens.proofs.Meanings.{Means, here-means}
use Rattle.tokens.proofs.Rows.{row_of, row_from, row_directly, row-complete}

-- a row after the blanks is a row before them
over : (l : List ℕ) (at : ℕ) (d : Bool) (ts : List Token) → Row (at + blanks l) (d && eqb (blanks l) 0) (drop (blanks l) l) ts
    → Row at d l ts
unfolding blanks
over [] at d ts r = rw (add-zero at, and-true d) at r
over (b ∷ l) at d ts r = go (is_blank b) refl r (over l (at + 1) false ts)
  where
    go : (t : Bool) → is_blank b ≡ t
        → Row (at + cond t (suc (blanks l)) 0) (d && eqb (cond t (suc (blanks l)) 0) 0) (drop (cond t (suc (blanks l)) 0) (b ∷ l)) ts
        → (Row (at + 1 + blanks l) false (drop (blanks l) l) ts → Row (at + 1) false l ts) → Row at d (b ∷ l) ts
    go true e r h =
        let n : at + suc (blanks l) ≡ at + 1 + blanks l = omega arith in
        blank {b = b} (rw e tt) (h (rw (eqb-suc-zero (blanks l), and-false d, n) at r))
    go false e r h = rw (add-zero at, and-true d) at r

module _ (s : List ℕ) (at : ℕ) (d : Bool) (ih : (n : ℕ) → at < n → n ≤ length s → Row n true (drop n s) (tokens_from s n)) where
  -- a token that says what it should begins a row
  begins-row : (k : Kind) (end : ℕ) → EndsAt k (length s) at end → Means s k at end
      → Row at d (drop at s) (after_kind k (token k at d end) (tokens_from s))
  begins-row End end e (inl m) = rw m ended
  begins-row End end e (inr m) = rw m.1 comment
  begins-row Stray end e m = rw e (broken m)
  begins-row Word end e m =
      let n : length (take (end - at) (drop at s)) ≡ end - at = length-take-le (end - at) (drop at s) (omega (arith, length-drop at s)) in
      let p : at + length (take (end - at) (drop at s)) ≡ end = omega (arith, n) in
      subst (λ (x : ℕ). Row at d (drop at s) (token Word at d x ∷ tokens_from s end)) p (word m (rw p (ih end e.0 e.1)))
  begins-row (Number v k) end e m =
      let p : at + (end - at) ≡ end = omega arith in
      let i : Row (at + (end - at)) true (drop end s) (tokens_from s end) = rw p (ih end e.0 e.1) in
      rw m.1
      (subst (λ (x : ℕ). Row at d (drop at s) (token (Number (cut m.0) k) at d x ∷ tokens_from s end)) p
      (number (end - at) m.2 (omega (arith, length-drop at s, length-drop end s)) i))
  begins-row Text end e m =
      let n = end - (at + 1) in
      let p : at + 1 + n ≡ end = omega arith in
      let q : length (drop (at + 1) s) ≡ n + length (drop end s) = omega (arith, length-drop (at + 1) s, length-drop end s) in
      let i : Row (at + 1 + n) true (drop end s) (tokens_from s end) = rw p (ih end e.0 e.1) in
      rw m.0 (subst (λ (x : ℕ). Row at d (code "\"" ∷ drop (at + 1) s) (token Text at d x ∷ tokens_from s end)) p (string n m.2 q i))
  begins-row (Mark b) end e m =
      let p : at + 1 ≡ end = omega (arith, length-drop at s, length-drop end s, ap length m.1) in
      let i : Row (at + 1) true (drop end s) (tokens_from s end) = rw p (ih end e.0 e.1) in
      rw m.1 (subst (λ (x : ℕ). Row at d (b ∷ drop end s) (token (Mark b) at d x ∷ tokens_from s end)) p (mark m.0 i))

  here-row : (at < length s → is_blank (get_or s at 0) ≡ false) → Row at d (drop at s) (row_of (token_here s at d) s)
  here-row nb =
      let t = token_here s at d in
      let h = here-stands s at d in
      subst₂ (λ (p : ℕ) (f : Bool). Row at d (drop at s) (after_kind t.kind (token t.kind p f t.next.at) (tokens_from s)))
      (sym h.starts) (sym h.follows)
      (begins-row t.kind t.next.at h.ends (here-means s at d nb))

-- ---- rows

found : (s : List ℕ) (f at : ℕ) (d : Bool) → length s - at ≤ f → Row at d (drop at s) (row_from s at d)
found s zero at d h =
    let l : length s ≤ at = omega arith in
    let e : drop at s ≡ [] = drop_of_length-le s l in
    rw (row-complete s (ended {at = at} {d = d}) e) (rw e ended)
found s (suc f) at d h =
    let n = blanks (drop at s) in
    let r = here-row s (at + n) (d && eqb n 0) (λ m l k. rw (row_directly s m) (found s f m true (omega arith)))
    (λ l. ends-blanks (drop at s) (drop-drop n at s ∙ drop-cons s (at + n) 0 l)) in
    over (drop at s) at d (row_from s at d) (rw (drop-drop n at s) r)

-- a row from a place on, whether it follows what stands before directly or not
pub row-found : (s : List ℕ) (at : ℕ) (d : Bool) → Row at d (drop at s) (row_from s at d)
row-found s at d = found s (length s - at) at d (omega arith)

pub row_here : (s : List ℕ) (at : ℕ) → Row at true (drop at s) (tokens_from s at)
row_here s at = rw (row_directly s at) (row-found s at true)

pub line_row : (line : List ℕ) → RowOf line (tokens_from line 0)
line_row line = row_here line 0
