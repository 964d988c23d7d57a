-- A line's label: the reader finds it exactly where the rule has one, and what comes after it is again a row of the line.
use Prim.Native.Nat.{ℕ}
use Prim.Native.Char.{code}
use mathlib.Core.Bool.{Bool, true, false, ◌&&◌}
use mathlib.Core.List.{List, [], ◌∷◌}
use mathlib.Core.Logic.{◌⊎◌, inl, inr}
use mathlib.Core.Path.{◌≡◌, refl, sym, ap, ◌∙◌}
use native.Mathlib.Omega.{arith}
use borrow.Author.Tests.{eqb-true}
use Rattle.tokens.specs.Reading.{token_at, tokens_from}
use Rattle.tokens.specs.declared.Kind.{Kind}
use Rattle.tokens.specs.declared.Kind.TheVariants as K
use Rattle.tokens.specs.declared.Token.{Token}
use Rattle.values.specs.Values.{name_at}
use Rattle.std.proofs.Common.{Some, None}
use Rattle.values.specs.declared.Name.{Name}
use Rattle.tokens.proofs.Heads.{row-head}
use Rattle.statements.specs.Statements.{Label, label}
use Rattle.statements.specs.Reading.{is_word, is_colon, labelled, label_read, after_label}

pub never : {X : Type 0} → ◌≡◌ {A = ℕ} 0 1 → X
never z = absurd (omega arith)

-- ---- the tests

pub word-kind : (k : Kind) → is_word k ≡ true → k ≡ K.Word
word-kind K.End e = never (cc)
word-kind K.Stray e = never (cc)
word-kind K.Word e = refl
word-kind (K.Number v k) e = never (cc)
word-kind K.Text e = never (cc)
word-kind (K.Mark b) e = never (cc)

pub colon_kind : (k : Kind) → is_colon k ≡ true → k ≡ K.Mark (code ":")
colon_kind K.End e = never (cc)
colon_kind K.Stray e = never (cc)
colon_kind K.Word e = never (cc)
colon_kind (K.Number v k) e = never (cc)
colon_kind K.Text e = never (cc)
colon_kind (K.Mark b) e = ap K.Mark (eqb-true b (code ":") e)

both : (a b : Bool) → a && b ≡ true → (a ≡ true) × (b ≡ true)
both true true e = (refl, refl)
both true false e = never (cc)
both false true e = never (cc)
both false false e = never (cc)

-- ---- the label

module _ (ts : List Token) where
  pub data Labels : Type 0 where
    label_is : (n : Name) (us : List Token) → Label ts n us → Labels
    none_is : ((n : Name) (us : List Token) → Label ts n us → ⊥) → label_read ts ≡ None → after_label ts ≡ ts → Labels

-- a label is read as what it is
pub label_tested : {ts us : List Token} {n : Name} → Label ts n us → labelled ts ≡ true
label_tested (label {w} {c} {ts} k m d) = rw (k, m, d)

pub label-read : {ts us : List Token} {n : Name} → Label ts n us → label_read ts ≡ Some n
unfolding label_read
label-read (label {w} {c} {ts} k m d) = rw (k, m, d)

pub label_after : {ts us : List Token} {n : Name} → Label ts n us → after_label ts ≡ us
unfolding after_label
label_after (label {w} {c} {ts} k m d) = rw (k, m, d)

pub label-once : {ts us us' : List Token} {n n' : Name} → Label ts n us → Label ts n' us' → (n ≡ n') × (us ≡ us')
label-once l l' = (cc (label-read l, label-read l'), sym (label_after l) ∙ label_after l')

not-labelled : (ts : List Token) → labelled ts ≡ false → Labels ts
unfolding label_read after_label
not-labelled ts e =
    none_is (λ n us l. let z : true ≡ false = sym (label_tested l) ∙ e in never (cc)) (rw e) (rw e)

pub labels : (ts : List Token) → Labels ts
labels [] = not-labelled [] refl
labels (w ∷ []) = not-labelled (w ∷ []) refl
labels (w ∷ c ∷ ts) = go (labelled (w ∷ c ∷ ts)) refl
  where
    go : (b : Bool) → labelled (w ∷ c ∷ ts) ≡ b → Labels (w ∷ c ∷ ts)
    go true e =
        let h = both (is_word w.kind) (is_colon c.kind && c.directly) e in
        let g = both (is_colon c.kind) c.directly h.1 in
        label_is (name_at w) ts (label (word-kind w.kind h.0) (colon_kind c.kind g.0) g.1)
    go false e = not-labelled (w ∷ c ∷ ts) e

-- ---- rows

-- a token of a row that is not stray: the row goes on behind it
pub goes_on_lem : (line : List ℕ) (at : ℕ) {t : Token} {ts : List Token} → tokens_from line at ≡ t ∷ ts → (t.kind ≡ K.Stray → ⊥)
    → ts ≡ tokens_from line t.next.at
goes_on_lem line at {t} {ts} e n = go (row-head line at e).0 (row-head line at e).1
  where
    go : token_at line at ≡ t → (((token_at line at).kind ≡ K.Stray) ⊎ (tokens_from line (token_at line at).next.at ≡ ts)) → ts ≡ tokens_from line t.next.at
    go p (inl s) = absurd (n (ap (λ (v : Token). v.kind) (sym p) ∙ s))
    go p (inr q) = sym q ∙ ap (λ (v : Token). tokens_from line v.next.at) p

-- what comes after a label is a row of the line too
pub behind-label : (line : List ℕ) (at : ℕ) {us : List Token} {n : Name} → Label (tokens_from line at) n us
    → (to : ℕ) × (us ≡ tokens_from line to)
behind-label line at l = go (tokens_from line at) refl l
  where
    go : {us : List Token} {n : Name} (ts : List Token) → tokens_from line at ≡ ts → Label ts n us → (to : ℕ) × (us ≡ tokens_from line to)
    go ts e (label {w} {c} k m d) =
        let h = goes_on_lem line at e (λ z. never (cc)) in
        (c.next.at, goes_on_lem line w.next.at (sym h) (λ z. never (cc)))
