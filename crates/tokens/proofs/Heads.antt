-- The row at a place, by the kind of the token there.
use Prim.Native.Nat.{ℕ}
use mathlib.Core.List.{List, ◌∷◌}
use mathlib.Core.Logic.{◌⊎◌, inl, inr}
use mathlib.Core.Path.{◌≡◌, refl, sym, ap, subst, ◌∙◌}
use native.Mathlib.Omega.{arith}
use lib.ListN.{length}
use Rattle.tokens.specs.Reading.{token_at, after_kind, tokens_from}
use Rattle.tokens.specs.declared.Kind.{Kind}
use Rattle.tokens.specs.declared.Kind.TheVariants as K
use Rattle.tokens.specs.declared.Token.{Token}
use Rattle.tokens.proofs.Places.{EndsAt, row_unfolds, token_placed}

pub row_of : (s : List ℕ) (at : ℕ) {k : Kind} → (token_at s at).kind ≡ k → tokens_from s at ≡ after_kind k (token_at s at) (tokens_from s)
row_of s at e = row_unfolds s at ∙ ap (λ (k : Kind). after_kind k (token_at s at) (tokens_from s)) e

pub ends_of : (s : List ℕ) (at : ℕ) {k : Kind} → (token_at s at).kind ≡ k
    → EndsAt k (length s) (token_at s at).start (token_at s at).next.at
ends_of s at e = subst (λ (k : Kind). EndsAt k (length s) (token_at s at).start (token_at s at).next.at) e (token_placed s at).ends

-- what a row begins with, and what follows unless it is stray
after-head : (k : Kind) (t : Token) (rest : ℕ → List Token) {u : Token} {us : List Token} → after_kind k t rest ≡ u ∷ us
    → (t ≡ u) × ((k ≡ K.Stray) ⊎ (rest t.next.at ≡ us))
after-head K.End t rest e = let z : ◌≡◌ {A = ℕ} 0 1 = cc in absurd (omega arith)
after-head K.Stray t rest e = (cc, inl refl)
after-head K.Word t rest e = (cc, inr (cc))
after-head (K.Number v k) t rest e = (cc, inr (cc))
after-head K.Text t rest e = (cc, inr (cc))
after-head (K.Mark b) t rest e = (cc, inr (cc))

pub row-head : (s : List ℕ) (at : ℕ) {u : Token} {us : List Token} → tokens_from s at ≡ u ∷ us
    → (token_at s at ≡ u) × (((token_at s at).kind ≡ K.Stray) ⊎ (tokens_from s (token_at s at).next.at ≡ us))
row-head s at e = after-head (token_at s at).kind (token_at s at) (tokens_from s) (sym (row_unfolds s at) ∙ e)
