-- The row of tokens from a place on, by the symbol of the token there.
use Prim.Native.Nat.{ℕ, ◌≤◌, ◌<◌}
use mathlib.Core.Bool.{true, false}
use mathlib.Core.List.{List, [], ◌∷◌}
use mathlib.Core.Path.{◌≡◌, refl, sym}
use native.Mathlib.Omega.{arith}
use lib.ListN.{length}
use Rattle.tokens.specs.Reading.{token_at, after_kind, tokens_from}
use Rattle.tokens.specs.declared.Kind.{Kind}
use Rattle.tokens.specs.declared.Kind.TheVariants as K
use Rattle.tokens.specs.declared.Token.{Token}
use Rattle.tokens.proofs.Places.{EndsAt, token_placed, row_unfolds}
use Rattle.expressions.specs.Reading.{kind_symbol}
use Rattle.expressions.specs.Inner.Parts as P
use Rattle.expressions.specs.Inner.Parts.{Level, factors, products, sums, Ends, is_end}
use Rattle.expressions.specs.declared.Symbol.{Symbol}
use Rattle.expressions.specs.declared.Symbol.TheVariants as Y

-- the row from a place on begins with the token there, and goes on further in the line
pub record Heads (s : List ℕ) (at : ℕ) : Type 0 where
  pub row : tokens_from s at ≡ token_at s at ∷ tokens_from s (token_at s at).next.at
  pub on : at < (token_at s at).next.at
  pub within : (token_at s at).next.at ≤ length s

module _ (s : List ℕ) (at : ℕ) where
  -- a token that an expression may have is followed by further tokens
  pub heads : {y : Symbol} → kind_symbol (token_at s at).kind ≡ y → (y ≡ Y.Other → ⊥) → Heads s at
  heads {y} e n = let p = token_placed s at in go (token_at s at).kind e (row_unfolds s at) p.starts p.ends
    where
      go : (k : Kind) → kind_symbol k ≡ y → tokens_from s at ≡ after_kind k (token_at s at) (tokens_from s)
          → at ≤ (token_at s at).start → EndsAt k (length s) (token_at s at).start (token_at s at).next.at → Heads s at
      go (K.Number v k) f r l p = record { row = r; on = omega arith; within = p.1 }
      go (K.Mark b) f r l p = record { row = r; on = omega arith; within = p.1 }
      go _ f r l p = absurd (n (sym f))

  -- where a row begins: with no token, or with the token there
  pub data Begins : List Token → Type 0 where
    ended : is_end (token_at s at).kind ≡ true → kind_symbol (token_at s at).kind ≡ Y.Other → Begins []
    some : {ts : List Token} → is_end (token_at s at).kind ≡ false → Begins (token_at s at ∷ ts)

  pub begins : Begins (tokens_from s at)
  begins = rw (row_unfolds s at) (go (token_at s at).kind refl)
    where
      go : (k : Kind) → (token_at s at).kind ≡ k → Begins (after_kind k (token_at s at) (tokens_from s))
      go K.End e = ended (rw e) (rw e)
      go _ e = some (rw e)

  other-ends : (level : Level) {y : Symbol} → y ≡ Y.Other → P.EndsAt level y
  other-ends factors e = tt
  other-ends products e = rw e
  other-ends sums e = (rw e, rw e)

  -- a part ends by the token that follows it
  pub ends_there : (level : Level) → P.EndsAt level (kind_symbol (token_at s at).kind) → Ends level (tokens_from s at)
  ends_there level h = go begins
    where
      go : {ts : List Token} → Begins ts → Ends level ts
      go (ended e f) = tt
      go (some e) = h

  pub ends-here : (level : Level) → Ends level (tokens_from s at) → P.EndsAt level (kind_symbol (token_at s at).kind)
  ends-here level h = go begins h
    where
      go : {ts : List Token} → Begins ts → Ends level ts → P.EndsAt level (kind_symbol (token_at s at).kind)
      go (ended e f) h = other-ends level f
      go (some e) h = h

  pub row-ended : is_end (token_at s at).kind ≡ true → tokens_from s at ≡ []
  row-ended e = go (begins)
    where
      go : {ts : List Token} → Begins ts → ts ≡ []
      go (ended f g) = refl
      go (some f) = let z : ◌≡◌ {A = ℕ} 0 1 = cc in absurd (omega arith)
