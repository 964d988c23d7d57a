-- What one turn of the loop over operands does to what is kept of them.
use Prim.Native.Nat.{ℕ, ◌≤◌, ◌<◌}
use Prim.Native.Char.{code}
use mathlib.Core.Bool.{Bool, true, false, cond}
use mathlib.Core.List.{List, []}
use mathlib.Core.Logic.{◌⊎◌, inl, inr}
use mathlib.Core.Path.{◌≡◌, refl, sym, ap, subst, ◌∙◌}
use native.Mathlib.Omega.{arith}
use lib.Dec.{eqb}
use lib.ListN.{length}
use Rattle.numerals.specs.declared.Cursor.{Cursor}
use Rattle.tokens.specs.Reading.{token_at, tokens_from}
use Rattle.tokens.specs.Commas.{follows_by, follows_of}
use Rattle.tokens.specs.declared.Follows.{Follows}
use Rattle.tokens.specs.declared.Follows.TheVariants.{Comma, Over, Neither}
use Rattle.tokens.specs.declared.Kind.{Kind}
use Rattle.tokens.specs.declared.Kind.TheVariants as K
use Rattle.tokens.specs.declared.Token.{Token}
use Rattle.tokens.proofs.Parted.{comma-moves}
use Rattle.tokens.proofs.Heads.{row_of}
use Rattle.values.proofs.Walks as Walks
use Rattle.values.proofs.Walks.{finished}
use Rattle.operands.specs.Reading.{operand, done, RowRead, reads, wrong, cons, finish, step, walk, operands_of}
use Rattle.operands.specs.Inner.Peeks.{Goes, keep, keep_all, none_listed, listed}
use Rattle.std.proofs.Common.{Some, None}
use Rattle.numerals.specs.declared.Read.{Read}
use Rattle.operands.specs.declared.FirstTwo.{FirstTwo}
use Rattle.operands.specs.declared.Written.{Written}

listed_cons : (all : FirstTwo) (o : Written) (r : RowRead) → listed all (cons o r) ≡ listed (keep all o) r
unfolding keep_all
listed_cons all o (reads os) = refl
listed_cons all o wrong = refl

-- an operand and what follows it
abbrev follows_on : List ℕ → Written → Follows → RowRead
follows_on s o x = Walks.follows_on operand (step s) finish s o x

module _ (s : List ℕ) (at : ℕ) where
  -- ---- what follows an operand

  pub done-turn : (o : Written) → walk s (done o) (tokens_from s at) ≡ follows_on s o (follows_of (token_at s at))
  unfolding walk
  done-turn o = finished operand (step s) finish s at (done o) o refl refl

  -- the line's end and no operands, or neither
  abbrev Row : Follows → Type 0
  Row x = ((x ≡ Over) × (tokens_from s at ≡ [])) ⊎ ((x ≡ Over → ⊥) × (operands_of s (tokens_from s at) ≡ walk s operand (tokens_from s at)))

  row : Row (follows_of (token_at s at))
  unfolding operands_of
  row = go (token_at s at).kind refl
    where
      go : (k : Kind) → (token_at s at).kind ≡ k → Row (follows_by k (token_at s at).next)
      go K.End q = inl (refl, row_of s at q)
      go K.Stray q = inr (λ e. (cc), rw (row_of s at q))
      go K.Word q = inr (λ e. (cc), rw (row_of s at q))
      go (K.Number v k) q = inr (λ e. (cc), rw (row_of s at q))
      go K.Text q = inr (λ e. (cc), rw (row_of s at q))
      go (K.Mark b) q = inr (mark (eqb b (code ",")), rw (row_of s at q))
        where
          mark : (y : Bool) → cond y (Comma (token_at s at).next) Neither ≡ Over → ⊥
          mark true e = cc
          mark false e = cc

  pub none_at : follows_of (token_at s at) ≡ Over → listed none_listed (operands_of s (tokens_from s at)) ≡ Some none_listed
  unfolding operands_of keep_all
  none_at e = elim row [ inl h ↦ ap (λ (l : List Token). listed none_listed (operands_of s l)) h.1 | inr h ↦ absurd (h.0 e) ]

  pub some_at : (follows_of (token_at s at) ≡ Over → ⊥) → operands_of s (tokens_from s at) ≡ walk s operand (tokens_from s at)
  some_at h = elim row [ inl e ↦ absurd (h e.0) | inr e ↦ e.1 ]

-- ---- one turn

module _ (s : List ℕ) (all : FirstTwo) (at : ℕ) where
  pub some-wrong : Goes s operand at None → listed all (walk s operand (tokens_from s at)) ≡ None
  some-wrong g = ap (λ (r : RowRead). listed all r) g.same

  module _ {r : Read Written} (g : Goes s operand at (Some r)) where
    turned : {x : Follows} → follows_of (token_at s r.next.at) ≡ x → listed all (walk s operand (tokens_from s at)) ≡ listed all (follows_on s r.value x)
    turned e = ap (λ (r : RowRead). listed all r) (g.same ∙ done-turn s r.next.at r.value ∙ ap (follows_on s r.value) e)

    pub some-over : follows_of (token_at s r.next.at) ≡ Over → listed all (walk s operand (tokens_from s at)) ≡ Some (keep all r.value)
    unfolding keep_all
    some-over e = turned e

    pub some-neither : follows_of (token_at s r.next.at) ≡ Neither → listed all (walk s operand (tokens_from s at)) ≡ None
    some-neither e = turned e

    pub some-comma : {m : Cursor} {more : FirstTwo} → more ≡ keep all r.value → follows_of (token_at s r.next.at) ≡ Comma m
        → (listed all (walk s operand (tokens_from s at)) ≡ listed more (walk s operand (tokens_from s m.at))) × (at < m.at) × (m.at ≤ length s)
    unfolding walk
    some-comma {m} {more} q e =
        let h = comma-moves s r.next.at e in
        let rest = walk s operand (tokens_from s m.at) in
        let l : at ≤ r.next.at = g.on in
        (turned e ∙ listed_cons all r.value rest ∙ ap (λ (y : FirstTwo). listed y rest) (sym q), omega (arith, h.0), h.1)
