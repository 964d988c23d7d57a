-- The laws of Steps.antt and Operands.antt as the code meets them: over the token that was read, and its symbol.
use Prim.Native.Nat.{ℕ, suc, ◌-◌, ◌<◌}
use mathlib.Core.List.{List}
use mathlib.Core.Path.{◌≡◌, sym, ap, subst, subst⁻¹, ◌∙◌}
use lib.ListN.{length}
use Rattle.tokens.specs.Reading.{token_at}
use Rattle.tokens.specs.declared.Token.{Token}
use Rattle.expressions.specs.Worths.{Worth, of_number}
use Rattle.expressions.specs.Places.{Found, found_at, evaluate}
use Rattle.expressions.specs.Reading.{kind_symbol}
use Rattle.expressions.specs.Inner.Parts.{number_at, Level, factors, sums, Says}
use Rattle.expressions.specs.declared.Operation.{Operation}
use Rattle.std.proofs.Common.{Ok, Err}
use Rattle.numerals.specs.Reading.{upto}
use Rattle.numerals.specs.declared.Read.{Read}
use Rattle.expressions.specs.declared.Malformed.{Malformed}
use Rattle.expressions.specs.declared.Malformed.TheVariants.{TooDeep, WrongForm}
use Rattle.expressions.specs.declared.Symbol.{Symbol}
use Rattle.expressions.specs.declared.Symbol.TheVariants as Y
use Rattle.expressions.proofs.Steps.{Nests, part_stop, part_next, next_fails, part_less}
use Rattle.expressions.proofs.Operands.{factor_neither, factor_number, factor_deep, inside_fails, shut-after, not_shut_after}

-- what the code saw of a symbol is what there is to see at the place
module _ (s : List ℕ) (at : ℕ) {t : Token} {y : Symbol} (k : t ≡ token_at s at) (l : y ≡ kind_symbol t.kind) where
  pub seen : kind_symbol (token_at s at).kind ≡ y
  seen = sym (l ∙ ap (λ (t : Token). kind_symbol t.kind) k)

  module _ (room : ℕ) where
    pub seen-neither : ((v : ℕ) → y ≡ Y.Number v → ⊥) → (y ≡ Y.Opens → ⊥) → Says factors factors s at room (Err WrongForm)
    seen-neither m n = factor_neither s at room (λ v e. m v (sym seen ∙ e)) (λ e. n (sym seen ∙ e))

    pub seen-number : {v : ℕ} {w : Worth} {r : Found} → y ≡ Y.Number v → w ≡ of_number v → r ≡ found_at t.start w
        → Says factors factors s at room (Ok (upto r t.next))
    seen-number {v} g h f =
        subst⁻¹ (λ (r : Found). Says factors factors s at room (Ok (upto r t.next))) (f ∙ ap (found_at t.start) h)
        (subst⁻¹ (λ (t : Token). Says factors factors s at room (Ok (upto (number_at t v) t.next))) k (factor_number s at room v (seen ∙ g)))

    module _ (g : y ≡ Y.Opens) where
      pub seen-deep : room ≡ 0 → Says factors factors s at room (Err TooDeep)
      seen-deep z = factor_deep s at (seen ∙ g) room z

      -- the sum inside
      module _ {room' : ℕ} (z : room ≡ suc room') where
        pub seen_inside-fails : (why : Malformed) → Says sums sums s t.next.at room' (Err why) → Says factors factors s at room (Err why)
        seen_inside-fails why h = inside_fails s at (seen ∙ g) z why (subst (λ (t : Token). Says sums sums s t.next.at room' (Err why)) k h)

        module _ (r : Read Found) (h : Says sums sums s t.next.at room' (Ok r)) {u : Token} {x : Symbol} (i : u ≡ token_at s r.next.at) (j : x ≡ kind_symbol u.kind) where
          inside-says : Says sums sums s (token_at s at).next.at room' (Ok r)
          inside-says = subst (λ (t : Token). Says sums sums s t.next.at room' (Ok r)) k h

          shut_seen : kind_symbol (token_at s r.next.at).kind ≡ x
          shut_seen = sym (j ∙ ap (λ (t : Token). kind_symbol t.kind) i)

          pub seen-shut : x ≡ Y.Shuts → Says factors factors s at room (Ok (upto r.value u.next))
          seen-shut f =
              subst⁻¹ (λ (t : Token). Says factors factors s at room (Ok (upto r.value t.next))) i
              (shut-after s at (seen ∙ g) z r inside-says (shut_seen ∙ f))

          pub seen_not-shut : (x ≡ Y.Shuts → ⊥) → Says factors factors s at room (Err WrongForm)
          seen_not-shut n = not_shut_after s at (seen ∙ g) z r inside-says (λ f. n (sym shut_seen ∙ f))

-- the loops of products and of sums, at a part that was read so far
module _ {inner outer : Level} {mark : Operation → Symbol} (n : Nests inner outer mark) (s : List ℕ) (at room : ℕ) (q : Read Found) (h : Says outer inner s at room (Ok q))
    {t : Token} {y : Symbol} (k : t ≡ token_at s q.next.at) (l : y ≡ kind_symbol t.kind) where
  pub seen-stop : ((o : Operation) → y ≡ mark o → ⊥) → Says outer outer s at room (Ok q)
  seen-stop m = part_stop n s at room q h (λ o e. m o (sym (seen s q.next.at k l) ∙ e))

  -- a mark and a further operand
  module _ {o : Operation} (g : y ≡ mark o) where
    pub seen_fails : (why : Malformed) → Says inner inner s t.next.at room (Err why) → Says outer outer s at room (Err why)
    seen_fails why r =
        next_fails n s at room q h o (seen s q.next.at k l ∙ g) why (subst (λ (t : Token). Says inner inner s t.next.at room (Err why)) k r)

    module _ (f : Read Found) (r : Says inner inner s t.next.at room (Ok f)) where
      further : Says inner inner s (token_at s q.next.at).next.at room (Ok f)
      further = subst (λ (t : Token). Says inner inner s t.next.at room (Ok f)) k r

      pub seen_next : {j : Read Found} → j ≡ upto (evaluate t.start o q.value f.value) f.next → Says outer inner s at room (Ok j)
      seen_next i =
          subst⁻¹ (λ (j : Read Found). Says outer inner s at room (Ok j)) (i ∙ ap (λ (t : Token). upto (evaluate t.start o q.value f.value) f.next) k)
          (part_next n s at room q h o (seen s q.next.at k l ∙ g) f further)

      pub seen-less : length s - f.next.at < length s - q.next.at
      seen-less = part_less n s at room q h o (seen s q.next.at k l ∙ g) f further
