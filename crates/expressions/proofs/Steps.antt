-- What each turn of the readers of sums, products and factors does to what has been read: laws that the code's proofs cite.
use Prim.Native.Nat.{ℕ, ◌-◌, ◌<◌}
use mathlib.Core.List.{List, [], ◌∷◌}
use mathlib.Core.Path.{◌≡◌, refl, ap, ◌∙◌}
use native.Mathlib.Omega.{arith}
use lib.ListN.{length}
use Rattle.tokens.specs.Reading.{token_at, tokens_from}
use Rattle.tokens.specs.declared.Token.{Token}
use Rattle.expressions.specs.Places.{evaluate}
use Rattle.expressions.specs.Reading.{kind_symbol, nothing, waits, at_operator, operator}
use Rattle.expressions.specs.Inner.Scanning.{passes}
use Rattle.expressions.specs.Inner.Parts.{sum_mark, product_mark, number_at, evaluate_at, inside_at, Level, factors, products, sums, Wait, Stack, Left, before, after, EndsAt, Ends, Says, Answer, operand_f, operator_f}
use Rattle.expressions.specs.declared.Operation.{Operation}
use Rattle.expressions.specs.Places.{Found}
use Rattle.std.proofs.Common.{None, Ok, Err}
use Rattle.numerals.specs.Reading.{upto}
use Rattle.numerals.specs.declared.Read.{Read}
use Rattle.expressions.specs.declared.Malformed.{Malformed}
use Rattle.expressions.specs.declared.Malformed.TheVariants.{TooDeep, WrongForm}
use Rattle.expressions.specs.declared.Symbol.{Symbol}
use Rattle.expressions.specs.declared.Symbol.TheVariants as Y
use Rattle.expressions.proofs.Turns.{at_sum, at_product}
use Rattle.expressions.proofs.Depths.{pass-sum, pass-product}
use Rattle.expressions.proofs.Rows.{Heads, heads, ends_there, ends-here}

pub never : {X : Type 0} → ◌≡◌ {A = ℕ} 0 1 → X
never z = absurd (omega arith)

-- ---- the symbols that a part does not go on by

no_product : (y : Symbol) → ((o : Operation) → y ≡ Y.Products o → ⊥) → product_mark y ≡ None
no_product (Y.Products o) n = absurd (n o refl)
no_product _ n = refl

no_sum : (y : Symbol) → ((o : Operation) → y ≡ Y.Sums o → ⊥) → sum_mark y ≡ None
no_sum (Y.Sums o) n = absurd (n o refl)
no_sum _ n = refl

-- ---- parts of one level as the operands of a level above

pub record Nests (inner outer : Level) (mark : Operation → Symbol) : Type 0 where
  pub first : Left outer → Left inner
  pub first-before : (ts : List Token) (x : Left outer) → before outer ts x ≡ before inner ts (first x)
  pub first-after : (ts : List Token) (v : Found) (x : Left outer) → after inner ts v (first x) ≡ after outer ts v x
  pub further : Left outer → Found → Token → Operation → Left inner
  pub further-before : (t : Token) (ts : List Token) (v : Found) (o : Operation) (x : Left outer) → kind_symbol t.kind ≡ mark o
      → after outer (t ∷ ts) v x ≡ before inner ts (further x v t o)
  pub further-after : (ts : List Token) (v w : Found) (t : Token) (o : Operation) (x : Left outer) → Ends inner ts
      → after inner ts w (further x v t o) ≡ after outer ts (evaluate t.start o v w) x
  pub same-room : (t : Token) (ts : List Token) (o : Operation) (room : ℕ) → kind_symbol t.kind ≡ mark o → passes (t ∷ ts) room ≡ passes ts room
  pub marked : (o : Operation) → mark o ≡ Y.Other → ⊥
  pub stops : (y : Symbol) → EndsAt inner y → ((o : Operation) → y ≡ mark o → ⊥) → EndsAt outer y

pub in_products : Nests factors products Y.Products
in_products =
    record {
      first = λ x. (x.0, nothing, x.1);
      first-before = λ ts x. refl;
      first-after = λ ts v x. refl;
      further = λ x v t o. (x.0, waits v t o, x.1);
      further-before = λ t ts v o x e. at_product (Found) number_at evaluate_at inside_at t ts o e x.0 v x.1;
      further-after = λ ts v w t o x h. refl;
      same-room = λ t ts o room e. pass-product t ts room o e;
      marked = λ o e. never (cc);
      stops = λ y h n. no_product y n;
    }

-- where no mark of products follows, what waits may be put in
put_in : (u : Token) (y : Symbol) (f : Wait → Found → Stack → Answer) (g : Wait → Wait → Stack → Answer)
    (v w : Found) (t : Token) (o : Operation) (k : Stack) → product_mark y ≡ None
    → at_operator (Found) number_at evaluate_at inside_at u y f g (waits v t o) w k ≡ at_operator (Found) number_at evaluate_at inside_at u y f g nothing (evaluate t.start o v w) k
put_in u (Y.Number n) f g v w t o k e = refl
put_in u (Y.Sums p) f g v w t o k e = refl
put_in u (Y.Products p) f g v w t o k e = never (cc)
put_in u Y.Opens f g v w t o k e = refl
put_in u Y.Shuts f g v w t o [] e = refl
put_in u Y.Shuts f g v w t o (q ∷ k) e = refl
put_in u Y.Other f g v w t o k e = refl

put_in_sum : (ts : List Token) (v w : Found) (t : Token) (o : Operation) (k : Stack) → Ends products ts
    → after products ts w (waits v t o, k) ≡ after sums ts (evaluate t.start o v w) k
unfolding operator
put_in_sum [] v w t o [] h = refl
put_in_sum [] v w t o (f ∷ k) h = refl
put_in_sum (u ∷ ts) v w t o k h =
    put_in u (kind_symbol u.kind) (operator_f ts) (operand_f ts) v w t o k h

pub in_sums : Nests products sums Y.Sums
in_sums =
    record {
      first = λ x. (nothing, x);
      first-before = λ ts x. refl;
      first-after = λ ts v x. refl;
      further = λ x v t o. (waits v t o, x);
      further-before = λ t ts v o x e. at_sum (Found) number_at evaluate_at inside_at t ts o e nothing v x;
      further-after = λ ts v w t o x h. put_in_sum ts v w t o x h;
      same-room = λ t ts o room e. pass-sum t ts room o e;
      marked = λ o e. never (cc);
      stops = λ y h n. (h, no_sum y n);
    }

module _ {inner outer : Level} {mark : Operation → Symbol} (n : Nests inner outer mark) (s : List ℕ) (at room : ℕ) where
  -- the first operand is a part
  pub part_first : (r : Read Found) → Says inner inner s at room (Ok r) → Says outer inner s at room (Ok r)
  part_first r h =
      record {
        on = h.on;
        within = h.within;
        room-left = h.room-left;
        read = λ x. n.first-before (tokens_from s at) x ∙ h.read (n.first x) ∙ n.first-after (tokens_from s r.next.at) r.value x;
        ends = h.ends;
      }

  -- what is no operand is no part
  pub first_fails : (why : Malformed) → Says inner inner s at room (Err why) → Says outer outer s at room (Err why)
  first_fails WrongForm h = λ x. n.first-before (tokens_from s at) x ∙ h (n.first x)
  first_fails TooDeep h = h

  module _ (q : Read Found) (h : Says outer inner s at room (Ok q)) where
    -- no mark follows: the part ends
    pub part_stop : ((o : Operation) → kind_symbol (token_at s q.next.at).kind ≡ mark o → ⊥) → Says outer outer s at room (Ok q)
    part_stop e =
        record {
          on = h.on;
          within = h.within;
          room-left = h.room-left;
          read = h.read;
          ends = ends_there s q.next.at outer (n.stops _ (ends-here s q.next.at inner h.ends) e);
        }

    -- a mark and a further operand
    module _ (o : Operation) (e : kind_symbol (token_at s q.next.at).kind ≡ mark o) where
      abbrev there : ℕ
      there = (token_at s q.next.at).next.at

      abbrev mark_at : ℕ
      mark_at = (token_at s q.next.at).start

      on_by : Heads s q.next.at
      on_by = heads s q.next.at e (n.marked o)

      read_on : (x : Left outer) → before outer (tokens_from s at) x ≡ before inner (tokens_from s there) (n.further x q.value (token_at s q.next.at) o)
      read_on x =
          h.read x
          ∙ ap (λ (ts : List Token). after outer ts q.value x) on_by.row
          ∙ n.further-before (token_at s q.next.at) (tokens_from s there) q.value o x e

      room-on : passes (tokens_from s at) room ≡ passes (tokens_from s there) room
      room-on =
          h.room-left
          ∙ ap (λ (ts : List Token). passes ts room) on_by.row
          ∙ n.same-room (token_at s q.next.at) (tokens_from s there) o room e

      pub part_next : (r : Read Found) → Says inner inner s there room (Ok r) → Says outer inner s at room (Ok (upto (evaluate mark_at o q.value r.value) r.next))
      part_next r g =
          let b = on_by in
          record {
            on = omega (arith, h.on, b.on, g.on);
            within = g.within;
            room-left = room-on ∙ g.room-left;
            read = λ x. read_on x ∙ g.read (n.further x q.value (token_at s q.next.at) o) ∙ n.further-after (tokens_from s r.next.at) q.value r.value (token_at s q.next.at) o x g.ends;
            ends = g.ends;
          }

      pub next_fails : (why : Malformed) → Says inner inner s there room (Err why) → Says outer outer s at room (Err why)
      next_fails WrongForm g = λ x. read_on x ∙ g (n.further x q.value (token_at s q.next.at) o)
      next_fails TooDeep g = room-on ∙ g

      pub part_less : (r : Read Found) → Says inner inner s there room (Ok r) → length s - r.next.at < length s - q.next.at
      part_less r g = omega (arith, on_by.on, g.on, g.within)
