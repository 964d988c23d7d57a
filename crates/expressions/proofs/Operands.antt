-- What an operand is to the reader of whole rows: a number, or a sum in parentheses; and what may follow a sum.
use Prim.Native.Nat.{ℕ, suc}
use mathlib.Core.Bool.{false}
use mathlib.Core.List.{List, [], ◌∷◌}
use mathlib.Core.Path.{◌≡◌, refl, sym, ap, ◌∙◌}
use native.Mathlib.Omega.{arith}
use Rattle.tokens.specs.Reading.{token_at, tokens_from}
use Rattle.tokens.specs.declared.Token.{Token}
use Rattle.expressions.specs.Reading.{kind_symbol, nothing, wrong, Frame, at_operand, at_operator, operand, operator}
use Rattle.expressions.specs.Inner.Scanning.{passes}
use Rattle.expressions.specs.Inner.Parts.{is_end, number_at, evaluate_at, inside_at, factors, sums, Wait, Stack, Left, before, after, EndsAt, Ends, Says, Answer, operand_f, operator_f}
use Rattle.expressions.specs.Places.{Found}
use Rattle.std.proofs.Common.{Ok, Err}
use Rattle.numerals.specs.Reading.{upto}
use Rattle.numerals.specs.declared.Read.{Read}
use Rattle.expressions.specs.declared.Malformed.{Malformed}
use Rattle.expressions.specs.declared.Malformed.TheVariants.{TooDeep, WrongForm}
use Rattle.expressions.specs.declared.Symbol.{Symbol}
use Rattle.expressions.specs.declared.Symbol.TheVariants as Y
use Rattle.expressions.proofs.Turns.{at_number, at_opens, at_shuts}
use Rattle.expressions.proofs.Depths.{pass-number, pass-opens, pass_shuts, pass-none}
use Rattle.expressions.proofs.Rows.{Heads, heads, Begins, ended, some, begins, ends_there, ends-here}
use Rattle.expressions.proofs.Steps.{never}

no_operand : (t : Token) (y : Symbol) (f : Wait → Found → Stack → Answer) (g : Wait → Wait → Stack → Answer)
    (l p : Wait) (k : Stack) → ((v : ℕ) → y ≡ Y.Number v → ⊥) → (y ≡ Y.Opens → ⊥) → at_operand (Found) number_at evaluate_at inside_at t y f g l p k ≡ wrong
no_operand t (Y.Number v) f g l p k m n = absurd (m v refl)
no_operand t Y.Opens f g l p k m n = absurd (n refl)
no_operand t _ f g l p k m n = refl

-- after a sum, what is no closing parenthesis is wrong, and outside parentheses every token is
stuck : (t : Token) (y : Symbol) (f : Wait → Found → Stack → Answer) (g : Wait → Wait → Stack → Answer)
    (v : Found) (k : Stack) → EndsAt sums y → (y ≡ Y.Shuts → ⊥) → at_operator (Found) number_at evaluate_at inside_at t y f g nothing v k ≡ wrong
stuck t (Y.Number n) f g v k h e = refl
stuck t (Y.Sums o) f g v k h e = let z = h.1 in never (cc)
stuck t (Y.Products o) f g v k h e = let z = h.0 in never (cc)
stuck t Y.Opens f g v k h e = refl
stuck t Y.Shuts f g v k h e = absurd (e refl)
stuck t Y.Other f g v k h e = refl

stuck-outside : (t : Token) (y : Symbol) (f : Wait → Found → Stack → Answer) (g : Wait → Wait → Stack → Answer)
    (v : Found) → EndsAt sums y → at_operator (Found) number_at evaluate_at inside_at t y f g nothing v [] ≡ wrong
stuck-outside t (Y.Sums o) f g v h = let z = h.1 in never (cc)
stuck-outside t (Y.Products o) f g v h = let z = h.0 in never (cc)
stuck-outside t _ f g v h = refl

module _ (s : List ℕ) (at : ℕ) where
  -- no operand begins here
  pub factor_neither : (room : ℕ) → ((v : ℕ) → kind_symbol (token_at s at).kind ≡ Y.Number v → ⊥) → (kind_symbol (token_at s at).kind ≡ Y.Opens → ⊥)
      → Says factors factors s at room (Err WrongForm)
  unfolding operand
  factor_neither room m n x = go (begins s at)
    where
      go : {ts : List Token} → Begins s at ts → operand_f ts x.0 x.1 x.2 ≡ wrong
      go (ended f g) = refl
      go (some {ts} f) =
          no_operand (token_at s at) (kind_symbol (token_at s at).kind) (operator_f ts) (operand_f ts) x.0 x.1 x.2 m n

  -- a sum's end, where no closing parenthesis follows
  unclosed : (v : Found) (f : Frame (Found) number_at evaluate_at inside_at) (k : Stack) → Ends sums (tokens_from s at) → (kind_symbol (token_at s at).kind ≡ Y.Shuts → ⊥)
      → after sums (tokens_from s at) v (f ∷ k) ≡ wrong
  unfolding operator
  unclosed v q k h e = go (begins s at)
    where
      go : {ts : List Token} → Begins s at ts → operator_f ts nothing v (q ∷ k) ≡ wrong
      go (ended f g) = refl
      go (some {ts} f) =
          stuck (token_at s at) (kind_symbol (token_at s at).kind) (operator_f ts) (operand_f ts) v (q ∷ k) (ends-here s at sums h) e

  -- a sum outside parentheses that the row does not end with
  pub sum_not_last : (v : Found) → Ends sums (tokens_from s at) → is_end (token_at s at).kind ≡ false → after sums (tokens_from s at) v [] ≡ wrong
  unfolding operator
  sum_not_last v h e = go (begins s at)
    where
      go : {ts : List Token} → Begins s at ts → operator_f ts nothing v [] ≡ wrong
      go (ended f g) = never (cc)
      go (some {ts} f) =
          stuck-outside (token_at s at) (kind_symbol (token_at s at).kind) (operator_f ts) (operand_f ts) v (ends-here s at sums h)

module _ (s : List ℕ) (at : ℕ) where
  -- a number
  pub factor_number : (room v : ℕ) → kind_symbol (token_at s at).kind ≡ Y.Number v → Says factors factors s at room (Ok (upto (number_at (token_at s at) v) (token_at s at).next))
  factor_number room v y =
      let b = heads s at y (λ f. never (cc)) in
      record {
        on = b.on;
        within = b.within;
        room-left = rw b.row (pass-number (token_at s at) (tokens_from s (token_at s at).next.at) room v y);
        read = λ x. rw b.row (at_number (Found) number_at evaluate_at inside_at (token_at s at) (tokens_from s (token_at s at).next.at) v y x.0 x.1 x.2);
        ends = ends_there s (token_at s at).next.at factors tt;
      }

  -- an opening parenthesis
  module _ (is_open : kind_symbol (token_at s at).kind ≡ Y.Opens) where
    abbrev inside : ℕ
    inside = (token_at s at).next.at

    -- what waits outside it
    abbrev frame : Left factors → Frame (Found) number_at evaluate_at inside_at
    frame x = record { sum = x.0; product = x.1; opening = token_at s at }

    goes_in : Heads s at
    goes_in = heads s at is_open (λ f. never (cc))

    pub factor_deep : (room : ℕ) → room ≡ 0 → Says factors factors s at room (Err TooDeep)
    factor_deep room z = rw (goes_in.row, z) (pass-none (token_at s at) (tokens_from s inside) is_open)

    read_in : (x : Left factors) → before factors (tokens_from s at) x ≡ before sums (tokens_from s inside) (frame x ∷ x.2)
    read_in x = rw goes_in.row (at_opens (Found) number_at evaluate_at inside_at (token_at s at) (tokens_from s inside) is_open x.0 x.1 x.2)

    room_in : {room room' : ℕ} → room ≡ suc room' → passes (tokens_from s at) room ≡ passes (tokens_from s inside) room'
    room_in {room} {room'} z = rw (goes_in.row, z) (pass-opens (token_at s at) (tokens_from s inside) room' is_open)

    module _ {room room' : ℕ} (z : room ≡ suc room') where
      -- no sum inside
      pub inside_fails : (why : Malformed) → Says sums sums s inside room' (Err why) → Says factors factors s at room (Err why)
      inside_fails WrongForm h = λ x. read_in x ∙ h (frame x ∷ x.2)
      inside_fails TooDeep h = room_in z ∙ h

      -- the closing parenthesis after the sum inside
      module _ (r : Read Found) (h : Says sums sums s inside room' (Ok r)) where
        pub shut-after : kind_symbol (token_at s r.next.at).kind ≡ Y.Shuts → Says factors factors s at room (Ok (upto r.value (token_at s r.next.at).next))
        shut-after y =
            let t = token_at s r.next.at in
            let b = heads s r.next.at y (λ f. never (cc)) in
            let g = goes_in in
            record {
              on = omega (arith, g.on, h.on, b.on);
              within = b.within;
              room-left =
                  room_in z ∙ h.room-left
                  ∙ ap (λ (ts : List Token). passes ts room') b.row
                  ∙ pass_shuts t (tokens_from s t.next.at) room' y
                  ∙ ap (λ (r : ℕ). passes (tokens_from s t.next.at) r) (sym z);
              read =
                  λ x. read_in x ∙ h.read (frame x ∷ x.2)
                  ∙ ap (λ (ts : List Token). after sums ts r.value (frame x ∷ x.2)) b.row
                  ∙ at_shuts (Found) number_at evaluate_at inside_at t (tokens_from s t.next.at) y nothing r.value (frame x) x.2;
              ends = ends_there s t.next.at factors tt;
            }

        pub not_shut_after : (kind_symbol (token_at s r.next.at).kind ≡ Y.Shuts → ⊥) → Says factors factors s at room (Err WrongForm)
        not_shut_after n x = read_in x ∙ h.read (frame x ∷ x.2) ∙ unclosed s r.next.at r.value (frame x) x.2 h.ends n
