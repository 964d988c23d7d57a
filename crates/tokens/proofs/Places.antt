-- Where tokens stand: each after the one before, within the line, and with a byte at least; so that a row does not depend on
-- the number of tokens that its definition allows.
use Prim.Native.Nat.{ℕ, zero, suc, ◌+◌, ◌-◌, ◌≤◌, ◌<◌}
use mathlib.Core.Bool.{Bool}
use mathlib.Core.List.{List, [], ◌∷◌, ◌++◌}
use mathlib.Core.Path.{◌≡◌, refl, sym, ap, subst, ◌∙◌}
use native.Mathlib.Omega.{arith}
use lib.Dec.{eqb}
use lib.ListN.{length, drop, length-drop}
use Rattle.numerals.specs.Reading.{unsigned_at}
use Rattle.std.proofs.Common.{Option, Some, None}
use Rattle.numerals.specs.declared.Read.{Read}
use Rattle.numerals.specs.declared.Numeral.{Numeral}
use Rattle.numerals.proofs.Numbers.{unsigned_sound}
use Rattle.numerals.proofs.Runs.{run_le}
use Rattle.tokens.specs.Reading.{blanks, Closing, after, never, closing, number_token, string_token, token_here, token_at, after_kind, tokens_within, tokens_from}
use Rattle.tokens.specs.declared.Kind.{Kind}
use Rattle.tokens.specs.declared.Kind.TheVariants.{End, Stray, Word, Number, Text, Mark}
use Rattle.tokens.specs.declared.Token.{Token}
use Rattle.tokens.proofs.Blanks.{moved_none, blanks-within}
use Rattle.tokens.proofs.Here.{here_end, Outcome, past, number, word, string, comment, mark, stray, outcome}
use Rattle.tokens.proofs.Quoted.{closes-within}
use Rattle.tokens.proofs.Words.{word_some}

-- where a token of a kind that begins at a place ends, in a line of n bytes
abbrev pub EndsAt : Kind → ℕ → ℕ → ℕ → Type 0
EndsAt End n at end = end ≡ at
EndsAt Stray n at end = end ≡ at
EndsAt Word n at end = (at < end) × (end ≤ n)
EndsAt (Number v k) n at end = (at < end) × (end ≤ n)
EndsAt Text n at end = (at < end) × (end ≤ n)
EndsAt (Mark b) n at end = (at < end) × (end ≤ n)

-- a token's place
pub record Stands (n at : ℕ) (d : Bool) (t : Token) : Type 0 where
  pub starts : t.start ≡ at
  pub follows : t.directly ≡ d
  pub ends : EndsAt t.kind n at t.next.at

number-stands : (s : List ℕ) (at : ℕ) (d : Bool) (r : Option (Read Numeral)) → unsigned_at s at ≡ r → Stands (length s) at d (number_token r at d)
number-stands s at d (Some r) e = let h = unsigned_sound s at e in record { starts = refl; follows = refl; ends = (h.moved, h.within) }
number-stands s at d None e = record { starts = refl; follows = refl; ends = refl }

string-stands : (s : List ℕ) (at : ℕ) (d : Bool) (c : Closing) → at < length s → closing (drop (at + 1) s) ≡ c
    → Stands (length s) at d (string_token c at d)
string-stands s at d (after n) l e =
    record { starts = refl; follows = refl; ends = (omega arith, omega (arith, closes-within (drop (at + 1) s) e, length-drop (at + 1) s)) }
string-stands s at d never l e = record { starts = refl; follows = refl; ends = refl }

outcome-stands : {s : List ℕ} {at : ℕ} {d : Bool} {t : Token} → Outcome s at d t → Stands (length s) at d t
outcome-stands (past l) = record { starts = refl; follows = refl; ends = refl }
outcome-stands {s} {at} {d} (number l g) = number-stands s at d (unsigned_at s at) refl
outcome-stands {s} {at} (word l g w) =
    record {
      starts = refl;
      follows = refl;
      ends = (omega (arith, word_some s at l w), omega (arith, run_le 17 (drop at s), length-drop at s));
    }
outcome-stands {s} {at} {d} (string l e) = string-stands s at d (closing (drop (at + 1) s)) l refl
outcome-stands (comment l e) = record { starts = refl; follows = refl; ends = refl }
outcome-stands (mark l m) = record { starts = refl; follows = refl; ends = (omega arith, omega arith) }
outcome-stands (stray l n) = record { starts = refl; follows = refl; ends = refl }

pub here-stands : (s : List ℕ) (at : ℕ) (d : Bool) → Stands (length s) at d (token_here s at d)
here-stands s at d = outcome-stands (outcome s at d)

-- ---- the row from a place on

past_end : (s : List ℕ) (from : ℕ) → length s ≤ from → (token_at s from).kind ≡ End
unfolding token_at
past_end s from h = ap (λ (t : Token). t.kind) (here_end s (from + blanks (drop from s)) (eqb (blanks (drop from s)) 0) (omega arith))

-- what comes after a token depends on places past it alone
after_same : (n at from : ℕ) (k : Kind) (t : Token) (f g : ℕ → List Token) → from ≤ at → EndsAt k n at t.next.at
    → ((m : ℕ) → from < m → m ≤ n → f m ≡ g m) → after_kind k t f ≡ after_kind k t g
after_same n at from End t f g l e h = refl
after_same n at from Stray t f g l e h = refl
after_same n at from Word t f g l e h = ap (λ (ts : List Token). t ∷ ts) (h t.next.at (omega arith) e.1)
after_same n at from (Number v k) t f g l e h = ap (λ (ts : List Token). t ∷ ts) (h t.next.at (omega arith) e.1)
after_same n at from Text t f g l e h = ap (λ (ts : List Token). t ∷ ts) (h t.next.at (omega arith) e.1)
after_same n at from (Mark b) t f g l e h = ap (λ (ts : List Token). t ∷ ts) (h t.next.at (omega arith) e.1)

same_after : (s : List ℕ) (from : ℕ) (f g : ℕ → List Token) → ((m : ℕ) → from < m → m ≤ length s → f m ≡ g m)
    → after_kind (token_at s from).kind (token_at s from) f ≡ after_kind (token_at s from).kind (token_at s from) g
unfolding token_at
same_after s from f g h =
    let at = from + blanks (drop from s) in
    let t = token_here s at (eqb (blanks (drop from s)) 0) in
    after_same (length s) at from t.kind t f g (omega arith) (here-stands s at (eqb (blanks (drop from s)) 0)).ends h

-- past the line's end there is no token
ends-row : (s : List ℕ) (from : ℕ) (f : ℕ → List Token) → length s ≤ from → after_kind (token_at s from).kind (token_at s from) f ≡ []
ends-row s from f h = ap (λ (k : Kind). after_kind k (token_at s from) f) (past_end s from h)

-- more tokens than bytes are never needed
enough : (s : List ℕ) (n m at : ℕ) → length s - at ≤ n → length s - at ≤ m → tokens_within n s at ≡ tokens_within m s at
unfolding tokens_within
enough s zero zero at h k = refl
enough s zero (suc m) at h k = sym (ends-row s at (λ next. tokens_within m s next) (omega arith))
enough s (suc n) zero at h k = ends-row s at (λ next. tokens_within n s next) (omega arith)
enough s (suc n) (suc m) at h k =
    same_after s at (λ next. tokens_within n s next) (λ next. tokens_within m s next)
    (λ x a b. enough s n m x (omega arith) (omega arith))

-- the row from a place on begins with the token there, and goes on from the place after it
pub row_unfolds : (s : List ℕ) (at : ℕ) → tokens_from s at ≡ after_kind (token_at s at).kind (token_at s at) (tokens_from s)
unfolding tokens_from tokens_within
row_unfolds s at =
    enough s (length s - at) (suc (length s - at)) at (omega arith) (omega arith)
    ∙ same_after s at (λ next. tokens_within (length s - at) s next) (tokens_from s)
    (λ x a b. enough s (length s - at) (length s - x) x (omega arith) (omega arith))

-- ---- in order

ends-after : (k : Kind) (n at end : ℕ) → EndsAt k n at end → at ≤ end
ends-after End n at end e = omega arith
ends-after Stray n at end e = omega arith
ends-after Word n at end e = omega arith
ends-after (Number v k) n at end e = omega arith
ends-after Text n at end e = omega arith
ends-after (Mark b) n at end e = omega arith

ends-within : (k : Kind) (n at end : ℕ) → at ≤ n → EndsAt k n at end → end ≤ n
ends-within End n at end l e = omega arith
ends-within Stray n at end l e = omega arith
ends-within Word n at end l e = e.1
ends-within (Number v k) n at end l e = e.1
ends-within Text n at end l e = e.1
ends-within (Mark b) n at end l e = e.1

-- a token found from a place on, in a line of n bytes
pub record Placed (n from : ℕ) (t : Token) : Type 0 where
  pub starts : from ≤ t.start
  pub ends : EndsAt t.kind n t.start t.next.at
  pub moves : t.start ≤ t.next.at
  pub within : from ≤ n → t.next.at ≤ n
  pub follows : t.directly ≡ eqb t.start from

pub token_placed : (s : List ℕ) (from : ℕ) → Placed (length s) from (token_at s from)
unfolding token_at
token_placed s from =
    let n = blanks (drop from s) in
    let at = from + n in
    let t = token_here s at (eqb n 0) in
    let h = here-stands s at (eqb n 0) in
    record {
      starts = omega (arith, h.starts);
      ends = subst (λ (p : ℕ). EndsAt t.kind (length s) p t.next.at) (sym h.starts) h.ends;
      moves = omega (arith, h.starts, ends-after t.kind (length s) at t.next.at h.ends);
      within =
          λ l. ends-within t.kind (length s) at t.next.at (omega (arith, blanks-within (drop from s), length-drop from s)) h.ends;
      follows = h.follows ∙ sym (moved_none from n) ∙ ap (λ (p : ℕ). eqb p from) (sym h.starts);
    }

-- tokens one after the other, each from where the one before it ended
abbrev pub InOrder : ℕ → ℕ → List Token → Type 0
InOrder n from [] = Unit
InOrder n from (t ∷ ts) = Placed n from t × InOrder n t.next.at ts

ordered_after : (n from : ℕ) (k : Kind) (t : Token) (rest : ℕ → List Token) → Placed n from t → InOrder n t.next.at (rest t.next.at)
    → InOrder n from (after_kind k t rest)
ordered_after n from End t rest p o = tt
ordered_after n from Stray t rest p o = (p, tt)
ordered_after n from Word t rest p o = (p, o)
ordered_after n from (Number v k) t rest p o = (p, o)
ordered_after n from Text t rest p o = (p, o)
ordered_after n from (Mark b) t rest p o = (p, o)

ordered_within : (m : ℕ) (s : List ℕ) (at : ℕ) → InOrder (length s) at (tokens_within m s at)
unfolding tokens_within
ordered_within zero s at = tt
ordered_within (suc m) s at =
    ordered_after (length s) at (token_at s at).kind (token_at s at) (λ next. tokens_within m s next) (token_placed s at)
    (ordered_within m s (token_at s at).next.at)

pub row_ordered : (s : List ℕ) (at : ℕ) → InOrder (length s) at (tokens_from s at)
unfolding tokens_from
row_ordered s at = ordered_within (length s - at) s at

-- tokens that each stand within a line of n bytes, a byte at least where their kind has any
abbrev pub Within : ℕ → List Token → Type 0
Within n [] = Unit
Within n (t ∷ ts) = EndsAt t.kind n t.start t.next.at × Within n ts

each_within : (n from : ℕ) (ts : List Token) → InOrder n from ts → Within n ts
each_within n from [] o = tt
each_within n from (t ∷ ts) o = (o.0.ends, each_within n t.next.at ts o.1)

pub row_within : (s : List ℕ) (at : ℕ) → Within (length s) (tokens_from s at)
row_within s at = each_within (length s) at (tokens_from s at) (row_ordered s at)

pub parts_within : (n : ℕ) (us vs : List Token) → Within n (us ++ vs) → Within n us × Within n vs
parts_within n [] vs h = (tt, h)
parts_within n (u ∷ us) vs h = let r = parts_within n us vs h.1 in ((h.0, r.0), r.1)
