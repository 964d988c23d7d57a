-- What `value_at` finds is the rule's value at the head of the row, and the rule's value is found.
use Prim.Native.Nat.{ℕ, ◌≤◌, ◌<◌}
use Prim.Native.Char.{code}
use mathlib.Core.List.{List, [], ◌∷◌, ◌++◌}
use mathlib.Core.Logic.{◌⊎◌, inl, inr}
use mathlib.Core.Path.{◌≡◌, sym, ap, subst, ◌∙◌}
use native.Mathlib.Omega.{arith}
use lib.ListN.{length}
use Rattle.numerals.specs.declared.Cursor.{Cursor}
use Rattle.numerals.specs.declared.Numeral.{Numeral}
use Rattle.tokens.specs.Marks.{IsMark}
use Rattle.tokens.specs.Reading.{token_at, tokens_from}
use Rattle.tokens.specs.declared.Kind.{Kind}
use Rattle.tokens.specs.declared.Kind.TheVariants as K
use Rattle.tokens.specs.declared.Token.{Token}
use Rattle.tokens.proofs.Places.{token_placed}
use Rattle.values.specs.Values.{BelowZero, digits, plain, minus, name_at, ValueText, number, label}
use Rattle.values.specs.Reading.{minus_at, value_at}
use Rattle.values.specs.declared.Value.{Value}
use Rattle.values.specs.declared.Value.TheVariants as V'
use Rattle.std.proofs.Common.{Option, Some, None}
use Rattle.numerals.specs.Reading.{upto}
use Rattle.numerals.specs.declared.Read.{Read}
use Rattle.tokens.proofs.Heads.{row_of, ends_of, row-head}
use Rattle.values.proofs.Begins.{value_cases, digits_cases, digits-read}

-- a value stands at a place, up to a cursor
pub record StandsAt (s : List ℕ) (at : ℕ) (v : Value) (c : Cursor) : Type 0 where
  pub tokens : List Token
  pub reads : ValueText tokens v
  pub row : tokens_from s at ≡ tokens ++ tokens_from s c.at
  pub moved : at < c.at
  pub within : c.at ≤ length s

-- ---- what is found is there

abbrev Told : List ℕ → ℕ → Option (Read Value) → Type 0
Told s at (Some r) = StandsAt s at r.value r.next
Told s at None = Unit

module _ (s : List ℕ) (at : ℕ) where
  minus-told : IsMark (code "-") (token_at s at) → Told s at (minus_at s (token_at s at).next.at)
  unfolding minus_at
  minus-told m = digits_cases (token_at s from) below (λ h. subst (Told s at) (sym (h (Option (Read Value)) found None)) tt)
    where
      from : ℕ
      from = (token_at s at).next.at

      found : Numeral → Option (Read Value)
      found n = Some (upto (V'.Number n) (token_at s from).next)

      stands : (n : Numeral) → BelowZero (token_at s from) n → StandsAt s at (V'.Number n) (token_at s from).next
      stands n (digits q r) =
          record {
            tokens = token_at s at ∷ token_at s from ∷ [];
            reads = number (minus m (digits q r));
            row = row_of s at m ∙ ap (λ (ts : List Token). token_at s at ∷ ts) (row_of s from q);
            moved = omega (arith, (token_placed s at).starts, (ends_of s at m).0, (token_placed s from).starts, (ends_of s from q).0);
            within = (ends_of s from q).1;
          }

      below : (n : Numeral) → BelowZero (token_at s from) n → Told s at (minus_at s from)
      below n b = subst (Told s at) (sym (digits-read found None b)) (stands n b)

  told : Told s at (value_at s at)
  unfolding value_at
  told =
      value_cases (token_at s at) (λ e. rw e (one (label e) (row_of s at e) (ends_of s at e)))
      (λ v k e. rw e (one (number (plain e)) (row_of s at e) (ends_of s at e))) (λ m. rw m (minus-told m))
      (λ h. subst (Told s at) (sym (h (Option (Read Value)) _ (λ (n : Numeral). (Some (upto (V'.Number n) (token_at s at).next))) (minus_at s (token_at s at).next.at) None)) tt)
    where
      one : {v : Value} → ValueText (token_at s at ∷ []) v → tokens_from s at ≡ token_at s at ∷ tokens_from s (token_at s at).next.at
          → ((token_at s at).start < (token_at s at).next.at) × ((token_at s at).next.at ≤ length s) → StandsAt s at v (token_at s at).next
      one u e h =
          record { tokens = token_at s at ∷ []; reads = u; row = e; moved = omega (arith, (token_placed s at).starts, h.0); within = h.1 }

  pub value-stands : {v : Value} {c : Cursor} → value_at s at ≡ Some (upto v c) → StandsAt s at v c
  value-stands e = subst (Told s at) e told

-- ---- what is there is found

-- a value found at a place, with the row from its cursor on
pub record FoundAt (s : List ℕ) (at : ℕ) (v : Value) (us : List Token) : Type 0 where
  pub cursor : Cursor
  pub found : value_at s at ≡ Some (upto v cursor)
  pub follows : tokens_from s cursor.at ≡ us

module _ (s : List ℕ) (at : ℕ) where
  -- a token of the row that is not stray is the token at its place, and the row goes on after it
  pub token_of : {t : Token} {us : List Token} {k : Kind} → tokens_from s at ≡ t ∷ us → t.kind ≡ k → (k ≡ K.Stray → ⊥)
      → (token_at s at ≡ t) × (tokens_from s t.next.at ≡ us)
  token_of {t} {us} e q n = go (row-head s at e).1
    where
      same : token_at s at ≡ t
      same = (row-head s at e).0

      go : (((token_at s at).kind ≡ K.Stray) ⊎ (tokens_from s (token_at s at).next.at ≡ us)) → (token_at s at ≡ t) × (tokens_from s t.next.at ≡ us)
      go (inl z) = absurd (n (sym q ∙ ap (λ (x : Token). x.kind) (sym same) ∙ z))
      go (inr z) = (same, ap (λ (x : Token). tokens_from s x.next.at) (sym same) ∙ z)

pub value_found : (s : List ℕ) (at : ℕ) {ts us : List Token} {v : Value} → tokens_from s at ≡ ts ++ us → ValueText ts v → FoundAt s at v us
unfolding value_at minus_at
value_found s at {us = us} e (number (plain {t} {v} {k} q)) =
    let h = token_of s at e q (λ z. let z' : ◌≡◌ {A = ℕ} 0 1 = cc in omega arith) in
    record { cursor = t.next; found = rw (h.0, q); follows = h.1 }
value_found s at {us = us} e (number (minus {m} {t} p (digits q d))) =
    let h = token_of s at e p (λ z. let z' : ◌≡◌ {A = ℕ} 0 1 = cc in omega arith) in
    let g = token_of s m.next.at h.1 q (λ z. let z' : ◌≡◌ {A = ℕ} 0 1 = cc in omega arith) in
    record { cursor = t.next; found = rw (h.0, p, g.0, q, d); follows = g.1 }
value_found s at {us = us} e (label {t} q) =
    let h = token_of s at e q (λ z. let z' : ◌≡◌ {A = ℕ} 0 1 = cc in omega arith) in
    record { cursor = t.next; found = rw (h.0, q); follows = h.1 }

-- ---- one value at most

pub one_value : {ts us ts' us' : List Token} {v v' : Value} → ts ++ us ≡ ts' ++ us' → ValueText ts v → ValueText ts' v'
    → (v ≡ v') × (ts ≡ ts') × (us ≡ us')
one_value e (number (plain p)) (number (plain q)) = (cc, cc, cc)
one_value e (number (plain p)) (number (minus q (digits r d))) = let z : ◌≡◌ {A = ℕ} 0 1 = cc in absurd (omega arith)
one_value e (number (plain p)) (label q) = let z : ◌≡◌ {A = ℕ} 0 1 = cc in absurd (omega arith)
one_value e (number (minus p (digits r d))) (number (plain q)) = let z : ◌≡◌ {A = ℕ} 0 1 = cc in absurd (omega arith)
one_value e (number (minus p (digits r d))) (number (minus q (digits r' d'))) = (cc, cc, cc)
one_value e (number (minus p (digits r d))) (label q) = let z : ◌≡◌ {A = ℕ} 0 1 = cc in absurd (omega arith)
one_value e (label p) (number (plain q)) = let z : ◌≡◌ {A = ℕ} 0 1 = cc in absurd (omega arith)
one_value e (label p) (number (minus q (digits r d))) = let z : ◌≡◌ {A = ℕ} 0 1 = cc in absurd (omega arith)
one_value e (label {t} p) (label {t = t'} q) = let z : t ≡ t' = cc in (ap (λ (x : Token). V'.Label (name_at x)) z, cc, cc)
