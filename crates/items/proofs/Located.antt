-- Where the first number out of range stands: what the code finds, and that it is what the rule gives.
use Prim.Native.Nat.{ℕ, ◌≤◌, ◌<◌}
use Prim.Native.Char.{code}
use mathlib.Core.Bool.{Bool, true, false, not, cond, ◌&&◌}
use mathlib.Core.List.{List, [], ◌∷◌, ◌++◌, append-nil}
use mathlib.Core.Logic.{◌↔◌, ◌⊎◌, inl, inr}
use mathlib.Core.Path.{◌≡◌, refl, sym, ap, subst, ◌∙◌}
use native.Mathlib.Omega.{arith}
use lib.Dec.{eqb}
use lib.ListN.{length}
use Rattle.numerals.specs.Numbers.{value_of, in_range}
use Rattle.tokens.specs.Marks.{IsMark}
use Rattle.tokens.specs.Reading.{token_at, tokens_from}
use Rattle.tokens.specs.declared.Kind.{Kind}
use Rattle.tokens.specs.declared.Kind.TheVariants as K
use Rattle.tokens.specs.declared.Token.{Token}
use Rattle.tokens.proofs.Heads.{row_of}
use Rattle.tokens.proofs.Places.{EndsAt, token_placed}
use Rattle.values.specs.Values.{plain, minus}
use Rattle.values.specs.Values as Values
use Rattle.values.specs.Reading.{value_by, digits_by, minus_at, value_at}
use Rattle.values.specs.declared.Value.TheVariants.{Number}
use Rattle.std.specs.Prelude.{MatchOption}
use Rattle.std.proofs.Common.{Option, Some, None}
use Rattle.numerals.specs.Reading.{upto}
use Rattle.numerals.specs.declared.Read.{Read}
use Rattle.values.specs.declared.Value.{Value}
use Rattle.values.proofs.Begins.{value_cases, digits_cases, digits-read}
use Rattle.items.specs.Items.{Item, ItemText, is_number, is_string, Items, one, more, item_in_range, all_in_range}
use Rattle.items.specs.Reading.{on_text, string_of}
use Rattle.items.specs.Places.{FirstOut, alone, first, later, is_out, is_comma, digits_out, starts_out, out_from, number_out_in}
use Rattle.items.specs.Inner.Turns.{Standing, stands, none, string_at, item_by, item_at, measured}
use Rattle.items.specs.declared.Measure.{Measure}
use Rattle.items.proofs.Measures.{found-item, no_item}

-- ---- what the code finds: the item at a place

abbrev out_by : Standing → Bool
out_by (stands i c) = not (item_in_range i)
out_by none = false

module _ (s : List ℕ) (at : ℕ) where
  digits-at : digits_out (tokens_from s at) ≡ digits_by is_out false (token_at s at).kind (token_at s at).directly
  unfolding digits_out
  digits-at = go (token_at s at).kind refl
    where
      go : (k : Kind) → (token_at s at).kind ≡ k → digits_out (tokens_from s at) ≡ digits_by is_out false (token_at s at).kind (token_at s at).directly
      go K.End q = rw (row_of s at q, q)
      go K.Stray q = rw (row_of s at q)
      go K.Word q = rw (row_of s at q)
      go (K.Number v k) q = rw (row_of s at q)
      go K.Text q = rw (row_of s at q)
      go (K.Mark b) q = rw (row_of s at q)

  starts_at : starts_out (tokens_from s at) ≡ value_by false is_out (digits_out (tokens_from s (token_at s at).next.at)) false (token_at s at).kind
  unfolding starts_out
  starts_at = go (token_at s at).kind refl
    where
      go : (k : Kind) → (token_at s at).kind ≡ k
          → starts_out (tokens_from s at) ≡ value_by false is_out (digits_out (tokens_from s (token_at s at).next.at)) false (token_at s at).kind
      go K.End q = rw (row_of s at q, q)
      go K.Stray q = rw (row_of s at q, q)
      go K.Word q = rw (row_of s at q)
      go (K.Number v k) q = rw (row_of s at q)
      go K.Text q = rw (row_of s at q)
      go (K.Mark b) q = rw (row_of s at q)

  -- no value there: a string at most, which is in range
  string-at : out_by (string_at s (token_at s at)) ≡ false
  string-at = go (token_at s at).kind
    where
      go : (k : Kind) → out_by (on_text none (stands (string_of s (token_at s at)) (token_at s at).next) k) ≡ false
      go K.End = refl
      go K.Stray = refl
      go K.Word = refl
      go (K.Number v k) = refl
      go K.Text = refl
      go (K.Mark b) = refl

module _ (s : List ℕ) (at : ℕ) where
  -- the digits after a `-`
  minus-out : digits_out (tokens_from s (token_at s at).next.at) ≡ out_by (item_by s at (minus_at s (token_at s at).next.at))
  unfolding minus_at
  minus-out =
      let next = (token_at s at).next.at in
      digits-at s next
      ∙ digits_cases (token_at s next) (λ n b. digits-read is_out false b ∙ ap (λ (r : Option (Read Value)). out_by (item_by s at r)) (sym (digits-read (λ n. (Some (upto (Number n) (token_at s next).next))) None b)))
      (λ h. h Bool is_out false ∙ sym (ap (λ (r : Option (Read Value)). out_by (item_by s at r)) (h (Option (Read Value)) (λ n. (Some (upto (Number n) (token_at s next).next))) None) ∙ string-at s at))

  item_out : starts_out (tokens_from s at) ≡ out_by (item_at s at)
  unfolding item_at value_at
  item_out =
      starts_at s at
      ∙ value_cases (token_at s at) (λ q. rw q) (λ v k q. rw q) (λ q. rw q (minus-out))
      (λ h. h Bool _ is_out (digits_out (tokens_from s (token_at s at).next.at)) false
      ∙ sym (ap (λ (r : Option (Read Value)). out_by (item_by s at r)) (h (Option (Read Value)) _ (λ n. (Some (upto (Number n) (token_at s at).next))) (minus_at s (token_at s at).next.at) None) ∙ string-at s at))

  -- so it does where the measured item is out of range
  pub out_there : (o : Option (Read Measure)) → o ≡ measured (item_at s at)
      → MatchOption o (starts_out (tokens_from s at) ≡ false) (λ r. starts_out (tokens_from s at) ≡ not r.value.fits)
  out_there (Some r) e = let h = found-item s at (sym e) in item_out ∙ ap out_by h.is ∙ ap not (sym h.fits)
  out_there None e = item_out ∙ ap out_by (no_item s at (sym e))

-- ---- what the code finds: one turn

-- what is left to search behind a token
left_by : List ℕ → Kind → ℕ → ℕ
left_by s K.End next = 0
left_by s K.Stray next = 0
left_by s K.Word next = out_from false (tokens_from s next)
left_by s (K.Number v k) next = out_from false (tokens_from s next)
left_by s K.Text next = out_from false (tokens_from s next)
left_by s (K.Mark b) next = out_from (eqb b (code ",")) (tokens_from s next)

-- the kinds behind which a row goes on
module _ {k : Kind} (end : k ≡ K.End → ⊥) (stray : k ≡ K.Stray → ⊥) where
  left_on : (s : List ℕ) (next : ℕ) → left_by s k next ≡ out_from (is_comma k) (tokens_from s next)
  unfolding left_by
  left_on s next = go k refl
    where
      go : (x : Kind) → k ≡ x → left_by s x next ≡ out_from (is_comma x) (tokens_from s next)
      go K.End e = absurd (end e)
      go K.Stray e = absurd (stray e)
      go K.Word e = refl
      go (K.Number v r) e = refl
      go K.Text e = refl
      go (K.Mark b) e = refl

  ends_on : (n at next : ℕ) → EndsAt k n at next → (at < next) × (next ≤ n)
  ends_on n at next = go k refl
    where
      go : (x : Kind) → k ≡ x → EndsAt x n at next → (at < next) × (next ≤ n)
      go K.End e h = absurd (end e)
      go K.Stray e h = absurd (stray e)
      go K.Word e h = h
      go (K.Number v r) e h = h
      go K.Text e h = h
      go (K.Mark b) e h = h

module _ (s : List ℕ) (at : ℕ) (begins : Bool) where
  -- a row that begins with a number out of range begins with its token
  found-by : (k : Kind) → (token_at s at).kind ≡ k → (begins && starts_out (tokens_from s at)) ≡ true
      → (token_at s at).start ≡ out_from begins (tokens_from s at)
  unfolding out_from starts_out
  found-by K.End q e = absurd (nothing begins (rw (row_of s at q) at e))
    where
      nothing : (b : Bool) → (b && false) ≡ true → ⊥
      nothing true e = let z : ◌≡◌ {A = ℕ} 0 1 = cc in omega arith
      nothing false e = let z : ◌≡◌ {A = ℕ} 0 1 = cc in omega arith
  found-by K.Stray q e = let f = rw (row_of s at q) at e in rw (row_of s at q, f)
  found-by K.Word q e = let f = rw (row_of s at q) at e in rw (row_of s at q, f)
  found-by (K.Number v k) q e = let f = rw (row_of s at q) at e in rw (row_of s at q, f)
  found-by K.Text q e = let f = rw (row_of s at q) at e in rw (row_of s at q, f)
  found-by (K.Mark b) q e = let f = rw (row_of s at q) at e in rw (row_of s at q, f)

  passed-by : (k : Kind) → (token_at s at).kind ≡ k → (begins && starts_out (tokens_from s at)) ≡ false
      → out_from begins (tokens_from s at) ≡ left_by s k (token_at s at).next.at
  unfolding out_from left_by
  passed-by K.End q e = rw (row_of s at q)
  passed-by K.Stray q e = let f = rw (row_of s at q) at e in rw (row_of s at q, f)
  passed-by K.Word q e = let f = rw (row_of s at q) at e in rw (row_of s at q, f, q)
  passed-by (K.Number v k) q e = let f = rw (row_of s at q) at e in rw (row_of s at q, f, q)
  passed-by K.Text q e = let f = rw (row_of s at q) at e in rw (row_of s at q, f, q)
  passed-by (K.Mark b) q e = let f = rw (row_of s at q) at e in rw (row_of s at q, f, q)

  module _ {t : Token} (its : t ≡ token_at s at) {out : Bool} (told : out ≡ (begins && starts_out (tokens_from s at))) where
    pub is-out : out ≡ true → t.start ≡ out_from begins (tokens_from s at)
    is-out e = ap (λ (u : Token). u.start) its ∙ found-by (token_at s at).kind refl (sym told ∙ e)

    passed : out ≡ false → out_from begins (tokens_from s at) ≡ left_by s t.kind t.next.at
    passed e = passed-by (token_at s at).kind refl (sym told ∙ e) ∙ ap (λ (u : Token). left_by s u.kind u.next.at) (sym its)

    pub passed-last : (t.kind ≡ K.End) ⊎ (t.kind ≡ K.Stray) → out ≡ false → out_from begins (tokens_from s at) ≡ 0
    unfolding left_by
    passed-last (inl q) e = passed e ∙ rw q
    passed-last (inr q) e = passed e ∙ rw q

    module _ (end : t.kind ≡ K.End → ⊥) (stray : t.kind ≡ K.Stray → ⊥) where
      pub passed-on : out ≡ false → out_from begins (tokens_from s at) ≡ out_from (is_comma t.kind) (tokens_from s t.next.at)
      passed-on e = passed e ∙ left_on end stray s t.next.at

      pub moves : (at ≤ t.start) × (t.start < t.next.at) × (t.next.at ≤ length s)
      moves =
          let u = token_at s at in
          let e = ends_on (subst (λ (v : Token). v.kind ≡ K.End → ⊥) its end) (subst (λ (v : Token). v.kind ≡ K.Stray → ⊥) its stray) (length s) u.start u.next.at (token_placed s at).ends in
          subst (λ (v : Token). (at ≤ v.start) × (v.start < v.next.at) × (v.next.at ≤ length s)) (sym its) ((token_placed s at).starts, e.0, e.1)

-- ---- the rule's place

-- where an item's first token starts
abbrev start_of : List Token → ℕ
start_of [] = 0
start_of (t ∷ ts) = t.start

swapped : (b : Bool) (x y : ℕ) → cond (not b) x y ≡ cond b y x
swapped true x y = refl
swapped false x y = refl

module _ (line : List ℕ) where
  -- an item in range is passed, up to its comma; no item has a comma inside
  item-left : {ts : List Token} {i : Item} → ItemText line ts i → (rest : List Token)
      → out_from true (ts ++ rest) ≡ cond (item_in_range i) (out_from false rest) (start_of ts)
  unfolding out_from starts_out digits_out
  item-left (is_number {n = n} (plain {t} e)) rest = rw e (swapped (in_range (value_of n)) t.start (out_from false rest))
  item-left (is_number {n = n} (minus {m} e (Values.digits q d))) rest = rw (e, q, d) (swapped (in_range (value_of n)) m.start (out_from false rest))
  item-left (is_string e r) rest = rw e

  comma-left : (c : Token) (us : List Token) → IsMark (code ",") c → out_from false (c ∷ us) ≡ out_from true us
  unfolding out_from
  comma-left c us e = rw e

  passed-item : {ts : List Token} {i : Item} (c : Token) (us : List Token) → ItemText line ts i → item_in_range i ≡ true → IsMark (code ",") c
      → out_from true (ts ++ c ∷ us) ≡ out_from true us
  passed-item {ts} c us u q e = item-left u (c ∷ us) ∙ ap (λ (b : Bool). cond b (out_from false (c ∷ us)) (start_of ts)) q ∙ comma-left c us e

  out-item : {ts : List Token} {i : Item} → ItemText line ts i → item_in_range i ≡ false → (rest : List Token) → out_from true (ts ++ rest) ≡ start_of ts
  out-item {ts} u q rest = item-left u rest ∙ ap (λ (b : Bool). cond b (out_from false rest) (start_of ts)) q

  out-alone : {ts : List Token} {i : Item} → ItemText line ts i → item_in_range i ≡ false → FirstOut line ts (start_of ts)
  out-alone (is_number (plain e)) q = alone (is_number (plain e)) q
  out-alone (is_number (minus e d)) q = alone (is_number (minus e d)) q
  out-alone (is_string e r) q = alone (is_string e r) q

  out_first : {ts us : List Token} {i : Item} {is : List Item} (c : Token) → ItemText line ts i → item_in_range i ≡ false → IsMark (code ",") c
      → Items line us is → FirstOut line (ts ++ c ∷ us) (start_of ts)
  out_first c (is_number (plain e)) q m r = first c (is_number (plain e)) q m r
  out_first c (is_number (minus e d)) q m r = first c (is_number (minus e d)) q m r
  out_first c (is_string e v) q m r = first c (is_string e v) q m r

  there : {ts : List Token} {is : List Item} → Items line ts is → all_in_range is ≡ false → FirstOut line ts (out_from true ts)
  unfolding all_in_range
  there (one {ts} {i} u) h = go (item_in_range i) refl h
    where
      go : (b : Bool) → item_in_range i ≡ b → (b && true) ≡ false → FirstOut line ts (out_from true ts)
      go true q e = let z : ◌≡◌ {A = ℕ} 0 1 = cc in absurd (omega arith)
      go false q e = subst (FirstOut line ts) (sym (ap (out_from true) (sym (append-nil ts)) ∙ out-item u q [])) (out-alone u q)
  there (more {ts} {us} {i} {is} c u e r) h = go (item_in_range i) refl h (λ f. there r f)
    where
      go : (b : Bool) → item_in_range i ≡ b → (b && all_in_range is) ≡ false → (all_in_range is ≡ false → FirstOut line us (out_from true us))
          → FirstOut line (ts ++ c ∷ us) (out_from true (ts ++ c ∷ us))
      go true q f g = subst (FirstOut line (ts ++ c ∷ us)) (sym (passed-item c us u q e)) (later c u q e (g f))
      go false q f g = subst (FirstOut line (ts ++ c ∷ us)) (sym (out-item u q (c ∷ us))) (out_first c u q e r)

  back : {ts : List Token} {p : ℕ} → FirstOut line ts p → out_from true ts ≡ p
  back (alone {t} {ts} u q) = ap (out_from true) (sym (append-nil (t ∷ ts))) ∙ out-item u q []
  back (first {us = us} c u q e r) = out-item u q (c ∷ us)
  back (later {us = us} c u q e r) = passed-item c us u q e ∙ back r

  pub number_out_exactly : {ts : List Token} {is : List Item} → Items line ts is → all_in_range is ≡ false → {p : ℕ}
      → (number_out_in ts ≡ p) ↔ FirstOut line ts p
  number_out_exactly {ts} r h {p} = (λ e. subst (FirstOut line ts) e (there r h), back)

  none_left : out_from false [] ≡ 0
  unfolding out_from
  none_left = refl

  pub number_out_none : {ts : List Token} {is : List Item} → Items line ts is → all_in_range is ≡ true → number_out_in ts ≡ 0
  unfolding all_in_range
  number_out_none (one {ts} {i} u) h = go (item_in_range i) refl h
    where
      go : (b : Bool) → item_in_range i ≡ b → (b && true) ≡ true → out_from true ts ≡ 0
      go true q e =
          ap (out_from true) (sym (append-nil ts)) ∙ item-left u [] ∙ ap (λ (b : Bool). cond b (out_from false []) (start_of ts)) q ∙ none_left
      go false q e = let z : ◌≡◌ {A = ℕ} 0 1 = cc in absurd (omega arith)
  number_out_none (more {ts} {us} {i} {is} c u e r) h = go (item_in_range i) refl h (λ f. number_out_none r f)
    where
      go : (b : Bool) → item_in_range i ≡ b → (b && all_in_range is) ≡ true → (all_in_range is ≡ true → out_from true us ≡ 0) → out_from true (ts ++ c ∷ us) ≡ 0
      go true q f g = passed-item c us u q e ∙ g f
      go false q f g = let z : ◌≡◌ {A = ℕ} 0 1 = cc in absurd (omega arith)
