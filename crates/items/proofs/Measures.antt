-- What the code keeps of an item is the item's; and an item takes no more cells than bytes.
use Prim.Native.Nat.{ℕ, ◌+◌, ◌≤◌, ◌<◌}
use mathlib.Core.Bool.{true}
use mathlib.Core.List.{List, [], ◌∷◌, ◌++◌}
use mathlib.Core.Path.{◌≡◌, refl, sym, ap, subst, ◌∙◌}
use native.Mathlib.Omega.{arith}
use lib.ListN.{length, drop, length-drop, length-append}
use Rattle.numerals.specs.declared.Cursor.{Cursor}
use Rattle.std.proofs.Common.{Option, Some, None}
use Rattle.numerals.specs.Reading.{upto}
use Rattle.numerals.specs.declared.Read.{Read}
use Rattle.values.specs.declared.Value.{Value}
use Rattle.items.specs.declared.Measure.{Measure}
use Rattle.tokens.specs.Strings.{Characters}
use Rattle.tokens.specs.Reading.{token_at}
use Rattle.tokens.specs.declared.Kind.{Kind}
use Rattle.tokens.specs.declared.Kind.TheVariants as K
use Rattle.tokens.specs.declared.Token.{Token}
use Rattle.tokens.proofs.Meanings.{Means, token-means}
use Rattle.tokens.proofs.Places.{token_placed}
use Rattle.values.specs.Reading.{value_at}
use Rattle.values.specs.declared.Value.TheVariants.{Number, Label}
use Rattle.values.proofs.Finds.{value-stands}
use Rattle.tokens.proofs.Heads.{ends_of}
use Rattle.items.specs.Items.{Item, item_cells, item_in_range}
use Rattle.items.specs.Reading.{characters}
use Rattle.items.specs.Inner.Turns.{Standing, stands, none, string_by, string_at, number_item, item_by, item_at, measured}
use Rattle.numerals.proofs.SameReads.{same-value, same-next}
use Rattle.items.proofs.Counts.{characters_of, characters_fit}

-- ---- strings

-- the characters of a string that stands at a place
pub record Quote (s : List ℕ) (at : ℕ) (t : Token) : Type 0 where
  pub cs : List ℕ
  pub reads : Characters (drop (t.start + 1) s) cs (drop t.next.at s)
  pub same : characters (drop (t.start + 1) s) ≡ cs
  pub after : at ≤ t.start
  pub room : t.start + length cs + 2 ≤ t.next.at
  pub within : t.next.at ≤ length s

pub quote_at : (s : List ℕ) (at : ℕ) {t : Token} → t ≡ token_at s at → t.kind ≡ K.Text → Quote s at t
quote_at s at {t} e q = subst (Quote s at) (sym e) here
  where
    u : Token
    u = token_at s at

    q' : (token_at s at).kind ≡ K.Text
    q' = ap (λ (x : Token). x.kind) (sym e) ∙ q

    m : Means s K.Text (token_at s at).start (token_at s at).next.at
    m = subst (λ (k : Kind). Means s k (token_at s at).start (token_at s at).next.at) q' (token-means s at)

    here : Quote s at (token_at s at)
    here =
        record {
          cs = m.1;
          reads = m.2;
          same = characters_of m.2;
          after = (token_placed s at).starts;
          room = omega (arith, characters_fit m.2, length-drop ((token_at s at).start + 1) s, length-drop (token_at s at).next.at s, ends_of s at q');
          within = (ends_of s at q').1;
        }

module _ (s : List ℕ) (at : ℕ) {t : Token} (e : t ≡ token_at s at) (q : t.kind ≡ K.Text) where
  pub string-begins : t.start + 1 ≤ length s
  string-begins = let h = quote_at s at e q in omega (arith, h.room, h.within)

  pub string-short : {r : ℕ} → ((cs rest : List ℕ) → Characters (drop (t.start + 1) s) cs rest → r ≡ length cs) → r + 1 ≤ length s
  string-short f = let h = quote_at s at e q in omega (arith, h.room, h.within, f h.cs (drop t.next.at s) h.reads)

  pub string-measured : {r : ℕ} → ((cs rest : List ℕ) → Characters (drop (t.start + 1) s) cs rest → r ≡ length cs)
      → Some (upto (record { cells = (r + 1); fits = true }) t.next) ≡ measured (string_at s (token_at s at))
  string-measured {r} f =
      let h = quote_at s at e q in
      let p : r + 1 ≡ length (characters (drop (t.start + 1) s) ++ (0 ∷ [])) =
      rw (h.same, length-append h.cs (0 ∷ [])) (omega (arith, f h.cs (drop t.next.at s) h.reads)) in
      rw (← e, q) (ap (λ (n : ℕ). (Some (upto (record { cells = n; fits = true }) t.next))) p)

-- ---- an item

module _ (s : List ℕ) (at : ℕ) where
  -- each item takes no more cells than bytes
  abbrev Small : Standing → Type 0
  Small (stands i c) = (at < c.at) × (at + length (item_cells i) ≤ c.at) × (c.at ≤ length s)
  Small none = Unit

  small : Small (item_at s at)
  unfolding item_at
  small = go (value_at s at) refl
    where
      text : (k : Kind) → (token_at s at).kind ≡ k → Small (string_by s k (token_at s at))
      text K.End q = tt
      text K.Stray q = tt
      text K.Word q = tt
      text (K.Number v k) q = tt
      text K.Text q =
          let h = quote_at s at refl q in
          let p : length (characters (drop ((token_at s at).start + 1) s) ++ (0 ∷ [])) ≡ length h.cs + 1 = rw h.same (length-append h.cs (0 ∷ [])) in
          (omega (arith, h.after, h.room), omega (arith, h.after, h.room, p), h.within)
      text (K.Mark b) q = tt

      number : (v : Value) (c : Cursor) → value_at s at ≡ Some (upto v c) → Small (number_item v c)
      number (Number n) c e = let h = value-stands s at e in (h.moved, omega (arith, h.moved), h.within)
      number (Label w) c e = tt

      go : (r : Option (Read Value)) → value_at s at ≡ r → Small (item_by s at r)
      go (Some r) e = number r.value r.next e
      go None e = text (token_at s at).kind refl

  -- the item that the code found
  pub record FoundItem (r : Read Measure) : Type 0 where
    pub item : Item
    pub is : item_at s at ≡ stands item r.next
    pub cells : r.value.cells ≡ length (item_cells item)
    pub fits : r.value.fits ≡ item_in_range item
    pub moved : at < r.next.at
    pub few : at + r.value.cells ≤ r.next.at
    pub within : r.next.at ≤ length s

  pub found-item : {r : Read Measure} → measured (item_at s at) ≡ Some r → FoundItem r
  found-item {r} e = go (item_at s at) refl small e
    where
      go : (x : Standing) → item_at s at ≡ x → Small x → measured x ≡ Some r → FoundItem r
      go (stands i d) q h e =
          let p : d ≡ r.next = same-next e in
          let m : length (item_cells i) ≡ r.value.cells = ap (λ (x : Measure). x.cells) (same-value e) in
          let x : d.at ≡ r.next.at = ap (λ (y : Cursor). y.at) p in
          record {
            item = i;
            is = q ∙ ap (stands i) p;
            cells = sym m;
            fits = sym (ap (λ (x : Measure). x.fits) (same-value e));
            moved = omega arith;
            few = omega arith;
            within = omega arith;
          }
      go none q h e = let z : ◌≡◌ {A = ℕ} 0 1 = cc in absurd (omega arith)

  pub no_item : measured (item_at s at) ≡ None → item_at s at ≡ none
  no_item e = go (item_at s at) refl e
    where
      go : (r : Standing) → item_at s at ≡ r → measured r ≡ None → item_at s at ≡ none
      go (stands i d) q e = let z : ◌≡◌ {A = ℕ} 0 1 = cc in absurd (omega arith)
      go none q e = q
