-- The items of a row take no more cells than the line has bytes after the place where the row begins.
use Prim.Native.Nat.{ℕ, zero, suc, ◌+◌, ◌-◌, ◌≤◌, ◌<◌}
use mathlib.Core.List.{List, [], ◌∷◌}
use mathlib.Core.Path.{◌≡◌, refl, sym, ap, ◌∙◌}
use native.Mathlib.Omega.{arith}
use lib.ListN.{length, length-append}
use Rattle.numerals.specs.declared.Cursor.{Cursor}
use Rattle.tokens.specs.Reading.{token_at, tokens_from}
use Rattle.tokens.specs.Commas.{follows_of}
use Rattle.tokens.specs.declared.Follows.{Follows}
use Rattle.tokens.specs.declared.Follows.TheVariants.{Comma, Over, Neither}
use Rattle.tokens.proofs.Parted.{comma-moves}
use Rattle.values.proofs.Walks.{never, un_cons}
use Rattle.items.specs.Items.{Item, item_cells, cells_of}
use Rattle.items.specs.Reading.{item, reads, walk}
use Rattle.items.specs.Inner.Turns.{Standing, stands, none, item_at, measured}
use Rattle.items.proofs.Measures.{found-item}
use Rattle.items.proofs.Walks.{item_on, follows_on, item-turn, done-turn}

-- the cells of a row that begins at a place
abbrev Few : List ℕ → ℕ → List Item → Type 0
Few s at is = walk s item (tokens_from s at) ≡ reads is → at + length (cells_of is) ≤ length s

-- from one item to the next, with the law for the places further on
module _ (s : List ℕ) (at : ℕ) (is : List Item) (onward : (d : ℕ) (us : List Item) → (at < d) × (d ≤ length s) → Few s d us) where
  few-after : (i : Item) (c : Cursor) → item_at s at ≡ stands i c → (x : Follows) → follows_of (token_at s c.at) ≡ x
      → follows_on s i x ≡ reads is → at + length (cells_of is) ≤ length s
  unfolding cells_of walk
  few-after i c q (Comma d) p e =
      let h = found-item s at (ap measured q) in
      let m = comma-moves s c.at p in
      let u = un_cons i (walk s item (tokens_from s d.at)) e in
      let r = onward d.at u.0 (omega (arith, h.moved, m), m.1) u.1 in
      rw u.2 (omega (arith, length-append (item_cells i) (cells_of u.0), h.few, m))
  few-after i c q Over p e =
      let h = found-item s at (ap measured q) in
      let z : is ≡ i ∷ [] = cc in
      rw z (omega (arith, length-append (item_cells i) [], h.few, h.within))
  few-after i c q Neither p e = absurd (never e)

  few_at : (x : Standing) → item_at s at ≡ x → Few s at is
  few_at (stands i c) q e =
      few-after i c q (follows_of (token_at s c.at)) refl
      (sym (done-turn s c.at i) ∙ sym (ap (item_on s) q) ∙ sym (item-turn s at) ∙ e)
  few_at none q e = absurd (never (sym (ap (item_on s) q) ∙ sym (item-turn s at) ∙ e))

few-within : (s : List ℕ) (k at : ℕ) (is : List Item) → length s - at < k → Few s at is
few-within s zero at is l e = absurd (omega arith)
few-within s (suc k) at is l e = few_at s at is (λ d us h. few-within s k d us (omega arith)) (item_at s at) refl e

pub few-cells : (s : List ℕ) (at : ℕ) {is : List Item} → walk s item (tokens_from s at) ≡ reads is → at + length (cells_of is) ≤ length s
few-cells s at {is} e = few-within s (suc (length s - at)) at is (omega arith) e
