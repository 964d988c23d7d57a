-- The reader's three replies, each by the readings of the row.
use Prim.Native.Nat.{ℕ}
use mathlib.Core.Bool.{Bool, true, false, cond}
use mathlib.Core.List.{List}
use mathlib.Core.Path.{◌≡◌, refl, sym, ◌∙◌}
use lib.ListN.{length}
use Rattle.tokens.specs.declared.Token.{Token}
use Rattle.values.proofs.Walks.{never}
use Rattle.items.specs.Items.{Item, Items, cells_of, all_in_range}
use Rattle.items.specs.Reading.{item, RowRead, reads, wrong, walk, judged, items_read}
use Rattle.std.proofs.Common.{Result, Ok, Err}
use Rattle.items.specs.declared.ItemsFault.{ItemsFault}
use Rattle.items.specs.declared.ItemsFault.TheVariants.{WrongForm, OutOfRange}
use Rattle.items.proofs.Readings.{InLine, complete, sound}

module _ (line : List ℕ) (ts : List Token) where
  abbrev NoItems : Type 0
  NoItems = (is : List Item) → Items line ts is → ⊥

  -- ---- no reading

  pub wrong-none : walk line item ts ≡ wrong → NoItems
  wrong-none e is r = never (sym e ∙ complete line r)

  pub none-wrong : InLine line ts → NoItems → walk line item ts ≡ wrong
  none-wrong w n = go (walk line item ts) refl
    where
      go : (r : RowRead) → walk line item ts ≡ r → r ≡ wrong
      go (reads is) e = absurd (n is (sound line w e))
      go wrong e = refl

  -- ---- the reply

  -- what each reply says
  abbrev Says : Result ℕ ItemsFault → Type 0
  Says (Ok n) = (is : List Item) × Items line ts is × (all_in_range is ≡ true) × (n ≡ length (cells_of is))
  Says (Err OutOfRange) = (is : List Item) × Items line ts is × (all_in_range is ≡ false)
  Says (Err WrongForm) = NoItems

  pub reply-says : InLine line ts → {r : Result ℕ ItemsFault} → items_read line ts ≡ r → Says r
  unfolding items_read
  reply-says w {r} e = go (walk line item ts) refl e
    where
      by_range : (is : List Item) (b : Bool) → Items line ts is → all_in_range is ≡ b → cond b (Ok (length (cells_of is))) (Err OutOfRange) ≡ r → Says r
      by_range is true i q e = rw (← e) (is, i, q, refl)
      by_range is false i q e = rw (← e) (is, i, q)

      go : (x : RowRead) → walk line item ts ≡ x → judged x ≡ r → Says r
      go (reads is) q e = by_range is (all_in_range is) (sound line w q) refl e
      go wrong q e = rw (← e) (wrong-none q)

  pub says-reply : InLine line ts → (r : Result ℕ ItemsFault) → Says r → items_read line ts ≡ r
  unfolding items_read
  says-reply w (Ok n) (is, i, q, e) = rw (complete line i, q, e)
  says-reply w (Err OutOfRange) (is, i, q) = rw (complete line i, q)
  says-reply w (Err WrongForm) n = rw (none-wrong w n)
