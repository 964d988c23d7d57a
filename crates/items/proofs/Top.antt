-- What this crate promises, beyond the equations at its functions: what those equations' right sides mean.
use Prim.Native.Nat.{ℕ, ◌+◌, ◌≤◌, ◌<◌}
use mathlib.Core.Bool.{true, false}
use mathlib.Core.List.{List, [], ◌∷◌, ◌++◌}
use mathlib.Core.Logic.{◌↔◌, ◌⊎◌, ⊎_elim}
use mathlib.Core.Path.{◌≡◌, refl, sym, ap, ◌∙◌}
use native.Mathlib.Omega.{arith}
use lib.ListN.{length, get_or, take, drop}
use lib.Seq.{sets, sets-eq}
use Rattle.numerals.specs.Numbers.{kept_of}
use Rattle.std.proofs.Common.{Some, Ok, Err}
use Rattle.items.specs.declared.ItemsFault.TheVariants.{WrongForm, OutOfRange}
use Rattle.numerals.specs.declared.Numeral.{Numeral}
use Rattle.tokens.specs.Reading.{tokens_from}
use Rattle.tokens.specs.declared.Token.{Token}
use Rattle.items.specs.Items.{Item, number, Items, item_cells, cells_of, all_in_range}
use Rattle.items.specs.Reading.{item, reads, wrong, walk, items_read, refusal_of}
use Rattle.items.specs.Writing.{cells_from}
use Rattle.items.specs.Places.{FirstOut, number_out_in}
use Rattle.items.proofs.Readings as Readings
use Rattle.items.proofs.Readings.{in_line}
use Rattle.items.proofs.Bounds as Bounds
use Rattle.items.proofs.Verdicts as Verdicts
use Rattle.items.proofs.Numbers as Numbers
use Rattle.items.proofs.Writes as Writes
use Rattle.items.proofs.Small as Small
use Rattle.items.proofs.Located as Located
use Rattle.items.proofs.Examples as Examples
use Rattle.items.proofs.Examples.{Examples}

-- ---- the walk over a line's tokens from a place on

-- It reads exactly the rule's items.
pub items-exactly : (line : List ℕ) (at : ℕ) {is : List Item}
    → (walk line item (tokens_from line at) ≡ reads is) ↔ Items line (tokens_from line at) is
items-exactly line at = (Readings.sound line (in_line line at), Readings.complete line)

-- No row has two readings.
pub one-reading : (line : List ℕ) {ts : List Token} {is is' : List Item} → Items line ts is → Items line ts is' → is ≡ is'
one-reading line = Readings.once line

-- It is wrong exactly where there is no reading.
pub no_reading : (line : List ℕ) (at : ℕ)
    → (walk line item (tokens_from line at) ≡ wrong) ↔ ((is : List Item) → Items line (tokens_from line at) is → ⊥)
no_reading line at = (Verdicts.wrong-none line (tokens_from line at), Verdicts.none-wrong line (tokens_from line at) (in_line line at))

-- ---- what `items` hands back

-- So many cells, exactly where there are items, every number of them in range, that take so many cells.
pub cells-exactly : (line : List ℕ) (at : ℕ) {n : ℕ}
    → (items_read line (tokens_from line at) ≡ Ok n)
    ↔ ((is : List Item) × Items line (tokens_from line at) is × (all_in_range is ≡ true) × (n ≡ length (cells_of is)))
cells-exactly line at {n} =
    let ts = tokens_from line at in
    (Verdicts.reply-says line ts (in_line line at), Verdicts.says-reply line ts (in_line line at) (Ok n))

-- They are no more than the bytes that are left of the line: a caller can count on.
pub few-cells : (line : List ℕ) (at : ℕ) {n : ℕ} → items_read line (tokens_from line at) ≡ Ok n → at + n ≤ length line
few-cells line at e =
    let h = (cells-exactly line at).0 e in
    omega (arith, h.3, Bounds.few-cells line at ((items-exactly line at).1 h.1))

-- Refusal 6, exactly where there are items and a number of them is out of range.
pub range_exactly : (line : List ℕ) (at : ℕ)
    → (items_read line (tokens_from line at) ≡ Err OutOfRange)
    ↔ ((is : List Item) × Items line (tokens_from line at) is × (all_in_range is ≡ false))
range_exactly line at =
    let ts = tokens_from line at in
    (Verdicts.reply-says line ts (in_line line at), Verdicts.says-reply line ts (in_line line at) (Err OutOfRange))

-- Refusal 3, exactly where there are no items.
pub form-exactly : (line : List ℕ) (at : ℕ)
    → (items_read line (tokens_from line at) ≡ Err WrongForm) ↔ ((is : List Item) → Items line (tokens_from line at) is → ⊥)
form-exactly line at =
    let ts = tokens_from line at in
    (Verdicts.reply-says line ts (in_line line at), Verdicts.says-reply line ts (in_line line at) (Err WrongForm))

-- The same by the paper's numbers: 0, 3, 6, each answered exactly where its check is the first that fails.
module _ (line : List ℕ) (at : ℕ) where
  pub cells_0 : (refusal_of (items_read line (tokens_from line at)) ≡ 0)
      ↔ ((is : List Item) × Items line (tokens_from line at) is × (all_in_range is ≡ true))
  cells_0 =
      (λ e. let h = (cells-exactly line at).0 (Numbers.number_0 (items_read line (tokens_from line at)) e).1 in (h.0, h.1, h.2), λ h. ap refusal_of ((cells-exactly line at).1 (h.0, h.1, h.2, refl)))

  pub form_3 : (refusal_of (items_read line (tokens_from line at)) ≡ 3) ↔ ((is : List Item) → Items line (tokens_from line at) is → ⊥)
  form_3 =
      (λ e. (form-exactly line at).0 (Numbers.number_3 (items_read line (tokens_from line at)) e), λ n. ap refusal_of ((form-exactly line at).1 n))

  pub range_6 : (refusal_of (items_read line (tokens_from line at)) ≡ 6)
      ↔ ((is : List Item) × Items line (tokens_from line at) is × (all_in_range is ≡ false))
  range_6 =
      (λ e. (range_exactly line at).0 (Numbers.number_6 (items_read line (tokens_from line at)) e), λ h. ap refusal_of ((range_exactly line at).1 h))

-- ---- what `write_cells` writes

-- The items' cells, where there are items and every number of them is in range.
pub written-exactly : (line : List ℕ) (at : ℕ) {is : List Item} → Items line (tokens_from line at) is → all_in_range is ≡ true
    → cells_from line (tokens_from line at) ≡ cells_of is
unfolding cells_from
written-exactly line at r q = rw (Readings.complete line r, q)

-- Nothing, where the items are refused.
pub refused_writes_none : (line : List ℕ) (at : ℕ)
    → (items_read line (tokens_from line at) ≡ Err WrongForm) ⊎ (items_read line (tokens_from line at) ≡ Err OutOfRange)
    → cells_from line (tokens_from line at) ≡ []
unfolding cells_from
refused_writes_none line at = ⊎_elim (Writes.given line (tokens_from line at)) (Writes.given line (tokens_from line at))

-- As many cells as `items` says.
pub as_many : (line : List ℕ) (at : ℕ) {n : ℕ} → items_read line (tokens_from line at) ≡ Ok n → length (cells_from line (tokens_from line at)) ≡ n
unfolding cells_from
as_many line at e = (Writes.given line (tokens_from line at) e).1

-- Where the row has room for them they stand at their place, and all else is as it was.
pub in_place : (line : List ℕ) (at : ℕ) {n : ℕ} (row : List ℕ) (to : ℕ) → items_read line (tokens_from line at) ≡ Ok n → to + n ≤ length row
    → sets row to (cells_from line (tokens_from line at)) ≡ take to row ++ cells_from line (tokens_from line at) ++ drop (to + n) row
in_place line at row to e h =
    let l = as_many line at e in
    sets-eq (cells_from line (tokens_from line at)) row to (omega arith) ∙ rw l

-- A number's cell is the one that keeps it.
pub number-cell : (n : Numeral) {x : ℕ} → kept_of n ≡ Some x → item_cells (number n) ≡ x ∷ []
number-cell = Writes.number-cell

-- Each is a cell.
pub cells-small : (line : List ℕ) (at k : ℕ) → get_or (cells_from line (tokens_from line at)) k 0 < 65536
cells-small = Small.cells-small

-- ---- what `number_out` hands back (02, K4)

-- "the number .. in 6", its `-` included: where a number among the items is out of range, the place at which the first such starts;
pub number_out_exactly : (line : List ℕ) {ts : List Token} {is : List Item} → Items line ts is → all_in_range is ≡ false → {p : ℕ}
    → (number_out_in ts ≡ p) ↔ FirstOut line ts p
number_out_exactly = Located.number_out_exactly

-- 0 where each is in range.
pub number_out_none : (line : List ℕ) {ts : List Token} {is : List Item} → Items line ts is → all_in_range is ≡ true → number_out_in ts ≡ 0
number_out_none = Located.number_out_none

-- ---- examples, and one reply

-- Rows that are easily misread.
pub examples : Examples
examples = Examples.examples

-- Every promise of this crate is an equation with its meaning: two replies that meet it coincide.
pub coincide : {A : Type 0} {meaning r r' : A} → r ≡ meaning → r' ≡ meaning → r ≡ r'
coincide p q = p ∙ sym q
