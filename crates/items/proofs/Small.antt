-- Each cell is below 65536: a character is a byte, and a number in range is kept modulo 65536.
use Prim.Native.Nat.{ℕ, zero, suc, ◌<◌}
use mathlib.Core.Bool.{Bool, true, false, cond}
use mathlib.Core.List.{List, [], ◌∷◌, ◌++◌}
use mathlib.Core.Path.{◌≡◌, refl}
use native.Mathlib.Omega.{arith}
use borrow.Author.Tests.{leb-true}
use lib.Ieee.Bits.{is_true}
use lib.IntN.{ℤ, pos, negsuc}
use lib.ListN.{get_or}
use mir.Syntax.{w16}
use mir.Val.{of_z}
use Rattle.numerals.specs.Numbers.{value_of, in_range}
use Rattle.tokens.specs.Reading.{tokens_from}
use Rattle.tokens.specs.Strings.{is_plain, Characters, closed, plain, newline}
use Rattle.tokens.specs.declared.Token.{Token}
use Rattle.tokens.proofs.Classes.{inside}
use Rattle.tokens.proofs.Quoted.{plain_is}
use Rattle.items.specs.Items.{Item, ItemText, is_number, is_string, Items, one, more, item_cells, item_in_range, cells_of, all_in_range}
use Rattle.items.specs.Reading.{item, RowRead, reads, wrong, walk}
use Rattle.items.specs.Writing.{accepted_cells, cells_from}
use Rattle.items.proofs.Readings.{in_line, sound}
use Rattle.items.proofs.Writes.{first}

abbrev pub Small : List ℕ → Type 0
Small xs = (k : ℕ) → get_or xs k 0 < 65536

pub none-small : Small []
none-small k = omega arith

pub cons-small : {x : ℕ} (xs : List ℕ) → x < 65536 → Small xs → Small (x ∷ xs)
cons-small xs h g zero = h
cons-small xs h g (suc k) = g k

pub append_small : (xs ys : List ℕ) → Small xs → Small ys → Small (xs ++ ys)
append_small [] ys h g = g
append_small (x ∷ xs) ys h g = cons-small (xs ++ ys) (h zero) (append_small xs ys (λ k. h (suc k)) g)

characters-small : {l cs rest : List ℕ} → Characters l cs rest → Small cs
characters-small closed = none-small
characters-small (plain {b} {cs = cs} t r) =
    cons-small cs (omega (arith, inside 32 126 b (plain_is b (is_true (is_plain b) t)).printable)) (characters-small r)
characters-small (newline {cs = cs} r) = cons-small cs (omega arith) (characters-small r)

pub number_small : (z : ℤ) → in_range z ≡ true → of_z w16 z < 65536
number_small (pos n) e = omega (arith, leb-true n 65535 e)
number_small (negsuc n) e = omega arith

module _ (line : List ℕ) where
  item-small : {ts : List Token} {i : Item} → ItemText line ts i → item_in_range i ≡ true → Small (item_cells i)
  item-small (is_number {n = n} u) e = cons-small [] (number_small (value_of n) e) none-small
  item-small (is_string {cs = cs} q r) e = append_small cs (0 ∷ []) (characters-small r) (cons-small [] (omega arith) none-small)

  items-small : {ts : List Token} {is : List Item} → Items line ts is → all_in_range is ≡ true → Small (cells_of is)
  unfolding cells_of all_in_range
  items-small (one {i = i} u) e = append_small (item_cells i) [] (item-small u (first i (reads []) e).fits) none-small
  items-small (more {i = i} {is} c u m r) e =
      let h = first i (reads is) e in
      append_small (item_cells i) (cells_of is) (item-small u h.fits) (items-small r h.rest)

  pub cells-small : (at : ℕ) → Small (cells_from line (tokens_from line at))
  unfolding cells_from
  cells-small at = go (walk line item (tokens_from line at)) refl
    where
      by_range : (is : List Item) (b : Bool) → Items line (tokens_from line at) is → all_in_range is ≡ b → Small (cond b (cells_of is) [])
      by_range is true r q = items-small r q
      by_range is false r q = none-small

      go : (x : RowRead) → walk line item (tokens_from line at) ≡ x → Small (accepted_cells x)
      go (reads is) e = by_range is (all_in_range is) (sound line (in_line line at) e) refl
      go wrong e = none-small
