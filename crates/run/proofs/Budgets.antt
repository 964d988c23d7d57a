-- One law for each way out of reading BUDGET, and for each turn.
use mathlib.Core.Path.{◌≡◌, refl}
use mathlib.Core.Bool.{Bool, true, false, cond, ◌&&◌}
use mathlib.Core.List.{List, [], ◌∷◌}
use Prim.Native.Nat.{ℕ, ◌+◌, ◌*◌, ◌≤◌, ◌<◌}
use native.Mathlib.Numerals.{add-one}
use native.Mathlib.Omega.{arith}
use borrow.Author.Tests.{lt-ltb, le-ltb, le-leb, lt-leb}
use lib.ListN.{length, get_or, drop, drop_of_length-le}
use lib.Seq.{drop-cons}
use Rattle.numerals.specs.Bytes.{rank}
use Rattle.numerals.specs.Digits.{all_below, worth_after}
use Rattle.run.specs.Budgets.{budget_after, budget_of}
use Rattle.std.proofs.Common.{Some, None}

pub budget_none : (word : List ℕ) → length word ≡ 0 → None ≡ budget_of word
unfolding budget_of
budget_none word e = rw e

pub budget_some : (word : List ℕ) → 0 < length word → budget_after 0 word ≡ budget_of word
unfolding budget_of
budget_some word h = rw (lt-ltb 0 (length word) h)

worth-more : (a d : ℕ) (digits : List ℕ) → worth_after 10 a (d ∷ digits) ≡ worth_after 10 (a * 10 + rank d) digits
unfolding worth_after
worth-more a d digits = refl

module _ (word : List ℕ) (i steps : ℕ) {digit : ℕ} (is : digit ≡ rank (get_or word i 0)) (h : i < length word) where
  pub budget_more : digit ≤ 9 → budget_after steps (drop i word) ≡ budget_after (steps * 10 + digit) (drop (i + 1) word)
  unfolding budget_after
  budget_more d = rw (add-one i, drop-cons word i 0 h, worth-more steps (get_or word i 0), ← is, lt-ltb digit 10 (omega arith))

  pub budget_other : 9 < digit → budget_after steps (drop i word) ≡ None
  unfolding budget_after
  budget_other d = rw (drop-cons word i 0 h, ← is, le-ltb digit 10 (omega arith))

-- digits are worth at least what stands before them
worth-grows : (a : ℕ) (digits : List ℕ) → a ≤ worth_after 10 a digits
unfolding worth_after
worth-grows a [] = omega arith
worth-grows a (d ∷ digits) = omega (arith, worth-grows (a * 10 + rank d) digits)

pub budget_large : (steps : ℕ) (digits : List ℕ) → 1000000 < steps → budget_after steps digits ≡ None
unfolding budget_after
budget_large steps digits h =
    rw (lt-leb (worth_after 10 steps digits) 1000000 (omega (arith, worth-grows steps digits))) (go (all_below 10 digits))
  where
    go : (b : Bool) → cond (b && false) (Some (worth_after 10 steps digits)) None ≡ None
    go true = refl
    go false = refl

pub budget_end : (word : List ℕ) (i steps : ℕ) → length word ≤ i → steps ≤ 1000000 → budget_after steps (drop i word) ≡ Some steps
unfolding budget_after worth_after
budget_end word i steps h l = rw (drop_of_length-le word h, le-leb steps 1000000 l)
