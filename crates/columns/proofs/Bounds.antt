-- Every place that is pointed at stands in the line.
use Prim.Native.Nat.{ℕ, zero, suc, ◌+◌, ◌≤◌}
use Prim.Native.Char.{code}
use mathlib.Core.Bool.{Bool, true, false, cond, ◌&&◌}
use mathlib.Core.List.{List, [], ◌∷◌, ◌++◌}
use native.Mathlib.Omega.{arith}
use lib.Dec.{leb, eqb}
use lib.ListN.{length, length-append}
use Rattle.codes.specs.Limits.{deepest}
use Rattle.std.proofs.Common.{Option, Some, None, Ok, Err}
use Rattle.tokens.specs.Commas.{on_comma}
use Rattle.tokens.specs.Marks.{on_mark}
use Rattle.tokens.specs.Reading.{tokens_from}
use Rattle.tokens.specs.declared.Kind.{Kind}
use Rattle.tokens.specs.declared.Kind.TheVariants as K
use Rattle.tokens.specs.declared.Token.{Token}
use Rattle.tokens.proofs.Places.{InOrder, row_ordered}
use Rattle.expressions.specs.Grammar.{one_product, sum, one_factor, product, literal as numeral, parentheses}
use Rattle.expressions.specs.Places.{Placed, literal, node, enclosed, PlacedExpression, found_at, evaluate, found_of, fault_place, Place, here, nowhere, leftmost, deep_from, place_or, Found}
use Rattle.expressions.specs.Worths.{of_number, operation, Worth}
use Rattle.expressions.specs.declared.Operation.{Operation}
use Rattle.operands.specs.Checks.{operand_at, word_of}
use Rattle.operands.specs.Places as Operands
use Rattle.operands.specs.Places.{start_of, after_comma, after_commas, operand_start_in, number_start_in, out_by, out_of}
use Rattle.operands.specs.Reading.{RowRead, reads, wrong, operands_of}
use Rattle.items.specs.Places.{starts_out, is_comma, out_from}
use Rattle.faults.specs.Faults.{Fault, stands, lacks, lacks-before}

-- ---- rows

-- each token starts in a line of n bytes, or directly behind it
abbrev pub Below : ℕ → List Token → Type 0
Below n [] = Unit
Below n (t ∷ ts) = (t.start ≤ n) × Below n ts

ordered_below : (n from : ℕ) (ts : List Token) → from ≤ n → InOrder n from ts → Below n ts
ordered_below n from [] l o = tt
ordered_below n from (t ∷ ts) l o =
    let e = o.0.within l in
    (omega (arith, e, o.0.moves), ordered_below n t.next.at ts e o.1)

pub row_below : (line : List ℕ) → Below (length line) (tokens_from line 0)
row_below line = ordered_below (length line) 0 (tokens_from line 0) (omega arith) (row_ordered line 0)

pub parts_below : (n : ℕ) (us vs : List Token) → Below n (us ++ vs) → Below n us × Below n vs
parts_below n [] vs h = (tt, h)
parts_below n (u ∷ us) vs h = let r = parts_below n us vs h.1 in ((h.0, r.0), r.1)

-- ---- expressions

module _ (n : ℕ) where
  abbrev Bounded : Placed → Type 0
  Bounded (literal at v) = at ≤ n
  Bounded (node at o a b) = (at ≤ n) × Bounded a × Bounded b
  Bounded (enclosed at a) = (at ≤ n) × Bounded a

  pub placed_bounded : {ts : List Token} {p : Placed} → PlacedExpression ts p → Below n ts → Bounded p
  placed_bounded s =
      elim s as (λ ts p s. Below n ts → Bounded p) (λ ts p s. Below n ts → Bounded p) (λ ts p s. Below n ts → Bounded p) [
        | one_product (p → h) ↦ h
        | sum {ts} {us} {a} {b} {o} t (s → h) m (p → g) ↦ λ w. let q = parts_below n ts (t ∷ us) w in (q.1.0, h q.0, g q.1.1)
        | one_factor (f → h) ↦ h
        | product {ts} {us} {a} {b} {o} t (p → h) m (f → g) ↦ λ w. let q = parts_below n ts (t ∷ us) w in (q.1.0, h q.0, g q.1.1)
        | numeral {t} {v} {k} e ↦ λ w. w.0
        | parentheses {a} {ts} {v} z m (s → h) e ↦ λ w. (w.0, h (parts_below n ts (z ∷ []) w.1).0)
      ]

  fault_at : (at : ℕ) (w : Worth) → at ≤ n → fault_place (found_at at w) ≤ n
  fault_at at (Ok z) l = omega arith
  fault_at at (Err why) l = l

  fault-of : (at : ℕ) (o : Operation) (a b : Found) → at ≤ n → fault_place a ≤ n → fault_place b ≤ n → fault_place (evaluate at o a b) ≤ n
  unfolding evaluate
  fault-of at o (Ok a) (Ok b) l h g = fault_at at (operation o a b) l
  fault-of at o (Ok a) (Err right) l h g = g
  fault-of at o (Err left) b l h g = h

  pub fault_below : (p : Placed) → Bounded p → fault_place (found_of p) ≤ n
  unfolding found_of
  fault_below (literal at v) l = fault_at at (of_number v) l
  fault_below (node at o a b) l = fault-of at o (found_of a) (found_of b) l.0 (fault_below a l.1) (fault_below b l.2)
  fault_below (enclosed at a) l = fault_below a l.1

  leftmost-below : (x y : Place) → place_or x 0 ≤ n → place_or y 0 ≤ n → place_or (leftmost x y) 0 ≤ n
  leftmost-below (here at) y h g = h
  leftmost-below nowhere y h g = g

  enclosed-below : (b : Bool) (x : Place) (at : ℕ) → at ≤ n → place_or x 0 ≤ n → place_or (cond b x (here at)) 0 ≤ n
  enclosed-below true x at l h = h
  enclosed-below false x at l h = l

  pub deep-below : (outside : ℕ) (p : Placed) → Bounded p → place_or (deep_from outside p) 0 ≤ n
  unfolding deep_from
  deep-below outside (literal at v) l = omega arith
  deep-below outside (node at o a b) l = leftmost-below (deep_from outside a) (deep_from outside b) (deep-below outside a l.1) (deep-below outside b l.2)
  deep-below outside (enclosed at a) l =
      enclosed-below (leb (outside + 1) deepest) (deep_from (outside + 1) a) at l.0 (deep-below (outside + 1) a l.1)

-- ---- form

pub form-below : {line : List ℕ} {p : ℕ} → Fault line p → p ≤ length line
form-below (stands {s} {u} {rest} a b c d e) = omega (arith, length-append s (u ++ rest))
form-below (lacks c n) = omega arith
form-below (lacks-before rest c d e) = omega arith

-- ---- operands and items

module _ (n : ℕ) where
  start-below : (ts : List Token) → Below n ts → start_of ts ≤ n
  unfolding start_of
  start-below [] h = omega arith
  start-below (t ∷ ts) h = h.0

  on-comma : (us vs : List Token) (k : Kind) → Below n us → Below n vs → Below n (on_comma us vs k)
  on-comma us vs K.End h g = h
  on-comma us vs K.Stray h g = h
  on-comma us vs K.Word h g = h
  on-comma us vs (K.Number v r) h g = h
  on-comma us vs K.Text h g = h
  on-comma us vs (K.Mark b) h g = go (eqb b (code ","))
    where
      go : (q : Bool) → Below n (cond q vs us)
      go true = g
      go false = h

  comma-below : (ts : List Token) → Below n ts → Below n (after_comma ts)
  unfolding after_comma
  comma-below [] h = tt
  comma-below (t ∷ ts) h = on-comma (after_comma ts) ts t.kind (comma-below ts h.1) h.1

  commas_below : (i : ℕ) (ts : List Token) → Below n ts → Below n (after_commas i ts)
  unfolding after_commas
  commas_below zero ts h = h
  commas_below (suc i) ts h = commas_below i (after_comma ts) (comma-below ts h)

  pub operand_below : (ts : List Token) (i : ℕ) → Below n ts → operand_start_in ts i ≤ n
  unfolding operand_start_in
  operand_below ts zero h = omega arith
  operand_below ts (suc i) h = start-below (after_commas i ts) (commas_below i ts h)

  number-below : (ts : List Token) → Below n ts → number_start_in ts ≤ n
  unfolding number_start_in
  number-below [] h = omega arith
  number-below (t ∷ ts) h = go t.kind
    where
      go : (k : Kind) → on_mark 0 (λ b. start_of ts) k ≤ n
      go K.End = omega arith
      go K.Stray = omega arith
      go K.Word = omega arith
      go (K.Number v r) = omega arith
      go K.Text = omega arith
      go (K.Mark b) = start-below ts h.1

  out_below : (ts : List Token) (k l : Option ℕ) → Below n ts → out_by ts k l ≤ n
  out_below ts None l h = number-below ts h
  out_below ts (Some x) None h = number-below (after_comma ts) (comma-below ts h)
  out_below ts (Some x) (Some y) h = omega arith

  pub number_out_below : (line : List ℕ) (ts : List Token) → Below n ts → Operands.number_out_in line ts ≤ n
  unfolding Operands.number_out_in
  number_out_below line ts h = go (operands_of line ts)
    where
      go : (r : RowRead) → out_of ts r ≤ n
      go (reads os) = out_below ts (word_of (operand_at os 0)) (word_of (operand_at os 1)) h
      go wrong = omega arith

  either-below : (q : Bool) (a b : ℕ) → a ≤ n → b ≤ n → cond q a b ≤ n
  either-below true a b h g = h
  either-below false a b h g = g

  pub item_out_below : (begins : Bool) (ts : List Token) → Below n ts → out_from begins ts ≤ n
  unfolding out_from
  item_out_below begins [] h = omega arith
  item_out_below begins (t ∷ ts) h =
      either-below (begins && starts_out (t ∷ ts)) t.start (out_from (is_comma t.kind) ts) h.0 (item_out_below (is_comma t.kind) ts h.1)
