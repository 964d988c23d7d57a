-- Where refusals 6, 7 and 8 of an expression are (02, K4: "the number or the operation's mark in 6, 7; the parenthesis opening level 33
-- in 8"): the places are carried by the trees that give the values.
use Rattle.std.specs.Prelude.{ℕ, ◌+◌, cond, List, [], leb}
use Rattle.codes.specs.Limits.{deepest}
use Rattle.tokens.specs.declared.Token.{Token}
use Rattle.expressions.specs.Grammar as G
use Rattle.expressions.specs.Trees as T
use Rattle.expressions.specs.Trees.{Tree, depth}
use Rattle.expressions.specs.Worths.{of_number, operation}
use Rattle.expressions.specs.Reading.{nothing, Outcome, reads, wrong, operand}
use Rattle.expressions.specs.declared.Operation.{Operation}
use Rattle.std.specs.Prelude.{Result, Ok, Err, ℤ}
use Rattle.expressions.specs.declared.FaultAt.{FaultAt}
use Rattle.expressions.specs.Worths.{Worth}

-- ---- trees with places

-- a tree that keeps where each number, mark and opening parenthesis starts
pub data Placed : Type 0 where
  literal : (at value : ℕ) → Placed
  node : (at : ℕ) → Operation → Placed → Placed → Placed
  enclosed : (at : ℕ) → Placed → Placed

abbrev pub literal_at : Token → ℕ → Placed
literal_at t v = literal t.start v

abbrev pub node_at : Token → Operation → Placed → Placed → Placed
node_at t o a b = node t.start o a b

abbrev pub enclosed_at : Token → Placed → Placed
enclosed_at t a = enclosed t.start a

-- the reading of a row of tokens, with places: as the grammar has it, and as the reader finds it
abbrev pub PlacedExpression : List Token → Placed → Type 0
PlacedExpression ts p = G.Sum Placed literal_at node_at enclosed_at ts p

abbrev pub placed_read : List Token → Outcome Placed literal_at node_at enclosed_at
placed_read ts = operand Placed literal_at node_at enclosed_at ts nothing nothing []

-- the tree without its places
unfoldable pub strip : Placed → Tree
strip (literal at v) = T.literal v
strip (node at o a b) = T.node o (strip a) (strip b)
strip (enclosed at a) = T.enclosed (strip a)

-- ---- 6 and 7: "the number or the operation's mark"

-- a number, or 6 or 7 with its place
abbrev pub Found : Type 0
Found = Result ℤ FaultAt

-- what is worth something at a place has its fault there
abbrev pub found_at : ℕ → Worth → Found
found_at at (Ok z) = Ok z
found_at at (Err f) = Err (record { fault = f; at = at })

-- the first fault "in order of evaluation (left, right, operation)" (01), the operation's at its mark
unfoldable pub evaluate : ℕ → Operation → Found → Found → Found
evaluate at o (Ok a) (Ok b) = found_at at (operation o a b)
evaluate at o (Ok a) (Err right) = Err right
evaluate at o (Err left) b = Err left

unfoldable pub found_of : Placed → Found
found_of (literal at v) = found_at at (of_number v)
found_of (node at o a b) = evaluate at o (found_of a) (found_of b)
found_of (enclosed at a) = found_of a

-- the worth without its place, and the place of its fault, 0 where there is none
abbrev pub plain : Found → Worth
plain (Ok z) = Ok z
plain (Err f) = Err f.fault

abbrev pub fault_place : Found → ℕ
fault_place (Ok z) = 0
fault_place (Err f) = f.at

-- the place of a row's first fault: form 3 and depth 8 come before it
abbrev pub fault_judged : Outcome Placed literal_at node_at enclosed_at → ℕ
fault_judged (reads p) = cond (leb (depth (strip p)) deepest) (fault_place (found_of p)) 0
fault_judged wrong = 0

unfoldable pub fault_in : List Token → ℕ
fault_in ts = fault_judged (placed_read ts)

-- ---- 8: "the parenthesis opening level 33"

pub data Place : Type 0 where
  here : ℕ → Place
  nowhere : Place

abbrev pub leftmost : Place → Place → Place
leftmost (here at) right = here at
leftmost nowhere right = right

-- the leftmost parenthesis that opens a level past the deepest, where so many are open outside it
unfoldable pub deep_from : ℕ → Placed → Place
deep_from outside (literal at v) = nowhere
deep_from outside (node at o a b) = leftmost (deep_from outside a) (deep_from outside b)
deep_from outside (enclosed at a) = cond (leb (outside + 1) deepest) (deep_from (outside + 1) a) (here at)

abbrev pub deep_at : Placed → Place
deep_at p = deep_from 0 p

-- its place in a row, 0 where there is none
abbrev pub place_or : Place → ℕ → ℕ
place_or (here at) none = at
place_or nowhere none = none

abbrev pub deep_judged : Outcome Placed literal_at node_at enclosed_at → ℕ
deep_judged (reads p) = place_or (deep_at p) 0
deep_judged wrong = 0

unfoldable pub too_deep_in : List Token → ℕ
too_deep_in ts = deep_judged (placed_read ts)
