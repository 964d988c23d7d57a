-- What the readers of sums, products and factors promise one another: what the reader of whole rows makes of the tokens from a
-- place on. These promises are inner ones; `expression` has the natural one.
use Rattle.std.specs.Prelude.{ℕ, ◌≤◌, ◌<◌, Bool, true, false, List, [], ◌∷◌, ◌≡◌, length}
use Rattle.tokens.specs.Reading.{tokens_from}
use Rattle.tokens.specs.declared.Kind.{Kind}
use Rattle.tokens.specs.declared.Kind.TheVariants as K
use Rattle.tokens.specs.declared.Token.{Token}
use Rattle.expressions.specs.Worths.{of_number}
use Rattle.expressions.specs.Reading.{kind_symbol, Waiting, nothing, joined, Outcome, wrong, Frame, operand, operator}
use Rattle.expressions.specs.Places.{found_at, evaluate}
use Rattle.expressions.specs.Inner.Scanning.{passes}
use Rattle.expressions.specs.declared.Operation.{Operation}
use Rattle.expressions.specs.Places.{Found}
use Rattle.std.specs.Prelude.{Option, Some, None, Result, Ok, Err}
use Rattle.numerals.specs.declared.Read.{Read}
use Rattle.expressions.specs.declared.Malformed.{Malformed}
use Rattle.expressions.specs.declared.Malformed.TheVariants.{TooDeep, WrongForm}
use Rattle.expressions.specs.declared.Symbol.{Symbol}
use Rattle.expressions.specs.declared.Symbol.TheVariants.{Sums, Products}

-- ---- what a symbol is to each reader

abbrev pub sum_mark : Symbol → Option Operation
sum_mark (Sums o) = Some o
sum_mark _ = None

abbrev pub product_mark : Symbol → Option Operation
product_mark (Products o) = Some o
product_mark _ = None

abbrev pub is_end : Kind → Bool
is_end K.End = true
is_end _ = false

-- ---- what a part is to the reader of whole rows

pub data Level : Type 0 where
  factors products sums : Level

-- what is found of a number and of an operation: faults are where their tokens start
abbrev pub number_at : Token → ℕ → Found
number_at t v = found_at t.start (of_number v)

abbrev pub evaluate_at : Token → Operation → Found → Found → Found
evaluate_at t o a b = evaluate t.start o a b

abbrev pub inside_at : Token → Found → Found
inside_at t w = w

abbrev pub Wait : Type 0
Wait = Waiting (Found) number_at evaluate_at inside_at

abbrev pub Stack : Type 0
Stack = List (Frame (Found) number_at evaluate_at inside_at)

-- the reader of whole rows, over what is found
abbrev pub Answer : Type 0
Answer = Outcome (Found) number_at evaluate_at inside_at

abbrev pub operand_f : List Token → Wait → Wait → Stack → Answer
operand_f ts l p k = operand (Found) number_at evaluate_at inside_at ts l p k

abbrev pub operator_f : List Token → Wait → Found → Stack → Answer
operator_f ts l v k = operator (Found) number_at evaluate_at inside_at ts l v k

-- what waits to the left of a part
abbrev pub Left : Level → Type 0
Left factors = Wait × Wait × Stack
Left products = Wait × Stack
Left sums = Stack

-- the reader before a part, and after it
abbrev pub before : (level : Level) → List Token → Left level → Answer
before factors ts x = operand_f ts x.0 x.1 x.2
before products ts x = operand_f ts x.0 nothing x.1
before sums ts x = operand_f ts nothing nothing x

abbrev pub after : (level : Level) → List Token → Found → Left level → Answer
after factors ts v x = operator_f ts x.0 (joined (Found) number_at evaluate_at inside_at x.1 v) x.2
after products ts v x = operator_f ts x.0 v x.1
after sums ts v x = operator_f ts nothing v x

-- no mark that would carry a part on
abbrev pub EndsAt : Level → Symbol → Type 0
EndsAt factors y = Unit {0}
EndsAt products y = product_mark y ≡ None
EndsAt sums y = (product_mark y ≡ None) × (sum_mark y ≡ None)

abbrev pub Ends : Level → List Token → Type 0
Ends level [] = Unit {0}
Ends level (t ∷ ts) = EndsAt level (kind_symbol t.kind)

-- a part of a level from a place to a place further on, within a room for parentheses, which ends as a part of a level does
pub record PartDone (level ended : Level) (s : List ℕ) (at room : ℕ) (v : Found) (to : ℕ) : Type 0 where
  pub on : at < to
  pub within : to ≤ length s
  pub room-left : passes (tokens_from s at) room ≡ passes (tokens_from s to) room
  pub read : (x : Left level) → before level (tokens_from s at) x ≡ after level (tokens_from s to) v x
  pub ends : Ends ended (tokens_from s to)

abbrev pub Says : Level → Level → List ℕ → ℕ → ℕ → Result (Read Found) Malformed → Type 0
Says level ended s at room (Ok r) = PartDone level ended s at room r.value r.next.at
Says level ended s at room (Err WrongForm) = (x : Left level) → before level (tokens_from s at) x ≡ wrong
Says level ended s at room (Err TooDeep) = passes (tokens_from s at) room ≡ true
