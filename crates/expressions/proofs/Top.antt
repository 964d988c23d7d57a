-- What this crate promises, beyond the equations at `expression`, `fault` and `too_deep`: what the right sides of these mean.
use Prim.Native.Nat.{ℕ, ◌≤◌, ◌<◌}
use mathlib.Core.Bool.{true}
use mathlib.Core.List.{List, []}
use mathlib.Core.Logic.{◌↔◌}
use mathlib.Core.Path.{◌≡◌, sym, ap, ap₂, ◌∙◌}
use lib.IntN.{ℤ}
use Rattle.tokens.specs.declared.Token.{Token}
use Rattle.expressions.specs.Grammar.{Sum}
use Rattle.codes.specs.Limits.{deepest}
use Rattle.expressions.specs.Trees.{Tree, node, literal_of, node_of, enclosed_of, depth, Expression}
use Rattle.expressions.specs.Worths.{operation, operate, worth_of}
use Rattle.expressions.specs.Reading.{nothing, reads, wrong, operand, tree_read, expression_read, refusal_of}
use Rattle.expressions.specs.Places.{Placed, literal_at, node_at, enclosed_at, PlacedExpression, strip, found_of, plain, fault_in, here, deep_at, place_or, too_deep_in}
use Rattle.expressions.specs.Inner.Scanning.{right_form, passes, level_at}
use Rattle.expressions.specs.declared.Operation.{Operation}
use Rattle.std.proofs.Common.{Ok, Err}
use Rattle.expressions.specs.declared.Fault.TheVariants.{OutOfRange, ByZero}
use Rattle.expressions.specs.declared.Malformed.TheVariants.{TooDeep, WrongForm}
use Rattle.expressions.specs.Worths.{Worth}
use Rattle.expressions.proofs.Readings as Readings
use Rattle.expressions.proofs.Folds as Folds
use Rattle.expressions.proofs.Folds.{fold_outcome}
use Rattle.expressions.proofs.Exactly as Exactly
use Rattle.expressions.proofs.Numbers as Numbers
use Rattle.expressions.proofs.Placed as Placed
use Rattle.expressions.proofs.Levels as Levels
use Rattle.expressions.proofs.Faults as Faults
use Rattle.expressions.proofs.Kept as Kept
use Rattle.expressions.proofs.Kept.{Within}
use Rattle.expressions.proofs.Examples as Examples
use Rattle.expressions.proofs.Examples.{Examples}

-- ---- reading

-- "`+ - * / %` with usual precedence, left to right; an operand is a number or an expression in parentheses": over any kind of
-- value, the reader finds a value exactly where the grammar has it.
pub value-exactly : (W : Type 0) (number : Token → ℕ → W) (operate : Token → Operation → W → W → W) (enclose : Token → W → W)
    (ts : List Token) {v : W}
    → (operand W number operate enclose ts nothing nothing [] ≡ reads v) ↔ Sum W number operate enclose ts v
value-exactly = Exactly.value-exactly

-- A row of tokens has one reading at most, and the reader finds a tree exactly where there is one.
pub one-reading : {ts : List Token} {tree tree' : Tree} → Expression ts tree → Expression ts tree' → tree ≡ tree'
one-reading s r = Readings.once Tree literal_of node_of enclosed_of s r

pub tree_exactly : (ts : List Token) {tree : Tree} → (tree_read ts ≡ reads tree) ↔ Expression ts tree
tree_exactly = Exactly.tree_exactly

pub no_tree : (ts : List Token) → (tree_read ts ≡ wrong) ↔ ((tree : Tree) → Expression ts tree → ⊥)
no_tree = Exactly.no_tree

-- Read over any kind of value, a row is worth what its one tree is worth.
pub folds : (W : Type 0) (number : ℕ → W) (operate : Operation → W → W → W) (enclose : W → W) (ts : List Token)
    → operand W (λ t. number) (λ t. operate) (λ t. enclose) ts nothing nothing [] ≡ fold_outcome W number operate enclose (tree_read ts)
folds = Folds.read-folds

-- ---- the three answers of `expression`

-- An expression is read exactly where there is a tree at most 32 parentheses deep, and its worth is the tree's.
pub read-exactly : (ts : List Token) {w : Worth}
    → (expression_read ts ≡ Ok w) ↔ ((tree : Tree) × Expression ts tree × (depth tree ≤ deepest) × (worth_of tree ≡ w))
read-exactly ts = (Exactly.tells ts, Exactly.read_back ts)

-- "too deep" (8): a tree more than 32 parentheses deep, whatever it is worth.
pub deep-exactly : (ts : List Token) → (expression_read ts ≡ Err TooDeep) ↔ ((tree : Tree) × Expression ts tree × (deepest < depth tree))
deep-exactly ts = (Exactly.tells ts, Exactly.deep_back ts)

-- "form" (3): no tree at all, however deep.
pub wrong-exactly : (ts : List Token) → (expression_read ts ≡ Err WrongForm) ↔ ((tree : Tree) → Expression ts tree → ⊥)
wrong-exactly ts = (Exactly.tells ts, Exactly.wrong-back ts)

-- The same by the paper's numbers: 0, 3, 8, 6, 7, each answered exactly where its check is the first that fails.
module _ (ts : List Token) where
  pub read_0 : (refusal_of (expression_read ts) ≡ 0)
      ↔ ((z : ℤ) × (tree : Tree) × Expression ts tree × (depth tree ≤ deepest) × (worth_of tree ≡ Ok z))
  read_0 =
      (λ e. let h = Numbers.number_0 (expression_read ts) e in let t = (read-exactly ts).0 h.1 in (h.0, t.0, t.1, t.2, t.3), λ h. ap refusal_of ((read-exactly ts).1 (h.1, h.2, h.3, h.4)))

  pub form_3 : (refusal_of (expression_read ts) ≡ 3) ↔ ((tree : Tree) → Expression ts tree → ⊥)
  form_3 = (λ e. (wrong-exactly ts).0 (Numbers.number_3 (expression_read ts) e), λ n. ap refusal_of ((wrong-exactly ts).1 n))

  pub deep_8 : (refusal_of (expression_read ts) ≡ 8) ↔ ((tree : Tree) × Expression ts tree × (deepest < depth tree))
  deep_8 = (λ e. (deep-exactly ts).0 (Numbers.number_8 (expression_read ts) e), λ h. ap refusal_of ((deep-exactly ts).1 h))

  pub range_6 : (refusal_of (expression_read ts) ≡ 6) ↔ ((tree : Tree) × Expression ts tree × (depth tree ≤ deepest) × (worth_of tree ≡ Err OutOfRange))
  range_6 = (λ e. (read-exactly ts).0 (Numbers.number_6 (expression_read ts) e), λ h. ap refusal_of ((read-exactly ts).1 h))

  pub zero_7 : (refusal_of (expression_read ts) ≡ 7) ↔ ((tree : Tree) × Expression ts tree × (depth tree ≤ deepest) × (worth_of tree ≡ Err ByZero))
  zero_7 = (λ e. (read-exactly ts).0 (Numbers.number_7 (expression_read ts) e), λ h. ap refusal_of ((read-exactly ts).1 h))

-- ---- worths

-- "Intermediates are exact, within a signed 32-bit range": what any part is worth lies in the range.
pub worth-within : (tree : Tree) {z : ℤ} → worth_of tree ≡ Ok z → Within z
worth-within = Kept.worth-within

-- "6 or 7 in order of evaluation (left, right, operation)"
module _ (o : Operation) (a b : Tree) where
  pub left_out_of_range : worth_of a ≡ Err OutOfRange → worth_of (node o a b) ≡ Err OutOfRange
  unfolding worth_of operate
  left_out_of_range e = ap (λ (w : Worth). operate o w (worth_of b)) e

  pub left_by_zero : worth_of a ≡ Err ByZero → worth_of (node o a b) ≡ Err ByZero
  unfolding worth_of operate
  left_by_zero e = ap (λ (w : Worth). operate o w (worth_of b)) e

  pub right_out_of_range : {x : ℤ} → worth_of a ≡ Ok x → worth_of b ≡ Err OutOfRange → worth_of (node o a b) ≡ Err OutOfRange
  unfolding worth_of operate
  right_out_of_range e f = ap₂ (operate o) e f

  pub right_by_zero : {x : ℤ} → worth_of a ≡ Ok x → worth_of b ≡ Err ByZero → worth_of (node o a b) ≡ Err ByZero
  unfolding worth_of operate
  right_by_zero e f = ap₂ (operate o) e f

  pub then-operation : {x y : ℤ} → worth_of a ≡ Ok x → worth_of b ≡ Ok y → worth_of (node o a b) ≡ operation o x y
  unfolding worth_of operate
  then-operation e f = ap₂ (operate o) e f

-- ---- the places of 6, 7 and 8 (02, K4)

-- A row with a reading has one tree with places, and that tree stripped of them is the row's tree.
pub one_placed : {ts : List Token} {p q : Placed} → PlacedExpression ts p → PlacedExpression ts q → p ≡ q
one_placed s r = Readings.once Placed literal_at node_at enclosed_at s r

pub placed_exactly : (ts : List Token) {tree : Tree} → Expression ts tree ↔ ((p : Placed) × PlacedExpression ts p × (strip p ≡ tree))
placed_exactly = Faults.placed_exactly

-- What is found in it is the tree's worth.
pub plain-found : (p : Placed) → plain (found_of p) ≡ worth_of (strip p)
plain-found = Placed.plain-found

-- "the number or the operation's mark in 6, 7": the refusal is 6, or 7, and `fault` answers a place, exactly where the tree with places has
-- its first fault there.
pub fault_exactly : (ts : List Token) {at : ℕ}
    → (((refusal_of (expression_read ts) ≡ 6) × (fault_in ts ≡ at))
    ↔ ((p : Placed) × PlacedExpression ts p × (depth (strip p) ≤ deepest) × (found_of p ≡ Err (record { fault = OutOfRange; at = at }))))
    × (((refusal_of (expression_read ts) ≡ 7) × (fault_in ts ≡ at))
    ↔ ((p : Placed) × PlacedExpression ts p × (depth (strip p) ≤ deepest) × (found_of p ≡ Err (record { fault = ByZero; at = at }))))
fault_exactly ts = (Faults.fault_6 ts, Faults.fault_7 ts)

pub fault_none : (ts : List Token) → (refusal_of (expression_read ts) ≡ 6 → ⊥) → (refusal_of (expression_read ts) ≡ 7 → ⊥) → fault_in ts ≡ 0
fault_none = Faults.fault_none

-- "the parenthesis opening level 33 in 8": a tree is too deep exactly where one opens it; `too_deep` answers its place, and that is where
-- the scan of the row from the left first has more than 32 open.
pub opens-exactly : (p : Placed) → ((at : ℕ) × (deep_at p ≡ here at)) ↔ (deepest < depth (strip p))
opens-exactly = Placed.deep-exactly

pub deep-place : (ts : List Token) {at : ℕ}
    → ((expression_read ts ≡ Err TooDeep) × (too_deep_in ts ≡ at)) ↔ ((p : Placed) × PlacedExpression ts p × (deep_at p ≡ here at))
deep-place = Faults.deep-place

pub deep_none : (ts : List Token) → (expression_read ts ≡ Err TooDeep → ⊥) → too_deep_in ts ≡ 0
deep_none = Faults.deep_none

pub deep-leftmost : {ts : List Token} {p : Placed} → PlacedExpression ts p → level_at ts true 0 ≡ place_or (deep_at p) 0
deep-leftmost = Levels.level_found

-- ---- form and depth in constant space

-- The scan by the number of open parentheses alone accepts exactly the rows that have a tree.
pub form-exactly : (ts : List Token) → (right_form ts true 0 ≡ true) ↔ ((tree : Tree) × Expression ts tree)
form-exactly = Exactly.form-exactly

-- "parentheses at most 32 deep": somewhere more are open than there is room for exactly where the tree is deeper.
pub depth-exactly : {ts : List Token} {tree : Tree} → Expression ts tree → (room : ℕ) → (passes ts room ≡ true) ↔ (room < depth tree)
depth-exactly = Exactly.depth-exactly

-- ---- examples, and one reply

-- Texts that are easily misread.
pub examples : Examples
examples = Examples.examples

-- The promise of `expression` is an equation with its meaning: two replies that meet it coincide.
pub coincide : {A : Type 0} {meaning r r' : A} → r ≡ meaning → r' ≡ meaning → r ≡ r'
coincide p q = p ∙ sym q
