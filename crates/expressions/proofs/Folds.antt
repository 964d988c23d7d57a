-- Read over two kinds of value, a row is worth the same where the one's parts are made into the other's: so the reader over trees with
-- places tells what the readers over trees and over worths find, and read over any kind of value a row is worth what its one tree is.
use Prim.Native.Nat.{ℕ, suc, max}
use mathlib.Core.List.{List, [], ◌∷◌}
use mathlib.Core.Path.{◌≡◌, refl, ap, ap₂, ◌∙◌}
use Rattle.tokens.specs.declared.Token.{Token}
use Rattle.expressions.specs.Trees.{Tree, literal, node, enclosed, literal_of, node_of, enclosed_of, depth}
use Rattle.expressions.specs.Worths.{of_number, operate, worth_of}
use Rattle.expressions.specs.Places.{Placed, literal_at, node_at, enclosed_at, placed_read, strip, found_of}
use Rattle.expressions.specs.Reading.{kind_symbol, Waiting, nothing, waits, Outcome, reads, wrong, joined, Frame, at_operand, at_operator, operand, operator, tree_read}
use Rattle.expressions.specs.Inner.Parts.{number_at, evaluate_at, inside_at, Answer, operand_f}
use Rattle.expressions.specs.Places.{Found}
use Rattle.expressions.specs.declared.Operation.{Operation}
use Rattle.expressions.specs.declared.Symbol.{Symbol}
use Rattle.expressions.specs.declared.Symbol.TheVariants as Y
use Rattle.expressions.specs.Worths.{Worth}

-- what the reader over U finds, made into values of W
module _ (U : Type 0) (number_u : Token → ℕ → U) (operate_u : Token → Operation → U → U → U) (enclose_u : Token → U → U)
    (W : Type 0) (number_w : Token → ℕ → W) (operate_w : Token → Operation → W → W → W) (enclose_w : Token → W → W) (made : U → W) where
  abbrev WaitU : Type 0
  WaitU = Waiting U number_u operate_u enclose_u

  abbrev StackU : Type 0
  StackU = List (Frame U number_u operate_u enclose_u)

  abbrev operand_u : List Token → WaitU → WaitU → StackU → Outcome U number_u operate_u enclose_u
  operand_u ts l p k = operand U number_u operate_u enclose_u ts l p k

  abbrev operator_u : List Token → WaitU → U → StackU → Outcome U number_u operate_u enclose_u
  operator_u ts l v k = operator U number_u operate_u enclose_u ts l v k

  abbrev join_u : WaitU → U → U
  join_u l v = joined U number_u operate_u enclose_u l v

  abbrev WaitW : Type 0
  WaitW = Waiting W number_w operate_w enclose_w

  abbrev StackW : Type 0
  StackW = List (Frame W number_w operate_w enclose_w)

  abbrev operand_w : List Token → WaitW → WaitW → StackW → Outcome W number_w operate_w enclose_w
  operand_w ts l p k = operand W number_w operate_w enclose_w ts l p k

  abbrev operator_w : List Token → WaitW → W → StackW → Outcome W number_w operate_w enclose_w
  operator_w ts l v k = operator W number_w operate_w enclose_w ts l v k

  abbrev join_w : WaitW → W → W
  join_w l v = joined W number_w operate_w enclose_w l v

  abbrev wait_made : WaitU → WaitW
  wait_made nothing = nothing
  wait_made (waits a t o) = waits (made a) t o

  abbrev stack_made : StackU → StackW
  stack_made [] = []
  stack_made (f ∷ k) = record { sum = wait_made f.sum; product = wait_made f.product; opening = f.opening } ∷ stack_made k

  abbrev pub outcome_made : Outcome U number_u operate_u enclose_u → Outcome W number_w operate_w enclose_w
  outcome_made (reads v) = reads (made v)
  outcome_made wrong = wrong

  module _ (of_number_lem : (t : Token) (n : ℕ) → number_w t n ≡ made (number_u t n))
      (of_operation : (t : Token) (o : Operation) (a b : U) → operate_w t o (made a) (made b) ≡ made (operate_u t o a b))
      (of_enclosed : (t : Token) (a : U) → enclose_w t (made a) ≡ made (enclose_u t a)) where
    made_joined : (l : WaitU) {w : W} (v : U) → w ≡ made v → join_w (wait_made l) w ≡ made (join_u l v)
    made_joined nothing v e = e
    made_joined (waits a t o) v e = ap (operate_w t o (made a)) e ∙ of_operation t o a v

    abbrev OperandMade : List Token → Type 0
    OperandMade ts = (l p : WaitU) (k : StackU) → operand_w ts (wait_made l) (wait_made p) (stack_made k) ≡ outcome_made (operand_u ts l p k)

    abbrev OperatorMade : List Token → Type 0
    OperatorMade ts =
        (l : WaitU) (w : W) (v : U) (k : StackU) → w ≡ made v → operator_w ts (wait_made l) w (stack_made k) ≡ outcome_made (operator_u ts l v k)

    module _ (t : Token) (ts : List Token) (f : OperandMade ts) (g : OperatorMade ts) where
      operand-turn : (s : Symbol) (l p : WaitU) (k : StackU)
          → at_operand W number_w operate_w enclose_w t s (operator_w ts) (operand_w ts) (wait_made l) (wait_made p) (stack_made k)
          ≡ outcome_made (at_operand U number_u operate_u enclose_u t s (operator_u ts) (operand_u ts) l p k)
      operand-turn (Y.Number n) l p k = g l _ (join_u p (number_u t n)) k (made_joined p (number_u t n) (of_number_lem t n))
      operand-turn Y.Opens l p k = f nothing nothing (record { sum = l; product = p; opening = t } ∷ k)
      operand-turn _ l p k = refl

      operator-turn : (s : Symbol) (l : WaitU) {w : W} (v : U) (k : StackU) → w ≡ made v
          → at_operator W number_w operate_w enclose_w t s (operator_w ts) (operand_w ts) (wait_made l) w (stack_made k)
          ≡ outcome_made (at_operator U number_u operate_u enclose_u t s (operator_u ts) (operand_u ts) l v k)
      operator-turn (Y.Number n) l v k e = refl
      operator-turn (Y.Sums o) l v k e =
          ap (λ (w : W). operand_w ts (waits w t o) nothing (stack_made k)) (made_joined l v e) ∙ f (waits (join_u l v) t o) nothing k
      operator-turn (Y.Products o) l v k e =
          ap (λ (w : W). operand_w ts (wait_made l) (waits w t o) (stack_made k)) e ∙ f l (waits v t o) k
      operator-turn Y.Opens l v k e = refl
      operator-turn Y.Shuts l v [] e = refl
      operator-turn Y.Shuts l v (q ∷ k) e =
          let inner = enclose_u q.opening (join_u l v) in
          g q.sum _ (join_u q.product inner) k
          (made_joined q.product inner (ap (enclose_w q.opening) (made_joined l v e) ∙ of_enclosed q.opening (join_u l v)))
      operator-turn Y.Other l v k e = refl

    mutual
      unfolding operand operator

      operand_made : (ts : List Token) → OperandMade ts
      operand_made [] l p k = refl
      operand_made (t ∷ ts) l p k = operand-turn t ts (λ l p k. operand_made ts l p k) (λ l w v k e. operator_made ts l w v k e) (kind_symbol t.kind) l p k

      operator_made : (ts : List Token) → OperatorMade ts
      operator_made [] l w v [] e = ap reads (made_joined l v e)
      operator_made [] l w v (f ∷ k) e = refl
      operator_made (t ∷ ts) l w v k e = operator-turn t ts (λ l p k. operand_made ts l p k) (λ l w v k e. operator_made ts l w v k e) (kind_symbol t.kind) l v k e

    pub read_made : (ts : List Token) → operand_w ts nothing nothing [] ≡ outcome_made (operand_u ts nothing nothing [])
    read_made ts = operand_made ts nothing nothing []

-- ---- trees with places, stripped and evaluated

abbrev pub stripped : Outcome Placed literal_at node_at enclosed_at → Outcome Tree literal_of node_of enclosed_of
stripped r = outcome_made Placed literal_at node_at enclosed_at Tree literal_of node_of enclosed_of strip r

pub read-stripped : (ts : List Token) → tree_read ts ≡ stripped (placed_read ts)
unfolding strip
read-stripped ts = read_made Placed literal_at node_at enclosed_at Tree literal_of node_of enclosed_of strip (λ t n. refl) (λ t o a b. refl) (λ t a. refl) ts

abbrev pub evaluated : Outcome Placed literal_at node_at enclosed_at → Answer
evaluated r = outcome_made Placed literal_at node_at enclosed_at (Found) number_at evaluate_at inside_at found_of r

pub read-evaluated : (ts : List Token) → operand_f ts nothing nothing [] ≡ evaluated (placed_read ts)
unfolding found_of
read-evaluated ts = read_made Placed literal_at node_at enclosed_at (Found) number_at evaluate_at inside_at found_of (λ t n. refl) (λ t o a b. refl) (λ t a. refl) ts

-- ---- any kind of value that leaves the tokens out

module _ (W : Type 0) (of : ℕ → W) (operated : Operation → W → W → W) (enclose : W → W) where
  -- what a tree is worth
  unfoldable pub fold : Tree → W
  fold (literal v) = of v
  fold (node o a b) = operated o (fold a) (fold b)
  fold (enclosed a) = enclose (fold a)

  abbrev pub fold_outcome : Outcome Tree literal_of node_of enclosed_of → Outcome W (λ t. of) (λ t. operated) (λ t. enclose)
  fold_outcome r = outcome_made Tree literal_of node_of enclosed_of W (λ t. of) (λ t. operated) (λ t. enclose) fold r

  -- read over W, a row is worth what its tree is worth, and wrong where it has none
  pub read-folds : (ts : List Token) → operand W (λ t. of) (λ t. operated) (λ t. enclose) ts nothing nothing [] ≡ fold_outcome (tree_read ts)
  unfolding fold
  read-folds ts =
      read_made Tree literal_of node_of enclosed_of W (λ t. of) (λ t. operated) (λ t. enclose) fold (λ t n. refl) (λ t o a b. refl) (λ t a. refl) ts

-- an expression's worth and its depth are such worths
pub worth-folds : (tree : Tree) → fold (Worth) of_number operate (λ w. w) tree ≡ worth_of tree
unfolding fold worth_of
worth-folds (literal v) = refl
worth-folds (node o a b) = ap₂ (operate o) (worth-folds a) (worth-folds b)
worth-folds (enclosed a) = worth-folds a

pub depth-folds : (tree : Tree) → fold ℕ (λ v. 0) (λ o a b. max a b) suc tree ≡ depth tree
unfolding fold depth
depth-folds (literal v) = refl
depth-folds (node o a b) = ap₂ max (depth-folds a) (depth-folds b)
depth-folds (enclosed a) = ap suc (depth-folds a)
