-- What is read exactly when: each answer from its tree, and back. Top.antt restates these.
use Prim.Native.Nat.{ℕ, ◌≤◌, ◌<◌}
use mathlib.Core.Bool.{Bool, true, false, cond}
use mathlib.Core.List.{List, []}
use mathlib.Core.Logic.{◌↔◌}
use mathlib.Core.Path.{◌≡◌, refl, sym, ap, subst, ◌∙◌}
use lib.Dec.{leb}
use borrow.Author.Tests.{ltb-true, lt-ltb, leb-true, leb-false, le-leb, lt-leb}
use Rattle.tokens.specs.declared.Token.{Token}
use Rattle.expressions.specs.Grammar.{Sum}
use Rattle.codes.specs.Limits.{deepest}
use Rattle.expressions.specs.Trees.{Tree, literal_of, node_of, enclosed_of, depth, Expression}
use Rattle.expressions.specs.Worths.{worth_of}
use Rattle.expressions.specs.Reading.{nothing, Outcome, reads, wrong, operand, tree_read, judged, expression_read}
use Rattle.expressions.specs.Inner.Scanning.{right_form, passes}
use Rattle.expressions.specs.declared.Operation.{Operation}
use Rattle.expressions.specs.Worths.{Worth}
use Rattle.std.proofs.Common.{Result, Ok, Err}
use Rattle.expressions.specs.declared.Malformed.{Malformed}
use Rattle.expressions.specs.declared.Malformed.TheVariants.{TooDeep, WrongForm}
use Rattle.expressions.proofs.Readings.{complete, sound}
use Rattle.expressions.proofs.Scans.{is_read, form-read}
use Rattle.expressions.proofs.Depths.{deeper}
use Rattle.expressions.proofs.Steps.{never}

-- a row's reading, over any kind of value
pub value-exactly : (W : Type 0) (number : Token → ℕ → W) (operate : Token → Operation → W → W → W) (enclose : Token → W → W)
    (ts : List Token) {v : W}
    → (operand W number operate enclose ts nothing nothing [] ≡ reads v) ↔ Sum W number operate enclose ts v
value-exactly W number operate enclose ts {v} = (sound W number operate enclose ts v, λ s. complete W number operate enclose s)

module _ (ts : List Token) where
  pub tree_exactly : {tree : Tree} → (tree_read ts ≡ reads tree) ↔ Expression ts tree
  tree_exactly = value-exactly Tree literal_of node_of enclosed_of ts

  -- a row has a tree or none
  pub data Found : Type 0 where
    tree_is : (tree : Tree) → tree_read ts ≡ reads tree → Expression ts tree → Found
    none_is : tree_read ts ≡ wrong → ((tree : Tree) → Expression ts tree → ⊥) → Found

  pub found : Found
  found = go (tree_read ts) refl
    where
      go : (r : Outcome Tree literal_of node_of enclosed_of) → tree_read ts ≡ r → Found
      go (reads tree) e = tree_is tree e (tree_exactly.0 e)
      go wrong e = none_is e (λ tree s. let z : wrong ≡ reads tree = sym e ∙ tree_exactly.1 s in never (cc))

  pub no_tree : (tree_read ts ≡ wrong) ↔ ((tree : Tree) → Expression ts tree → ⊥)
  no_tree = go found
    where
      go : Found → (tree_read ts ≡ wrong) ↔ ((tree : Tree) → Expression ts tree → ⊥)
      go (tree_is tree e s) = (λ f. never (cc), λ n. absurd (n tree s))
      go (none_is e n) = (λ f. n, λ f. e)

  -- ---- the three answers

  with_tree : {tree : Tree} → tree_read ts ≡ reads tree → expression_read ts ≡ cond (leb (depth tree) deepest) (Ok (worth_of tree)) (Err TooDeep)
  unfolding expression_read
  with_tree e = ap judged e

  with_none : tree_read ts ≡ wrong → expression_read ts ≡ Err WrongForm
  unfolding expression_read
  with_none e = ap judged e

  abbrev ReadAs : Worth → Type 0
  ReadAs w = (tree : Tree) × Expression ts tree × (depth tree ≤ deepest) × (worth_of tree ≡ w)

  abbrev DeepAs : Type 0
  DeepAs = (tree : Tree) × Expression ts tree × (deepest < depth tree)

  -- what an answer tells of the tree
  abbrev Tells : Result Worth Malformed → Type 0
  Tells (Ok w) = ReadAs w
  Tells (Err TooDeep) = DeepAs
  Tells (Err WrongForm) = (tree : Tree) → Expression ts tree → ⊥

  pub tells : {r : Result Worth Malformed} → expression_read ts ≡ r → Tells r
  tells {r} e = subst Tells e (go found)
    where
      by_depth : (tree : Tree) → Expression ts tree → (b : Bool) → leb (depth tree) deepest ≡ b → Tells (cond b (Ok (worth_of tree)) (Err TooDeep))
      by_depth tree s true f = (tree, s, leb-true (depth tree) deepest f, refl)
      by_depth tree s false f = (tree, s, leb-false (depth tree) deepest f)

      go : Found → Tells (expression_read ts)
      go (tree_is tree f s) = rw (with_tree f) (by_depth tree s (leb (depth tree) deepest) refl)
      go (none_is f n) = rw (with_none f) n

  pub read_back : {w : Worth} → ReadAs w → expression_read ts ≡ Ok w
  read_back h = with_tree (tree_exactly.1 h.1) ∙ rw (le-leb (depth h.0) 32 h.2) (ap Ok h.3)

  pub deep_back : DeepAs → expression_read ts ≡ Err TooDeep
  deep_back h = with_tree (tree_exactly.1 h.1) ∙ rw (lt-leb (depth h.0) 32 h.2)

  pub wrong-back : ((tree : Tree) → Expression ts tree → ⊥) → expression_read ts ≡ Err WrongForm
  wrong-back n = with_none (no_tree.1 n)

  -- ---- the scan

  pub form-exactly : (right_form ts true 0 ≡ true) ↔ ((tree : Tree) × Expression ts tree)
  form-exactly = go found (form-read Tree literal_of node_of enclosed_of ts)
    where
      go : Found → right_form ts true 0 ≡ is_read Tree literal_of node_of enclosed_of (tree_read ts) → (right_form ts true 0 ≡ true) ↔ ((tree : Tree) × Expression ts tree)
      go (tree_is tree e s) f = (λ g. (tree, s), λ g. f ∙ ap (is_read Tree literal_of node_of enclosed_of) e)
      go (none_is e n) f =
          (λ g. let z : true ≡ false = sym g ∙ f ∙ ap (is_read Tree literal_of node_of enclosed_of) e in never (cc), λ g. absurd (n g.0 g.1))

pub depth-exactly : {ts : List Token} {tree : Tree} → Expression ts tree → (room : ℕ) → (passes ts room ≡ true) ↔ (room < depth tree)
depth-exactly {tree = tree} s room = (λ e. ltb-true room (depth tree) (sym (deeper s room) ∙ e), λ h. deeper s room ∙ lt-ltb room (depth tree) h)
