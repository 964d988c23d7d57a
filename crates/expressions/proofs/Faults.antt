-- The place of a row's first fault and of its level past the deepest, exactly: from its one tree with places, and back. Top.antt restates these.
use Prim.Native.Nat.{ℕ, ◌≤◌, ◌<◌}
use mathlib.Core.Bool.{Bool, true, false}
use mathlib.Core.List.{List}
use mathlib.Core.Logic.{◌↔◌}
use mathlib.Core.Path.{◌≡◌, refl, sym, ap, ap₂, subst, subst⁻¹, ◌∙◌}
use lib.Dec.{leb}
use borrow.Author.Tests.{le-leb}
use Rattle.codes.specs.Limits.{deepest}
use Rattle.tokens.specs.declared.Token.{Token}
use Rattle.expressions.specs.Trees.{Tree, depth, Expression}
use Rattle.expressions.specs.Worths.{worth_of}
use Rattle.expressions.specs.Reading.{Outcome, reads, wrong, expression_read, refusal_of}
use Rattle.expressions.specs.Places.{Placed, literal_at, node_at, enclosed_at, PlacedExpression, placed_read, strip, found_of, plain, fault_place, fault_in, Place, here, nowhere, deep_at, place_or, deep_judged, too_deep_in}
use Rattle.expressions.specs.Places.{Found}
use Rattle.std.proofs.Common.{Ok, Err}
use Rattle.expressions.specs.declared.Fault.{Fault}
use Rattle.expressions.specs.declared.Fault.TheVariants.{OutOfRange, ByZero}
use Rattle.expressions.specs.declared.Malformed.TheVariants.{TooDeep}
use Rattle.expressions.specs.Worths.{Worth}
use Rattle.expressions.proofs.Readings.{complete, sound}
use Rattle.expressions.proofs.Folds.{stripped, read-stripped}
use Rattle.expressions.proofs.Verdicts.{tree-read, by_depth, verdict-wrong}
use Rattle.expressions.proofs.Placed.{plain-found, deep-exactly}
use Rattle.expressions.proofs.Exactly.{tree_exactly, tells, deep_back}
use Rattle.expressions.proofs.Numbers.{number_6, number_7}
use Rattle.expressions.proofs.Steps.{never}

-- what is found, by its worth and its place
found_with : (f : Found) {fault : Fault} {at : ℕ} → plain f ≡ Err fault → fault_place f ≡ at → f ≡ Err (record { fault = fault; at = at })
found_with (Ok z) e g = never (cc)
found_with (Err f) {fault} {at} e g =
    let h : f.fault ≡ fault = cc in
    ap₂ (λ (fault : Fault) (at : ℕ). Err (record { fault = fault; at = at })) h g

module _ (ts : List Token) where
  -- ---- the tree with places

  read_as : {p : Placed} → PlacedExpression ts p → placed_read ts ≡ reads p
  read_as s = complete Placed literal_at node_at enclosed_at s

  is_placed : {tree : Tree} → Expression ts tree → (p : Placed) × PlacedExpression ts p × (strip p ≡ tree)
  is_placed {tree} s = go (placed_read ts) refl
    where
      go : (r : Outcome Placed literal_at node_at enclosed_at) → placed_read ts ≡ r → (p : Placed) × PlacedExpression ts p × (strip p ≡ tree)
      go (reads p) q =
          let z : reads (strip p) ≡ reads tree = sym (tree-read ts q) ∙ (tree_exactly ts).1 s in
          (p, sound Placed literal_at node_at enclosed_at ts p q, cc)
      go wrong q =
          let z : wrong ≡ reads tree = sym (read-stripped ts ∙ ap stripped q) ∙ (tree_exactly ts).1 s in
          never (cc)

  pub placed_exactly : {tree : Tree} → Expression ts tree ↔ ((p : Placed) × PlacedExpression ts p × (strip p ≡ tree))
  placed_exactly = (is_placed, λ h. subst (Expression ts) h.2 ((tree_exactly ts).0 (tree-read ts (read_as h.1))))

  -- ---- 6 and 7

  -- a tree with places, at most 32 deep, in which this is found
  abbrev FoundIn : Found → Type 0
  FoundIn f = (p : Placed) × PlacedExpression ts p × (depth (strip p) ≤ deepest) × (found_of p ≡ f)

  pub found_back : {f : Found} → FoundIn f → (expression_read ts ≡ Ok (plain f)) × (fault_in ts ≡ fault_place f)
  found_back h =
      let v = by_depth ts (read_as h.1) (le-leb (depth (strip h.0)) 32 h.2) in
      (v.0 ∙ ap (λ (f : Found). Ok (plain f)) h.3, v.1 ∙ ap fault_place h.3)

  found-tells : {w : Worth} → expression_read ts ≡ Ok w → (f : Found) × FoundIn f × (plain f ≡ w) × (fault_in ts ≡ fault_place f)
  found-tells e =
      let h = tells ts e in
      let p = is_placed h.1 in
      let i : FoundIn (found_of p.0) = (p.0, p.1, subst⁻¹ (λ (tree : Tree). depth tree ≤ deepest) p.2 h.2, refl) in
      (found_of p.0, i, plain-found p.0 ∙ ap worth_of p.2 ∙ h.3, (found_back i).1)

  pub fault_6 : {at : ℕ} → ((refusal_of (expression_read ts) ≡ 6) × (fault_in ts ≡ at)) ↔ FoundIn (Err (record { fault = OutOfRange; at = at }))
  fault_6 =
      (λ h. let f = found-tells (number_6 (expression_read ts) h.0) in subst FoundIn (found_with f.0 f.2 (sym f.3 ∙ h.1)) f.1, λ h. let b = found_back h in (ap refusal_of b.0, b.1))

  pub fault_7 : {at : ℕ} → ((refusal_of (expression_read ts) ≡ 7) × (fault_in ts ≡ at)) ↔ FoundIn (Err (record { fault = ByZero; at = at }))
  fault_7 =
      (λ h. let f = found-tells (number_7 (expression_read ts) h.0) in subst FoundIn (found_with f.0 f.2 (sym f.3 ∙ h.1)) f.1, λ h. let b = found_back h in (ap refusal_of b.0, b.1))

  pub fault_none : (refusal_of (expression_read ts) ≡ 6 → ⊥) → (refusal_of (expression_read ts) ≡ 7 → ⊥) → fault_in ts ≡ 0
  fault_none n m = go (placed_read ts) refl
    where
      with-found : (f : Found) → expression_read ts ≡ Ok (plain f) → fault_in ts ≡ fault_place f → fault_in ts ≡ 0
      with-found (Ok z) e g = g
      with-found (Err f) e g = by_fault f.fault e
        where
          by_fault : (fault : Fault) → expression_read ts ≡ Ok (Err fault) → fault_in ts ≡ 0
          by_fault OutOfRange e = absurd (n (ap refusal_of e))
          by_fault ByZero e = absurd (m (ap refusal_of e))

      with_placed : (p : Placed) → placed_read ts ≡ reads p → (q : Bool) → leb (depth (strip p)) deepest ≡ q → fault_in ts ≡ 0
      with_placed p e true d = let v = by_depth ts e d in with-found (found_of p) v.0 v.1
      with_placed p e false d = (by_depth ts e d).1

      go : (r : Outcome Placed literal_at node_at enclosed_at) → placed_read ts ≡ r → fault_in ts ≡ 0
      go (reads p) e = with_placed p e (leb (depth (strip p)) deepest) refl
      go wrong e = (verdict-wrong ts e).1

  -- ---- 8

  abbrev DeepIn : ℕ → Type 0
  DeepIn at = (p : Placed) × PlacedExpression ts p × (deep_at p ≡ here at)

  placed_deep : {p : Placed} → placed_read ts ≡ reads p → too_deep_in ts ≡ place_or (deep_at p) 0
  unfolding too_deep_in
  placed_deep e = ap deep_judged e

  is_deep : {p : Placed} → PlacedExpression ts p → {at : ℕ} → deep_at p ≡ here at → expression_read ts ≡ Err TooDeep
  is_deep {p} s {at} e = deep_back ts (strip p, (tree_exactly ts).0 (tree-read ts (read_as s)), (deep-exactly p).0 (at, e))

  deep-tells : expression_read ts ≡ Err TooDeep → {at : ℕ} → too_deep_in ts ≡ at → DeepIn at
  deep-tells e g =
      let h = tells ts e in
      let p = is_placed h.1 in
      let d = (deep-exactly p.0).1 (subst⁻¹ (λ (tree : Tree). deepest < depth tree) p.2 h.2) in
      (p.0, p.1, d.1 ∙ ap here (sym (placed_deep (read_as p.1) ∙ ap (λ (x : Place). place_or x 0) d.1) ∙ g))

  pub deep-place : {at : ℕ} → ((expression_read ts ≡ Err TooDeep) × (too_deep_in ts ≡ at)) ↔ DeepIn at
  deep-place =
      (λ h. deep-tells h.0 h.1, λ h. (is_deep h.1 h.2, placed_deep (read_as h.1) ∙ ap (λ (x : Place). place_or x 0) h.2))

  pub deep_none : (expression_read ts ≡ Err TooDeep → ⊥) → too_deep_in ts ≡ 0
  unfolding too_deep_in
  deep_none n = go (placed_read ts) refl
    where
      with-place : (p : Placed) → PlacedExpression ts p → (x : Place) → deep_at p ≡ x → place_or x 0 ≡ 0
      with-place p s (here at) e = absurd (n (is_deep s e))
      with-place p s nowhere e = refl

      go : (r : Outcome Placed literal_at node_at enclosed_at) → placed_read ts ≡ r → deep_judged (placed_read ts) ≡ 0
      go (reads p) e = ap deep_judged e ∙ with-place p (sound Placed literal_at node_at enclosed_at ts p e) (deep_at p) refl
      go wrong e = ap deep_judged e
