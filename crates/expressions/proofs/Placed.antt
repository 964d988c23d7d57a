-- Trees with places: stripped they are the trees, what is found in them is the trees' worth, and a parenthesis opens a level past the
-- deepest exactly where the tree is deeper.
use Prim.Native.Nat.{ℕ, suc, ◌+◌, ◌≤◌, ◌<◌, max}
use mathlib.Core.Bool.{Bool, true, false, cond}
use mathlib.Core.Logic.{◌↔◌}
use mathlib.Core.Path.{◌≡◌, refl, ap₂, ◌∙◌}
use native.Mathlib.Omega.{arith}
use lib.Dec.{leb}
use borrow.Author.Tests.{leb-true, leb-false}
use Rattle.codes.specs.Limits.{deepest}
use Rattle.expressions.specs.Trees.{depth}
use Rattle.expressions.specs.Worths.{operate, worth_of}
use Rattle.expressions.specs.Places.{Placed, literal, node, enclosed, strip, found_at, evaluate, found_of, plain, Place, here, nowhere, leftmost, deep_from, deep_at}
use Rattle.expressions.specs.declared.Operation.{Operation}
use Rattle.expressions.specs.Places.{Found}
use Rattle.std.proofs.Common.{Ok, Err}
use Rattle.expressions.specs.Worths.{Worth}
use Rattle.expressions.proofs.Steps.{never}

-- ---- 6 and 7

plain_at : (at : ℕ) (w : Worth) → plain (found_at at w) ≡ w
plain_at at (Ok z) = refl
plain_at at (Err why) = refl

plain-evaluate : (at : ℕ) (o : Operation) (a b : Found) → plain (evaluate at o a b) ≡ operate o (plain a) (plain b)
unfolding evaluate operate
plain-evaluate at o (Ok a) (Ok b) = plain_at at _
plain-evaluate at o (Ok a) (Err right) = refl
plain-evaluate at o (Err left) b = refl

pub plain-found : (p : Placed) → plain (found_of p) ≡ worth_of (strip p)
unfolding found_of strip worth_of
plain-found (literal at v) = plain_at at _
plain-found (node at o a b) = plain-evaluate at o (found_of a) (found_of b) ∙ ap₂ (operate o) (plain-found a) (plain-found b)
plain-found (enclosed at a) = plain-found a

-- ---- 8

-- a place says that a level past the deepest is opened
abbrev Tells : Place → ℕ → ℕ → Type 0
Tells (here at) outside deep = deepest < outside + deep
Tells nowhere outside deep = outside + deep ≤ deepest

tells-leftmost : (x y : Place) (outside a b : ℕ) → Tells x outside a → Tells y outside b → Tells (leftmost x y) outside (max a b)
tells-leftmost (here at) y outside a b h g = omega (arith, h)
tells-leftmost nowhere (here at) outside a b h g = omega (arith, g)
tells-leftmost nowhere nowhere outside a b h g = omega (arith, h, g)

tells-deeper : (x : Place) (outside a : ℕ) → Tells x (outside + 1) a → Tells x outside (suc a)
tells-deeper (here at) outside a h = omega (arith, h)
tells-deeper nowhere outside a h = omega (arith, h)

tells-enclosed : (at outside a : ℕ) (x : Place) → (outside + 1 ≤ deepest → Tells x (outside + 1) a)
    → Tells (cond (leb (outside + 1) deepest) x (here at)) outside (suc a)
tells-enclosed at outside a x h = go (leb (outside + 1) deepest) refl
  where
    go : (q : Bool) → leb (outside + 1) deepest ≡ q → Tells (cond q x (here at)) outside (suc a)
    go true e = tells-deeper x outside a (h (leb-true (outside + 1) deepest e))
    go false e = omega (arith, leb-false (outside + 1) deepest e)

deep-tells : (outside : ℕ) (p : Placed) → outside ≤ deepest → Tells (deep_from outside p) outside (depth (strip p))
unfolding deep_from strip depth
deep-tells outside (literal at v) l = omega (arith, l)
deep-tells outside (node at o a b) l = tells-leftmost (deep_from outside a) (deep_from outside b) outside _ _ (deep-tells outside a l) (deep-tells outside b l)
deep-tells outside (enclosed at a) l = tells-enclosed at outside _ (deep_from (outside + 1) a) (λ h. deep-tells (outside + 1) a h)

pub deep-exactly : (p : Placed) → ((at : ℕ) × (deep_at p ≡ here at)) ↔ (deepest < depth (strip p))
deep-exactly p = go (deep_at p) (deep-tells 0 p (omega arith))
  where
    go : (x : Place) → Tells x 0 (depth (strip p)) → ((at : ℕ) × (x ≡ here at)) ↔ (deepest < depth (strip p))
    go (here at) h = (λ e. omega (arith, h), λ l. (at, refl))
    go nowhere h = (λ e. let z = e.1 in never (cc), λ l. absurd (omega (arith, h, l)))
