-- What an expression is worth lies in the range, and every number on the way to it does.
use Prim.Native.Nat.{ℕ}
use mathlib.Core.Bool.{Bool, true, false, cond, ◌&&◌}
use mathlib.Core.Path.{◌≡◌, refl, subst}
use native.Mathlib.Omega.{arith}
use lib.Dec.{T, leb}
use lib.IntN.{ℤ, pos, negsuc, ◌+ℤ◌, ◌-ℤ◌, ◌*ℤ◌}
use lib.Signed.{le_z, quot_z, rem_z, ◌≤ℤ◌, le_z_yes}
use borrow.Author.Tests.{leb-true, le-leb}
use Rattle.expressions.specs.Trees.{Tree, literal, node, enclosed}
use Rattle.expressions.specs.Worths.{within32, of_number, is_zero, operation, operate, worth_of}
use Rattle.expressions.specs.declared.Operation.{Operation}
use Rattle.expressions.specs.declared.Operation.TheVariants.{Plus, Minus, Times, Over, Rest}
use Rattle.expressions.specs.Worths.{Worth}
use Rattle.std.proofs.Common.{Ok, Err}
use Rattle.expressions.specs.declared.Fault.TheVariants.{OutOfRange, ByZero}

-- from -2147483648 to 2147483647
abbrev pub Within : ℤ → Type 0
Within z = (negsuc 2147483647 ≤ℤ z) × (z ≤ℤ pos 2147483647)

abbrev Kept : Worth → Type 0
Kept (Ok z) = Within z
Kept (Err OutOfRange) = Unit {0}
Kept (Err ByZero) = Unit {0}

kept-within : (z : ℤ) → Kept (within32 z)
unfolding within32
kept-within z = go (le_z (negsuc 2147483647) z) (le_z z (pos 2147483647)) (λ t. le_z_yes t) (λ t. le_z_yes t)
  where
    go : (a b : Bool) → (T a → negsuc 2147483647 ≤ℤ z) → (T b → z ≤ℤ pos 2147483647) → Kept (cond (a && b) (Ok z) (Err OutOfRange))
    go true true f g = (f tt, g tt)
    go true false f g = tt
    go false b f g = tt

kept-number : (v : ℕ) → Kept (of_number v)
unfolding of_number
kept-number v = go (leb v 65535) refl
  where
    go : (b : Bool) → leb v 65535 ≡ b → Kept (cond b (Ok (pos v)) (Err OutOfRange))
    go true e = (le_z_yes tt, le_z_yes (rw (le-leb v 2147483647 (omega (arith, leb-true v 65535 e))) tt))
    go false e = tt

unless-zero : (b z : ℤ) → Kept (cond (is_zero b) (Err ByZero) (within32 z))
unless-zero b z = go (is_zero b)
  where
    go : (q : Bool) → Kept (cond q (Err ByZero) (within32 z))
    go true = tt
    go false = kept-within z

kept-operation : (o : Operation) (a b : ℤ) → Kept (operation o a b)
unfolding operation
kept-operation Plus a b = kept-within (a +ℤ b)
kept-operation Minus a b = kept-within (a -ℤ b)
kept-operation Times a b = kept-within (a *ℤ b)
kept-operation Over a b = unless-zero b (quot_z a b)
kept-operation Rest a b = unless-zero b (rem_z a b)

kept-operate : (o : Operation) (a b : Worth) → Kept (operate o a b)
unfolding operate
kept-operate o (Ok a) (Ok b) = kept-operation o a b
kept-operate o (Ok a) (Err OutOfRange) = tt
kept-operate o (Ok a) (Err ByZero) = tt
kept-operate o (Err OutOfRange) b = tt
kept-operate o (Err ByZero) b = tt

kept-worth : (tree : Tree) → Kept (worth_of tree)
unfolding worth_of
kept-worth (literal v) = kept-number v
kept-worth (node o a b) = kept-operate o (worth_of a) (worth_of b)
kept-worth (enclosed a) = kept-worth a

pub worth-within : (tree : Tree) {z : ℤ} → worth_of tree ≡ Ok z → Within z
worth-within tree e = subst Kept e (kept-worth tree)
