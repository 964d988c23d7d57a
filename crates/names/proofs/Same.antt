-- Two words are byte by byte the same exactly where they are equal.
use Prim.Native.Nat.{ℕ}
use mathlib.Core.Bool.{Bool, true, false, false≢true}
use mathlib.Core.List.{List, [], ◌∷◌}
use mathlib.Core.Path.{◌≡◌, refl, ap, subst}
use lib.Dec.{eqb}
use borrow.Author.Tests.{eq-eqb, eqb-true}
use Rattle.isa.proofs.Tests.{both_true}
use Rattle.names.specs.Names.{same}

same_self : (v : List ℕ) → same v v ≡ true
same_self [] = refl
same_self (x ∷ xs) = rw (eq-eqb x x refl) (same_self xs)

pub equal_same : (v n : List ℕ) → v ≡ n → same v n ≡ true
equal_same v n e = subst (λ (w : List ℕ). same v w ≡ true) e (same_self v)

pub same_equal : (v n : List ℕ) → same v n ≡ true → v ≡ n
same_equal [] [] e = refl
same_equal [] (y ∷ ys) e = absurd (false≢true e)
same_equal (x ∷ xs) [] e = absurd (false≢true e)
same_equal (x ∷ xs) (y ∷ ys) e =
    let both = both_true (eqb x y) (same xs ys) e in
    rw (eqb-true x y both.0, same_equal xs ys both.1)

-- words are other words where anything that is told of a word tells them apart
pub same_other_by : (f : List ℕ → ℕ) (x y : List ℕ) → (f x ≡ f y → ⊥) → same x y ≡ false
same_other_by f x y h = go (same x y) refl
  where
    go : (b : Bool) → same x y ≡ b → b ≡ false
    go true e = absurd (h (ap f (same_equal x y e)))
    go false e = refl
