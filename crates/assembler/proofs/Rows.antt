-- Rows counted, and begun with zeros.
use Prim.Native.Nat.{ℕ, zero, suc, ◌+◌, ◌≤◌}
use mathlib.Core.Bool.{cond}
use mathlib.Core.List.{List, ◌∷◌}
use mathlib.Core.Path.{◌≡◌, refl, sym, ap, ◌∙◌}
use native.Mathlib.Omega.{arith}
use lib.Dec.{eqb}
use lib.ListN.{length, take, replicate, length-replicate}
use Rattle.std.specs.List.{count_by}
use Rattle.std.proofs.lemmas.List.Recursion.{is_count_by}
use Rattle.sources.specs.Image.{cells_marked}

-- how many have a mark
pub marked-count : (k : ℕ) (l : List ℕ) → cells_marked k l ≡ count_by (λ (m : ℕ). eqb m k) l
unfolding cells_marked
marked-count k l =
    is_count_by (cells_marked k) (λ (m : ℕ). eqb m k) refl
    (λ m ms. let q : suc (cells_marked k ms) ≡ 1 + cells_marked k ms = omega arith in ap (λ (n : ℕ). cond (eqb m k) n (cells_marked k ms)) q) l

pub take-zeros : (n m : ℕ) → m ≤ n → take m (replicate n zero) ≡ replicate m zero
take-zeros zero zero h = refl
take-zeros zero (suc m) h = absurd (omega arith)
take-zeros (suc n) zero h = refl
take-zeros (suc n) (suc m) h = ap (λ (l : List ℕ). zero ∷ l) (take-zeros n m (omega arith))

pub zeros-count : (n m : ℕ) → m ≤ n → m ≡ length (take m (replicate n zero))
zeros-count n m h = sym (ap length (take-zeros n m h) ∙ length-replicate m zero)

-- the first m of n zeros are as many zeros as they are
pub zeros-alone : (n m : ℕ) → m ≤ n → take m (replicate n zero) ≡ replicate (length (take m (replicate n zero))) zero
zeros-alone n m h = take-zeros n m h ∙ ap (λ (k : ℕ). replicate k zero) (zeros-count n m h)
