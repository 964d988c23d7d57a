-- The cells that a statement claims: whether one of them has a mark, and marking them.
use Prim.Native.Nat.{ℕ, zero, suc, ◌+◌, ◌-◌, ◌≤◌}
use mathlib.Core.Bool.{Bool, true, false, not, ◌||◌}
use mathlib.Core.List.{List, [], ◌∷◌, append_assoc}
use mathlib.Core.Path.{◌≡◌, refl, sym, ap, ap₂, ◌∙◌}
use native.Mathlib.Omega.{arith}
use lib.Dec.{eqb}
use lib.ListN.{length, get_or, take, drop, replicate, length-drop, length-replicate}
use lib.Seq.{sets, sets-eq, take-suc, get_or-drop, length-take-le}
use borrow.Rule.Slice.PartMut.{put_mid}
use Rattle.std.proofs.lemmas.List.{drop-drop}
use Rattle.std.specs.List.{list_any}
use Rattle.std.proofs.lemmas.List.Folds.{list_any-append}
use Rattle.sources.specs.Inner.Assembling.{taken}

-- ---- a cell with a mark

abbrev marked : ℕ → Bool
marked m = not (eqb m 0)

or-false : (b : Bool) → (b || false) ≡ b
or-false true = refl
or-false false = refl

-- one of the n cells from an address on has a mark
taken-cells : (m : List ℕ) (at n : ℕ) → at + n ≤ length m → list_any (λ (x : ℕ). not (eqb x 0)) (take n (drop at m)) ≡ taken m at n
unfolding taken
taken-cells m at zero h = refl
taken-cells m at (suc n) h =
    let cells = drop at m in
    ap (list_any marked) (take-suc cells n 0 (omega (arith, h, length-drop at m)))
    ∙ list_any-append marked (take n cells) (get_or cells n 0 ∷ [])
    ∙ ap₂ (λ (a b : Bool). a || b) (taken-cells m at n (omega (arith, h))) (or-false (marked (get_or cells n 0)) ∙ ap marked (get_or-drop at m n 0))

pub taken_any : (m : List ℕ) (at n : ℕ) → at + n ≤ length m → list_any (λ (x : ℕ). not (eqb x 0)) (take (at + n - at) (drop at m)) ≡ taken m at n
taken_any m at n h = let k : at + n - at ≡ n = omega arith in rw k (taken-cells m at n h)

-- none, where there are none
pub taken_none : (m : List ℕ) (at n : ℕ) → n ≡ 0 → not (eqb n 0) ≡ taken m at n
unfolding taken
taken_none m at n e = rw e

-- ---- marking

pub painted : (m : List ℕ) (at n v : ℕ) → at + n ≤ length m
    → put_mid at (at + n - at) m (replicate (length (take (at + n - at) (drop at m))) v) ≡ sets m at (replicate n v)
painted m at n v h =
    let k : at + n - at ≡ n = omega arith in
    let t : length (take n (drop at m)) ≡ n = length-take-le n (drop at m) (omega (arith, h, length-drop at m)) in
    let l = length-replicate n v in
    let d : drop n (drop at m) ≡ drop (at + length (replicate n v)) m = drop-drop n at m ∙ ap (λ (i : ℕ). drop (at + i) m) (sym l) in
    rw (k, t, d) (sym (sets-eq (replicate n v) m at (omega (arith, l, h)) ∙ append_assoc (take at m) (replicate n v) _))
