-- The code's tests of a statement at a place, by numbers.
use Prim.Native.Nat.{ℕ, ◌+◌, ◌-◌, ◌≤◌, ◌<◌}
use mathlib.Core.Bool.{Bool, true, false}
use mathlib.Core.Logic.{◌⊎◌, inl, inr}
use mathlib.Core.Path.{◌≡◌, refl, sym, ap, ◌∙◌}
use native.Mathlib.Omega.{arith}
use lib.Dec.{ltb}
use borrow.Author.Tests.{lt-ltb, le-ltb, ltb-true, ltb-false}
use Rattle.codes.specs.Limits.{most_cells}
use Rattle.sources.specs.Placing.{moved_by}
use Rattle.sources.specs.Inner.Assembling.{reserves_too_far}
use Rattle.sources.specs.declared.Moves.{Moves}
use Rattle.sources.specs.declared.Moves.TheVariants.{On, Reserving, To}
use Rattle.placing.specs.Inner.State.{Sound, past_at}

-- ---- 11: past the memory's end

-- what `is_taken` and `paint` ask for
pub not-past : (M at n : ℕ) → past_at M at n ≡ false → 0 < n → at + n ≤ M
not-past M at n e h =
    let f : ltb M (at + n) ≡ false = rw (lt-ltb 0 n h) at e in
    ltb-false M (at + n) f

-- ---- 6: RES goes too far

pub reserves_test : (m : Moves) (at n : ℕ) → m ≡ Reserving n → at ≤ most_cells → ltb (most_cells - at) n ≡ reserves_too_far m at
reserves_test m at n e h = go (ltb (most_cells - at) n) refl ∙ sym (ap (λ (x : Moves). reserves_too_far x at) e)
  where
    go : (b : Bool) → ltb (most_cells - at) n ≡ b → b ≡ ltb most_cells (at + n)
    go true f = let l = ltb-true (most_cells - at) n f in sym (lt-ltb most_cells (at + n) (omega arith))
    go false f = let l = ltb-false (most_cells - at) n f in sym (le-ltb most_cells (at + n) (omega arith))

-- ---- where an act leads

pub moved-on : {m : Moves} {n : ℕ} (at : ℕ) → (m ≡ On n) ⊎ (m ≡ Reserving n) → at + n ≡ moved_by m at
moved-on at (inl e) = sym (ap (λ (x : Moves). moved_by x at) e)
moved-on at (inr e) = sym (ap (λ (x : Moves). moved_by x at) e)

-- once the tests of 6 and 11 have passed it is an address
pub moved-low : (M : ℕ) (m : Moves) (at claims : ℕ) → Sound m claims → at ≤ most_cells → M ≤ most_cells → reserves_too_far m at ≡ false
    → past_at M at claims ≡ false
    → moved_by m at ≤ most_cells
moved-low M (On n) at claims s h k e f = go (ltb 0 claims) refl
  where
    go : (b : Bool) → ltb 0 claims ≡ b → at + n ≤ most_cells
    go true q = omega (arith, not-past M at claims f (ltb-true 0 claims q))
    go false q = omega (arith, ltb-false 0 claims q)
moved-low M (Reserving n) at claims s h k e f = ltb-false most_cells (at + n) e
moved-low M (To v) at claims s h k e f = s
