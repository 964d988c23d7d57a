-- Blanks from a place on, as a loop sees them.
use Prim.Native.Nat.{ℕ, zero, suc, ◌+◌, ◌≤◌, ◌<◌}
use mathlib.Core.Bool.{Bool, true, false, cond}
use mathlib.Core.List.{List, [], ◌∷◌}
use mathlib.Core.Path.{◌≡◌, refl, sym, ◌∙◌}
use native.Mathlib.Numerals.{add-one}
use native.Mathlib.Omega.{arith}
use lib.Dec.{eqb, eqb-suc-zero}
use lib.ListN.{length, get_or, drop, drop_of_length-le}
use lib.Seq.{drop-cons}
use borrow.Author.Tests.{eq-eqb, ne_eqb}
use Rattle.tokens.specs.Bytes.{is_blank}
use Rattle.tokens.specs.Reading.{blanks}

module _ (s : List ℕ) (i : ℕ) where
  pub blanks-more : i < length s → is_blank (get_or s i 0) ≡ true → blanks (drop i s) ≡ suc (blanks (drop (i + 1) s))
  unfolding blanks
  blanks-more h t = rw (add-one, drop-cons s i 0, t)

  pub blanks-stop : i < length s → is_blank (get_or s i 0) ≡ false → blanks (drop i s) ≡ 0
  unfolding blanks
  blanks-stop h t = rw (drop-cons s i 0, t)

  pub blanks-none : length s ≤ i → blanks (drop i s) ≡ 0
  unfolding blanks
  blanks-none h = rw (drop_of_length-le s h)

-- a place is where blanks began exactly if there are none
pub moved_none : (at n : ℕ) → eqb (at + n) at ≡ eqb n 0
moved_none at zero = eq-eqb (at + zero) at (omega arith)
moved_none at (suc n) = ne_eqb (at + suc n) at (λ e. omega arith) ∙ sym (eqb-suc-zero n)

-- no blank stands where the blanks end
pub ends-blanks : (l : List ℕ) {b : ℕ} {m : List ℕ} → drop (blanks l) l ≡ b ∷ m → is_blank b ≡ false
unfolding blanks
ends-blanks [] e = let z : ◌≡◌ {A = ℕ} 0 1 = cc in absurd (omega arith)
ends-blanks (c ∷ l) {b} {m} e = go (is_blank c) refl e (ends-blanks l)
  where
    go : (t : Bool) → is_blank c ≡ t → drop (cond t (suc (blanks l)) 0) (c ∷ l) ≡ b ∷ m → (drop (blanks l) l ≡ b ∷ m → is_blank b ≡ false)
        → is_blank b ≡ false
    go true t e h = h e
    go false t e h = let f : c ≡ b = cc in rw f at t

pub blanks-within : (l : List ℕ) → blanks l ≤ length l
unfolding blanks
blanks-within [] = omega arith
blanks-within (b ∷ l) = go (is_blank b) (blanks-within l)
  where
    go : (t : Bool) → blanks l ≤ length l → cond t (suc (blanks l)) 0 ≤ suc (length l)
    go true h = omega arith
    go false h = omega arith
