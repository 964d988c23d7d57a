-- One more label is held behind those that are held.
use Prim.Native.Nat.{ℕ, zero, suc, ◌+◌, ◌*◌, ◌≤◌, ◌<◌}
use mathlib.Core.List.{List, [], ◌∷◌, ◌++◌}
use mathlib.Core.Path.{◌≡◌, refl, ap, ap₂, ◌∙◌}
use native.Mathlib.Omega.{arith}
use lib.ListN.{length, get_or, set, length-set}
use lib.Seq.{get_or-set_same, get_or-set_other}
use Rattle.sources.specs.Uses.{Use}
use Rattle.uses.specs.Inner.Held.{use_held, uses_held}

-- what is held does not depend on what stands behind it
same-below : (s row row' aways aways' : List ℕ) (n : ℕ) → ((i : ℕ) → i < 4 * n → get_or row' i 0 ≡ get_or row i 0)
    → ((i : ℕ) → i < n → get_or aways' i 0 ≡ get_or aways i 0)
    → uses_held s row' aways' n ≡ uses_held s row aways n
unfolding uses_held
same-below s row row' aways aways' zero h g = refl
same-below s row row' aways aways' (suc n) h g =
    ap₂ (λ (us : List Use) (u : Use). us ++ (u ∷ [])) (same-below s row row' aways aways' n (λ i l. h i (omega (arith, l))) (λ i l. g i (omega (arith, l))))
    (rw (h (4 * n) (omega arith), h (4 * n + 1) (omega arith), h (4 * n + 2) (omega arith), h (4 * n + 3) (omega arith), g n (omega arith)))

-- four cells of a row, one after the other
abbrev pub four : List ℕ → ℕ → ℕ → ℕ → ℕ → ℕ → List ℕ
four row b w x y z = set (set (set (set row b w) (b + 1) x) (b + 2) y) (b + 3) z

module _ (row : List ℕ) (b w x y z : ℕ) where
  four_below : (i : ℕ) → i < b → get_or (four row b w x y z) i 0 ≡ get_or row i 0
  four_below i l =
      get_or-set_other (set (set (set row b w) (b + 1) x) (b + 2) y) (b + 3) i z 0 (λ e. omega (arith, e))
      ∙ get_or-set_other (set (set row b w) (b + 1) x) (b + 2) i y 0 (λ e. omega (arith, e))
      ∙ get_or-set_other (set row b w) (b + 1) i x 0 (λ e. omega (arith, e))
      ∙ get_or-set_other row b i w 0 (λ e. omega (arith, e))

  module _ (l : b + 4 ≤ length row) where
    first-there : get_or (four row b w x y z) b 0 ≡ w
    first-there =
        get_or-set_other (set (set (set row b w) (b + 1) x) (b + 2) y) (b + 3) b z 0 (λ e. omega (arith, e))
        ∙ get_or-set_other (set (set row b w) (b + 1) x) (b + 2) b y 0 (λ e. omega (arith, e))
        ∙ get_or-set_other (set row b w) (b + 1) b x 0 (λ e. omega (arith, e))
        ∙ get_or-set_same row b w 0 (omega (arith, l))

    second-there : get_or (four row b w x y z) (b + 1) 0 ≡ x
    second-there =
        get_or-set_other (set (set (set row b w) (b + 1) x) (b + 2) y) (b + 3) (b + 1) z 0 (λ e. omega (arith, e))
        ∙ get_or-set_other (set (set row b w) (b + 1) x) (b + 2) (b + 1) y 0 (λ e. omega (arith, e))
        ∙ get_or-set_same (set row b w) (b + 1) x 0 (omega (arith, l, length-set row b w))

    third_there : get_or (four row b w x y z) (b + 2) 0 ≡ y
    third_there =
        get_or-set_other (set (set (set row b w) (b + 1) x) (b + 2) y) (b + 3) (b + 2) z 0 (λ e. omega (arith, e))
        ∙ get_or-set_same (set (set row b w) (b + 1) x) (b + 2) y 0 (omega (arith, l, length-set row b w, length-set (set row b w) (b + 1) x))

    fourth_there : get_or (four row b w x y z) (b + 3) 0 ≡ z
    fourth_there =
        get_or-set_same (set (set (set row b w) (b + 1) x) (b + 2) y) (b + 3) z 0
        (omega (arith, l, length-set row b w, length-set (set row b w) (b + 1) x, length-set (set (set row b w) (b + 1) x) (b + 2) y))

module _ (s row aways : List ℕ) (n start size cell line away : ℕ) (l : 4 * n + 4 ≤ length row) (m : n < length aways) where
  abbrev held : ℕ → List Use
  held = uses_held s (four row (4 * n) start size cell line) (set aways n away)

  one-behind : held (suc n) ≡ uses_held s row aways n ++ (use_held s start size cell line away ∷ [])
  unfolding uses_held
  one-behind =
      let b = 4 * n in
      ap₂ (λ (us : List Use) (u : Use). us ++ (u ∷ []))
      (same-below s row (four row b start size cell line) aways (set aways n away) n (four_below row b start size cell line)
      (λ i h. get_or-set_other aways n i away 0 (λ e. omega (arith, e, h))))
      (rw (first-there row b start size cell line l, second-there row b start size cell line l, third_there row b start size cell line l, fourth_there row b start size cell line l, get_or-set_same aways n away 0 m))

  pub one_more : held (n + 1) ≡ uses_held s row aways n ++ (use_held s start size cell line away ∷ [])
  one_more = let e : n + 1 ≡ suc n = omega arith in ap held e ∙ one-behind
