-- Laws of `up_to` and `meets`: where a loop that looks for an element stops, and what the part before it is.
use mathlib.Core.Path.{◌≡◌, refl, sym, ap, ◌∙◌}
use mathlib.Core.Bool.{Bool, true, false, cond, not, ◌||◌, true≢false}
use mathlib.Core.List.{List, [], ◌∷◌, ◌++◌}
use Prim.Native.Nat.{ℕ, zero, suc, ◌+◌, ◌-◌, ◌≤◌, ◌<◌}
use native.Mathlib.Numerals.{add-one}
use native.Mathlib.Omega.{arith}
use borrow.Author.Tests.{eq-eqb, ne_eqb, eqb-true, eqb-false, lt-ltb, ltb-false, not-true}
use lib.Dec.{eqb, ltb, leb-suc-suc}
use lib.ListN.{length, get_or, take, drop, drop_of_length-le, length-drop}
use lib.Seq.{take_all, drop-cons}
use Rattle.std.proofs.Common.{Some, None}
use Rattle.std.specs.Option.{unwrap_or}
use Rattle.std.specs.List.{position}
use Rattle.std.proofs.lemmas.List.Recursion.{is_position_or_len}
use Rattle.ports.specs.Searching.{up_to, meets}
use Rattle.ports.specs.Rules.{Free}

module _ (x : ℕ) where
  -- a turn of the loop, and its two ends
  pub search_more : (s : List ℕ) (i : ℕ) → i < length s → (get_or s i 0 ≡ x → ⊥) → length (up_to x (drop i s)) ≡ suc (length (up_to x (drop (i + 1) s)))
  unfolding up_to
  search_more s i h n = rw (add-one i, drop-cons s i 0 h, ne_eqb _ _ n)

  pub search_here : (s : List ℕ) (i : ℕ) → i < length s → get_or s i 0 ≡ x → length (up_to x (drop i s)) ≡ 0
  unfolding up_to
  search_here s i h e = rw (drop-cons s i 0 h, eq-eqb _ _ e)

  pub search_none : (s : List ℕ) (i : ℕ) → length s ≤ i → length (up_to x (drop i s)) ≡ 0
  unfolding up_to
  search_none s i h = rw (drop_of_length-le s h)

  -- n elements are passed, none of which is x
  abbrev Passes : List ℕ → ℕ → ℕ → Type 0
  Passes s i n = length (up_to x (drop i s)) ≡ n + length (up_to x (drop (i + n) s))

  passes-one : (s : List ℕ) (i : ℕ) → i < length s → eqb (get_or s i 0) x ≡ false → Passes s i 1
  passes-one s i h e = omega (arith, search_more s i h (eqb-false _ _ e))

  -- one more, where the tests so far and its own are false
  passes-more : (s : List ℕ) (i n : ℕ) (b : Bool) → i + n < length s → (b ≡ false → Passes s i n)
      → (b || eqb (get_or s (i + n) 0) x) ≡ false → Passes s i (suc n)
  passes-more s i n true h so e = absurd (true≢false e)
  passes-more s i n false h so e =
      let far : i + suc n ≡ i + n + 1 = omega arith in rw far (omega (arith, so refl, search_more s (i + n) h (eqb-false _ _ e)))

  -- eight at once, by their tests joined in one
  pub search_eight : (s : List ℕ) (i : ℕ) → i + 8 ≤ length s
      → not
      (eqb (get_or s i 0) x || eqb (get_or s (i + 1) 0) x || eqb (get_or s (i + 2) 0) x || eqb (get_or s (i + 3) 0) x || eqb (get_or s (i + 4) 0) x
      || eqb (get_or s (i + 5) 0) x || eqb (get_or s (i + 6) 0) x || eqb (get_or s (i + 7) 0) x) ≡ true
      → Passes s i 8
  search_eight s i h e =
      passes-more s i 7 _ (omega arith)
      (passes-more s i 6 _ (omega arith)
      (passes-more s i 5 _ (omega arith)
      (passes-more s i 4 _ (omega arith)
      (passes-more s i 3 _ (omega arith)
      (passes-more s i 2 _ (omega arith)
      (passes-more s i 1 _ (omega arith)
      (passes-one s i (omega arith))))))))
      (not-true _ e)

  -- it is the list's beginning
  pub up_to-take : (s : List ℕ) → take (length (up_to x s)) s ≡ up_to x s
  unfolding up_to
  up_to-take [] = refl
  up_to-take (y ∷ s) = go (eqb y x) (up_to-take s)
    where
      go : (b : Bool) → take (length (up_to x s)) s ≡ up_to x s
          → take (length (cond b [] (y ∷ up_to x s))) (y ∷ s) ≡ cond b [] (y ∷ up_to x s)
      go true h = refl
      go false h = ap (λ (r : List ℕ). y ∷ r) h

  pub up_to-within : (s : List ℕ) → length (up_to x s) ≤ length s
  unfolding up_to
  up_to-within [] = omega arith
  up_to-within (y ∷ s) = go (eqb y x) (up_to-within s)
    where
      go : (b : Bool) → length (up_to x s) ≤ length s → length (cond b [] (y ∷ up_to x s)) ≤ suc (length s)
      go true h = omega arith
      go false h = omega arith

  pub up_to-whole : (s : List ℕ) → length s ≤ length (up_to x s) → up_to x s ≡ s
  up_to-whole s h = sym (up_to-take s) ∙ take_all (length (up_to x s)) s h

  -- there is one exactly where the part before it is not all
  pub meets-within : (s : List ℕ) → meets x s ≡ ltb (length (up_to x s)) (length s)
  unfolding up_to meets
  meets-within [] = refl
  meets-within (y ∷ s) = go (eqb y x) (meets-within s)
    where
      go : (b : Bool) → meets x s ≡ ltb (length (up_to x s)) (length s)
          → cond b true (meets x s) ≡ ltb (length (cond b [] (y ∷ up_to x s))) (suc (length s))
      go true h = sym (lt-ltb 0 (suc (length s)) (omega arith))
      go false h = h ∙ sym (leb-suc-suc (suc (length (up_to x s))) (length s))

  -- its length is the place of the first, and that of the list where there is none
  up_to_none : length (up_to x []) ≡ 0
  unfolding up_to
  up_to_none = refl

  up_to_each : (y : ℕ) (r : List ℕ) → length (up_to x (y ∷ r)) ≡ cond (eqb y x) 0 (1 + length (up_to x r))
  unfolding up_to
  up_to_each y r = go (eqb y x)
    where
      go : (b : Bool) → length (cond b [] (y ∷ up_to x r)) ≡ cond b 0 (1 + length (up_to x r))
      go true = refl
      go false = omega arith

  pub search_is : (s : List ℕ) → unwrap_or (position (λ (y : ℕ). eqb y x) s) (length s) ≡ length (up_to x s)
  search_is s = rw (← is_position_or_len (λ (q : List ℕ). length (up_to x q)) (λ (y : ℕ). eqb y x) up_to_none up_to_each s) (go (ltb (length (up_to x s)) (length s)) refl)
    where
      go : (b : Bool) → ltb (length (up_to x s)) (length s) ≡ b → unwrap_or (cond b (Some (length (up_to x s))) None) (length s) ≡ length (up_to x s)
      go true e = refl
      go false e = omega (arith, ltb-false _ _ e, up_to-within s)

  -- from a place on, it ends within the list
  pub up_to-ends : (s : List ℕ) (i : ℕ) → i ≤ length s → i + length (up_to x (drop i s)) ≤ length s
  up_to-ends s i h = omega (arith, up_to-within (drop i s), length-drop i s)

  -- and is the part up to its end
  pub up_to_part : (s : List ℕ) (i end : ℕ) → end ≡ i + length (up_to x (drop i s)) → take (end - i) (drop i s) ≡ up_to x (drop i s)
  up_to_part s i end e = let n : end - i ≡ length (up_to x (drop i s)) = omega arith in rw n (up_to-take (drop i s))

  -- ---- the part before the first, said without a search

  free-tail : {y : ℕ} (s : List ℕ) → Free x (y ∷ s) → Free x s
  free-tail s f i h = f (suc i) (omega arith)

  -- it is free of x, and where there is one, that follows it
  pub up_to-free : (s : List ℕ) → Free x (up_to x s)
  unfolding up_to
  up_to-free [] = λ i h e. omega arith
  up_to-free (y ∷ s) = go (eqb y x) refl (up_to-free s)
    where
      go : (b : Bool) → eqb y x ≡ b → Free x (up_to x s) → Free x (cond b [] (y ∷ up_to x s))
      go true t f i h e = omega arith
      go false t f zero h e = eqb-false y x t e
      go false t f (suc i) h e = f i (omega arith) e

  pub up_to-split : (s : List ℕ) → meets x s ≡ true → s ≡ up_to x s ++ (x ∷ drop (suc (length (up_to x s))) s)
  unfolding up_to meets
  up_to-split [] m = let z : ◌≡◌ {A = ℕ} 0 1 = cc in absurd (omega arith)
  up_to-split (y ∷ s) m = go (eqb y x) refl m (up_to-split s)
    where
      go : (b : Bool) → eqb y x ≡ b → cond b true (meets x s) ≡ true → (meets x s ≡ true → s ≡ up_to x s ++ (x ∷ drop (suc (length (up_to x s))) s))
          → y ∷ s ≡ cond b [] (y ∷ up_to x s) ++ (x ∷ drop (suc (length (cond b [] (y ∷ up_to x s)))) (y ∷ s))
      go true t e more = ap (λ (z : ℕ). z ∷ s) (eqb-true y x t)
      go false t e more = ap (λ (r : List ℕ). y ∷ r) (more e)

  -- nothing else is
  pub up_to_is : (part rest : List ℕ) → Free x part → up_to x (part ++ (x ∷ rest)) ≡ part
  unfolding up_to
  up_to_is [] rest f = rw (eq-eqb x x refl)
  up_to_is (y ∷ part) rest f = rw (ne_eqb y x (f 0 (omega arith))) (ap (λ (r : List ℕ). y ∷ r) (up_to_is part rest (free-tail part f)))

  pub up_to-all : (s : List ℕ) → Free x s → up_to x s ≡ s
  unfolding up_to
  up_to-all [] f = refl
  up_to-all (y ∷ s) f = rw (ne_eqb y x (f 0 (omega arith))) (ap (λ (r : List ℕ). y ∷ r) (up_to-all s (free-tail s f)))
