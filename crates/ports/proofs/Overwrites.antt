-- Laws of `overwrite`: what a loop that writes element by element from a place on leaves is one overwriting.
use mathlib.Core.Path.{◌≡◌, refl, sym, ap, ◌∙◌}
use mathlib.Core.List.{List, [], ◌∷◌, ◌++◌, append_assoc}
use Prim.Native.Nat.{ℕ, suc, ◌+◌, ◌≤◌, ◌<◌}
use native.Mathlib.Nat.{add-zero}
use native.Mathlib.Numerals.{add-one}
use native.Mathlib.Omega.{arith}
use lib.ListN.{length, get_or, set, take, drop, length-append, length-take, length-drop, take-append-drop, length-set}
use borrow.Rule.Slice.PartMut.{put_mid}
use lib.Seq.{set_at, take_at, drop_at, drop-cons, take-suc, length-take-le, drop-drop}
use Rattle.ports.specs.Overwriting.{overwrite}

pub overwrite-none : (xs : List ℕ) (at : ℕ) → overwrite xs at [] ≡ xs
unfolding overwrite
overwrite-none xs at = rw (add-zero, take-append-drop)

module _ (xs : List ℕ) (at : ℕ) (ys : List ℕ) where
  -- the part before what is written, with it
  head-length : at ≤ length xs → length (take at xs ++ ys) ≡ at + length ys
  head-length h = rw (length-append, length-take-le at xs h)

  pub overwrite-length : at + length ys ≤ length xs → length (overwrite xs at ys) ≡ length xs
  unfolding overwrite
  overwrite-length h = simp (length-append, length-take, length-drop) (omega arith)

  -- one element more, at the end of what is written
  pub overwrite-more : (y : ℕ) → at + length ys < length xs → set (overwrite xs at ys) (at + length ys) y ≡ overwrite xs at (ys ++ (y ∷ []))
  unfolding overwrite
  overwrite-more y h =
      let n : at + length (ys ++ (y ∷ [])) ≡ suc (at + length ys) = simp length-append (omega arith) in
      rw (n, ← append_assoc (take at xs) ys, drop-cons xs (at + length ys) 0 h, set_at (take at xs ++ ys) _ _ y _ (head-length (omega arith)))
      (simp append_assoc)

  -- all before it is as it was
  pub overwrite-before : at ≤ length xs → take at (overwrite xs at ys) ≡ take at xs
  unfolding overwrite
  overwrite-before h = take_at (take at xs) _ at (length-take-le at xs h)

  -- it stands at its place
  pub overwrite-there : at ≤ length xs → take (length ys) (drop at (overwrite xs at ys)) ≡ ys
  unfolding overwrite
  overwrite-there h = rw (drop_at (take at xs) _ at (length-take-le at xs h), take_at ys _ (length ys) refl)

  -- all after it is as it was
  pub overwrite-after : at ≤ length xs → drop (at + length ys) (overwrite xs at ys) ≡ drop (at + length ys) xs
  unfolding overwrite
  overwrite-after h = rw (← append_assoc (take at xs) ys, drop_at (take at xs ++ ys) _ _ (head-length h))

pub overwrite-one : (xs : List ℕ) (at y : ℕ) → at < length xs → set xs at y ≡ overwrite xs at (y ∷ [])
overwrite-one xs at y h = rw (overwrite-none xs at, add-zero at) at (overwrite-more xs at [] y (omega arith))

-- a part of a row written over as a whole
pub overwrite_part : (xs : List ℕ) (at k : ℕ) (ys zs : List ℕ) → zs ≡ ys → k ≡ length ys → put_mid at k xs zs ≡ overwrite xs at ys
unfolding overwrite
overwrite_part xs at k ys zs e l = rw (e, l) (ap (λ (r : List ℕ). take at xs ++ (ys ++ r)) (drop-drop (length ys) at xs))

-- a row `ms` after k turns of a loop that copies the first n elements of `s` to a place of `xs`
abbrev pub Copied : List ℕ → ℕ → List ℕ → ℕ → List ℕ → ℕ → Type 0
Copied xs at s n ms k = (k ≤ n) × (length ms ≡ length xs) × (ms ≡ overwrite xs at (take k s))

module _ (xs : List ℕ) (at : ℕ) (s : List ℕ) (n : ℕ) where
  pub copy_none : Copied xs at s n xs 0
  copy_none = (omega arith, refl, sym (overwrite-none xs at))

  pub copy_more : (ms : List ℕ) (k y : ℕ) → Copied xs at s n ms k → k < n → at + n ≤ length xs → n ≤ length s → y ≡ get_or s k 0
      → Copied xs at s n (set ms (at + k) y) (k + 1)
  copy_more ms k y done h room has e =
      let l : length (take k s) ≡ k = length-take-le k s (omega arith) in
      let r = overwrite-more xs at (take k s) (get_or s k 0) (omega arith) in
      (omega arith, length-set ms (at + k) y ∙ done.1, rw (e, done.2, add-one k, take-suc s k 0 (omega arith)) (rw l at r))

  pub copy_end : (ms : List ℕ) (k : ℕ) → Copied xs at s n ms k → n ≤ k → ms ≡ overwrite xs at (take n s)
  copy_end ms k done h = let e : k ≡ n = omega arith in rw e at done.2

  -- and one element more
  pub copy_last : (ms : List ℕ) (k y : ℕ) → Copied xs at s n ms k → n ≤ k → at + n < length xs → n ≤ length s
      → set ms (at + n) y ≡ overwrite xs at (take n s ++ (y ∷ []))
  copy_last ms k y done h room has =
      let l : length (take n s) ≡ n = length-take-le n s has in
      rw (copy_end ms k done h) (rw l at (overwrite-more xs at (take n s) y (omega arith)))
