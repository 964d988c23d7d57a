-- What digits are worth, and that cutting a worth on the way is cutting it at the end.
use Prim.Native.Nat.{ℕ, zero, suc, ◌+◌, ◌*◌, ◌-◌, ◌≤◌, ◌<◌}
use mathlib.Core.List.{List, [], ◌∷◌, ◌++◌}
use mathlib.Core.Path.{◌≡◌, refl, ap, ◌∙◌}
use native.Mathlib.Decide.{dec_le}
use native.Mathlib.Nat.{min-eq_left, min-eq_right}
use native.Mathlib.Numerals.{add-one}
use native.Mathlib.Omega.{arith}
use lib.ListN.{length, get_or, take, drop, replicate}
use lib.Seq.{drop-cons}
use Rattle.numerals.specs.Bytes.{rank}
use Rattle.numerals.specs.Digits.{worth_after, worth}
use Rattle.numerals.specs.Numbers.{cut}

-- what digits are worth after others, cut after each digit
unfoldable pub cut_after : ℕ → ℕ → List ℕ → ℕ
cut_after radix a [] = a
cut_after radix a (d ∷ ds) = cut_after radix (cut (a * radix + rank d)) ds

cut-once : (radix a d : ℕ) → cut (cut a * radix + d) ≡ cut (a * radix + d)
cut-once zero a d = omega arith
cut-once (suc r) a d =
    elim (dec_le a 65536) [
      | yes l ↦ rw (min-eq_right l)
      | no n ↦ let l : 65536 ≤ a = omega arith in rw (min-eq_left l) (omega arith)
    ]

pub cut_at_end : (radix a : ℕ) (ds : List ℕ) → cut_after radix (cut a) ds ≡ cut (worth_after radix a ds)
unfolding cut_after worth_after
cut_at_end radix a [] = refl
cut_at_end radix a (d ∷ ds) =
    ap (λ (n : ℕ). cut_after radix n ds) (cut-once radix a (rank d)) ∙ cut_at_end radix (a * radix + rank d) ds

-- one turn of the loop over the digits of a part
pub cut_step : (radix v i end : ℕ) (s : List ℕ) {w : ℕ} → i < end → end ≤ length s → w ≡ cut (v * radix + rank (get_or s i 0))
    → cut_after radix v (take (end - i) (drop i s)) ≡ cut_after radix w (take (end - (i + 1)) (drop (i + 1) s))
unfolding cut_after
cut_step radix v i end s h k e =
    let l : i < length s = omega arith in
    let n : end - i ≡ suc (end - (i + 1)) = omega arith in
    rw (e, n, add-one i, drop-cons s i 0 l)

-- no digit is left at the part's end
pub cut-done : (radix v i end : ℕ) (s : List ℕ) → end ≤ i → cut_after radix v (take (end - i) (drop i s)) ≡ v
unfolding cut_after
cut-done radix v i end s h = let e : end - i ≡ 0 = omega arith in rw e

-- the last digit of digits
pub worth-last : (radix a : ℕ) (ds : List ℕ) (d : ℕ) → worth_after radix a (ds ++ (d ∷ [])) ≡ worth_after radix a ds * radix + rank d
unfolding worth_after
worth-last radix a [] d = refl
worth-last radix a (e ∷ ds) d = worth-last radix (a * radix + rank e) ds d

-- zeros in front change nothing
pub worth-zeros : (radix n : ℕ) (ds : List ℕ) → worth radix (replicate n 48 ++ ds) ≡ worth radix ds
unfolding worth_after rank
worth-zeros radix zero ds = refl
worth-zeros radix (suc n) ds =
    let e : 0 * radix + rank 48 ≡ 0 = omega arith in
    ap (λ (a : ℕ). worth_after radix a (replicate n 48 ++ ds)) e ∙ worth-zeros radix n ds
