-- A record tells what it was made of: two runs of one text agree line by line.
use mathlib.Core.Path.{◌≡◌, refl, sym, ap, ap₂, subst, ◌∙◌}
use mathlib.Core.List.{List, [], ◌∷◌, ◌++◌, append_assoc}
use Prim.Native.Nat.{ℕ, ◌<◌}
use lib.Dec.{ltb, T}
use lib.Ieee.Fits.{and_l, and_r}
use lib.ListN.{get_or, drop}
use Rattle.numerals.specs.Bytes.{rank, LF}
use Rattle.numerals.specs.Digits.{all_below, worth}
use Rattle.numerals.specs.Writing.{decimal}
use Rattle.numerals.proofs.Top.{decimal-right}
use Rattle.texts.specs.Lines.{text_of}

behind : (a x y : List ℕ) → a ++ x ≡ a ++ y → x ≡ y
behind [] x y e = e
behind (c ∷ a) x y e = behind a x y (ap (drop 1) e)

-- no digit is an LF
no_digit : (d : ℕ) (ds : List ℕ) → T (all_below 10 (d ∷ ds)) → LF ≡ d → ⊥
unfolding rank
no_digit d ds t e = subst (λ (n : ℕ). T (ltb (rank n) 10)) (sym e) (and_l (ltb (rank d) 10) (all_below 10 ds) t)

-- digits up to an LF are the same digits, and so is what follows
digits-end : (p q x y : List ℕ) → T (all_below 10 p) → T (all_below 10 q) → p ++ (LF ∷ x) ≡ q ++ (LF ∷ y) → (p ≡ q) × (x ≡ y)
digits-end [] [] x y s t e = (refl, ap (drop 1) e)
digits-end [] (d ∷ q) x y s t e = absurd (no_digit d q t (ap (λ (l : List ℕ). get_or l 0 0) e))
digits-end (d ∷ p) [] x y s t e = absurd (no_digit d p s (sym (ap (λ (l : List ℕ). get_or l 0 0) e)))
digits-end (c ∷ p) (d ∷ q) x y s t e =
    let rest = digits-end p q x y (and_r (ltb (rank c) 10) (all_below 10 p) s) (and_r (ltb (rank d) 10) (all_below 10 q) t) (ap (drop 1) e) in
    (ap₂ (λ (h : ℕ) (l : List ℕ). h ∷ l) (ap (λ (l : List ℕ). get_or l 0 0) e) rest.0, rest.1)

one_number : (a b : ℕ) → a < 10000000000 → b < 10000000000 → decimal a ≡ decimal b → a ≡ b
one_number a b h k e = sym (decimal-right a h).worth_is ∙ ap (worth 10) e ∙ (decimal-right b k).worth_is

-- a line's number, and the lines behind it
pub line-tells : (name : List ℕ) (a b : ℕ) (xs ys : List (List ℕ)) → a < 10000000000 → b < 10000000000
    → text_of ((name ++ decimal a) ∷ xs) ≡ text_of ((name ++ decimal b) ∷ ys)
    → (a ≡ b) × (text_of xs ≡ text_of ys)
unfolding text_of
line-tells name a b xs ys h k e =
    let apart : name ++ (decimal a ++ (LF ∷ text_of xs)) ≡ name ++ (decimal b ++ (LF ∷ text_of ys)) =
    sym (append_assoc name (decimal a) (LF ∷ text_of xs)) ∙ e ∙ append_assoc name (decimal b) (LF ∷ text_of ys) in
    let same = digits-end (decimal a) (decimal b) (text_of xs) (text_of ys) (decimal-right a h).are-digits.all (decimal-right b k).are-digits.all
    (behind name (decimal a ++ (LF ∷ text_of xs)) (decimal b ++ (LF ∷ text_of ys)) apart) in
    (one_number a b h k same.0, same.1)
