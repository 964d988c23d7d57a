-- A decimal is the only text of its number: digits with no zero in front.
use Prim.Native.Nat.{ℕ, zero, suc, ◌+◌, ◌*◌, ◌-◌, ◌/◌, ◌%◌, ◌^◌, ◌≤◌, ◌<◌}
use mathlib.Core.Bool.{Bool, true, false, cond, not}
use mathlib.Core.List.{List, [], ◌∷◌, ◌++◌, append_assoc}
use mathlib.Core.Path.{◌≡◌, refl, sym, ap, ap₂, subst, ◌∙◌}
use native.Mathlib.Decide.{dec_lt}
use native.Mathlib.Nat.{mul-le-mul_left}
use native.Mathlib.Omega.{arith}
use lib.Dec.{ltb, eqb, T, T_not, not_T, ltb→lt, lt→ltb, eqb→eq}
use lib.Ieee.Fits.{and_i, and_l, and_r}
use lib.ListN.{length, length-append}
use borrow.Author.Tests.{lt-ltb, le-ltb, ltb-false}
use Rattle.numerals.specs.Bytes.{rank}
use Rattle.numerals.specs.Digits.{all_below, worth_after, worth}
use Rattle.numerals.specs.Writing.{no_leading_zero, DecimalOf, digit_byte, decimal_before, decimal, signed_decimal}
use Rattle.numerals.proofs.Ranks.{rank-byte, byte-rank}
use Rattle.numerals.proofs.Worths.{worth-last}
use Rattle.numerals.proofs.Filling.{length_before, length-decimal}

-- ---- digits before and after

all_join : (k : ℕ) (a b : List ℕ) → T (all_below k a) → T (all_below k b) → T (all_below k (a ++ b))
all_join k [] b p q = q
all_join k (x ∷ a) b p q =
    and_i (ltb (rank x) k) (all_below k (a ++ b)) (and_l (ltb (rank x) k) (all_below k a) p)
    (all_join k a b (and_r (ltb (rank x) k) (all_below k a) p) q)

all-front : (k : ℕ) (a b : List ℕ) → T (all_below k (a ++ b)) → T (all_below k a)
all-front k [] b p = tt
all-front k (x ∷ a) b p =
    and_i (ltb (rank x) k) (all_below k a) (and_l (ltb (rank x) k) (all_below k (a ++ b)) p)
    (all-front k a b (and_r (ltb (rank x) k) (all_below k (a ++ b)) p))

all_back : (k : ℕ) (a b : List ℕ) → T (all_below k (a ++ b)) → T (all_below k b)
all_back k [] b p = p
all_back k (x ∷ a) b p = all_back k a b (and_r (ltb (rank x) k) (all_below k (a ++ b)) p)

-- digits are worth at least what stands before them
worth-grows : (radix a : ℕ) (ds : List ℕ) → 1 ≤ radix → a ≤ worth_after radix a ds
unfolding worth_after
worth-grows radix a [] h = omega arith
worth-grows radix a (d ∷ ds) h = omega (arith, worth-grows radix (a * radix + rank d) ds h, mul-le-mul_left a h)

not-zero : (d : ℕ) → T (not (eqb d 48)) → d ≡ 48 → ⊥
not-zero d z e = T_not (eqb d 48) z (rw e tt)

-- digits that another follows: their first is not 0
front-some : (d : ℕ) (ds : List ℕ) (x : ℕ) → T (no_leading_zero (d ∷ ds ++ (x ∷ []))) → d ≡ 48 → ⊥
front-some d [] x z = not-zero d z
front-some d (e ∷ ds) x z = not-zero d z

front_clean : (d : ℕ) (ds : List ℕ) (x : ℕ) → T (no_leading_zero (d ∷ ds ++ (x ∷ []))) → T (no_leading_zero (d ∷ ds))
front_clean d [] x z = tt
front_clean d (e ∷ ds) x z = z

back_clean : (ds : List ℕ) (x : ℕ) → T (no_leading_zero ds) → 0 < worth 10 ds → T (no_leading_zero (ds ++ (x ∷ [])))
unfolding worth_after rank
back_clean [] x z h = tt
back_clean (d ∷ []) x z h = not_T (eqb d 48) (λ t. let e : 0 * 10 + rank d ≡ 0 = rw (eqb→eq d 48 t) in omega arith)
back_clean (d ∷ e ∷ ds) x z h = z

-- ---- the rule of decimals, digit by digit

one-digit : (d : ℕ) → d < 10 → DecimalOf d (digit_byte d ∷ [])
unfolding worth_after
one-digit d h =
    record {
      are-digits = record {
        some = omega arith;
        all = and_i (ltb (rank (digit_byte d)) 10) true (lt→ltb (rank (digit_byte d)) 10 (omega (arith, rank-byte d h))) tt;
      };
      worth_is = omega (arith, rank-byte d h);
      no_zero = tt;
    }

more-digits : {m : ℕ} {ds : List ℕ} (d : ℕ) → DecimalOf m ds → 0 < m → d < 10 → DecimalOf (m * 10 + d) (ds ++ (digit_byte d ∷ []))
more-digits {m} {ds} d r p h =
    let o = one-digit d h in
    record {
      are-digits = record {
        some = simp length-append (omega arith);
        all = all_join 10 ds (digit_byte d ∷ []) r.are-digits.all o.are-digits.all;
      };
      worth_is = worth-last 10 0 ds (digit_byte d) ∙ rw (r.worth_is, rank-byte d h);
      no_zero = back_clean ds (digit_byte d) r.no_zero (rw r.worth_is p);
    }

before-front : (places n : ℕ) (done : List ℕ) → decimal_before places n done ≡ decimal_before places n [] ++ done
unfolding decimal_before
before-front zero n done = refl
before-front (suc places) n done =
    go (ltb n 10) (before-front places (n / 10) (digit_byte (n % 10) ∷ done)) (before-front places (n / 10) (digit_byte (n % 10) ∷ []))
  where
    go : (t : Bool) → decimal_before places (n / 10) (digit_byte (n % 10) ∷ done) ≡ decimal_before places (n / 10) [] ++ (digit_byte (n % 10) ∷ done)
        → decimal_before places (n / 10) (digit_byte (n % 10) ∷ []) ≡ decimal_before places (n / 10) [] ++ (digit_byte (n % 10) ∷ [])
        → cond t (digit_byte (n % 10) ∷ done) (decimal_before places (n / 10) (digit_byte (n % 10) ∷ done))
        ≡ cond t (digit_byte (n % 10) ∷ []) (decimal_before places (n / 10) (digit_byte (n % 10) ∷ [])) ++ done
    go true p q = refl
    go false p q = p ∙ rw q (sym (append_assoc (decimal_before places (n / 10) []) (digit_byte (n % 10) ∷ []) done))

before-one : (places n : ℕ) → n < 10 → decimal_before (suc places) n [] ≡ digit_byte n ∷ []
unfolding decimal_before
before-one places n h = let e : n % 10 ≡ n = omega arith in rw (lt-ltb n 10 h, e)

before_more : (places n : ℕ) → 10 ≤ n → decimal_before (suc places) n [] ≡ decimal_before places (n / 10) [] ++ (digit_byte (n % 10) ∷ [])
unfolding decimal_before
before_more places n h = rw (le-ltb n 10 h) (before-front places (n / 10) (digit_byte (n % 10) ∷ []))

-- what is written meets the rule
pub before-right : (places n : ℕ) → n < 10 ^ suc places → DecimalOf n (decimal_before (suc places) n [])
before-right zero n h = rw (before-one zero n (omega arith)) (one-digit n (omega arith))
before-right (suc places) n h =
    elim (dec_lt n 10) [
      | yes l ↦ rw (before-one (suc places) n l) (one-digit n l)
      | no g ↦
          let e : n ≡ n / 10 * 10 + n % 10 = omega arith in
          rw (before_more (suc places) n (omega arith))
          (subst (λ (m : ℕ). DecimalOf m (decimal_before (suc places) (n / 10) [] ++ (digit_byte (n % 10) ∷ []))) (sym e)
          (more-digits (n % 10) (before-right places (n / 10) (omega arith)) (omega arith) (omega arith)))
    ]

pub decimal-right : (n : ℕ) → n < 10000000000 → DecimalOf n (decimal n)
unfolding decimal
decimal-right n h = before-right 9 n h

-- ---- the rule has one text

last_of : (d : ℕ) (ds : List ℕ) → (front : List ℕ) × (x : ℕ) × (d ∷ ds ≡ front ++ (x ∷ []))
last_of d [] = ([], d, refl)
last_of d (e ∷ ds) = let p = last_of e ds in (d ∷ p.0, p.1, ap (λ (l : List ℕ). d ∷ l) p.2)

abbrev Only : ℕ → Type 0
Only places = (n : ℕ) (ds : List ℕ) → DecimalOf n ds → length ds ≤ places → ds ≡ decimal_before places n []

-- the last digit is n % 10, and what stands before it the decimal of n / 10
only-last : (places : ℕ) → Only places → (n : ℕ) (front : List ℕ) (x : ℕ) → DecimalOf n (front ++ (x ∷ []))
    → length (front ++ (x ∷ [])) ≤ suc places → front ++ (x ∷ []) ≡ decimal_before (suc places) n []
unfolding worth_after
only-last places only n [] x r h =
    let b : rank x < 10 = ltb→lt (rank x) 10 (and_l (ltb (rank x) 10) true r.are-digits.all) in
    let e : rank x ≡ n = omega (arith, r.worth_is) in
    sym (before-one places n (omega arith) ∙ ap (λ (b : ℕ). b ∷ []) (rw (← e) (sym (byte-rank x b))))
only-last places only n (d ∷ ds) x r h =
    let m = worth 10 (d ∷ ds) in
    let all = r.are-digits.all in
    let b : rank x < 10 = ltb→lt (rank x) 10 (and_l (ltb (rank x) 10) true (all_back 10 (d ∷ ds) (x ∷ []) all)) in
    let f : rank d < 10 = ltb→lt (rank d) 10 (and_l (ltb (rank d) 10) (all_below 10 (ds ++ (x ∷ []))) all) in
    let z : rank d ≡ 0 → ⊥ = λ o. front-some d ds x r.no_zero (rw o at (byte-rank d f)) in
    let e : m * 10 + rank x ≡ n = sym (worth-last 10 0 (d ∷ ds) x) ∙ r.worth_is in
    let g : rank d ≤ m = omega (arith, worth-grows 10 (0 * 10 + rank d) ds (omega arith)) in
    let p : n / 10 ≡ m = omega arith in
    let q : n % 10 ≡ rank x = omega arith in
    let o : DecimalOf m (d ∷ ds) = record {
      are-digits = record { some = omega arith; all = all-front 10 (d ∷ ds) (x ∷ []) all };
      worth_is = refl;
      no_zero = front_clean d ds x r.no_zero;
    } in
    ap₂ (λ (l : List ℕ) (y : ℕ). l ++ (y ∷ [])) (only m (d ∷ ds) o (omega (arith, length-append ds (x ∷ [])))) (byte-rank x b)
    ∙ sym (rw (p, q) at (before_more places n (omega arith)))

before-only : (places : ℕ) → Only places
before-only zero n ds r h = absurd (omega (arith, r.are-digits.some))
before-only (suc places) n [] r h = absurd (omega (arith, r.are-digits.some))
before-only (suc places) n (d ∷ ds) r h =
    let p = last_of d ds in
    p.2
    ∙ only-last places (before-only places) n p.0 p.1 (subst (DecimalOf n) p.2 r) (subst (λ (l : List ℕ). length l ≤ suc places) p.2 h)

pub decimal-once : {n : ℕ} {text text' : List ℕ} → DecimalOf n text → DecimalOf n text' → text ≡ text'
decimal-once {n} {text} {text'} r r' =
    let places = length text + length text' in
    before-only places n text r (omega arith) ∙ sym (before-only places n text' r' (omega arith))

-- as many places as a number has digits are enough
pub decimal-places : (places n : ℕ) → n < 10 ^ suc places → n < 10000000000 → length (decimal n) ≤ suc places
decimal-places places n h l =
    rw (decimal-once (decimal-right n l) (before-right places n h)) (omega (arith, length_before (suc places) n []))

pub signed-length : (x : ℕ) → x < 65536 → (1 ≤ length (signed_decimal x)) × (length (signed_decimal x) ≤ 6)
unfolding signed_decimal
signed-length x h = go (ltb x 32768) (length-decimal x).0 (decimal-places 4 x (omega arith) (omega arith)) (ltb-false x 32768)
  where
    go : (t : Bool) → 1 ≤ length (decimal x) → length (decimal x) ≤ 5 → (t ≡ false → 32768 ≤ x)
        → (1 ≤ length (cond t (decimal x) (45 ∷ decimal (65536 - x)))) × (length (cond t (decimal x) (45 ∷ decimal (65536 - x))) ≤ 6)
    go true s l e = omega arith
    go false s l e = let g = e refl in omega (arith, decimal-places 4 (65536 - x) (omega arith) (omega arith))
