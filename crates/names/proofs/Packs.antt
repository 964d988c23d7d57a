-- A word is a name exactly where their numbers are the same: packing is one to one on digits from 1 to 255, and a byte is a name's
-- where its digit is.
use Prim.Native.Nat.{ℕ, zero, suc, min, ◌+◌, ◌*◌, ◌-◌, ◌≤◌, ◌<◌}
use mathlib.Core.Bool.{Bool, true, false, cond, ◌&&◌}
use mathlib.Core.List.{List, [], ◌∷◌, map}
use mathlib.Core.Path.{◌≡◌, refl, sym, ap, ◌∙◌}
use Prim.Native.String.{String}
use Rattle.std.proofs.Common.{Option, Some, None}
use Rattle.std.proofs.lemmas.List.Recursion.{is_position_or_len}
use Rattle.std.specs.List.{position}
use Rattle.std.specs.Option.{unwrap_or}
use native.Mathlib.Omega.{arith}
use lib.Dec.{leb, ltb, eqb, T, ltb→lt}
use lib.Ieee.Fits.{and_l, and_r}
use lib.ListN.{length, get_or, take, drop, length-map, drop_of_length-le}
use lib.Seq.{slice, slice-cons, length-slice, length-take-le, take_all, take-length}
use borrow.Author.Tests.{lt-ltb, le-ltb, ltb-true, ltb-false, leb-true, leb-false, lt-leb, eq-eqb, ne_eqb, eqb-true, eqb-false}
use Rattle.isa.proofs.Tests.{and-false, both_true}
use Rattle.numerals.specs.Bytes.{bytes, between}
use Rattle.names.specs.Names.{capital, same, is_named, place_in}
use Rattle.names.specs.Inner.Packing.{pack, digit, number_of, place_of}
use Rattle.names.proofs.Same.{same_other_by}

-- ---- a search

place-within : (n : ℕ) (ms : List ℕ) → place_of n ms ≤ length ms
unfolding place_of
place-within n [] = omega arith
place-within n (m ∷ ms) = go (eqb m n) (place-within n ms)
  where
    go : (b : Bool) → place_of n ms ≤ length ms → cond b 0 (suc (place_of n ms)) ≤ suc (length ms)
    go true h = omega arith
    go false h = omega arith

-- std's position, and the length where there is none
place-unwrapped : (n : ℕ) (ms : List ℕ) → place_of n ms ≡ unwrap_or (position (λ (m : ℕ). eqb m n) ms) (length ms)
unfolding place_of
place-unwrapped n ms =
    let e = is_position_or_len (place_of n) (λ (m : ℕ). eqb m n) refl one_more ms in
    rw (← e) (go (ltb (place_of n ms) (length ms)) refl)
  where
    one_more : (m : ℕ) (rest : List ℕ) → cond (eqb m n) 0 (suc (place_of n rest)) ≡ cond (eqb m n) 0 (1 + place_of n rest)
    one_more m rest = let one : suc (place_of n rest) ≡ 1 + place_of n rest = omega arith in ap (λ (k : ℕ). cond (eqb m n) 0 k) one

    go : (b : Bool) → ltb (place_of n ms) (length ms) ≡ b → place_of n ms ≡ unwrap_or (cond b (Some (place_of n ms)) None) (length ms)
    go true e = refl
    go false e = omega (arith, ltb-false (place_of n ms) (length ms) e, place-within n ms)

pub place_by_position : (r : Option ℕ) (n : ℕ) (ms : List ℕ) → r ≡ position (λ (m : ℕ). eqb m n) ms → unwrap_or r (length ms) ≡ place_of n ms
place_by_position r n ms e = rw e (sym (place-unwrapped n ms))

-- a place is at most the table's length, whatever the table holds
pub place-most : (r : Option ℕ) (n : ℕ) (ms : List ℕ) → r ≡ position (λ (m : ℕ). eqb m n) ms → unwrap_or r (length ms) ≤ length ms
place-most r n ms e = omega (arith, place_by_position r n ms e, place-within n ms)

-- ---- the number of a word

-- no more bytes count than there are
number-within : (s : List ℕ) (i e : ℕ) → length s ≤ e → number_of (slice i (length s) s) ≡ number_of (slice i e s)
number-within s i e h = ap (λ (w : List ℕ). number_of (drop i w)) (take-length s ∙ sym (take_all e s h))

pub number_cut : (s : List ℕ) (i e m : ℕ) → m ≡ min e (length s) → number_of (slice i m s) ≡ number_of (slice i e s)
number_cut s i e m q = go (leb (length s) e) refl
  where
    go : (b : Bool) → leb (length s) e ≡ b → number_of (slice i m s) ≡ number_of (slice i e s)
    go true h =
        let past = leb-true (length s) e h in
        let all : m ≡ length s = omega arith in
        rw all (number-within s i e past)
    go false h =
        let inside = leb-false (length s) e h in
        let its : m ≡ e = omega arith in
        rw its

-- none at all, where the end comes first
pub number-none : (s : List ℕ) (i e : ℕ) → e < i → e ≤ length s → number_of (slice i e s) ≡ 0
unfolding number_of pack
number-none s i e h l = rw (drop_of_length-le (take e s) {i = i} (omega (arith, length-take-le e s l)))

pub number-long : (s : List ℕ) (i e : ℕ) → 6 < e - i → e ≤ length s → number_of (slice i e s) ≡ 0
unfolding number_of
number-long s i e h l = rw (lt-ltb 6 (length (slice i e s)) (omega (arith, length-slice i e s l)))

pub number_short : (s : List ℕ) (i e : ℕ) → e - i ≤ 6 → e ≤ length s → number_of (slice i e s) ≡ pack (map digit (slice i e s))
unfolding number_of
number_short s i e h l = rw (le-ltb 6 (length (slice i e s)) (omega (arith, length-slice i e s l)))

-- one more byte in front
pub pack-step : (s : List ℕ) (i e : ℕ) → 0 < i → i ≤ e → e ≤ length s
    → pack (map digit (slice (i - 1) e s)) ≡ pack (map digit (slice i e s)) * 256 + digit (get_or s (i - 1) 0)
unfolding pack
pack-step s i e h k l =
    let q : suc (i - 1) ≡ i = omega arith in
    ap (λ (w : List ℕ). pack (map digit w)) (slice-cons (i - 1) e s 0 (omega arith) l)
    ∙ ap (λ (n : ℕ). pack (map digit (slice n e s)) * 256 + digit (get_or s (i - 1) 0)) q

-- what n bytes pack to is below this
abbrev pub room : ℕ → ℕ
room zero = 1
room (suc n) = room n * 256

room-grows : (m n : ℕ) → m ≤ n → room m ≤ room n
room-grows zero zero h = omega arith
room-grows zero (suc n) h = let k = room-grows zero n (omega arith) in omega arith
room-grows (suc m) zero h = absurd (omega arith)
room-grows (suc m) (suc n) h = let k = room-grows m n (omega arith) in omega arith

-- six bytes at most are room for 48 bits
pub room_six : (n : ℕ) → n ≤ 6 → room n ≤ 281474976710656
room_six n h = room-grows n 6 h

pub room-step : (v d i e : ℕ) → 0 < i → i ≤ e → v < room (e - i) → d < 256 → v * 256 + d < room (e - (i - 1))
room-step v d i e h k l m = let q : e - (i - 1) ≡ suc (e - i) = omega arith in rw q (omega arith)

-- ---- digits, which pack one to one

digit-between : (b : ℕ) → (0 < digit b) × (digit b < 256)
unfolding digit capital
digit-between b = go (leb 1 b) (leb b 127) refl refl (between 97 122 b) refl
  where
    go : (l h : Bool) → leb 1 b ≡ l → leb b 127 ≡ h → (c : Bool) → between 97 122 b ≡ c
        → (0 < cond (l && h) (cond c (b - 32) b) 1) × (cond (l && h) (cond c (b - 32) b) 1 < 256)
    go true true p q true e =
        let x = leb-true 97 b (both_true (leb 97 b) (leb b 122) e).0 in
        let y = leb-true b 127 q in
        (omega arith, omega arith)
    go true true p q false e = let x = leb-true 1 b p in let y = leb-true b 127 q in (omega arith, omega arith)
    go true false p q c e = (omega arith, omega arith)
    go false h p q c e = (omega arith, omega arith)

-- a byte that may be in a name
abbrev plain : ℕ → Bool
plain y = ltb 1 y && ltb y 128

abbrev plains : List ℕ → Bool
plains [] = true
plains (y ∷ ys) = plain y && plains ys

above-one : (y : ℕ) → T (plain y) → 1 < y
above-one y t = ltb→lt 1 y (and_l (ltb 1 y) (ltb y 128) t)

below_128 : (y : ℕ) → T (plain y) → y < 128
below_128 y t = ltb→lt y 128 (and_r (ltb 1 y) (ltb y 128) t)

-- a byte's capital is such a byte where its digit is
same-digit : (x y : ℕ) → T (plain y) → eqb (capital x) y ≡ eqb (digit x) y
unfolding digit capital
same-digit x y t = go (leb 1 x) (leb x 127) refl refl (above-one y t) (below_128 y t)
  where
    go : (l h : Bool) → leb 1 x ≡ l → leb x 127 ≡ h → 1 < y → y < 128
        → eqb (cond (between 97 122 x) (x - 32) x) y ≡ eqb (cond (l && h) (cond (between 97 122 x) (x - 32) x) 1) y
    go true true p q u v = refl
    go true false p q u v =
        let k = leb-false x 127 q in
        rw (lt-leb x 122 (omega arith), and-false (leb 97 x), ne_eqb x y (omega arith), ne_eqb 1 y (omega arith))
    go false h p q u v =
        let k = leb-false 1 x p in
        rw (lt-leb 97 x (omega arith), ne_eqb x y (omega arith), ne_eqb 1 y (omega arith))

same-pack : (w n : List ℕ) → T (plains n) → same (map capital w) n ≡ eqb (pack n) (pack (map digit w))
unfolding pack
same-pack [] [] c = refl
same-pack [] (y ∷ ys) c = let v = above-one y (and_l (plain y) (plains ys) c) in sym (ne_eqb (pack ys * 256 + y) 0 (omega arith))
same-pack (x ∷ xs) [] c = let v = digit-between x in sym (ne_eqb 0 (pack (map digit xs) * 256 + digit x) (omega arith))
same-pack (x ∷ xs) (y ∷ ys) c =
    let t = and_l (plain y) (plains ys) c in
    rw (same-digit x y t)
    (go (eqb (digit x) y) (eqb (pack ys) (pack (map digit xs))) refl refl (digit-between x).1 (below_128 y t)
    (same-pack xs ys (and_r (plain y) (plains ys) c)))
  where
    go : (a b : Bool) → eqb (digit x) y ≡ a → eqb (pack ys) (pack (map digit xs)) ≡ b → digit x < 256 → y < 128
        → same (map capital xs) ys ≡ eqb (pack ys) (pack (map digit xs))
        → (eqb (digit x) y && same (map capital xs) ys) ≡ eqb (pack ys * 256 + y) (pack (map digit xs) * 256 + digit x)
    go true true e f u v i =
        let g = eqb-true (digit x) y e in
        let h = eqb-true (pack ys) (pack (map digit xs)) f in
        rw (e, i, f) (sym (eq-eqb (pack ys * 256 + y) (pack (map digit xs) * 256 + digit x) (omega arith)))
    go true false e f u v i =
        let h = eqb-false (pack ys) (pack (map digit xs)) f in
        rw (e, i, f) (sym (ne_eqb (pack ys * 256 + y) (pack (map digit xs) * 256 + digit x) (λ q. h (omega arith))))
    go false b e f u v i =
        let h = eqb-false (digit x) y e in
        rw e (sym (ne_eqb (pack ys * 256 + y) (pack (map digit xs) * 256 + digit x) (λ q. h (omega arith))))

-- ---- names

-- a name of one to six such bytes
abbrev short : List ℕ → Bool
short [] = false
short (y ∷ ys) = plains (y ∷ ys) && ltb (length ys) 6

abbrev pub all_short : List String → Bool
all_short [] = true
all_short (name ∷ names) = short (bytes name) && all_short names

abbrev pub numbers : List String → List ℕ
numbers = map (λ (name : String). pack (bytes name))

-- a word is a name where its number is the name's
same_number : (w n : List ℕ) → T (short n) → same (map capital w) n ≡ eqb (pack n) (number_of w)
unfolding number_of pack
same_number w [] c = absurd c
same_number w (y ∷ ys) c =
    go (ltb 6 (length w)) refl (and_l (plains (y ∷ ys)) (ltb (length ys) 6) c)
    (ltb→lt (length ys) 6 (and_r (plains (y ∷ ys)) (ltb (length ys) 6) c))
  where
    go : (b : Bool) → ltb 6 (length w) ≡ b → T (plains (y ∷ ys)) → length ys < 6
        → same (map capital w) (y ∷ ys) ≡ eqb (pack (y ∷ ys)) (cond b 0 (pack (map digit w)))
    go true e p l =
        let k = ltb-true 6 (length w) e in
        let v = above-one y (and_l (plain y) (plains ys) p) in
        same_other_by length (map capital w) (y ∷ ys) (λ q. absurd (omega (arith, length-map w capital)))
        ∙ sym (ne_eqb (pack ys * 256 + y) 0 (omega arith))
    go false e p l = same-pack w (y ∷ ys) p

-- so a word's place among names is its number's place among their numbers
pub place-number : (w : List ℕ) (names : List String) → T (all_short names) → place_in w names ≡ place_of (number_of w) (numbers names)
unfolding place_in place_of is_named
place-number w [] c = refl
place-number w (name ∷ names) c =
    rw (same_number w (bytes name) (and_l (short (bytes name)) (all_short names) c), place-number w names (and_r (short (bytes name)) (all_short names) c))
