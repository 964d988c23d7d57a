-- The 11 places of a decimal, filled from the end: what the loop of `unsigned_decimal` keeps, and its turns.
use Prim.Native.Nat.{ℕ, zero, suc, ◌+◌, ◌-◌, ◌/◌, ◌%◌, ◌≤◌, ◌<◌}
use mathlib.Core.Bool.{Bool, true, false, cond}
use mathlib.Core.List.{List, [], ◌∷◌, ◌++◌}
use mathlib.Core.Path.{◌≡◌, refl, ap, ◌∙◌}
use native.Mathlib.Omega.{arith}
use lib.Dec.{ltb}
use lib.ListN.{length, drop, set, replicate, length-append, length-replicate}
use lib.Seq.{drop_at}
use borrow.Author.Tests.{lt-ltb, le-ltb}
use Rattle.numerals.specs.Writing.{digit_byte, decimal_before, decimal, written}
use Rattle.numerals.specs.declared.Written.{Written}

-- the places from i on hold the decimal's end, those before it 0, and what is left of n gives the rest
pub record Filled (n : ℕ) (bytes : List ℕ) (i left : ℕ) : Type 0 where
  pub done : List ℕ
  pub are : bytes ≡ replicate i 0 ++ done
  pub rest : decimal_before (i - 1) left done ≡ decimal n
  pub room : i + length done ≡ 11

pub filled-start : (n : ℕ) → Filled n (replicate 11 0) 11 n
unfolding decimal
filled-start n = record { done = []; are = refl; rest = refl; room = refl }

set_last : (j d : ℕ) (done : List ℕ) → set (replicate (suc j) 0 ++ done) j d ≡ replicate j 0 ++ (d ∷ done)
set_last zero d done = refl
set_last (suc j) d done = ap (λ (l : List ℕ). 0 ∷ l) (set_last j d done)

module _ {n : ℕ} {bytes : List ℕ} {i left : ℕ} (f : Filled n bytes i left) where
  -- the next digit is put in front of what is written
  put : 1 < i → set bytes (i - 1) (digit_byte (left % 10)) ≡ replicate (i - 1) 0 ++ (digit_byte (left % 10) ∷ f.done)
  put h =
      let e : i ≡ suc (i - 1) = omega arith in
      ap (λ (l : List ℕ). set l (i - 1) (digit_byte (left % 10))) (f.are ∙ ap (λ (m : ℕ). replicate m 0 ++ f.done) e)
      ∙ set_last (i - 1) (digit_byte (left % 10)) f.done

  pub filled_more : 1 < i → 10 ≤ left → Filled n (set bytes (i - 1) (digit_byte (left % 10))) (i - 1) (left / 10)
  unfolding decimal_before
  filled_more h l =
      record {
        done = digit_byte (left % 10) ∷ f.done;
        are = put h;
        rest = let e : i - 1 ≡ suc (i - 1 - 1) = omega arith in rw (e, le-ltb left 10 l) at f.rest;
        room = omega (arith, f.room);
      }

  -- a decimal that ends at place i is written so
  ended : (text bytes : List ℕ) (start : ℕ) → start + length text ≡ 11 → bytes ≡ replicate start 0 ++ text → text ≡ decimal n
      → ◌≡◌ {A = Written} (record { bytes = bytes; start = start }) (written (decimal n))
  unfolding written
  ended text bytes start h b e =
      let s : start ≡ 11 - length text = omega arith in
      rw (← e, b, s)

  pub filled-done : 1 < i → left < 10 → ◌≡◌ {A = Written} (record { bytes = set bytes (i - 1) (digit_byte (left % 10)); start = i - 1 }) (written (decimal n))
  unfolding decimal_before
  filled-done h l =
      ended (digit_byte (left % 10) ∷ f.done) (set bytes (i - 1) (digit_byte (left % 10))) (i - 1) (omega (arith, f.room)) (put h)
      (let e : i - 1 ≡ suc (i - 1 - 1) = omega arith in rw (e, lt-ltb left 10 l) at f.rest)

  pub filled_full : 1 ≤ i → i ≤ 1 → ◌≡◌ {A = Written} (record { bytes = bytes; start = i }) (written (decimal n))
  unfolding decimal_before
  filled_full g h =
      ended f.done bytes i f.room f.are (let e : i - 1 ≡ 0 = omega arith in rw e at f.rest)

-- a decimal goes on from what is written, and is no longer than its places
pub length_before : (places n : ℕ) (done : List ℕ)
    → (length done ≤ length (decimal_before places n done)) × (length (decimal_before places n done) ≤ places + length done)
unfolding decimal_before
length_before zero n done = omega arith
length_before (suc places) n done = go (ltb n 10) (length_before places (n / 10) (digit_byte (n % 10) ∷ done))
  where
    more : List ℕ
    more = decimal_before places (n / 10) (digit_byte (n % 10) ∷ done)

    go : (t : Bool) → (suc (length done) ≤ length more) × (length more ≤ places + suc (length done))
        → (length done ≤ length (cond t (digit_byte (n % 10) ∷ done) more)) × (length (cond t (digit_byte (n % 10) ∷ done) more) ≤ suc places + length done)
    go true h = omega arith
    go false h = omega arith

pub length-decimal : (n : ℕ) → (1 ≤ length (decimal n)) × (length (decimal n) ≤ 10)
unfolding decimal decimal_before
length-decimal n = go (ltb n 10) (length_before 9 (n / 10) (digit_byte (n % 10) ∷ []))
  where
    more : List ℕ
    more = decimal_before 9 (n / 10) (digit_byte (n % 10) ∷ [])

    go : (t : Bool) → (1 ≤ length more) × (length more ≤ 9 + 1)
        → (1 ≤ length (cond t (digit_byte (n % 10) ∷ []) more)) × (length (cond t (digit_byte (n % 10) ∷ []) more) ≤ 10)
    go true h = omega arith
    go false h = omega arith

pub start_of : (n : ℕ) {w : Written} → w ≡ written (decimal n) → (1 ≤ w.start) × (w.start ≤ 11)
unfolding written
start_of n {w} e = let s : w.start ≡ 11 - length (decimal n) = ap (λ (v : Written). v.start) e in omega (arith, length-decimal n)

-- what is written, with a byte put in front
abbrev pub fronted : ℕ → Written → Written
fronted b w = record { bytes = set w.bytes (w.start - 1) b; start = w.start - 1 }

pub put_front : (b n : ℕ) {w : Written} → w ≡ written (decimal n) → fronted b w ≡ written (b ∷ decimal n)
unfolding written
put_front b n e =
    let j = 11 - suc (length (decimal n)) in
    let s : 11 - length (decimal n) ≡ suc j = omega (arith, length-decimal n) in
    let p : suc j - 1 ≡ j = omega arith in
    ap (fronted b) e ∙ rw (s, p, set_last j b (decimal n))

-- the text that is written stands from the start on, to the end of the 11 places
pub written-text : (text : List ℕ) → length text ≤ 11 → (drop (written text).start (written text).bytes ≡ text) × (length (written text).bytes ≡ 11)
unfolding written
written-text text h =
    let front = replicate {A = ℕ} (11 - length text) 0 in
    let l : length front ≡ 11 - length text = length-replicate (11 - length text) 0 in
    (drop_at front text (11 - length text) l, omega (arith, length-append front text))
