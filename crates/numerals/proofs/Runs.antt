-- The longest run of bytes below a rank: what a loop over it sees, and that it is what the rules split off.
use Prim.Native.Nat.{ℕ, suc, ◌+◌, ◌≤◌, ◌<◌}
use mathlib.Core.Bool.{Bool, true, false, cond, not}
use mathlib.Core.List.{List, [], ◌∷◌, ◌++◌}
use mathlib.Core.Path.{◌≡◌, refl, sym}
use native.Mathlib.Nat.{zero-add}
use native.Mathlib.Numerals.{add-one}
use native.Mathlib.Omega.{arith}
use lib.Dec.{ltb, eqb, T, ltb→lt, nltb→le, eqb-suc-zero}
use lib.Ieee.Fits.{and_l, and_r}
use lib.ListN.{length, get_or, take, drop, drop_of_length-le}
use lib.Seq.{drop-cons}
use borrow.Author.Tests.{lt-ltb, le-ltb}
use Rattle.numerals.specs.Bytes.{rank}
use Rattle.numerals.specs.Digits.{all_below, ends_word}
use Rattle.numerals.specs.Reading.{run}

pub run_more : (k : ℕ) (s : List ℕ) (i : ℕ) → i < length s → rank (get_or s i 0) < k → run k (drop i s) ≡ suc (run k (drop (i + 1) s))
unfolding run
run_more k s i h t = rw (add-one, drop-cons s i 0, lt-ltb (rank (get_or s i 0)) k t)

pub run-stop : (k : ℕ) (s : List ℕ) (i : ℕ) → i < length s → k ≤ rank (get_or s i 0) → run k (drop i s) ≡ 0
unfolding run
run-stop k s i h t = rw (drop-cons s i 0, le-ltb (rank (get_or s i 0)) k t)

pub run_end : (k : ℕ) (s : List ℕ) (i : ℕ) → length s ≤ i → run k (drop i s) ≡ 0
unfolding run
run_end k s i h = rw (drop_of_length-le s h)

-- a run of k is the bytes below k at its head, and the run of what follows them
pub run_append : (k : ℕ) (w rest : List ℕ) → T (all_below k w) → run k (w ++ rest) ≡ length w + run k rest
unfolding run
run_append k [] rest a = sym (zero-add (run k rest))
run_append k (b ∷ w) rest a =
    rw (lt-ltb (rank b) k (ltb→lt (rank b) k (and_l (ltb (rank b) k) (all_below k w) a)))
    (omega (arith, run_append k w rest (and_r (ltb (rank b) k) (all_below k w) a)))

pub run-all : (k : ℕ) (s : List ℕ) → T (all_below k (take (run k s) s))
unfolding run
run-all k [] = tt
run-all k (b ∷ s) = go (ltb (rank b) k) refl (run-all k s)
  where
    go : (t : Bool) → ltb (rank b) k ≡ t → T (all_below k (take (run k s) s)) → T (all_below k (take (cond t (suc (run k s)) 0) (b ∷ s)))
    go true e h = rw e h
    go false e h = tt

pub run_le : (k : ℕ) (s : List ℕ) → run k s ≤ length s
unfolding run
run_le k [] = omega arith
run_le k (b ∷ s) = go (ltb (rank b) k) (run_le k s)
  where
    go : (t : Bool) → run k s ≤ length s → cond t (suc (run k s)) 0 ≤ suc (length s)
    go true h = omega arith
    go false h = omega arith

-- a word ends where the run of its bytes is empty
pub ends-run : (rest : List ℕ) → ends_word rest ≡ eqb (run 17 rest) 0
unfolding run
ends-run [] = refl
ends-run (b ∷ rest) = go (ltb (rank b) 17)
  where
    go : (t : Bool) → not t ≡ eqb (cond t (suc (run 17 rest)) 0) 0
    go true = sym (eqb-suc-zero (run 17 rest))
    go false = refl

-- no run of digits goes on where a word ends
pub run_none : (k : ℕ) (rest : List ℕ) → k ≤ 17 → T (ends_word rest) → run k rest ≡ 0
unfolding run
run_none k [] h e = refl
run_none k (b ∷ rest) h e = rw (le-ltb (rank b) k (omega (arith, nltb→le (rank b) 17 e)))

pub run_of : (k : ℕ) (w rest : List ℕ) → k ≤ 17 → T (all_below k w) → T (ends_word rest) → run k (w ++ rest) ≡ length w
run_of k w rest h a e = omega (arith, run_append k w rest a, run_none k rest h e)
