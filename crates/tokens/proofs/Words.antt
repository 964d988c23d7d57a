-- Words: the longest run of bytes of words, and so one at most.
use Prim.Native.Nat.{ℕ, suc, ◌+◌, ◌≤◌, ◌<◌}
use mathlib.Core.Bool.{Bool, true, false, cond, not}
use mathlib.Core.List.{List, [], ◌∷◌, ◌++◌}
use mathlib.Core.Path.{◌≡◌, refl, sym, ap, ◌∙◌}
use native.Mathlib.Omega.{arith}
use lib.Dec.{ltb, T}
use lib.Ieee.Bits.{is_true}
use lib.Ieee.Fits.{and_l, and_r}
use lib.ListN.{length, get_or, take, drop, take-append-drop}
use lib.Seq.{drop-cons, drop-drop, take-append_seam, drop-append_seam}
use borrow.Author.Tests.{not-true, ltb-true}
use Rattle.numerals.specs.Bytes.{is_digit, is_word_byte, rank}
use Rattle.numerals.specs.Digits.{all_below, ends_word}
use Rattle.numerals.specs.Reading.{run}
use Rattle.numerals.proofs.Runs.{run_more, run_append, run-all, run_of}
use Rattle.tokens.specs.Words.{Word}
use Rattle.tokens.proofs.Classes.{word_ranks}

-- the run of a word's bytes is the word
pub word-run : {text w rest : List ℕ} → Word text w rest → run 17 text ≡ length w
word-run {w = w} {rest} r = rw r.split (run_of 17 w rest (omega arith) r.all r.longest)

-- no run of bytes of words at the head of the text is longer
pub word-longest : {text w rest : List ℕ} → Word text w rest → (v l : List ℕ) → text ≡ v ++ l → T (all_below 17 v) → length v ≤ length w
word-longest r v l e a = omega (arith, word-run r, ap (run 17) e, run_append 17 v l a)

pub word-once : {text w rest w' rest' : List ℕ} → Word text w rest → Word text w' rest' → (w ≡ w') × (rest ≡ rest')
word-once {w = w} {rest} {w'} {rest'} r q =
    let n : length w ≡ length w' = sym (word-run r) ∙ word-run q in
    let e : w ++ rest ≡ w' ++ rest' = sym r.split ∙ q.split in (
      sym (take-append_seam w rest) ∙ rw (e, n) (take-append_seam w' rest'),
      sym (drop-append_seam w rest) ∙ rw (e, n) (drop-append_seam w' rest'),
    )

-- a word's first byte
pub record Begins (text : List ℕ) : Type 0 where
  pub byte : ℕ
  pub more : List ℕ
  pub split : text ≡ byte ∷ more
  pub word : is_word_byte byte ≡ true
  pub no_digit : is_digit byte ≡ false

pub word-begins : {text w rest : List ℕ} → Word text w rest → Begins text
word-begins {w = []} r = absurd r.begins
word-begins {w = b ∷ w} {rest} r =
    record {
      byte = b;
      more = w ++ rest;
      split = r.split;
      word = is_true (is_word_byte b) (and_l (is_word_byte b) (not (is_digit b)) r.begins);
      no_digit = not-true (is_digit b) (is_true (not (is_digit b)) (and_r (is_word_byte b) (not (is_digit b)) r.begins));
    }

run_ends : (s : List ℕ) → T (ends_word (drop (run 17 s) s))
unfolding run
run_ends [] = tt
run_ends (b ∷ s) = go (ltb (rank b) 17) refl (run_ends s)
  where
    go : (t : Bool) → ltb (rank b) 17 ≡ t → T (ends_word (drop (run 17 s) s)) → T (ends_word (drop (cond t (suc (run 17 s)) 0) (b ∷ s)))
    go true e h = h
    go false e h = rw e tt

-- the run from a place on, if a word begins there
module _ (s : List ℕ) (at : ℕ) (l : at < length s) (w : is_word_byte (get_or s at 0) ≡ true) where
  pub word_some : 0 < run 17 (drop at s)
  word_some = omega (arith, run_more 17 s at l (ltb-true (rank (get_or s at 0)) 17 (sym (word_ranks (get_or s at 0)) ∙ w)))

  pub word_stands : is_digit (get_or s at 0) ≡ false
      → Word (drop at s) (take (run 17 (drop at s)) (drop at s)) (drop (at + run 17 (drop at s)) s)
  word_stands d =
      let n = run 17 (drop at s) in
      record {
        split = rw (← drop-drop n at s) (sym (take-append-drop n (drop at s)));
        begins =
            rw (run_more 17 s at l (ltb-true (rank (get_or s at 0)) 17 (sym (word_ranks (get_or s at 0)) ∙ w)), drop-cons s at 0 l, w, d) tt;
        all = run-all 17 (drop at s);
        longest = rw (← drop-drop n at s) (run_ends (drop at s));
      }
