-- Lines: where the first ends, as a loop sees it, that every source has exactly one list of them, and what no LF is in.
use Prim.Native.Nat.{ℕ, suc, ◌+◌, ◌≤◌, ◌<◌}
use mathlib.Core.Bool.{Bool, true, false, cond, not}
use mathlib.Core.List.{List, [], ◌∷◌, ◌++◌}
use mathlib.Core.Path.{◌≡◌, refl, sym, ap, subst, ◌∙◌}
use native.Mathlib.Numerals.{add-one}
use native.Mathlib.Omega.{arith}
use lib.Dec.{eqb, ltb, T}
use lib.Ieee.Bits.{is_true}
use lib.Ieee.Fits.{and_l, and_r}
use lib.ListN.{length, get_or, take, drop, length-drop, drop_of_length-le}
use lib.Seq.{drop-cons, drop-drop}
use borrow.Author.Tests.{eq-eqb, ne_eqb, eqb-true, ltb-true, not-true}
use Rattle.numerals.specs.Bytes.{LF, rank}
use Rattle.numerals.specs.Digits.{all_below}
use Rattle.tokens.specs.Bytes.{is_mark, is_blank}
use Rattle.tokens.specs.Lines.{no_lf, Lines, none, last, more}
use Rattle.tokens.specs.Reading.{line_length, before, lines_of}

-- ---- the loop

module _ (s : List ℕ) (i : ℕ) where
  pub line-more : i < length s → (get_or s i 0 ≡ LF → ⊥) → line_length (drop i s) ≡ suc (line_length (drop (i + 1) s))
  unfolding line_length
  line-more h n = rw (add-one, drop-cons s i 0, ne_eqb (get_or s i 0) LF n)

  pub line-stop : i < length s → get_or s i 0 ≡ LF → line_length (drop i s) ≡ 0
  unfolding line_length
  line-stop h e = rw (drop-cons s i 0, eq-eqb (get_or s i 0) LF e)

  pub line-none : length s ≤ i → line_length (drop i s) ≡ 0
  unfolding line_length
  line-none h = rw (drop_of_length-le s h)

-- ---- one list of lines

-- a byte of a line is no LF
head : (b : ℕ) (bs : List ℕ) → T (no_lf (b ∷ bs)) → eqb b LF ≡ false
head b bs t = not-true (eqb b LF) (is_true (not (eqb b LF)) (and_l (not (eqb b LF)) (no_lf bs) t))

tail : (b : ℕ) (bs : List ℕ) → T (no_lf (b ∷ bs)) → T (no_lf bs)
tail b bs t = and_r (not (eqb b LF)) (no_lf bs) t

of_last : (b : ℕ) (bs : List ℕ) → T (no_lf (b ∷ bs)) → lines_of (b ∷ bs) ≡ (b ∷ bs) ∷ []
unfolding lines_of
of_last b [] t = rw (head b [] t)
of_last b (c ∷ bs) t = rw (head b (c ∷ bs) t) (ap (before b) (of_last c bs (tail b (c ∷ bs) t)))

of_more : (line rest : List ℕ) → T (no_lf line) → lines_of (line ++ (LF ∷ rest)) ≡ line ∷ lines_of rest
unfolding lines_of
of_more [] rest t = refl
of_more (b ∷ line) rest t = rw (head b line t) (ap (before b) (of_more line rest (tail b line t)))

-- the lines of a source are those that the reader gives
pub lines-complete : {s : List ℕ} {ls : List (List ℕ)} → Lines s ls → lines_of s ≡ ls
unfolding lines_of
lines-complete none = refl
lines-complete (last {b} {bs} t) = of_last b bs t
lines-complete (more {line} {rest} t r) = of_more line rest t ∙ ap (λ (ls : List (List ℕ)). line ∷ ls) (lines-complete r)

joined : (b : ℕ) → eqb b LF ≡ false → {s : List ℕ} {ls : List (List ℕ)} → Lines s ls → Lines (b ∷ s) (before b ls)
joined b e none = last {b = b} {bs = []} (rw e tt)
joined b e (last {b = c} {bs} t) = last {b = b} {bs = c ∷ bs} (rw e t)
joined b e (more {line} t r) = more {line = b ∷ line} (rw e t) r

pub lines-sound : (s : List ℕ) → Lines s (lines_of s)
unfolding lines_of
lines-sound [] = none
lines-sound (b ∷ bs) = go (eqb b LF) refl (lines-sound bs)
  where
    go : (t : Bool) → eqb b LF ≡ t → Lines bs (lines_of bs) → Lines (b ∷ bs) (cond t ([] ∷ lines_of bs) (before b (lines_of bs)))
    go true e r = rw (eqb-true b LF e) (more {line = []} tt r)
    go false e r = joined b e r

pub lines-once : {s : List ℕ} {ls ls' : List (List ℕ)} → Lines s ls → Lines s ls' → ls ≡ ls'
lines-once r q = sym (lines-complete r) ∙ lines-complete q

-- ---- the first line

whole_length : (l : List ℕ) → T (no_lf l) → line_length l ≡ length l
unfolding line_length
whole_length [] t = refl
whole_length (b ∷ bs) t = rw (head b bs t) (ap suc (whole_length bs (tail b bs t)))

more-length : (line rest : List ℕ) → T (no_lf line) → line_length (line ++ (LF ∷ rest)) ≡ length line
unfolding line_length
more-length [] rest t = refl
more-length (b ∷ line) rest t = rw (head b line t) (ap suc (more-length line rest (tail b line t)))

pub first-length : {s l : List ℕ} {ls : List (List ℕ)} → Lines s (l ∷ ls) → line_length s ≡ length l
first-length (last {b} {bs} t) = whole_length (b ∷ bs) t
first-length (more {line} {rest} t r) = more-length line rest t

pub line-within : (l : List ℕ) → line_length l ≤ length l
unfolding line_length
line-within [] = omega arith
line-within (b ∷ l) = go (eqb b LF) (line-within l)
  where
    go : (t : Bool) → line_length l ≤ length l → cond t 0 (suc (line_length l)) ≤ suc (length l)
    go true h = omega arith
    go false h = omega arith

-- ---- from line to line

lines_on : (s : List ℕ) → 0 < length s → lines_of s ≡ take (line_length s) s ∷ lines_of (drop (line_length s + 1) s)
unfolding lines_of line_length
lines_on [] h = absurd (omega arith)
lines_on (b ∷ bs) h = go (eqb b LF) bs (lines_on bs)
  where
    go : (t : Bool) (bs : List ℕ) → (0 < length bs → lines_of bs ≡ take (line_length bs) bs ∷ lines_of (drop (line_length bs + 1) bs))
        → cond t ([] ∷ lines_of bs) (before b (lines_of bs))
        ≡ take (cond t 0 (suc (line_length bs))) (b ∷ bs) ∷ lines_of (drop (cond t 0 (suc (line_length bs)) + 1) (b ∷ bs))
    go true bs h = refl
    go false [] h = refl
    go false (c ∷ bs) h = rw (add-one (suc (line_length (c ∷ bs)))) (ap (before b) (rw (add-one (line_length (c ∷ bs))) at (h (omega arith))))

-- the lines from a place on: the one there, up to its end, and those from the place after its LF on
pub lines_from : (s : List ℕ) (at : ℕ) → at < length s
    → lines_of (drop at s) ≡ take (line_length (drop at s)) (drop at s) ∷ lines_of (drop (at + line_length (drop at s) + 1) s)
lines_from s at h =
    let n = line_length (drop at s) in
    let e : at + (n + 1) ≡ at + n + 1 = omega arith in
    rw (← e, ← drop-drop (n + 1) at s) (lines_on (drop at s) (omega (arith, length-drop at s)))

pub lines-over : (s : List ℕ) (at : ℕ) → length s ≤ at → lines_of (drop at s) ≡ []
unfolding lines_of
lines-over s at h = rw (drop_of_length-le s h)

-- ---- texts without LF: of word bytes, a mark, and side by side

below_no_LF : (b k : ℕ) → k ≤ 17 → ltb (rank b) k ≡ true → b ≡ LF → ⊥
unfolding rank
below_no_LF b k low e f = let l = ltb-true (rank LF) k (subst (λ (x : ℕ). ltb (rank x) k ≡ true) f e) in omega arith

pub word-no_lf : (k : ℕ) (w : List ℕ) → k ≤ 17 → T (all_below k w) → T (no_lf w)
word-no_lf k [] low t = tt
word-no_lf k (b ∷ w) low t =
    let e = is_true (ltb (rank b) k) (and_l (ltb (rank b) k) (all_below k w) t) in
    rw (ne_eqb b LF (below_no_LF b k low e)) (word-no_lf k w low (and_r (ltb (rank b) k) (all_below k w) t))

pub mark-no_lf : (b : ℕ) → T (is_mark b) → T (no_lf (b ∷ []))
unfolding is_mark is_blank
mark-no_lf b t = rw (ne_eqb b LF (λ f. subst (λ (x : ℕ). T (is_mark x)) f t)) tt

pub join-no_lf : (a b : List ℕ) → T (no_lf a) → T (no_lf b) → T (no_lf (a ++ b))
join-no_lf [] b t u = u
join-no_lf (x ∷ a) b t u = rw (head x a t) (join-no_lf a b (tail x a t) u)
