-- The line of a number starts where the code finds it, and ends at its LF or at the source's end.
use Prim.Native.Nat.{ℕ, zero, suc, ◌+◌, ◌-◌, ◌≤◌, ◌<◌}
use mathlib.Core.Bool.{Bool, true, false}
use mathlib.Core.List.{List, []}
use mathlib.Core.Path.{◌≡◌, refl, sym, ap, ◌∙◌}
use native.Mathlib.Nat.{min-eq_left, min-eq_right, min-le_left}
use native.Mathlib.Omega.{arith}
use lib.Dec.{ltb}
use lib.ListN.{length, take, drop, length-drop, drop_of_length-le}
use borrow.Author.Tests.{ltb-true, ltb-false}
use Rattle.tokens.specs.Reading.{line_length, lines_of}
use Rattle.tokens.proofs.Top.{line-within, next-line, no_more_lines}
use Rattle.columns.specs.Columns.{line_after, line_numbered, next_start, start_after, line_start}

module _ (s : List ℕ) where
  abbrev pub line_at : ℕ → List ℕ
  line_at from = take (line_length (drop from s)) (drop from s)

  abbrev end : ℕ → ℕ
  end from = from + line_length (drop from s)

  pub end-within : (from : ℕ) → from ≤ length s → end from ≤ length s
  end-within from l = omega (arith, line-within (drop from s), length-drop from s)

  -- ---- the next line's start

  pub next_on : (from : ℕ) → end from < length s → next_start s from ≡ end from + 1
  unfolding next_start
  next_on from l = min-eq_right (omega (arith, l))

  pub next-over : (from : ℕ) → length s ≤ end from → next_start s from ≡ length s
  unfolding next_start
  next-over from l = min-eq_left (omega (arith, l))

  next-within : (from : ℕ) → next_start s from ≤ length s
  unfolding next_start
  next-within from = min-le_left (length s) (end from + 1)

  next-lines : (from : ℕ) → lines_of (drop (end from + 1) s) ≡ lines_of (drop (next_start s from) s)
  next-lines from = go (ltb (end from) (length s)) refl
    where
      go : (b : Bool) → ltb (end from) (length s) ≡ b → lines_of (drop (end from + 1) s) ≡ lines_of (drop (next_start s from) s)
      go true e = ap (λ (p : ℕ). lines_of (drop p s)) (sym (next_on from (ltb-true (end from) (length s) e)))
      go false e =
          let l = ltb-false (end from) (length s) e in
          no_more_lines s (end from + 1) (omega (arith, l)) ∙ sym (no_more_lines s (next_start s from) (omega (arith, next-over from l)))

  -- ---- a start so many lines on

  pub start-within : (i from : ℕ) → from ≤ length s → start_after s i from ≤ length s
  unfolding start_after
  start-within zero from l = l
  start-within (suc i) from l = start-within i (next_start s from) (next-within from)

  pub start_more : (left from : ℕ) → 0 < left → start_after s left from ≡ start_after s (left - 1) (next_start s from)
  unfolding start_after
  start_more zero from l = absurd (omega (arith, l))
  start_more (suc i) from l =
      let a : suc i - 1 ≡ i = omega arith in
      rw a

  pub start_there : (left from : ℕ) → left ≤ 0 → start_after s left from ≡ from
  unfolding start_after
  start_there left from l =
      let a : left ≡ 0 = omega (arith, l) in
      rw a

  -- ---- the line there

  over : (from : ℕ) → length s ≤ from → line_at from ≡ []
  unfolding line_length
  over from l = rw (drop_of_length-le s l)

  none_after : (i : ℕ) {ls : List (List ℕ)} → ls ≡ [] → line_after ls i ≡ []
  unfolding line_after
  none_after i e = rw e

  after : (i from : ℕ) → line_after (lines_of (drop from s)) i ≡ line_at (start_after s i from)
  unfolding line_after start_after
  after zero from = go (ltb from (length s)) refl
    where
      go : (b : Bool) → ltb from (length s) ≡ b → line_after (lines_of (drop from s)) 0 ≡ line_at from
      go true e = ap (λ (ls : List (List ℕ)). line_after ls 0) (next-line s from (ltb-true from (length s) e))
      go false e =
          let l = ltb-false from (length s) e in
          none_after 0 (no_more_lines s from l) ∙ sym (over from l)
  after (suc i) from = go (ltb from (length s)) refl ∙ after i (next_start s from)
    where
      go : (b : Bool) → ltb from (length s) ≡ b → line_after (lines_of (drop from s)) (suc i) ≡ line_after (lines_of (drop (next_start s from) s)) i
      go true e =
          ap (λ (ls : List (List ℕ)). line_after ls (suc i)) (next-line s from (ltb-true from (length s) e))
          ∙ ap (λ (ls : List (List ℕ)). line_after ls i) (next-lines from)
      go false e =
          let l = ltb-false from (length s) e in
          let m = no_more_lines s (next_start s from) (omega (arith, next-over from (omega (arith, l)))) in
          none_after (suc i) (no_more_lines s from l) ∙ sym (none_after i m)

  line-there : (k : ℕ) → line_at (line_start s k) ≡ line_numbered s k
  line-there k = sym (after (k - 1) 0)

  -- the part from where a line starts to where it ends
  module _ (k : ℕ) {from to : ℕ} (starts : from ≡ line_start s k) (ends : to ≡ end from) where
    pub part_within : to ≤ length s
    part_within =
        let l : from ≤ length s = omega (arith, starts, start-within (k - 1) 0 (omega arith)) in
        omega (arith, ends, end-within from l)

    pub part_there : take (to - from) (drop from s) ≡ line_numbered s k
    part_there =
        let m : to - from ≡ line_length (drop from s) = omega (arith, ends) in
        ap (λ (n : ℕ). take n (drop from s)) m ∙ ap line_at starts ∙ line-there k
