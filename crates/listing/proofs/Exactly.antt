-- The listing as a function answers exactly as its meaning says.
use Prim.Native.Nat.{ℕ, ◌+◌}
use mathlib.Core.Bool.{Bool, true, false, cond, ◌||◌, not}
use mathlib.Core.List.{List, [], ◌∷◌, ◌++◌, map}
use mathlib.Core.Logic.{◌↔◌, inl, inr}
use mathlib.Core.Path.{◌≡◌, refl, sym, ap, subst, ◌∙◌}
use native.Mathlib.Omega.{arith}
use lib.Dec.{eqb, ltb}
use lib.ListN.{length}
use borrow.Author.Tests.{eqb-true, eqb-false, ltb-true, ltb-false, lt-ltb, le-ltb, eq-eqb, ne_eqb}
use Rattle.codes.specs.Limits.{longest_source}
use Rattle.codes.specs.Marks.{code_mark, reserved_mark}
use Rattle.isa.proofs.Tests.{never}
use Rattle.image.specs.Printing.{good_loan}
use Rattle.image.proofs.Outcomes.{loan-good}
use Rattle.listing.specs.Lines.{text_of_lines}
use Rattle.listing.specs.Runs.{Run, Runs}
use Rattle.listing.specs.Decodes.{FirstUndecoded}
use Rattle.listing.specs.Listing.{reserved_lines, RunLines, code-run, data_run, reserved-run, origin_at, LinesOf, ends, one-run, FirstBadRun, here, later}
use Rattle.listing.specs.Listing.{Leaves, refused, given, Replies, bad-loan, undecoded, too_long, gives}
use Rattle.listing.specs.Inner.Walk.{runs_from, Parts, whole, fails, parts_from, Found, found, failing, code_lines, run_lines, joined_by, lines_from}
use Rattle.listing.specs.Inner.Walk.{lines_of, reply_by, list_of}
use Rattle.listing.specs.declared.Entry.{Entry}
use Rattle.listing.specs.declared.Entry.TheVariants.{Instructs, Holds, Finish}
use Rattle.listing.proofs.Covered.{all-covered, one_list}
use Rattle.listing.proofs.Decoded.{whole-exactly, fails-exactly}

-- ---- a run

run_sound : (r : Run) (xs : List Entry) → run_lines r ≡ found xs → RunLines r xs
unfolding run_lines
run_sound r xs e = go (eqb r.mark code_mark) (eqb r.mark reserved_mark) refl refl e
  where
    code : (p : Parts) → parts_from r.cells 0 r.from ≡ p → code_lines p ≡ found xs → r.mark ≡ code_mark → RunLines r xs
    code (whole is) f e k =
        let z : map Instructs is ≡ xs = cc in
        subst (RunLines r) z (code-run k ((whole-exactly r.cells r.from is).0 f))
    code (fails a) f e k = never (cc)

    go : (b c : Bool) → eqb r.mark code_mark ≡ b → eqb r.mark reserved_mark ≡ c
        → cond b (code_lines (parts_from r.cells 0 r.from))
        (cond c (found (reserved_lines (length r.cells))) (found (map Holds r.cells))) ≡ found xs
        → RunLines r xs
    go true c k l e = code (parts_from r.cells 0 r.from) refl e (eqb-true r.mark code_mark k)
    go false true k l e =
        let z : reserved_lines (length r.cells) ≡ xs = cc in
        subst (RunLines r) z (reserved-run (eqb-true r.mark reserved_mark l))
    go false false k l e =
        let z : map Holds r.cells ≡ xs = cc in
        subst (RunLines r) z (data_run (eqb-false r.mark code_mark k) (eqb-false r.mark reserved_mark l))

pub run-complete : {r : Run} {xs : List Entry} → RunLines r xs → run_lines r ≡ found xs
unfolding run_lines
run-complete {r} (code-run {is} k h) = rw (eq-eqb r.mark code_mark k, (whole-exactly r.cells r.from is).1 h)
run-complete {r} (data_run n m) = rw (ne_eqb r.mark code_mark n, ne_eqb r.mark reserved_mark m)
run-complete {r} (reserved-run k) = rw (ne_eqb r.mark code_mark (λ e. absurd (omega (arith, k, e))), eq-eqb r.mark reserved_mark k)

bad-sound : (r : Run) (a : ℕ) → run_lines r ≡ failing a → (r.mark ≡ code_mark) × FirstUndecoded r.cells r.from a
unfolding run_lines
bad-sound r a e = go (eqb r.mark code_mark) (eqb r.mark reserved_mark) refl e
  where
    code : (p : Parts) → parts_from r.cells 0 r.from ≡ p → code_lines p ≡ failing a → FirstUndecoded r.cells r.from a
    code (whole is) f e = never (cc)
    code (fails b) f e = (fails-exactly r.cells r.from a).0 (f ∙ cc)

    go : (b c : Bool) → eqb r.mark code_mark ≡ b
        → cond b (code_lines (parts_from r.cells 0 r.from))
        (cond c (found (reserved_lines (length r.cells))) (found (map Holds r.cells))) ≡ failing a
        → (r.mark ≡ code_mark) × FirstUndecoded r.cells r.from a
    go true c k e = (eqb-true r.mark code_mark k, code (parts_from r.cells 0 r.from) refl e)
    go false true k e = never (cc)
    go false false k e = never (cc)

bad-complete : (r : Run) (a : ℕ) → r.mark ≡ code_mark → FirstUndecoded r.cells r.from a → run_lines r ≡ failing a
unfolding run_lines
bad-complete r a k h = rw (eq-eqb r.mark code_mark k, (fails-exactly r.cells r.from a).1 h)

-- ---- all runs

pub lines-complete : {at : ℕ} {rs : List Run} {es : List Entry} → LinesOf at rs es → lines_from at rs ≡ found es
unfolding lines_from
lines-complete ends = refl
lines-complete (one-run h t) = rw (run-complete h, lines-complete t)

pub bad_run_complete : {rs : List Run} {a : ℕ} → FirstBadRun rs a → (at : ℕ) → lines_from at rs ≡ failing a
unfolding lines_from
bad_run_complete (here {r} {rs} {a} k h) at = rw (bad-complete r a k h)
bad_run_complete (later {r} {rs} {a} {xs} h t) at = rw (run-complete h, bad_run_complete t (r.from + length r.cells))

pub lines-sound : (rs : List Run) (at : ℕ) (es : List Entry) → lines_from at rs ≡ found es → LinesOf at rs es
unfolding lines_from
lines-sound [] at es e = let z : Finish ∷ [] ≡ es = cc in subst (LinesOf at []) z ends
lines-sound (r ∷ rs) at es e =
    go (run_lines r) (lines_from (r.from + length r.cells) rs) refl refl e (λ fs f. lines-sound rs (r.from + length r.cells) fs f)
  where
    go : (p q : Found) → run_lines r ≡ p → lines_from (r.from + length r.cells) rs ≡ q → joined_by (origin_at at r.from) p q ≡ found es
        → ((fs : List Entry) → lines_from (r.from + length r.cells) rs ≡ found fs → LinesOf (r.from + length r.cells) rs fs)
        → LinesOf at (r ∷ rs) es
    go (found xs) (found fs) p q e h =
        let z : origin_at at r.from ++ (xs ++ fs) ≡ es = cc in
        subst (LinesOf at (r ∷ rs)) z (one-run (run_sound r xs p) (h fs q))
    go (found xs) (failing a) p q e h = never (cc)
    go (failing a) y p q e h = never (cc)

pub bad_run_sound : (rs : List Run) (at a : ℕ) → lines_from at rs ≡ failing a → FirstBadRun rs a
unfolding lines_from
bad_run_sound [] at a e = never (cc)
bad_run_sound (r ∷ rs) at a e =
    go (run_lines r) (lines_from (r.from + length r.cells) rs) refl refl e (λ b f. bad_run_sound rs (r.from + length r.cells) b f)
  where
    go : (p q : Found) → run_lines r ≡ p → lines_from (r.from + length r.cells) rs ≡ q → joined_by (origin_at at r.from) p q ≡ failing a
        → ((b : ℕ) → lines_from (r.from + length r.cells) rs ≡ failing b → FirstBadRun rs b)
        → FirstBadRun (r ∷ rs) a
    go (found xs) (found fs) p q e h = never (cc)
    go (found xs) (failing b) p q e h = later (run_sound r xs p) (h a (q ∙ e))
    go (failing b) y p q e h = let z = bad-sound r a (p ∙ cc) in here z.0 z.1

-- ---- the reply

module _ (memory marks room : List ℕ) where
  abbrev size : List Entry → ℕ
  size es = length (text_of_lines es)

  there : good_loan memory marks ≡ true → Runs memory marks 0 (runs_from 0 memory marks)
  there l = all-covered memory marks (loan-good memory marks l).0

  -- every memory, map and room has its reply
  pub replies : Replies memory marks room (list_of memory marks room)
  unfolding list_of
  replies = go (good_loan memory marks) (lines_of memory marks) refl refl
    where
      sized : (es : List Entry) (a b : Bool) → ltb (length room) (size es) ≡ a → ltb longest_source (size es) ≡ b → good_loan memory marks ≡ true
          → LinesOf 0 (runs_from 0 memory marks) es
          → Replies memory marks room (cond (a || b) (refused 3 0 room) (given (text_of_lines es) room))
      sized es true b p q l h = too_long l (there l) h (inl (ltb-true (length room) (size es) p))
      sized es false true p q l h = too_long l (there l) h (inr (ltb-true longest_source (size es) q))
      sized es false false p q l h = gives l (there l) h (ltb-false (length room) (size es) p) (ltb-false longest_source (size es) q)

      go : (b : Bool) (f : Found) → good_loan memory marks ≡ b → lines_of memory marks ≡ f
          → Replies memory marks room (cond (not b) (refused 1 0 room) (reply_by room f))
      go false f p q = bad-loan p
      go true (found es) p q =
          sized es (ltb (length room) (size es)) (ltb longest_source (size es)) refl refl p (lines-sound (runs_from 0 memory marks) 0 es q)
      go true (failing a) p q = undecoded p (there p) (bad_run_sound (runs_from 0 memory marks) 0 a q)

  -- and no other
  by_lines : (f : Found) → good_loan memory marks ≡ true → lines_of memory marks ≡ f → list_of memory marks room ≡ reply_by room f
  unfolding list_of
  by_lines f l e = rw (l, e)

  runs_here : {rs : List Run} → good_loan memory marks ≡ true → Runs memory marks 0 rs → rs ≡ runs_from 0 memory marks
  runs_here l h = one_list memory marks h (there l)

  pub replied : {r : Leaves} → Replies memory marks room r → list_of memory marks room ≡ r
  unfolding list_of
  replied (bad-loan n) = rw n
  replied (undecoded {rs} {a} l h b) =
      by_lines (failing a) l (ap (lines_from 0) (sym (runs_here l h)) ∙ bad_run_complete b 0)
  replied (too_long {rs} {es} l h t (inl z)) =
      by_lines (found es) l (ap (lines_from 0) (sym (runs_here l h)) ∙ lines-complete t) ∙ rw (lt-ltb (length room) (size es) z)
  replied (too_long {rs} {es} l h t (inr z)) =
      by_lines (found es) l (ap (lines_from 0) (sym (runs_here l h)) ∙ lines-complete t)
      ∙ rw (lt-ltb longest_source (size es) z) (either (ltb (length room) (size es)))
    where
      either : (b : Bool) → cond (b || true) (refused 3 0 room) (given (text_of_lines es) room) ≡ refused 3 0 room
      either true = refl
      either false = refl
  replied (gives {rs} {es} l h t y z) =
      by_lines (found es) l (ap (lines_from 0) (sym (runs_here l h)) ∙ lines-complete t)
      ∙ rw (le-ltb (length room) (size es) y, le-ltb longest_source (size es) z)

  pub exactly : (l : Leaves) → (list_of memory marks room ≡ l) ↔ Replies memory marks room l
  exactly l = (λ e. subst (Replies memory marks room) e replies, λ h. replied h)
