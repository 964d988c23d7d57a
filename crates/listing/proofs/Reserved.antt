-- A run of reserved cells is one line; one of 65,536 is two, and the listing of a whole memory.
use Prim.Native.Nat.{ℕ, ◌+◌, ◌≤◌, ◌<◌}
use mathlib.Core.Bool.{true}
use mathlib.Core.List.{List, [], ◌∷◌, ◌++◌}
use mathlib.Core.Path.{◌≡◌, refl, sym, ap, subst, ◌∙◌}
use native.Mathlib.Omega.{arith}
use lib.ListN.{length, get_or, get_or-eq_default}
use borrow.Author.Tests.{le-leb}
use Rattle.codes.specs.Marks.{free, reserved_mark}
use Rattle.numerals.specs.Bytes.{bytes, LF}
use Rattle.numerals.specs.Writing.{decimal, decimal_before}
use Rattle.image.specs.Printing.{good_loan}
use Rattle.image.proofs.Texts.{all_known}
use Rattle.image.proofs.Outcomes.{loan-marks}
use Rattle.listing.specs.Pieces.{text_of}
use Rattle.listing.specs.Lines.{text_of_lines}
use Rattle.listing.specs.Runs.{Run, run, FirstRun, Runs, over, next}
use Rattle.listing.specs.Listing.{reserved_lines, RunLines, reserved-run, LinesOf, ends, one-run, given, gives}
use Rattle.listing.specs.Inner.Walk.{list_of}
use Rattle.listing.specs.declared.Entry.TheVariants.{Reserves, Finish}
use Rattle.listing.proofs.Exactly.{replied}

pub as_one : {r : Run} → r.mark ≡ reserved_mark → length r.cells ≤ 65535 → RunLines r (Reserves (length r.cells) ∷ [])
unfolding reserved_lines
as_one {r} k h = let l : RunLines r (reserved_lines (length r.cells)) = reserved-run k in rw (le-leb (length r.cells) 65535 h) at l

-- ---- a memory of 65,536 reserved cells

module _ (memory marks room : List ℕ) (cells : length memory ≡ 65536) (map : length marks ≡ 65536)
    (all : (a : ℕ) → a < 65536 → get_or marks a free ≡ reserved_mark) where
  whole : Run
  whole = run 0 reserved_mark memory

  whole-first : FirstRun memory marks 0 whole
  unfolding whole
  whole-first = record {
    further = omega arith;
    between = λ a l u. absurd (omega arith);
    some = omega arith;
    within = omega arith;
    agrees = λ i l. let z : 0 + i ≡ i = omega arith in (ap (λ (a : ℕ). get_or memory a 0) z, all (0 + i) (omega arith));
    claimed = λ e. absurd (omega (arith, e));
    stops = λ e. let z = get_or-eq_default marks free {n = 0 + length memory} (omega arith) in absurd (omega (arith, e, z));
  }

  whole-runs : Runs memory marks 0 (whole ∷ [])
  unfolding whole
  whole-runs = next whole-first (over {at = 0 + length memory} (λ a l. get_or-eq_default marks free {n = a} (omega arith)))

  whole-lines : LinesOf 0 (whole ∷ []) (Reserves 65535 ∷ Reserves 1 ∷ Finish ∷ [])
  unfolding whole reserved_lines
  whole-lines =
      let l : RunLines (run 0 reserved_mark memory) (reserved_lines (length memory)) = reserved-run refl in
      one-run (subst (λ (n : ℕ). RunLines (run 0 reserved_mark memory) (reserved_lines n)) cells l) ends

  whole-good : good_loan memory marks ≡ true
  whole-good =
      sym (loan-marks memory marks (omega arith) (omega arith) (omega arith))
      ∙ all_known marks (λ i l. let z = all i (omega arith) in omega (arith, z))

  pub all-reserved : 20 ≤ length room
      → list_of memory marks room ≡ given (bytes "RES 65535" ++ (LF ∷ bytes "RES 1" ++ (LF ∷ bytes "END" ++ (LF ∷ [])))) room
  unfolding text_of_lines text_of decimal decimal_before
  all-reserved h = replied memory marks room (gives whole-good whole-runs whole-lines h (omega arith))
