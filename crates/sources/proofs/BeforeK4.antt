-- K4 changed no answer but 5, which is 15 or 16 now: the two checks of operands fail where the one did, and each other check is as it was.
use Prim.Native.Nat.{ℕ, ◌+◌}
use mathlib.Core.Bool.{Bool, true, false, ◌&&◌}
use mathlib.Core.List.{List, [], ◌∷◌, map}
use mathlib.Core.Logic.{◌↔◌, ◌⊎◌, inl, inr}
use mathlib.Core.Path.{◌≡◌, refl, sym, subst}
use lib.ListN.{length, drop}
use Rattle.isa.specs.declared.Opcode.{Opcode}
use Rattle.operands.specs.Checks.{right_count, kind_allowed, fits}
use Rattle.operands.specs.declared.Written.{Written}
use Rattle.statements.specs.Statements.{Reading, nothing, instruction, org, equ, res, cells, end}
use Rattle.statements.specs.FirstFailing.{Check, Pass, First}
use Rattle.statements.specs.Checks.{OfReading, WrongCount, WrongKind, WrongKindAt}
use Rattle.statements.proofs.FirstFails.{first-once, pass-none, answered, first-answered, pass-answered, first-joined, pass-joined}
use Rattle.statements.proofs.Judgements.{kinds-apart}
use Rattle.statements.proofs.Labelling.{never}
use Rattle.sources.specs.Sources.{Said}
use Rattle.sources.specs.Placing.{Bound, Place, start, judged_line, after, place_of, bindings}
use Rattle.sources.specs.Uses.{Use, uses_of}
use Rattle.sources.specs.Order.{Refusal, ◌on◌, loan_checks, line_checks, Passed, end_checks, use_checks, late_checks, FirstFailing}
use Rattle.sources.specs.Order as Now
use Rattle.sources.specs.BeforeK4.{before, Unfit, checks_before, PassedBefore, FirstBefore, of_loans, of_line, of_labels}
use Rattle.sources.specs.Inner.Assembling.{Verdict, passes, refused, read_line, line_verdict}
use Rattle.sources.proofs.Verdicts.{Tells}
use Rattle.sources.proofs.LineDecided.{line-tells}
use Rattle.sources.proofs.Numbers.{Each, first_such, joined}

-- ---- operands that do not fit

module _ (op : Opcode) (os : List Written) where
  fits_not : (fits op os ≡ false) → WrongCount (instruction op os) ⊎ WrongKind (instruction op os)
  unfolding fits
  fits_not e = go (right_count op os) (kind_allowed op os 0) (kind_allowed op os 1) refl refl refl e
    where
      go : (c k l : Bool) → right_count op os ≡ c → kind_allowed op os 0 ≡ k → kind_allowed op os 1 ≡ l → (c && (k && l)) ≡ false
          → WrongCount (instruction op os) ⊎ WrongKind (instruction op os)
      go false k l p q s e = inl p
      go true false l p q s e = inr (p, (0, q))
      go true true false p q s e = inr (p, (1, s))
      go true true true p q s e = never (cc)

  miscounted : right_count op os ≡ false → fits op os ≡ false
  unfolding fits
  miscounted c = rw c

  misfit : WrongKindAt 0 (instruction op os) ⊎ WrongKindAt 1 (instruction op os) → fits op os ≡ false
  unfolding fits
  misfit (inl (c, k)) = rw (c, k)
  misfit (inr (c, l)) = go (kind_allowed op os 0)
    where
      go : (k : Bool) → (right_count op os && (k && kind_allowed op os 1)) ≡ false
      go true = rw (c, l)
      go false = rw c

unfit_apart : (r : Reading) → Unfit r → WrongCount r ⊎ WrongKind r
unfit_apart nothing h = absurd h
unfit_apart (instruction op os) h = fits_not op os h
unfit_apart (org e) h = absurd h
unfit_apart (equ e) h = absurd h
unfit_apart (res e) h = absurd h
unfit_apart (cells is) h = absurd h
unfit_apart end h = absurd h

count_unfit : (r : Reading) → WrongCount r → Unfit r
count_unfit nothing h = absurd h
count_unfit (instruction op os) h = miscounted op os h
count_unfit (org e) h = absurd h
count_unfit (equ e) h = absurd h
count_unfit (res e) h = absurd h
count_unfit (cells is) h = absurd h
count_unfit end h = absurd h

kind_unfit : (r : Reading) → WrongKind r → Unfit r
kind_unfit nothing h = absurd h
kind_unfit (instruction op os) h = misfit op os (kinds-apart (instruction op os) h)
kind_unfit (org e) h = absurd h
kind_unfit (equ e) h = absurd h
kind_unfit (res e) h = absurd h
kind_unfit (cells is) h = absurd h
kind_unfit end h = absurd h

-- ---- a line's checks

module _ (M k : ℕ) (p : Place) (bytes : List ℕ) where
  apart : OfReading bytes Unfit → OfReading bytes WrongCount ⊎ OfReading bytes WrongKind
  apart (l, r, x, h) = go (unfit_apart r h)
    where
      go : WrongCount r ⊎ WrongKind r → OfReading bytes WrongCount ⊎ OfReading bytes WrongKind
      go (inl c) = inl (l, r, x, c)
      go (inr c) = inr (l, r, x, c)

  count : OfReading bytes WrongCount → OfReading bytes Unfit
  count (l, r, x, h) = (l, r, x, count_unfit r h)

  kind : OfReading bytes WrongKind → OfReading bytes Unfit
  kind (l, r, x, h) = (l, r, x, kind_unfit r h)

  -- the two checks of operands are one
  as_one : (old : Refusal) → First (answered before (line_checks M k p bytes)) old → First (checks_before M k p bytes) old
  unfolding line_checks checks_before First
  as_one old (inl f) = inl f
  as_one old (inr (a, inl f)) = inr (a, inl f)
  as_one old (inr (a, inr (b, inl f))) = inr (a, inr (b, inl f))
  as_one old (inr (a, inr (b, inr (c, inl f)))) = inr (a, inr (b, inr (c, inl f)))
  as_one old (inr (a, inr (b, inr (c, inr (d, h))))) = inr (a, inr (b, inr (c, inr (d, first-joined (5 on k) apart (drop 5 (checks_before M k p bytes)) count kind old h))))

  line_first : (why : Refusal) → First (line_checks M k p bytes) why → First (checks_before M k p bytes) (before why)
  line_first why f = as_one (before why) (first-answered before (line_checks M k p bytes) why f)

  line-pass : Pass (line_checks M k p bytes) → Pass (checks_before M k p bytes)
  unfolding line_checks checks_before Pass
  line-pass h = (h.0, (h.1.0, (h.1.1.0, (h.1.1.1.0, pass-joined (5 on k) apart (drop 5 (checks_before M k p bytes)) (pass-answered before (drop 4 (line_checks M k p bytes)) h.1.1.1.1)))))

  -- and back, as the line passes now or fails
  line_first_back : {old : Refusal} → First (checks_before M k p bytes) old → (why : Refusal) × First (line_checks M k p bytes) why × (before why ≡ old)
  line_first_back {old} f = go (line_verdict M k p (read_line bytes)) (line-tells M k p bytes)
    where
      go : (v : Verdict) → Tells v (line_checks M k p bytes) → (why : Refusal) × First (line_checks M k p bytes) why × (before why ≡ old)
      go passes h = absurd (pass-none (checks_before M k p bytes) old (line-pass h) f)
      go (refused why) g = (why, g, first-once (checks_before M k p bytes) (line_first why g) f)

  line_pass_back : Pass (checks_before M k p bytes) → Pass (line_checks M k p bytes)
  line_pass_back h = go (line_verdict M k p (read_line bytes)) (line-tells M k p bytes)
    where
      go : (v : Verdict) → Tells v (line_checks M k p bytes) → Pass (line_checks M k p bytes)
      go passes g = g
      go (refused why) f = absurd (pass-none (checks_before M k p bytes) (before why) h (line_first why f))

-- ---- lines that pass

pub passed-before : (M k : ℕ) (p : Place) (xs : List Said) → Passed M k p xs ↔ PassedBefore M k p xs
unfolding Passed PassedBefore
passed-before M k p xs = (there k p xs, back k p xs)
  where
    there : (k : ℕ) (p : Place) (xs : List Said) → Passed M k p xs → PassedBefore M k p xs
    there k p [] h = tt
    there k p (x ∷ xs) h = (line-pass M k p x.bytes h.0, there (k + 1) (after p (judged_line x)) xs h.1)

    back : (k : ℕ) (p : Place) (xs : List Said) → PassedBefore M k p xs → Passed M k p xs
    back k p [] h = tt
    back k p (x ∷ xs) h = (line_pass_back M k p x.bytes h.0, back (k + 1) (after p (judged_line x)) xs h.1)

-- ---- the checks beside those of lines have the numbers that they had

abbrev Kept : Refusal → Type 0
Kept why = before why ≡ why

loans-kept : (M N : ℕ) (source : List ℕ) → Each Kept (loan_checks M N source)
unfolding Each loan_checks
loans-kept M N source = (refl, (refl, tt))

uses-kept : (bs : List Bound) (us : List Use) → Each Kept (use_checks bs us)
unfolding Each use_checks
uses-kept bs [] = tt
uses-kept bs (u ∷ us) = (refl, (refl, uses-kept bs us))

late-kept : (p : Place) (xs : List Said) → Each Kept (late_checks p xs)
unfolding Each late_checks end_checks
late-kept p xs =
    joined Kept (end_checks (length xs) p) (use_checks (bindings p) (uses_of 1 0 (map judged_line xs))) (refl, tt)
    (uses-kept (bindings p) (uses_of 1 0 (map judged_line xs)))

module _ (cs : List (Check Refusal)) (each : Each Kept cs) where
  kept : (why : Refusal) → First cs why → First cs (before why)
  kept why f = subst (First cs) (sym (first_such Kept cs each f)) f

  kept_back : {old : Refusal} → First cs old → (why : Refusal) × First cs why × (before why ≡ old)
  kept_back {old} f = (old, f, first_such Kept cs each f)

-- ---- a source

module _ {M N : ℕ} {source : List ℕ} where
  pub as_before : {why : Refusal} → FirstFailing M N source why → FirstBefore M N source (before why)
  as_before {why} (Now.of_loans f) = of_loans (kept (loan_checks M N source) (loans-kept M N source) why f)
  as_before {why} (Now.of_line {xs = xs} {bytes = bytes} h l b t f) =
      of_line {xs = xs} {bytes = bytes} h l b ((passed-before M 1 (start M) xs).0 t) (line_first M (1 + length xs) (place_of M xs) bytes why f)
  as_before {why} (Now.of_labels {xs = xs} h s t f) =
      of_labels {xs = xs} h s ((passed-before M 1 (start M) xs).0 t) (kept (late_checks (place_of M xs) xs) (late-kept (place_of M xs) xs) why f)

  pub before_back : {old : Refusal} → FirstBefore M N source old → (why : Refusal) × FirstFailing M N source why × (before why ≡ old)
  before_back (of_loans f) =
      let g = kept_back (loan_checks M N source) (loans-kept M N source) f in
      (g.0, Now.of_loans g.1, g.2)
  before_back (of_line {xs = xs} {bytes = bytes} h l b t f) =
      let g = line_first_back M (1 + length xs) (place_of M xs) bytes f in
      (g.0, Now.of_line {xs = xs} {bytes = bytes} h l b ((passed-before M 1 (start M) xs).1 t) g.1, g.2)
  before_back (of_labels {xs = xs} h s t f) =
      let g = kept_back (late_checks (place_of M xs) xs) (late-kept (place_of M xs) xs) f in
      (g.0, Now.of_labels {xs = xs} h s ((passed-before M 1 (start M) xs).1 t) g.1, g.2)
