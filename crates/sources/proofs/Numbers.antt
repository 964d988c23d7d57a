-- A refusal's number is one of 1 to 16.
use Prim.Native.Nat.{ℕ, ◌+◌, ◌≤◌}
use mathlib.Core.List.{List, [], ◌∷◌, ◌++◌, map}
use mathlib.Core.Logic.{inl, inr}
use mathlib.Core.Path.{◌≡◌, subst}
use native.Mathlib.Omega.{arith}
use lib.ListN.{length}
use Rattle.statements.specs.FirstFailing.{Check, First}
use Rattle.sources.specs.Sources.{Said}
use Rattle.sources.specs.Placing.{Bound, Place, judged_line, place_of, bindings}
use Rattle.sources.specs.Uses.{Use, uses_of}
use Rattle.sources.specs.Order.{Refusal, loan_checks, line_checks, end_checks, use_checks, late_checks, FirstFailing, of_loans, of_line, of_labels}

-- of the loans
abbrev pub OfLoans : Refusal → Type 0
OfLoans why = (1 ≤ why.number) × (why.number ≤ 2) × (why.line ≡ 0)

-- of a line
abbrev pub OfLine : Refusal → Type 0
OfLine why = (3 ≤ why.number) × (why.number ≤ 16)

-- each answer of a list is such a one
unfoldable pub Each : (Refusal → Type 0) → List (Check Refusal) → Type 0
Each P [] = Unit {0}
Each P (c ∷ cs) = P c.answer × Each P cs

pub first_such : (P : Refusal → Type 0) (cs : List (Check Refusal)) {why : Refusal} → Each P cs → First cs why → P why
unfolding Each First
first_such P [] h f = absurd f
first_such P (c ∷ cs) h (inl f) = subst P f.1 h.0
first_such P (c ∷ cs) h (inr f) = first_such P cs h.1 f.1

pub joined : (P : Refusal → Type 0) (cs ds : List (Check Refusal)) → Each P cs → Each P ds → Each P (cs ++ ds)
unfolding Each
joined P [] ds h g = g
joined P (c ∷ cs) ds h g = (h.0, joined P cs ds h.1 g)

of_uses : (bs : List Bound) (us : List Use) → Each OfLine (use_checks bs us)
unfolding Each use_checks
of_uses bs [] = tt
of_uses bs (u ∷ us) = ((omega arith, omega arith), ((omega arith, omega arith), of_uses bs us))

loans_such : (M N : ℕ) (source : List ℕ) → Each OfLoans (loan_checks M N source)
unfolding Each loan_checks
loans_such M N source = ((omega arith, omega arith, omega arith), ((omega arith, omega arith, omega arith), tt))

line_such : (M k : ℕ) (p : Place) (bytes : List ℕ) → Each OfLine (line_checks M k p bytes)
unfolding Each line_checks
line_such M k p bytes =
    ((omega arith, omega arith), ((omega arith, omega arith), ((omega arith, omega arith), ((omega arith, omega arith), ((omega arith, omega arith), ((omega arith, omega arith), ((omega arith, omega arith), ((omega arith, omega arith), ((omega arith, omega arith), ((omega arith, omega arith), ((omega arith, omega arith), ((omega arith, omega arith), ((omega arith, omega arith), ((omega arith, omega arith), tt))))))))))))))

late_such : (p : Place) (xs : List Said) → Each OfLine (late_checks p xs)
unfolding Each late_checks end_checks
late_such p xs =
    joined OfLine (end_checks (length xs) p) (use_checks (bindings p) (uses_of 1 0 (map judged_line xs))) ((omega arith, omega arith), tt)
    (of_uses (bindings p) (uses_of 1 0 (map judged_line xs)))

-- 1 to 16, and never 0
pub refusal-numbered : {M N : ℕ} {source : List ℕ} {why : Refusal} → FirstFailing M N source why → (1 ≤ why.number) × (why.number ≤ 16)
refusal-numbered {M} {N} {source} (of_loans f) =
    let h = first_such OfLoans (loan_checks M N source) (loans_such M N source) f in
    (h.0, omega (arith, h.1))
refusal-numbered {M} (of_line {xs = xs} {bytes = bytes} h l b t f) =
    let g = first_such OfLine (line_checks M (1 + length xs) (place_of M xs) bytes) (line_such M (1 + length xs) (place_of M xs) bytes) f in
    (omega (arith, g.0), g.1)
refusal-numbered {M} (of_labels {xs = xs} h s t f) =
    let g = first_such OfLine (late_checks (place_of M xs) xs) (late_such (place_of M xs) xs) f in
    (omega (arith, g.0), g.1)
