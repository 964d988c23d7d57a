-- What the column of refusal 3 is, and that the walk finds it.
use Prim.Native.Nat.{ℕ, ◌+◌}
use mathlib.Core.Bool.{true}
use mathlib.Core.List.{List}
use mathlib.Core.Logic.{◌↔◌}
use mathlib.Core.Path.{◌≡◌, sym, ap, subst, ◌∙◌}
use lib.Dec.{T}
use Rattle.tokens.specs.Lines.{no_lf}
use Rattle.statements.specs.Reading.{line_read}
use Rattle.statements.specs.declared.Failure.TheVariants.{WrongForm}
use Rattle.std.proofs.Common.{Err}
use Rattle.statements.proofs.Top.{form-exactly}
use Rattle.faults.specs.Faults.{Right, CanGoOn, Fault, Column, column}
use Rattle.faults.specs.Walk.{accepts, live, run, first, place}
use Rattle.faults.proofs.Readings as Readings
use Rattle.faults.proofs.GoesOn as GoesOn
use Rattle.faults.proofs.Places as Places

-- The walk accepts exactly the lines of right form.
pub right-exactly : (line : List ℕ) → Right line ↔ (accepts (run first line) ≡ true)
right-exactly = Readings.right-exactly

-- A text can go on to a line of right form exactly where the walk over it is live: where it is not, no right line begins so; where it
-- is, a right line is shown.
pub goes-exactly : (s : List ℕ) → CanGoOn s ↔ (live (run first s) ≡ true)
goes-exactly = GoesOn.goes-exactly

-- A line of wrong form has a fault, and it is where the walk stops.
pub fault_exactly : (line : List ℕ) (p : ℕ) → (Right line → ⊥) → (place line ≡ p) ↔ Fault line p
fault_exactly line p n = (λ e. subst (Fault line) e (Places.has_fault line n), Places.located)

pub one_fault : {line : List ℕ} {p q : ℕ} → Fault line p → Fault line q → p ≡ q
one_fault f g = sym (Places.located f) ∙ Places.located g

-- A line of right form has none.
pub right-none : {line : List ℕ} {p : ℕ} → T (no_lf line) → Right line → Fault line p → ⊥
right-none = Places.right-none

-- So refusal 3 has exactly one column.
pub refused_has_column : (line : List ℕ) → (line_read line).statement ≡ Err WrongForm → Column line (place line + 1)
refused_has_column line e = column (Places.has_fault line (λ r. ((form-exactly line).0 e).1 r.0 r.1 r.2))

pub one-column : {line : List ℕ} {c : ℕ} → Column line c → place line + 1 ≡ c
one-column (column f) = ap (λ (p : ℕ). p + 1) (Places.located f)
