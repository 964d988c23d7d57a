-- What is kept of a line, by what its statement comes to.
use Prim.Native.Nat.{ℕ, ◌+◌, ◌≤◌, ◌<◌}
use mathlib.Core.List.{List, ◌++◌}
use mathlib.Core.Path.{◌≡◌, refl, sym, ap, subst, ◌∙◌}
use lib.Seq.{sets}
use Rattle.codes.specs.Limits.{most_cells}
use Rattle.statements.specs.Judging.{claim_of}
use Rattle.statements.specs.declared.Statement.{Statement}
use Rattle.statements.specs.declared.Statement.TheVariants.{Nothing, Instruction, Org, Equ, Res, Data, End}
use Rattle.std.proofs.Common.{Result, Ok}
use Rattle.statements.specs.declared.Failure.{Failure}
use Rattle.sources.specs.Placing.{does, does_read}
use Rattle.sources.specs.Uses.{Use, uses_read}
use Rattle.sources.specs.Inner.Assembling.{raw_read}

claims-said : (s : Statement) → (does s).claims ≡ claim_of s
unfolding does
claims-said Nothing = refl
claims-said (Instruction op a b) = refl
claims-said (Org v) = refl
claims-said (Equ v) = refl
claims-said (Res v) = refl
claims-said (Data n) = refl
claims-said End = refl

-- the cells that a line claims are there, so those of its statement are
pub room-said : (at : ℕ) {r : Result Statement Failure} (s : Statement) → r ≡ Ok s → (0 < (does_read r).claims → at + (does_read r).claims ≤ most_cells) → 0 < claim_of s
    → at + claim_of s ≤ most_cells
room-said at s e h =
    subst (λ (n : ℕ). 0 < n → at + n ≤ most_cells) (claims-said s) (subst (λ (x : Result Statement Failure). 0 < (does_read x).claims → at + (does_read x).claims ≤ most_cells) e h)

pub cells-read : (line m : List ℕ) (at : ℕ) {x y : Result Statement Failure} {m' : List ℕ} → x ≡ y → m' ≡ sets m at (raw_read line y) → m' ≡ sets m at (raw_read line x)
cells-read line m at e h = h ∙ ap (λ (r : Result Statement Failure). sets m at (raw_read line r)) (sym e)

pub uses-read : (us : List Use) (k : ℕ) (line : List ℕ) (at : ℕ) {x y : Result Statement Failure} {vs : List Use} → x ≡ y → vs ≡ us ++ uses_read k line at y
    → vs ≡ us ++ uses_read k line at x
uses-read us k line at e h = h ∙ ap (λ (r : Result Statement Failure). us ++ uses_read k line at r) (sym e)
