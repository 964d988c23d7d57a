-- A line that passes its checks has a reading that passes, and claims free cells within memory.
use Prim.Native.Nat.{ℕ, ◌+◌, ◌≤◌, ◌<◌}
use mathlib.Core.Bool.{Bool, true, false}
use mathlib.Core.List.{List}
use mathlib.Core.Path.{◌≡◌, refl, ap}
use native.Mathlib.Omega.{arith}
use lib.Dec.{eqb}
use lib.ListN.{get_or}
use borrow.Author.Tests.{eqb-true, eqb-false}
use Rattle.std.proofs.Common.{Option, Result, Ok}
use Rattle.statements.specs.declared.Failure.{Failure}
use Rattle.values.specs.declared.Name.{Name}
use Rattle.statements.specs.Statements.{Reading, Says}
use Rattle.statements.specs.FirstFailing.{Pass}
use Rattle.statements.specs.Checks.{checks}
use Rattle.statements.specs.Judging.{judged}
use Rattle.statements.specs.Reading.{line_read}
use Rattle.statements.specs.declared.Statement.{Statement}
use Rattle.statements.proofs.Top as Lines
use Rattle.codes.specs.Marks.{free}
use Rattle.sources.specs.Placing.{does, Place}
use Rattle.sources.specs.Order.{ClaimedTwice, PastEnd, line_checks}

module _ (M k : ℕ) (p : Place) (bytes : List ℕ) where
  -- the line's own checks are among them
  pub own-pass : Pass (line_checks M k p bytes) → Pass (checks bytes)
  unfolding Pass line_checks checks
  own-pass h =
      let t = h.1.1 in
      let u = t.1.1.1 in
      (t.0, (t.1.0, (t.1.1.0, (u.0, (u.1.0, (u.1.1.0, (u.1.1.1.0, (u.1.1.1.1.0, tt))))))))

  -- a line that passes has a reading that does
  pub passing-says : Pass (line_checks M k p bytes) → (l : Option Name) × (r : Reading) × (s : Statement) × Says bytes l r × (judged r ≡ Ok s)
  passing-says h =
      let a = (Lines.passes-exactly bytes).1 (own-pass h) in
      let e : line_read bytes ≡ record { label = (line_read bytes).label; statement = Ok a.0 } =
      ap (λ (x : Result Statement Failure). record { label = (line_read bytes).label; statement = x }) a.1 in
      let b = (Lines.says-exactly bytes).0 e in
      ((line_read bytes).label, b.0, a.0, b.1, b.2)

  module _ {l : Option Name} {r : Reading} {s : Statement} (x : Says bytes l r) (e : judged r ≡ Ok s) (h : Pass (line_checks M k p bytes)) where
    not-past : PastEnd M p.at (does s) → ⊥
    unfolding Pass line_checks
    not-past q = h.1.1.1.1.1.1.1.1.1.1.1.1.0 (l, r, s, x, e, q)

    not-twice : ClaimedTwice p (does s) → ⊥
    unfolding Pass line_checks
    not-twice q = h.1.1.1.1.1.1.1.1.1.1.1.1.1.0 (l, r, s, x, e, q)

    cell_free : (i : ℕ) → i < (does s).claims → get_or p.marks (p.at + i) free ≡ free
    cell_free i w = go (eqb (get_or p.marks (p.at + i) free) free) refl
      where
        go : (b : Bool) → eqb (get_or p.marks (p.at + i) free) free ≡ b → get_or p.marks (p.at + i) free ≡ free
        go true f = eqb-true _ _ f
        go false f = absurd (not-twice (i, w, eqb-false _ _ f))

    within : 0 < (does s).claims → p.at + (does s).claims ≤ M
    within w = let n : M < p.at + (does s).claims → ⊥ = λ g. not-past (w, g) in omega (arith, n)

    -- what its statement claims ends within memory, and each cell of it is free
    pub passed-line : (0 < (does s).claims → p.at + (does s).claims ≤ M)
        × ((i : ℕ) → i < (does s).claims → get_or p.marks (p.at + i) free ≡ free)
    passed-line = (within, cell_free)
