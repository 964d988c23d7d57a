-- The range of a statement's result, as `in_range` tests it, and the cell that keeps it; laws that the code's proofs cite.
use Prim.Native.Nat.{ℕ, ◌<◌}
use mathlib.Core.Bool.{Bool, true, false, cond}
use mathlib.Core.Path.{◌≡◌, refl, ap, ◌∙◌}
use native.Mathlib.Omega.{arith}
use borrow.Author.Tests.{lt-leb, le-leb, ltb-true, ltb-false}
use lib.IntN.{ℤ, pos, negsuc}
use lib.Signed.{mag, lt_z, le_z}
use mir.Syntax.{w16}
use mir.Val.{of_z}
use Rattle.std.specs.Int.{int_rem_euclid}
use Rattle.std.proofs.Common.{Result, Ok, Err}
use Rattle.statements.specs.declared.Failure.{Failure}
use Rattle.expressions.specs.declared.Malformed.{Malformed}
use Rattle.expressions.specs.Worths.{Worth}
use Rattle.statements.specs.Checks.{result_in}
use Rattle.statements.specs.Judging.{result_of}
use Rattle.statements.specs.Reading.{expression_result}
use Rattle.statements.specs.Inner.Parts.{cell_in, outcome_of, said}
use Rattle.statements.specs.declared.Failure.TheVariants.{ResultOut}
use Rattle.statements.specs.declared.Statement.{Statement}
use Rattle.statements.proofs.Labelling.{never}

-- ---- the two tests

before_is : (a b : ℤ) → lt_z a b ≡ true → le_z b a ≡ false
before_is (pos a) (pos b) e = lt-leb b a (ltb-true a b e)
before_is (pos a) (negsuc b) e = never (cc)
before_is (negsuc a) (pos b) e = refl
before_is (negsuc a) (negsuc b) e = lt-leb a b (ltb-true b a e)

before-not : (a b : ℤ) → lt_z a b ≡ false → le_z b a ≡ true
before-not (pos a) (pos b) e = le-leb b a (ltb-false a b e)
before-not (pos a) (negsuc b) e = refl
before-not (negsuc a) (pos b) e = never (cc)
before-not (negsuc a) (negsuc b) e = le-leb a b (ltb-false b a e)

module _ (least z : ℤ) where
  pub below : lt_z z least ≡ true → cell_in least z ≡ Err ResultOut
  unfolding cell_in
  below e = rw (before_is z least e)

  pub above : lt_z z least ≡ false → lt_z (pos 65535) z ≡ true → cell_in least z ≡ Err ResultOut
  unfolding cell_in
  above e f = rw (before-not z least e, before_is (pos 65535) z f)

  pub inside : lt_z z least ≡ false → lt_z (pos 65535) z ≡ false → cell_in least z ≡ Ok (of_z w16 z)
  unfolding cell_in
  inside e f = rw (before-not z least e, before-not (pos 65535) z f)

-- what is in range is not far from 0
pub near : (least z : ℤ) → mag least < 65536 → lt_z z least ≡ false → lt_z (pos 65535) z ≡ false → mag z < 65536
near least (pos n) h e f = omega (arith, ltb-false 65535 n f)
near (pos m) (negsuc n) h e f = never (cc)
near (negsuc m) (negsuc n) h e f = omega (arith, ltb-false m n e)

-- ---- the cell

pub cell-rest : (z : ℤ) → mag z < 65536 → int_rem_euclid z (pos 65536) ≡ pos (of_z w16 z)
cell-rest (pos n) h = ap pos (omega arith)
cell-rest (negsuc n) h = ap pos (omega arith)

pub cell-small : (z : ℤ) → mag z < 65536 → of_z w16 z < 65536
cell-small (pos n) h = h
cell-small (negsuc n) h = omega arith

-- ---- an outcome, as the statement says it

module _ (least : ℤ) (makes : ℕ → Statement) where
  cell-said : (z : ℤ) → said makes (cell_in least z) ≡ result_of least makes z
  unfolding cell_in result_of
  cell-said z = go (result_in least z)
    where
      go : (b : Bool) → said makes (cond b (Ok (of_z w16 z)) (Err ResultOut)) ≡ cond b (Ok (makes (of_z w16 z))) (Err ResultOut)
      go true = refl
      go false = refl

  outcome-said : (r : Result Worth Malformed) → said makes (outcome_of least r) ≡ expression_result least makes r
  outcome-said (Ok (Ok z)) = cell-said z
  outcome-said (Ok (Err why)) = refl
  outcome-said (Err why) = refl

  -- what the code hands back, by the outcome that it found
  pub says_value : (r : Result Worth Malformed) {v : ℕ} → Ok v ≡ outcome_of least r → Ok (makes v) ≡ expression_result least makes r
  says_value r e = ap (said makes) e ∙ outcome-said r

  pub says_failure : (r : Result Worth Malformed) {why : Failure} → Err why ≡ outcome_of least r → Err why ≡ expression_result least makes r
  says_failure r e = ap (said makes) e ∙ outcome-said r
