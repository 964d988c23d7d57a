-- The paper's numbers of the answers are all different: each tells its answer.
use Rattle.expressions.specs.Worths.{Worth}
use mathlib.Core.Path.{◌≡◌, refl}
use native.Mathlib.Omega.{arith}
use lib.IntN.{ℤ}
use Rattle.expressions.specs.Reading.{refusal_of}
use Rattle.std.proofs.Common.{Result, Ok, Err}
use Rattle.expressions.specs.declared.Fault.TheVariants.{OutOfRange, ByZero}
use Rattle.expressions.specs.declared.Malformed.{Malformed}
use Rattle.expressions.specs.declared.Malformed.TheVariants.{TooDeep, WrongForm}

pub number_0 : (r : Result Worth Malformed) → refusal_of r ≡ 0 → (z : ℤ) × (r ≡ Ok (Ok z))
number_0 (Ok (Ok z)) e = (z, refl)
number_0 (Ok (Err OutOfRange)) e = absurd (omega arith)
number_0 (Ok (Err ByZero)) e = absurd (omega arith)
number_0 (Err TooDeep) e = absurd (omega arith)
number_0 (Err WrongForm) e = absurd (omega arith)

pub number_3 : (r : Result Worth Malformed) → refusal_of r ≡ 3 → r ≡ Err WrongForm
number_3 (Ok (Ok z)) e = absurd (omega arith)
number_3 (Ok (Err OutOfRange)) e = absurd (omega arith)
number_3 (Ok (Err ByZero)) e = absurd (omega arith)
number_3 (Err TooDeep) e = absurd (omega arith)
number_3 (Err WrongForm) e = refl

pub number_8 : (r : Result Worth Malformed) → refusal_of r ≡ 8 → r ≡ Err TooDeep
number_8 (Ok (Ok z)) e = absurd (omega arith)
number_8 (Ok (Err OutOfRange)) e = absurd (omega arith)
number_8 (Ok (Err ByZero)) e = absurd (omega arith)
number_8 (Err TooDeep) e = refl
number_8 (Err WrongForm) e = absurd (omega arith)

pub number_6 : (r : Result Worth Malformed) → refusal_of r ≡ 6 → r ≡ Ok (Err OutOfRange)
number_6 (Ok (Ok z)) e = absurd (omega arith)
number_6 (Ok (Err OutOfRange)) e = refl
number_6 (Ok (Err ByZero)) e = absurd (omega arith)
number_6 (Err TooDeep) e = absurd (omega arith)
number_6 (Err WrongForm) e = absurd (omega arith)

pub number_7 : (r : Result Worth Malformed) → refusal_of r ≡ 7 → r ≡ Ok (Err ByZero)
number_7 (Ok (Ok z)) e = absurd (omega arith)
number_7 (Ok (Err OutOfRange)) e = absurd (omega arith)
number_7 (Ok (Err ByZero)) e = refl
number_7 (Err TooDeep) e = absurd (omega arith)
number_7 (Err WrongForm) e = absurd (omega arith)
