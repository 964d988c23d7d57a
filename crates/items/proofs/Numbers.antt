-- The paper's numbers of the answers are all different: each tells its answer.
use Prim.Native.Nat.{ℕ}
use mathlib.Core.Path.{◌≡◌, refl}
use native.Mathlib.Omega.{arith}
use Rattle.items.specs.Reading.{refusal_of}
use Rattle.std.proofs.Common.{Result, Ok, Err}
use Rattle.items.specs.declared.ItemsFault.{ItemsFault}
use Rattle.items.specs.declared.ItemsFault.TheVariants.{WrongForm, OutOfRange}

pub number_0 : (r : Result ℕ ItemsFault) → refusal_of r ≡ 0 → (n : ℕ) × (r ≡ Ok n)
number_0 (Ok n) e = (n, refl)
number_0 (Err WrongForm) e = absurd (omega arith)
number_0 (Err OutOfRange) e = absurd (omega arith)

pub number_3 : (r : Result ℕ ItemsFault) → refusal_of r ≡ 3 → r ≡ Err WrongForm
number_3 (Ok n) e = absurd (omega arith)
number_3 (Err WrongForm) e = refl
number_3 (Err OutOfRange) e = absurd (omega arith)

pub number_6 : (r : Result ℕ ItemsFault) → refusal_of r ≡ 6 → r ≡ Err OutOfRange
number_6 (Ok n) e = absurd (omega arith)
number_6 (Err WrongForm) e = absurd (omega arith)
number_6 (Err OutOfRange) e = refl
