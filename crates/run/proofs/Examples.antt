-- Worked examples: "budget 10,000 if none is named, up to 1,000,000".
use mathlib.Core.Path.{◌≡◌, refl}
use mathlib.Core.List.{List}
use Prim.Native.Nat.{ℕ}
use Rattle.numerals.specs.Bytes.{rank, bytes}
use Rattle.numerals.specs.Digits.{worth_after}
use Rattle.run.specs.Budgets.{budget_after, budget_of, budget_asked}
use Rattle.std.proofs.Common.{Some, None}

pub record Examples : Type 0 where
  pub none_named : (third : List ℕ) → budget_asked 3 third ≡ Some 10000
  pub smallest : budget_asked 4 (bytes "0") ≡ Some 0
  pub usual : budget_asked 4 (bytes "10000") ≡ Some 10000
  pub one_more : budget_asked 4 (bytes "10001") ≡ Some 10001
  pub largest : budget_asked 4 (bytes "1000000") ≡ Some 1000000
  pub above : budget_asked 4 (bytes "1000001") ≡ None
  pub leading_zeros : budget_asked 4 (bytes "0007") ≡ Some 7
  pub empty : budget_asked 4 (bytes "") ≡ None
  pub negative : budget_asked 4 (bytes "-1") ≡ None
  pub hexadecimal : budget_asked 4 (bytes "0x10") ≡ None
  pub too_few : (third : List ℕ) → budget_asked 2 third ≡ None
  pub too_many : (third : List ℕ) → budget_asked 5 third ≡ None

pub examples : Examples
unfolding rank worth_after budget_after budget_of budget_asked
examples =
    record {
      none_named = λ third. refl;
      smallest = refl;
      usual = refl;
      one_more = refl;
      largest = refl;
      above = refl;
      leading_zeros = refl;
      empty = refl;
      negative = refl;
      hexadecimal = refl;
      too_few = λ third. refl;
      too_many = λ third. refl;
    }
