-- The paper's number of each refusal (01, "Refusing a source"; 15 and 16 are its 5, told apart: 02, K4).
use Rattle.std.specs.Prelude.{ℕ}
use Rattle.codes.specs.declared.refusals.Refusal.{Refusal}
use Rattle.codes.specs.declared.refusals.Refusal.TheVariants.{
  BadLoan,
  LongSource,
  WrongForm,
  UnknownWord,
  OutOfRange,
  ByZero,
  TooDeep,
  LabelAgain,
  LabelPastLimits,
  PastMemory,
  ClaimedTwice,
  UnknownLabel,
  FarLabel,
  WrongCount,
  WrongKind,
}

abbrev pub number : Refusal → ℕ
number BadLoan = 1
number LongSource = 2
number WrongForm = 3
number UnknownWord = 4
number OutOfRange = 6
number ByZero = 7
number TooDeep = 8
number LabelAgain = 9
number LabelPastLimits = 10
number PastMemory = 11
number ClaimedTwice = 12
number UnknownLabel = 13
number FarLabel = 14
number WrongCount = 15
number WrongKind = 16
