-- Document 01's rows once more, in its own order and figures. A name that got another number, here and in the code together, would leave every
-- proof above it standing: it fails here.
use mathlib.Core.Bool.{true, false}
use mathlib.Core.List.{[], ◌∷◌}
use mathlib.Core.Path.{◌≡◌, refl}
use Rattle.codes.specs.Registers.{A, SR, IX, IY, SP, PC, register_count, is_register}
use Rattle.codes.specs.Flags.{for_z, for_c, for_v, for_p, for_s, for_h, is_on}
use Rattle.codes.specs.Stops.{none, halted, no_opcode, no_mode, no_register, memory_end, zero_divisor, budget_spent, input_end, output_short, bad_loan}
use Rattle.codes.specs.Marks.{free, code_mark, data_mark, reserved_mark, largest_mark}
use Rattle.codes.specs.Refusals.{number}
use Rattle.codes.specs.declared.refusals.Refusal.TheVariants.{
  BadLoan,
  LongSource,
  WrongForm,
  UnknownWord,
  OutOfRange,
  ByZero,
  TooDeep,
  LabelAgain,
  LabelPastLimits,
  PastMemory,
  ClaimedTwice,
  UnknownLabel,
  FarLabel,
  WrongCount,
  WrongKind,
}
use Rattle.codes.specs.Limits.{
  most_cells,
  longest_source,
  most_labels,
  longest_label,
  deepest,
  largest_sr,
  largest_stop_code,
  largest_budget,
  first_words,
}

-- "A 10, SR 11, IX 12, IY 13, SP 14, PC 15"
pub registers : A ∷ SR ∷ IX ∷ IY ∷ SP ∷ PC ∷ [] ≡ 10 ∷ 11 ∷ 12 ∷ 13 ∷ 14 ∷ 15 ∷ []
registers = refl

-- "R0..R9 0..9", and these six: there is no register 16
pub sixteen : register_count ≡ 16
sixteen = refl

pub last-register : is_register PC ≡ true
last-register = refl

pub no_register_16 : is_register 16 ≡ false
no_register_16 = refl

-- "SR bits: Z 0, C 1, V 2, P 3, S 4, H 5"
pub flags : for_z ∷ for_c ∷ for_v ∷ for_p ∷ for_s ∷ for_h ∷ [] ≡ 1 ∷ 2 ∷ 4 ∷ 8 ∷ 16 ∷ 32 ∷ []
flags = refl

-- C alone, and all but C
pub on_alone : is_on for_c 2 ≡ true
on_alone = refl

pub off_alone : is_on for_c 61 ≡ false
off_alone = refl

-- "Stops: 0 none, 1 HALT, 2 opcode, 3 mode, 4 register code, 5 memory end, 6 zero divisor, 7 budget spent, 8 input at its end, 9 output room
-- short, 10 bad loan"
pub stops :
    none ∷ halted ∷ no_opcode ∷ no_mode ∷ no_register ∷ memory_end ∷ zero_divisor ∷ budget_spent ∷ input_end ∷ output_short ∷ bad_loan ∷ []
    ≡ 0 ∷ 1 ∷ 2 ∷ 3 ∷ 4 ∷ 5 ∷ 6 ∷ 7 ∷ 8 ∷ 9 ∷ 10 ∷ []
stops = refl

-- "1 M or map length wrong, 2 source too long, 3 form, 4 statement's word unknown, 6 number, expression or label address out of range, 7 expression
-- divides by zero, 8 too deep, 9 label again, 10 a line's label too long, or the 513th, 11 past cell M-1, 12 a cell claimed twice, 13 label unknown,
-- 14 `$label` outside -32768..32767"; "Split refusal 5 into 15, wrong number of operands, and 16, kind not allowed" (02, K4)
pub refusals :
    number BadLoan ∷ number LongSource ∷ number WrongForm ∷ number UnknownWord ∷ number OutOfRange ∷ number ByZero ∷ number TooDeep ∷ number LabelAgain
    ∷ number LabelPastLimits ∷ number PastMemory ∷ number ClaimedTwice ∷ number UnknownLabel ∷ number FarLabel ∷ number WrongCount ∷ number WrongKind ∷ []
    ≡ 1 ∷ 2 ∷ 3 ∷ 4 ∷ 6 ∷ 7 ∷ 8 ∷ 9 ∷ 10 ∷ 11 ∷ 12 ∷ 13 ∷ 14 ∷ 15 ∷ 16 ∷ []
refusals = refl

-- "0 free, 1 code, 2 data"; RES's cells "marked 3 in the map" (02, K2)
pub marks : free ∷ code_mark ∷ data_mark ∷ reserved_mark ∷ [] ≡ 0 ∷ 1 ∷ 2 ∷ 3 ∷ []
marks = refl

-- "marks 0..3" (02, K2)
pub largest-mark : largest_mark ≡ 3
largest-mark = refl

-- "M from 1 to 65,536", "Source is at most 32,768 bytes, labels at most 512, a label at most 64 bytes, parentheses at most 32 deep"
pub lent : most_cells ∷ longest_source ∷ most_labels ∷ longest_label ∷ deepest ∷ [] ≡ 65536 ∷ 32768 ∷ 512 ∷ 64 ∷ 32 ∷ []
lent = refl

-- "SR above 63, stop code above 6"; "a budget of 0..1,000,000"; "A first word of 2,496 or more is 2"
pub allowed : largest_sr ∷ largest_stop_code ∷ largest_budget ∷ first_words ∷ [] ≡ 63 ∷ 6 ∷ 1000000 ∷ 2496 ∷ []
allowed = refl
