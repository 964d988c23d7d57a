-- "Stops: 0 none, 1 HALT, 2 opcode, 3 mode, 4 register code, 5 memory end, 6 zero divisor, 7 budget spent, 8 input at its
-- end, 9 output room short, 10 bad loan" (01, "What a step does").
use Rattle.std.specs.Prelude.{ℕ}

abbrev pub none : ℕ
none = 0

abbrev pub halted : ℕ
halted = 1

abbrev pub no_opcode : ℕ
no_opcode = 2

abbrev pub no_mode : ℕ
no_mode = 3

abbrev pub no_register : ℕ
no_register = 4

abbrev pub memory_end : ℕ
memory_end = 5

abbrev pub zero_divisor : ℕ
zero_divisor = 6

abbrev pub budget_spent : ℕ
budget_spent = 7

abbrev pub input_end : ℕ
input_end = 8

abbrev pub output_short : ℕ
output_short = 9

abbrev pub bad_loan : ℕ
bad_loan = 10
