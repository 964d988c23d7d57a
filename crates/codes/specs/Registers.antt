-- "Registers: R0..R9 0..9, A 10, SR 11, IX 12, IY 13, SP 14, PC 15" (01, "Layout"; manual 9.3).
use Rattle.std.specs.Prelude.{ℕ, Bool, ltb}

abbrev pub A : ℕ
A = 10

abbrev pub SR : ℕ
SR = 11

abbrev pub IX : ℕ
IX = 12

abbrev pub IY : ℕ
IY = 13

abbrev pub SP : ℕ
SP = 14

abbrev pub PC : ℕ
PC = 15

-- how many there are: the codes 0 to 15
abbrev pub register_count : ℕ
register_count = 16

-- a code names a register: R0..R9 by its own number, the others as above
abbrev pub is_register : ℕ → Bool
is_register code = ltb code register_count
