-- The operations: what each gives of its operands x (op1) and y (op2), cells both (01, "What a step does"; manual 5.3 to 5.5).
use Rattle.std.specs.Prelude.{ℕ, ◌+◌, ◌-◌, ◌*◌, ◌%◌, Bool, false, cond, ◌&&◌, ltb, eqb, ◌+ℤ◌, ◌-ℤ◌, ◌*ℤ◌, Option, Some, None}
use Rattle.std.specs.Int.Bits.{bit_and, bit_or, bit_xor}
use Rattle.std.specs.Int.Signed.{quot_z, rem_z}
use Rattle.codes.specs.Stops.{none, zero_divisor}
use Rattle.arithmetic.specs.Cells.{signed, cell, leaves16}
use Rattle.arithmetic.specs.Flags.{flags_of}
use Rattle.arithmetic.specs.declared.Outcome.{Outcome}

-- a result with the flags that it gives
unfoldable pub outcome : ℕ → Bool → Bool → Outcome
outcome r carry overflow = record { value = r; flags = flags_of r carry overflow }

-- "ADD, MUL: C if the unsigned result passes 65535, V if the signed one leaves 16 bits"
unfoldable pub ADD : ℕ → ℕ → Outcome
ADD x y = outcome ((x + y) % 65536) (ltb 65535 (x + y)) (leaves16 (signed x +ℤ signed y))

unfoldable pub MUL : ℕ → ℕ → Outcome
MUL x y = outcome (x * y % 65536) (ltb 65535 (x * y)) (leaves16 (signed x *ℤ signed y))

-- "SUB, CMP: C if unsigned op1 < op2, V if the signed difference leaves 16 bits"
unfoldable pub SUB : ℕ → ℕ → Outcome
SUB x y = outcome ((x + (65536 - y)) % 65536) (ltb x y) (leaves16 (signed x -ℤ signed y))

-- CMP sets the flags of SUB and keeps no result
abbrev pub CMP : ℕ → ℕ → ℕ
CMP x y = (SUB x y).flags

-- "INC and DEC are plus and minus 1; NEG is 0 minus"
abbrev pub INC : ℕ → Outcome
INC x = ADD x 1

abbrev pub DEC : ℕ → Outcome
DEC x = SUB x 1

abbrev pub NEG : ℕ → Outcome
NEG x = SUB 0 x

-- "V is 1 only for DIV at -32768/-1": the cells 32768 and 65535
abbrev pub least_by_minus_one : ℕ → ℕ → Bool
least_by_minus_one x y = eqb x 32768 && eqb y 65535

-- "The quotient is signed and cut toward zero ..; C is 0"; a zero divisor is stop 6
unfoldable pub DIV : ℕ → ℕ → Option Outcome
DIV x y = cond (eqb y 0) None (Some (outcome (cell (quot_z (signed x) (signed y))) false (least_by_minus_one x y)))

-- ".. MOD takes the dividend's sign; C is 0 for both; V is 1 only for DIV"
unfoldable pub MOD : ℕ → ℕ → Option Outcome
MOD x y = cond (eqb y 0) None (Some (outcome (cell (rem_z (signed x) (signed y))) false false))

-- bit by bit; "logic and moves set none" of the flags
abbrev pub AND : ℕ → ℕ → ℕ
AND x y = bit_and x y

abbrev pub OR : ℕ → ℕ → ℕ
OR x y = bit_or x y

abbrev pub XOR : ℕ → ℕ → ℕ
XOR x y = bit_xor x y

-- each of the 16 bits turned over
abbrev pub NOT : ℕ → ℕ
NOT x = 65535 - x

-- a division's stop: 6 for a zero divisor, else 0 (01, "Stops")
abbrev pub stop_of_division : Option Outcome → ℕ
stop_of_division (Some o) = none
stop_of_division None = zero_divisor
