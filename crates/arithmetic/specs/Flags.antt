-- The flags that an operation gives (01, "What a step does"; manual 3, table 1 and 9.4).
use Rattle.std.specs.Prelude.{ℕ, ◌+◌, ◌*◌, ◌%◌, Bool, true, false, leb, eqb}
use Rattle.std.specs.Int.Count.{ones}
use Rattle.codes.specs.Flags.{for_z, for_c, for_v, for_p, for_s}

-- Z, "cero": the 16-bit result is 0
abbrev pub is_zero : ℕ → Bool
is_zero r = eqb r 0

-- P, "paridad": the result has an odd number of ones
abbrev pub odd_ones : ℕ → Bool
odd_ones r = eqb (ones r % 2) 1

-- S, "signo": the result, read as signed, is below 0
abbrev pub is_negative : ℕ → Bool
is_negative r = leb 32768 r

-- a flag that is on is 1
abbrev pub bit : Bool → ℕ
bit true = 1
bit false = 0

-- "Arithmetic and CMP set Z, S, P (odd ones) from the 16-bit result"; C and V are the operation's own
unfoldable pub flags_of : ℕ → Bool → Bool → ℕ
flags_of r carry overflow =
    bit (is_zero r) * for_z + bit carry * for_c + bit overflow * for_v + bit (odd_ones r) * for_p + bit (is_negative r) * for_s
