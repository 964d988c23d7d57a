-- "SR bits: Z 0, C 1, V 2, P 3, S 4, H 5" (01, "What a step does"): what each flag counts for.
use Rattle.std.specs.Prelude.{ℕ, ◌/◌, ◌%◌, Bool, eqb}

abbrev pub for_z : ℕ
for_z = 1

abbrev pub for_c : ℕ
for_c = 2

abbrev pub for_v : ℕ
for_v = 4

abbrev pub for_p : ℕ
for_p = 8

abbrev pub for_s : ℕ
for_s = 16

abbrev pub for_h : ℕ
for_h = 32

-- a flag of SR is on
abbrev pub is_on : ℕ → ℕ → Bool
is_on flag sr = eqb (sr / flag % 2) 1
