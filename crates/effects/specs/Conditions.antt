-- When a branch is taken, one line for each (manual 5.6; 01: "Branch conditions are the manual's, BP being S=0 and BNN S=0
-- or Z=1").
use Rattle.std.specs.Prelude.{ℕ, Bool, not, ◌||◌}
use Rattle.codes.specs.Flags.{for_z, for_c, for_v, for_p, for_s, is_on}

-- the flags of SR
abbrev pub flag_z : ℕ → Bool
flag_z sr = is_on for_z sr

abbrev pub flag_c : ℕ → Bool
flag_c sr = is_on for_c sr

abbrev pub flag_v : ℕ → Bool
flag_v sr = is_on for_v sr

abbrev pub flag_p : ℕ → Bool
flag_p sr = is_on for_p sr

abbrev pub flag_s : ℕ → Bool
flag_s sr = is_on for_s sr

-- Z=1, Z=0
abbrev pub taken_bz : ℕ → Bool
taken_bz sr = flag_z sr

abbrev pub taken_bnz : ℕ → Bool
taken_bnz sr = not (flag_z sr)

-- S=0; S=1 or Z=1
abbrev pub taken_bp : ℕ → Bool
taken_bp sr = not (flag_s sr)

abbrev pub taken_bnp : ℕ → Bool
taken_bnp sr = flag_s sr || flag_z sr

-- S=1; S=0 or Z=1
abbrev pub taken_bn : ℕ → Bool
taken_bn sr = flag_s sr

abbrev pub taken_bnn : ℕ → Bool
taken_bnn sr = not (flag_s sr) || flag_z sr

-- V=1, V=0
abbrev pub taken_bv : ℕ → Bool
taken_bv sr = flag_v sr

abbrev pub taken_bnv : ℕ → Bool
taken_bnv sr = not (flag_v sr)

-- C=1, C=0
abbrev pub taken_bc : ℕ → Bool
taken_bc sr = flag_c sr

abbrev pub taken_bnc : ℕ → Bool
taken_bnc sr = not (flag_c sr)

-- even: P=0; odd: P=1
abbrev pub taken_be : ℕ → Bool
taken_be sr = not (flag_p sr)

abbrev pub taken_bo : ℕ → Bool
taken_bo sr = flag_p sr
