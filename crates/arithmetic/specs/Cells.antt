-- A cell is a number below 65536, and is read as two's complement where the paper says "signed" (manual 3).
use Rattle.std.specs.Prelude.{ℕ, Bool, ◌||◌, ℤ, pos, negsuc}
use Rattle.std.specs.Int.Signed.{lt_z}
use Rattle.std.specs.Int.{w16}
use Rattle.std.proofs.Common.{to_z, of_z}

-- the signed reading of a cell: itself below 32768, and itself less 65536 from there on
abbrev pub signed : ℕ → ℤ
signed x = to_z w16 x

-- the cell whose signed reading a number is, kept modulo 65536
abbrev pub cell : ℤ → ℕ
cell z = of_z w16 z

-- "leaves 16 bits": a number below -32768 or above 32767 (`negsuc n` is the number -1-n)
unfoldable pub leaves16 : ℤ → Bool
leaves16 z = lt_z z (negsuc 32767) || lt_z (pos 32767) z
