-- "A map of M bytes marks each cell: 0 free, 1 code, 2 data" (01, "What is lent"); "RES must claim its cells, marked 3 in the map" (02, K2).
use Rattle.std.specs.Prelude.{ℕ}

abbrev pub free : ℕ
free = 0

abbrev pub code_mark : ℕ
code_mark = 1

abbrev pub data_mark : ℕ
data_mark = 2

abbrev pub reserved_mark : ℕ
reserved_mark = 3

-- the largest of them: "printing take marks 0..3" (02, K2)
abbrev pub largest_mark : ℕ
largest_mark = 3
