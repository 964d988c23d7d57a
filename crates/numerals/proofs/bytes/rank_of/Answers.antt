-- The tests cut the code table into stretches, each with its law.
use mathlib.Core.Path.{sym}
use native.Mathlib.Omega.{arith}
use Rattle.numerals.proofs.Ranks.{rank-low, rank-digit, rank-small, rank_other_small, rank_high}
use Rattle.numerals.proofs.bytes.rank_of.Goals as goal

pub returns-then-b-lt48 : goal.returns-then-b-lt48
returns-then-b-lt48 c = sym (rank-low c.args.b (omega arith))

pub returns-then-b-lt58 : goal.returns-then-b-lt58
returns-then-b-lt58 c = sym (rank-digit c.args.b (omega arith) (omega arith))

pub returns-then-b-lt103 : goal.returns-then-b-lt103
returns-then-b-lt103 c = sym (rank-small c.args.b (omega arith) (omega arith))

pub returns-then-b-lt123 : goal.returns-then-b-lt123
returns-then-b-lt123 c = sym (rank_other_small c.args.b (omega arith) (omega arith))

pub returns : goal.returns
returns c = sym (rank_high c.args.b (omega arith))
