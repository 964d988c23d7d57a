-- The tests cut the stretch from 58 to 96 further, each part with its law.
use mathlib.Core.Path.{sym, ap}
use native.Mathlib.Omega.{arith}
use Rattle.numerals.specs.Bytes.{rank}
use Rattle.numerals.proofs.Ranks.{rank-mark, rank-capital, rank_other_capital, rank_high_mark}
use Rattle.numerals.proofs.bytes.rank_of_capital.Goals as goal

pub returns-then-b-lt65 : goal.returns-then-b-lt65
returns-then-b-lt65 c = sym (rank-mark c.args.b (omega arith) (omega arith))

pub returns-then-b-lt71 : goal.returns-then-b-lt71
returns-then-b-lt71 c = sym (rank-capital c.args.b (omega arith) (omega arith))

pub returns-then-b-lt91 : goal.returns-then-b-lt91
returns-then-b-lt91 c = sym (rank_other_capital c.args.b (omega arith) (omega arith))

pub returns-then-b-eq95 : goal.returns-then-b-eq95
unfolding rank
returns-then-b-eq95 c = sym (ap rank c.if-b-eq95.true)

pub returns : goal.returns
returns c = sym (rank_high_mark c.args.b (omega arith) (omega arith) c.if-b-eq95.false)
