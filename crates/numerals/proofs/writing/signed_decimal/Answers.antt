-- A decimal leaves at least one of the 11 places free, and the `-` goes there.
use native.Mathlib.Omega.{arith}
use Prim.Native.Nat.{◌-◌}
use borrow.Author.Tests.{lt-ltb, le-ltb}
use Rattle.numerals.specs.Writing.{signed_decimal}
use Rattle.numerals.proofs.Filling.{start_of, put_front}
use Rattle.numerals.proofs.writing.signed_decimal.Goals as goal

pub returns-then-x-lt32768 : goal.returns-then-x-lt32768
unfolding signed_decimal
returns-then-x-lt32768 c = rw (lt-ltb c.args.x 32768 c.if-x-lt32768.true) c.unsigned_decimal.ensures

pub overflow_sub-start : goal.overflow_sub-start
overflow_sub-start c = (start_of (65536 - c.args.x) c.unsigned_decimal-its.ensures).0

pub bounds-its-start : goal.bounds-its-start
bounds-its-start c = omega (arith, start_of (65536 - c.args.x) c.unsigned_decimal-its.ensures)

pub returns : goal.returns
unfolding signed_decimal
returns c =
    let x = c.args.x in
    rw (le-ltb x 32768 c.if-x-lt32768.false) (put_front 45 (65536 - x) c.unsigned_decimal-its.ensures)
