-- The loop cuts after each digit, and the worth that is left stays the same; cutting on the way is cutting at the end.
use Prim.Native.Nat.{◌+◌, ◌*◌, ◌-◌}
use mathlib.Core.Path.{◌≡◌, sym, ◌∙◌}
use native.Mathlib.Nat.{mul-le-mul_right}
use native.Mathlib.Omega.{arith}
use lib.ListN.{get_or, take, drop}
use Rattle.numerals.specs.Bytes.{rank}
use Rattle.numerals.specs.Numbers.{cut}
use Rattle.numerals.proofs.Worths.{cut_at_end, cut_step, cut-done}
use Rattle.numerals.proofs.reading.worth_of.Goals as goal

pub overflow_mul-v : goal.overflow_mul-v
overflow_mul-v c = omega (arith, mul-le-mul_right c.from.result c.loop-i.invariant.1)

pub overflow_add-v : goal.overflow_add-v
overflow_add-v c = omega (arith, mul-le-mul_right c.from.result c.loop-i.invariant.1, c.rank_of.type_inv)

pub loop-i-preserved : goal.loop-i-preserved
loop-i-preserved c =
    let a = c.args in
    let e : c.min-v.result ≡ cut (c.loop-i.v * a.radix + rank (get_or a.s.now c.loop-i.i 0)) =
    rw (c.min-v.ensures, c.from.ensures, c.from-in-loop-i.ensures, c.rank_of.ensures) (omega arith) in (
      omega arith,
      omega arith,
      c.loop-i.invariant.2 ∙ cut_step a.radix c.loop-i.v c.loop-i.i a.end a.s.now (omega arith) (omega arith) e,
    )

pub returns : goal.returns
returns c =
    let a = c.args in
    sym (cut-done a.radix c.loop-i.v c.loop-i.i a.end a.s.now c.loop-i-test.false)
    ∙ sym c.loop-i.invariant.2
    ∙ cut_at_end a.radix 0 (take (a.end - a.from) (drop a.from a.s.now))
