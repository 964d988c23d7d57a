-- At 64 bits every operation on numbers of 32 bits is exact; the range is tested after it.
use mathlib.Core.Path.{sym, ap, ◌∙◌}
use mathlib.Core.Bool.{Bool, cond}
use lib.IntN.{◌+ℤ◌, ◌-ℤ◌, ◌*ℤ◌}
use lib.Signed.{quot_z, rem_z}
use Rattle.expressions.specs.Worths.{within32, operation}
use Rattle.expressions.specs.declared.Operation.{Operation}
use Rattle.std.proofs.Common.{Err}
use Rattle.expressions.specs.declared.Fault.TheVariants.{ByZero}
use Rattle.expressions.proofs.Ranges.{plus-fits, minus-fits, times-fits, quot_fits, rem_fits, wide, op_fits, op_kept, zero_bits, no_zero, divides}
use Rattle.expressions.proofs.worths.operation_on.Goals as goal

pub overflow_cast-x : goal.overflow_cast-x
overflow_cast-x c = wide c.ranges.a

pub overflow_cast-y : goal.overflow_cast-y
overflow_cast-y c = wide c.ranges.b

pub overflow_add-x : goal.overflow_add-x
overflow_add-x c = let h = c.ranges in op_fits ◌+ℤ◌ h.a h.b (plus-fits h.a h.b)

pub overflow_sub-x : goal.overflow_sub-x
overflow_sub-x c = let h = c.ranges in op_fits ◌-ℤ◌ h.a h.b (minus-fits h.a h.b)

pub overflow_mul-x : goal.overflow_mul-x
overflow_mul-x c = let h = c.ranges in op_fits ◌*ℤ◌ h.a h.b (times-fits h.a h.b)

pub nonzero_div-x : goal.nonzero_div-x
nonzero_div-x c =
    let h = c.ranges in
    (divides h.b c.if-b-eq0.false, op_fits quot_z h.a h.b (quot_fits h.a h.b))

pub nonzero_rem-x : goal.nonzero_rem-x
nonzero_rem-x c =
    let h = c.ranges in
    (divides h.b c.if-b-eq0-2.false, op_fits quot_z h.a h.b (quot_fits h.a h.b))

pub returns-then-b-eq0 : goal.returns-then-b-eq0
unfolding operation
returns-then-b-eq0 c =
    let a = c.args.a in
    let b = c.args.b in
    sym
    (ap (λ (o : Operation). operation o a b) c.in-Over.is
    ∙ ap (λ (q : Bool). cond q (Err ByZero) (within32 (quot_z a b))) (zero_bits b c.ranges.b c.if-b-eq0.true))

pub returns-then-b-eq0-2 : goal.returns-then-b-eq0-2
unfolding operation
returns-then-b-eq0-2 c =
    let a = c.args.a in
    let b = c.args.b in
    sym
    (ap (λ (o : Operation). operation o a b) c.in-Rest.is
    ∙ ap (λ (q : Bool). cond q (Err ByZero) (within32 (rem_z a b))) (zero_bits b c.ranges.b c.if-b-eq0-2.true))

pub returns-in-Plus : goal.returns-in-Plus
unfolding operation
returns-in-Plus c =
    let h = c.ranges in
    op_kept ◌+ℤ◌ h.a h.b (plus-fits h.a h.b) c.within.ensures
    ∙ sym (ap (λ (o : Operation). operation o c.args.a c.args.b) c.in-Plus.is)

pub returns-in-Minus : goal.returns-in-Minus
unfolding operation
returns-in-Minus c =
    let h = c.ranges in
    op_kept ◌-ℤ◌ h.a h.b (minus-fits h.a h.b) c.within-in-Minus.ensures
    ∙ sym (ap (λ (o : Operation). operation o c.args.a c.args.b) c.in-Minus.is)

pub returns-in-Times : goal.returns-in-Times
unfolding operation
returns-in-Times c =
    let h = c.ranges in
    op_kept ◌*ℤ◌ h.a h.b (times-fits h.a h.b) c.within-in-Times.ensures
    ∙ sym (ap (λ (o : Operation). operation o c.args.a c.args.b) c.in-Times.is)

pub returns-else-b-eq0 : goal.returns-else-b-eq0
unfolding operation
returns-else-b-eq0 c =
    let h = c.ranges in
    let a = c.args.a in
    let b = c.args.b in
    op_kept quot_z h.a h.b (quot_fits h.a h.b) c.within-in-Over.ensures
    ∙ sym
    (ap (λ (o : Operation). operation o a b) c.in-Over.is
    ∙ ap (λ (q : Bool). cond q (Err ByZero) (within32 (quot_z a b))) (no_zero b c.if-b-eq0.false))

pub returns-else-b-eq0-2 : goal.returns-else-b-eq0-2
unfolding operation
returns-else-b-eq0-2 c =
    let h = c.ranges in
    let a = c.args.a in
    let b = c.args.b in
    op_kept rem_z h.a h.b (rem_fits h.a h.b) c.within-in-Rest.ensures
    ∙ sym
    (ap (λ (o : Operation). operation o a b) c.in-Rest.is
    ∙ ap (λ (q : Bool). cond q (Err ByZero) (within32 (rem_z a b))) (no_zero b c.if-b-eq0-2.false))
