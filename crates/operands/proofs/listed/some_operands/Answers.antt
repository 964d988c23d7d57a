-- One turn of the loop reads one operand; what is left to read is listed as before (Lists).
use mathlib.Core.Path.{refl, sym, ap, ◌∙◌}
use native.Mathlib.Omega.{arith}
use Rattle.std.proofs.Common.{Some}
use Rattle.operands.proofs.Lists.{some-wrong, some-over, some-neither, some-comma}
use Rattle.operands.proofs.listed.some_operands.Goals as goal

pub loop-o-init : goal.loop-o-init
loop-o-init c = refl

pub returns-in_err-o : goal.returns-in_err-o
returns-in_err-o c = c.from_residual.ensures ∙ sym (c.loop-o.invariant ∙ some-wrong c.args.s.now c.loop-o.all c.loop-o.at.at c.in_err-o.ensures)

pub returns-in-Over : goal.returns-in-Over
returns-in-Over c =
    ap Some c.with_operand-all.ensures
    ∙ sym (c.loop-o.invariant ∙ some-over c.args.s.now c.loop-o.all c.loop-o.at.at c.in_ok-o.ensures (sym c.in-Over.ensures))

pub returns-in-Neither : goal.returns-in-Neither
returns-in-Neither c = sym (c.loop-o.invariant ∙ some-neither c.args.s.now c.loop-o.all c.loop-o.at.at c.in_ok-o.ensures (sym c.in-Neither.ensures))

pub loop-o-smaller : goal.loop-o-smaller
loop-o-smaller c =
    let h = some-comma c.args.s.now c.loop-o.all c.loop-o.at.at c.in_ok-o.ensures c.with_operand-all.ensures (sym c.in-Comma.ensures) in
    omega (arith, h.1, h.2)

pub loop-o-preserved : goal.loop-o-preserved
loop-o-preserved c =
    c.loop-o.invariant ∙ (some-comma c.args.s.now c.loop-o.all c.loop-o.at.at c.in_ok-o.ensures c.with_operand-all.ensures (sym c.in-Comma.ensures)).0
