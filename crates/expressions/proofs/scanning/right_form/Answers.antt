-- The form of the row from the cursor on stays that of the rest, with what is next and the height; a token more takes a byte at least.
use mathlib.Core.Path.{sym, ◌∙◌}
use native.Mathlib.Omega.{arith}
use Rattle.expressions.proofs.Scans.{scan_ended, scan_wrong, scan-on, scan_moves}
use Rattle.expressions.proofs.scanning.right_form.Goals as goal

pub returns-then-is_end : goal.returns-then-is_end
returns-then-is_end c =
    let l = c.loop-t in
    c.may_end.ensures ∙ sym (l.invariant.2 ∙ scan_ended c.args.s.now l.at.at l.scan.operand l.scan.height c.next_token-t.ensures c.is_end.ensures c.if-is_end.true)

pub returns-in_default : goal.returns-in_default
returns-in_default c =
    let l = c.loop-t in
    sym
    (l.invariant.2
    ∙ scan_wrong c.args.s.now l.at.at l.scan.operand l.scan.height c.next_token-t.ensures c.symbol_of.ensures c.scan_step.ensures
    (sym c.is_end.ensures ∙ c.if-is_end.false) c.in_default.is)

pub loop-t-smaller : goal.loop-t-smaller
loop-t-smaller c =
    let l = c.loop-t in
    let m = scan_moves c.args.s.now l.at.at l.scan.operand l.scan.height c.next_token-t.ensures c.symbol_of.ensures c.scan_step.ensures c.in-Some.is in
    omega arith

pub loop-t-preserved : goal.loop-t-preserved
loop-t-preserved c =
    let l = c.loop-t in
    let m = scan_moves c.args.s.now l.at.at l.scan.operand l.scan.height c.next_token-t.ensures c.symbol_of.ensures c.scan_step.ensures c.in-Some.is in (
      omega arith,
      omega arith,
      l.invariant.2 ∙ scan-on c.args.s.now l.at.at l.scan.operand l.scan.height c.next_token-t.ensures c.symbol_of.ensures c.scan_step.ensures c.in-Some.is,
    )
