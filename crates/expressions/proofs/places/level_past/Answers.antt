-- The level of the row from the cursor on stays that of the rest, with what is next and the height; a token more takes a byte at least.
use mathlib.Core.Path.{sym, ◌∙◌}
use native.Mathlib.Omega.{arith}
use Rattle.expressions.proofs.Scans.{scan_moves}
use Rattle.expressions.proofs.Levels.{level_wrong, level-on, level_past}
use Rattle.expressions.proofs.places.level_past.Goals as goal

pub returns-in_default : goal.returns-in_default
returns-in_default c =
    let l = c.loop-further in
    sym
    (l.invariant.1
    ∙ level_wrong c.args.s.now l.at.at l.scan.operand l.scan.height c.next_token-t.ensures c.symbol_of.ensures c.scan_step.ensures c.in_default.is)

pub returns-then-further : goal.returns-then-further
returns-then-further c =
    let l = c.loop-further in
    sym
    (l.invariant.1
    ∙ level_past c.args.s.now l.at.at l.scan.operand l.scan.height c.next_token-t.ensures c.symbol_of.ensures c.scan_step.ensures
    c.in-Some.is c.if-further.true)

pub loop-further-smaller : goal.loop-further-smaller
loop-further-smaller c =
    let l = c.loop-further in
    let m = scan_moves c.args.s.now l.at.at l.scan.operand l.scan.height c.next_token-t.ensures c.symbol_of.ensures c.scan_step.ensures c.in-Some.is in
    omega arith

pub loop-further-preserved : goal.loop-further-preserved
loop-further-preserved c =
    let l = c.loop-further in (
      c.if-further.false,
      l.invariant.1
          ∙ level-on c.args.s.now l.at.at l.scan.operand l.scan.height c.next_token-t.ensures c.symbol_of.ensures c.scan_step.ensures
          c.in-Some.is c.if-further.false,
    )
