-- Each turn copies one byte more (`copy_more`), and the 0 cell is one element more at the end (`copy_last`).
use native.Mathlib.Omega.{arith}
use lib.Seq.{take-length}
use Rattle.ports.proofs.Overwrites.{copy_last, copy_none, copy_more}
use Rattle.ports.proofs.input.fill.Goals as goal

pub loop-k-init : goal.loop-k-init
loop-k-init c = copy_none _ _ c.args.text.now _

pub loop-k-preserved : goal.loop-k-preserved
loop-k-preserved c = copy_more _ _ c.args.text.now _ _ _ _ c.loop-k.invariant (omega arith) (omega arith) (omega arith) c.from.ensures

pub returns : goal.returns
returns c =
    let text = c.args.text.now in
    rw (take-length text) at (copy_last _ _ text _ _ _ 0 c.loop-k.invariant (omega arith) (omega arith) (omega arith))
