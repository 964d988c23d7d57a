-- Each turn copies one low byte more (`copy_more`).
use mathlib.Core.Path.{sym, ap, ◌∙◌}
use mathlib.Core.List.{map}
use native.Mathlib.Omega.{arith}
use lib.ListN.{drop, length-drop, length-map, get_or-map}
use lib.Seq.{get_or-drop}
use Rattle.ports.specs.Overwriting.{overwrite}
use Rattle.ports.specs.Output.{low_byte}
use Rattle.ports.proofs.Outcomes.{take-map}
use Rattle.ports.proofs.Overwrites.{copy_none, copy_more, copy_end}
use Rattle.ports.proofs.output.print.Goals as goal

pub loop-k-init : goal.loop-k-init
loop-k-init c = copy_none _ _ (map low_byte (drop c.args.from c.args.m.now)) _

pub loop-k-preserved : goal.loop-k-preserved
loop-k-preserved c =
    let a = c.args in
    let cells = drop a.from a.m.now in
    copy_more _ _ (map low_byte cells) _ _ _ _ c.loop-k.invariant (omega arith) (omega arith)
    (omega (arith, length-map cells low_byte, length-drop a.from a.m.now))
    (sym (get_or-map low_byte cells _ 0 ∙ ap low_byte (get_or-drop a.from a.m.now _ 0)))

pub returns : goal.returns
returns c =
    let a = c.args in
    let cells = drop a.from a.m.now in
    copy_end _ _ (map low_byte cells) _ _ _ c.loop-k.invariant (omega arith) ∙ ap (overwrite _ _) (take-map low_byte a.n cells)
