-- Each turn shows one byte more (`copy_more`).
use mathlib.Core.Path.{ap, ◌∙◌}
use mathlib.Core.List.{map}
use native.Mathlib.Omega.{arith}
use lib.ListN.{length, length-map}
use lib.Seq.{take_all}
use Rattle.ports.specs.Overwriting.{overwrite}
use Rattle.ports.proofs.Overwrites.{copy_none, copy_more, copy_end}
use Rattle.desk.specs.Excerpts.{shown_byte}
use Rattle.desk.proofs.Shown.{shown_at}
use Rattle.desk.proofs.excerpts.put_shown.Goals as goal

pub loop-k-init : goal.loop-k-init
loop-k-init c = copy_none _ _ (map shown_byte c.args.part.now) _

pub loop-k-preserved : goal.loop-k-preserved
loop-k-preserved c =
    let part = c.args.part.now in
    copy_more _ _ (map shown_byte part) _ _ _ _ c.loop-k.invariant (omega arith) (omega arith) (omega (arith, length-map part shown_byte))
    (c.shown_byte.ensures ∙ shown_at part c.loop-k.k (omega arith))

pub returns : goal.returns
returns c =
    let part = c.args.part.now in
    let l = length-map part shown_byte in (
      omega (arith, l),
      copy_end _ _ (map shown_byte part) _ _ _ c.loop-k.invariant (omega arith)
          ∙ ap (overwrite _ _) (take_all (length part) (map shown_byte part) (omega (arith, l))),
    )
