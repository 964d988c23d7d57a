-- Where the refusal points is what `pointed_in` finds.
use mathlib.Core.Path.{ap, ◌∙◌}
use Rattle.columns.specs.Columns.{line_numbered, pointed}
use Rattle.codes.specs.Refusals.{number}
use Rattle.columns.specs.declared.Pointed.{Pointed}
use Rattle.sources.specs.Order.{◌on◌}
use Rattle.assembler.specs.Inner.Parts.{refusal_at}
use Rattle.assembler.proofs.assemble.refused_line.Goals as goal

pub returns : goal.returns
returns c =
    let a = c.args in
    c.refused.ensures
    ∙ ap (λ (p : Pointed). refusal_at (number a.why on a.line.0) p)
    (c.pointed_in-p.ensures ∙ ap (pointed (line_numbered a.s.now a.line.0)) c.from.ensures)
