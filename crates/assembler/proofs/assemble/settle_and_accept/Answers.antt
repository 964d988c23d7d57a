-- By what the labels come to: a refusal points where `name_in` finds it; else all is copied.
use mathlib.Core.Path.{ap, ◌∙◌}
use Rattle.columns.specs.Columns.{line_numbered, name_column}
use Rattle.labels.specs.Inner.Labels.{labels_in}
use Rattle.uses.specs.Inner.Held.{uses_held}
use Rattle.sources.specs.Inner.Assembling.{uses_verdict, second_refused, filled}
use Rattle.sources.specs.Inner.Pointing.{label_point}
use Rattle.assembler.proofs.Outcomes.{not-settled, all_settled}
use Rattle.assembler.proofs.assemble.settle_and_accept.Goals as goal

-- a label is refused
pub returns-in-Err : goal.returns-in-Err
returns-in-Err c =
    let named = c.name_in-column in
    let a = c.args in
    let bs = labels_in a.s.now a.starts.now a.keys.now a.values.now a.labels in
    let us = uses_held a.s.now a.row.now a.aways.now a.uses in
    not-settled a.memory.now a.map.now a.s.now c.settle.result c.in-Err.why.refusal c.in-Err.why.line c.in-Err.why.second
    (uses_verdict bs us) (second_refused 0 bs us) (filled bs us a.cells.now) c.settle.new.cells a.marks.now
    named.result.0 _ c.in-Err.is c.settle.ensures (named.ensures ∙ ap (λ n. name_column (line_numbered a.s.now c.in-Err.why.line.0) n c.in-Err.why.second) c.from.ensures) c.refused.ensures

-- none is
pub returns-in-Ok : goal.returns-in-Ok
returns-in-Ok c =
    let a = c.args in
    let bs = labels_in a.s.now a.starts.now a.keys.now a.values.now a.labels in
    let us = uses_held a.s.now a.row.now a.aways.now a.uses in
    all_settled a.memory.now a.map.now c.settle.result (uses_verdict bs us) (second_refused 0 bs us) (label_point a.s.now bs us)
    (filled bs us a.cells.now) c.settle.new.cells a.marks.now _ c.in-Ok.is
    c.settle.ensures c.accept.ensures
