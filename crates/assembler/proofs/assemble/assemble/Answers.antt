-- What is lent is wrong, or the source is too long, or all is by the source (Promised).
use mathlib.Core.Logic.{inl, inr}
use Rattle.assembler.proofs.Promised.{bad-loan, too_long, replies}
use Rattle.assembler.proofs.assemble.assemble.Goals as goal
use Rattle.assembler.proofs.assemble.assemble.Goals.{then-m-eq0-via-then-m-eq0, then-m-eq0-via-else-m-eq0+then-m-gt-MOST_CELLS, then-m-eq0-via-else-m-eq0+else-m-gt-MOST_CELLS+then-map-m}

-- no memory, too much of it, or a map of another length
pub returns-then-m-eq0 : goal.returns-then-m-eq0
returns-then-m-eq0 c =
    let a = c.args in
    bad-loan a.source.now a.memory.now a.map.now c.refused.result c.refused.ensures
    (elim c.then-m-eq0.branch [
      | then-m-eq0-via-then-m-eq0 w ↦ inl w.if-m-eq0.true
      | then-m-eq0-via-else-m-eq0+then-m-gt-MOST_CELLS w ↦ inr (inl w.if-m-gt-MOST_CELLS.true)
      | then-m-eq0-via-else-m-eq0+else-m-gt-MOST_CELLS+then-map-m w ↦ inr (inr w.if-map-m.true)
    ])

pub returns-then-source-gt-LONGEST_SOURCE : goal.returns-then-source-gt-LONGEST_SOURCE
returns-then-source-gt-LONGEST_SOURCE c =
    let a = c.args in
    too_long a.source.now a.memory.now a.map.now c.refused-then-source-gt-LONGEST_SOURCE.result c.refused-then-source-gt-LONGEST_SOURCE.ensures c.if-m-eq0.false c.if-m-gt-MOST_CELLS.false
    c.if-map-m.false c.if-source-gt-LONGEST_SOURCE.true

pub returns : goal.returns
returns c =
    let made = c.assemble_lent in
    let a = c.args in
    replies a.source.now a.memory.now a.map.now made.result made.new.memory made.new.map c.if-m-eq0.false
    c.if-m-gt-MOST_CELLS.false c.if-map-m.false c.if-source-gt-LONGEST_SOURCE.false made.ensures
