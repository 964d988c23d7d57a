-- A name at its place among the labels, or at none.
use mathlib.Core.Path.{refl}
use Rattle.labels.specs.Inner.Labels.{window}
use Rattle.settling.proofs.Laws.{value_is, value_no}
use Rattle.settling.proofs.words.look_up.Goals as goal

pub returns-then-k-count : goal.returns-then-k-count
returns-then-k-count c =
    let a = c.args in
    value_is a.s.now a.starts.now a.keys.now a.values.now (window a.s.now a.start a.size) a.count c.find-k.result
    c.find-k.ensures c.requires.2.values_reach c.if-k-count.true

pub returns : goal.returns
returns c =
    let a = c.args in (
      value_no a.s.now a.starts.now a.keys.now a.values.now (window a.s.now a.start a.size) a.count c.find-k.result
          c.find-k.ensures c.if-k-count.false,
      refl,
    )
