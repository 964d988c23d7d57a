use Prim.Native.Nat.{◌<◌}
use mathlib.Core.Path.{◌∙◌, sym}
use native.Mathlib.Omega.{arith}
use borrow.Author.Tests.{ne_eqb}
use lib.ListN.{get_or}
use Rattle.labels.specs.Inner.Labels.{window}
use Rattle.labels.proofs.Laws.{key-other, key-same}
use Rattle.labels.proofs.finding.is_named.Goals as goal

pub returns-then-from-wanted : goal.returns-then-from-wanted
returns-then-from-wanted c =
    let a = c.args in
    let k = get_or a.keys.now a.j 0 in
    let first : get_or a.line.now a.start 0 < 256 = omega (arith, c.type_inv.line a.start) in
    (rw c.from-then-from-wanted.ensures at c.same_rest.ensures)
    ∙ sym (key-same a.s.now a.line.now (get_or a.starts.now a.j 0) a.start a.size k (sym c.from.ensures ∙ c.if-from-wanted.true ∙ c.requires.4) first)

pub returns-else-from-wanted : goal.returns-else-from-wanted
returns-else-from-wanted c =
    let a = c.args in
    let w = window a.line.now a.start a.size in
    ne_eqb _ _ c.if-from-wanted.false
    ∙ key-other a.s.now w (get_or a.starts.now a.j 0) (get_or a.keys.now a.j 0) (λ e. c.if-from-wanted.false (c.from.ensures ∙ e ∙ sym c.requires.4))
