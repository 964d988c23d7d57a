-- The loop's invariant: what is left of the string at the cursor has all but `count` of its characters (Counts.antt), each of a byte at
-- least. The measure is what is left of the line.
use mathlib.Core.Path.{sym, ◌∙◌}
use native.Mathlib.Omega.{arith}
use Rattle.items.proofs.Counts.{character_moves, count-start, count_on, count-end}
use Rattle.items.proofs.strings.character_count.Goals as goal

pub loop-next-init : goal.loop-next-init
loop-next-init c = (omega arith, count-start c.args.s.now c.args.from)

pub overflow_add-count : goal.overflow_add-count
overflow_add-count c = omega (arith, character_moves c.args.s.now c.loop-next.at.at (sym c.character.ensures ∙ c.in-Stands.is))

pub loop-next-smaller : goal.loop-next-smaller
loop-next-smaller c = omega (arith, character_moves c.args.s.now c.loop-next.at.at (sym c.character.ensures ∙ c.in-Stands.is))

pub loop-next-preserved : goal.loop-next-preserved
loop-next-preserved c =
    let a = c.args in
    let l = c.loop-next in
    let k = sym c.character.ensures ∙ c.in-Stands.is in
    (omega (arith, character_moves a.s.now l.at.at k), count_on a.s.now a.from l.at.at l.count l.invariant.1 k)

pub returns : goal.returns
returns c =
    let a = c.args in
    let l = c.loop-next in
    count-end a.s.now a.from l.at.at l.count l.invariant.1 (λ b d e. c.in_default.not-Stands b d (c.character.ensures ∙ e))
