-- The loop's invariant: what is left of the string at the cursor, written from `at + n` on, gives what the whole string gives
-- (Writes.antt); and no more cells are written than bytes passed. The measure is what is left of the line.
use Prim.Native.Nat.{◌+◌}
use mathlib.Core.Path.{refl, sym, ◌∙◌}
use native.Mathlib.Omega.{arith}
use Rattle.items.proofs.Counts.{character_moves}
use Rattle.items.proofs.Writes.{string-start, string_on, string-end}
use Rattle.items.proofs.writing.write_string.Goals as goal

pub loop-b-init : goal.loop-b-init
loop-b-init c =
    let a = c.args in
    (omega arith, refl, string-start a.s.now a.from a.row.now (a.at + a.k))

pub overflow_add-n : goal.overflow_add-n
overflow_add-n c = omega (arith, character_moves c.args.s.now c.loop-b.inside.at (sym c.character.ensures ∙ c.in-Stands.is))

pub loop-b-smaller : goal.loop-b-smaller
loop-b-smaller c = omega (arith, character_moves c.args.s.now c.loop-b.inside.at (sym c.character.ensures ∙ c.in-Stands.is))

pub loop-b-preserved : goal.loop-b-preserved
loop-b-preserved c =
    let a = c.args in
    let l = c.loop-b in
    let e = sym c.character.ensures ∙ c.in-Stands.is in (
      omega (arith, character_moves a.s.now l.inside.at e),
      omega (arith, c.put.auto),
      string_on a.s.now a.from a.row.now (a.at + a.k) l.inside.at l.row (a.at + l.n) l.invariant.2 e
          (cc) (omega arith),
    )

pub returns : goal.returns
returns c =
    let a = c.args in
    let l = c.loop-b in
    string-end a.s.now a.from a.row.now (a.at + a.k) l.inside.at l.row (a.at + l.n) l.invariant.2
    (λ b d e. c.in_default.not-Stands b d (c.character.ensures ∙ e)) c.put-2.ensures
