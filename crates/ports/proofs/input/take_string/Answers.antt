-- The tests are those of the meaning; `fill` writes the line and a 0.
use mathlib.Core.Path.{sym, ◌∙◌}
use Prim.Native.Nat.{◌+◌}
use native.Mathlib.Omega.{arith}
use borrow.Author.Tests.{leb-true}
use lib.ListN.{length}
use Rattle.numerals.specs.Bytes.{LF}
use Rattle.ports.proofs.Searches.{up_to-ends}
use Rattle.ports.proofs.Outcomes.{string-none, string-taken, string-long}
use Rattle.ports.proofs.input.take_string.Goals as goal

pub returns-then-input-at : goal.returns-then-input-at
returns-then-input-at c = sym (string-none _ _ _ _ c.if-input-at.true)

pub overflow_add-line : goal.overflow_add-line
overflow_add-line c = let a = c.args in rw c.line_at-line.ensures (omega (arith, up_to-ends LF a.input.now a.at (omega arith)))

pub returns-then-not-has_room : goal.returns-then-not-has_room
returns-then-not-has_room c =
    sym (string-long _ _ _ _ c.if-input-at.false (rw c.line_at-line.ensures at (sym c.has_room.ensures ∙ c.if-not-has_room.true)))

pub fill-requires : goal.fill-requires
fill-requires c =
    let a = c.args in
    omega (arith, leb-true (a.to + (length c.line_at-line.result.now + 1)) (length a.m.now) (sym c.has_room.ensures ∙ c.if-not-has_room.false))

pub overflow_add-at : goal.overflow_add-at
overflow_add-at c = let a = c.args in rw c.line_at-line.ensures (omega (arith, up_to-ends LF a.input.now a.at (omega arith)))

pub after-requires : goal.after-requires
after-requires c = rw c.line_at-line.ensures

pub returns : goal.returns
returns c =
    rw (c.after.ensures, c.fill.ensures, c.line_at-line.ensures)
    (sym (string-taken _ _ _ _ c.if-input-at.false (rw c.line_at-line.ensures at (sym c.has_room.ensures ∙ c.if-not-has_room.false))))
