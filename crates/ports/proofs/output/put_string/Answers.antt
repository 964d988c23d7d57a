-- The cells up to the place that `zero_at` found are the string; there is one where that place lies in memory.
use mathlib.Core.Path.{sym, ◌∙◌}
use Prim.Native.Nat.{◌+◌, ◌-◌, ◌≤◌}
use native.Mathlib.Omega.{arith}
use borrow.Author.Tests.{leb-true}
use lib.ListN.{length}
use Rattle.ports.proofs.Outcomes.{string-unended, string-put, string-short}
use Rattle.ports.proofs.output.put_string.Goals.{Else-not-has_room}
use Rattle.ports.proofs.output.put_string.Goals as goal

fits : (c : Else-not-has_room) → c.args.at + (c.zero_at-end.result - c.args.from) ≤ length c.args.out.now
fits c = leb-true _ _ (sym c.has_room.ensures ∙ c.if-not-has_room.false)

pub returns-then-m-end : goal.returns-then-m-end
returns-then-m-end c =
    let unended : length c.args.m.now ≤ c.zero_at-end.result = omega arith in
    sym (string-unended _ _ _ _ _ c.zero_at-end.ensures unended)

pub returns-then-not-has_room : goal.returns-then-not-has_room
returns-then-not-has_room c =
    let room = sym c.has_room.ensures ∙ c.if-not-has_room.true in
    sym (string-short _ _ _ _ _ c.zero_at-end.ensures c.if-m-end.false room)

pub print-requires : goal.print-requires
print-requires c = omega (arith, fits (goal.at.print-requires c).Else-not-has_room)

pub overflow_add-result : goal.overflow_add-result
overflow_add-result c = omega (arith, fits (goal.at.overflow_add-result c).Else-not-has_room)

pub returns : goal.returns
returns c =
    let room = sym c.has_room.ensures ∙ c.if-not-has_room.false in
    rw c.print.ensures
    (sym (string-put _ _ _ _ _ c.zero_at-end.ensures c.if-m-end.false room))
