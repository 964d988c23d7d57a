-- The test is the one of the meaning, and the part that the text is copied to is overwritten.
use mathlib.Core.Path.{sym, ◌∙◌}
use Prim.Native.Nat.{◌+◌, ◌-◌, ◌≤◌}
use native.Mathlib.Omega.{arith}
use borrow.Author.Tests.{leb-true}
use lib.ListN.{length}
use Rattle.ports.proofs.Outcomes.{text-put, text-short}
use Rattle.ports.proofs.Overwrites.{overwrite_part}
use Rattle.ports.proofs.output.put_text.Goals.{Else-not-has_room}
use Rattle.ports.proofs.output.put_text.Goals as goal

fits : (c : Else-not-has_room) → c.args.at + length c.args.text.now ≤ length c.args.out.now
fits c = leb-true _ _ (sym c.has_room.ensures ∙ c.if-not-has_room.false)

pub returns-then-not-has_room : goal.returns-then-not-has_room
returns-then-not-has_room c = sym (text-short _ _ _ (sym c.has_room.ensures ∙ c.if-not-has_room.true))

pub overflow_add-next : goal.overflow_add-next
overflow_add-next c = omega (arith, fits (goal.at.overflow_add-next c).Else-not-has_room)

pub slice_bounds-copy_from_slice-end : goal.slice_bounds-copy_from_slice-end
slice_bounds-copy_from_slice-end c = omega (arith, fits (goal.at.slice_bounds-copy_from_slice-end c).Else-not-has_room)

pub returns : goal.returns
returns c =
    let a = c.args in
    let row = overwrite_part a.out.now a.at (a.at + length a.text.now - a.at) a.text.now c.copy_from_slice.new.self c.copy_from_slice.ensures.after (omega arith) in
    rw (row, text-put _ _ _ (sym c.has_room.ensures ∙ c.if-not-has_room.false))
