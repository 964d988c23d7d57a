-- With the place within the row, room for n elements after it is room for the place and n together.
use mathlib.Core.Path.{sym}
use Prim.Native.Nat.{◌+◌}
use native.Mathlib.Omega.{arith}
use borrow.Author.Tests.{lt-leb}
use Rattle.ports.proofs.Outcomes.{room_after}
use Rattle.ports.proofs.has_room.Goals as goal

pub returns-then-size-at : goal.returns-then-size-at
returns-then-size-at c = sym (lt-leb (c.args.at + c.args.n) _ (omega arith))

pub returns : goal.returns
returns c = room_after _ _ _ c.if-size-at.false
