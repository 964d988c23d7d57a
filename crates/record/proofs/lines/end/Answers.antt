-- Line behind line (`lines-on`).
use mathlib.Core.List.{[], ◌∷◌}
use Prim.Native.Nat.{◌≤◌}
use lib.ListN.{length}
use native.Mathlib.Omega.{arith}
use Rattle.record.proofs.Texts.{lines_on}
use Rattle.record.proofs.lines.end.Goals as goal

pub returns : goal.returns
returns c =
    let h : 0 ≤ length c.args.room.now = omega arith in
    let two = lines_on c.args.room.now 0 (_ ∷ []) (_ ∷ []) 20 20 h c.line-second.ensures c.line-third.ensures in
    lines_on c.args.room.now 0 (_ ∷ _ ∷ []) (_ ∷ []) 40 20 h two c.cell.ensures
