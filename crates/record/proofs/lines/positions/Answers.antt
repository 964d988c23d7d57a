-- Line behind line (`wrote-lines`).
use mathlib.Core.List.{[], ◌∷◌}
use native.Mathlib.Omega.{arith}
use Rattle.texts.proofs.Rooms.{wrote_lines}
use Rattle.record.proofs.lines.positions.Goals as goal

pub returns : goal.returns
returns c = (wrote_lines c.args.room.now c.args.at (_ ∷ []) (_ ∷ []) (omega arith) c.line-second.ensures.0 c.line.ensures.0, omega arith)
