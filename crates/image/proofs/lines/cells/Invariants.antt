-- Writing what is left behind what is written is writing all of it (`writing_more`).
use Rattle.image.proofs.Rooms.{Writing}
use Rattle.image.proofs.lines.cells.Given as goal

abbrev pub invariant-loop-address : goal.invariant-loop-address
invariant-loop-address l = Writing l.initial.room l.from l.memory l.map l.room l.at l.address
