use Rattle.effects.proofs.Laws.{memory-length}
use Rattle.machine.specs.Steps.{does}
use Rattle.machine.proofs.lent.do_effect.Goals as goal

pub returns : goal.returns
unfolding does
returns c = λ out was is. rw (c.answered.ensures, c.stop_at.ensures, c.change_registers.ensures, c.change_memory.ensures, memory-length)
