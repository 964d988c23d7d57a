-- Flags that become something go to SR through `kept_h`.
use Rattle.effects.proofs.apply.put_flags.Goals as goal

pub returns-in-Some : goal.returns-in-Some
returns-in-Some c = rw (c.in-Some.is, ← c.kept_h.ensures)
