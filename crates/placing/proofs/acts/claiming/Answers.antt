-- The row as it is named.
use mathlib.Core.Path.{refl}
use Rattle.placing.proofs.acts.claiming.Goals as goal

pub returns : goal.returns
returns c = refl
