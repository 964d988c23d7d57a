-- Where none waits, nothing is to be done.
use mathlib.Core.Path.{refl}
use Rattle.placing.proofs.PlaceLaws.{none-waits}
use Rattle.placing.proofs.naming.bind_here.Goals as goal

pub returns-then-c-eq0 : goal.returns-then-c-eq0
returns-then-c-eq0 c =
    let a = c.args in
    (c.requires.0, refl, refl, λ ws ms l. none-waits a.c ws _ ms a.c.at.0 l c.if-c-eq0.true)
