-- By what the act gives.
use mathlib.Core.Path.{refl}
use Rattle.placing.proofs.PlaceLaws.{waits_as, number_as, start_as}
use Rattle.placing.proofs.naming.bind_by.Goals as goal

pub returns-in-Waits : goal.returns-in-Waits
returns-in-Waits c = (c.requires.0, refl, refl, λ ws ms l. waits_as _ c.in-Waits.is refl)

pub returns-in-Number : goal.returns-in-Number
returns-in-Number c =
    let e = c.bind.ensures in
    (e.0, e.1, e.2, λ ws ms l. number_as _ c.in-Number.is (e.3 ws ms l))

pub returns-in-Start : goal.returns-in-Start
returns-in-Start c =
    let e = c.bind_here.ensures in
    (e.0, e.1, e.2, λ ws ms l. start_as _ c.in-Start.is (e.3 ws ms l))
