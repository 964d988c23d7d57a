-- Those that wait are filled in.
use mathlib.Core.Path.{refl}
use native.Mathlib.Omega.{arith}
use Rattle.placing.proofs.NameLaws.{bound_all_lem}
use Rattle.placing.proofs.naming.bind.Goals as goal

pub returns : goal.returns
returns c =
    let a = c.args in
    let f = c.requires.0 in (
      record { low = f.low; few = omega (arith, f.few) },
      refl,
      omega arith,
      λ ws ms l. bound_all_lem a.c ws a.values.now _ ms a.v l (omega arith) c.fill.ensures,
    )
