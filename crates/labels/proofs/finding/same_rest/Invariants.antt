use Prim.Native.Nat.{◌+◌, ◌-◌}
use mathlib.Core.Path.{◌≡◌}
use Rattle.labels.specs.Inner.Labels.{window}
use Rattle.names.specs.Names.{same}
use Rattle.labels.proofs.finding.same_rest.Given as goal

abbrev pub invariant-loop-i : goal.invariant-loop-i
invariant-loop-i l = same (window l.s (l.a + 1) (l.n - 1)) (window l.t (l.b + 1) (l.n - 1)) ≡ same (window l.s (l.a + l.i) (l.n - l.i)) (window l.t (l.b + l.i) (l.n - l.i))
