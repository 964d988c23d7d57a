use Prim.Native.Nat.{◌+◌, ◌-◌, ◌<◌}
use mathlib.Core.Path.{◌≡◌}
use Rattle.labels.specs.Inner.Labels.{window, chain_of, chains}
use Rattle.labels.proofs.chains.chain_of.Given as goal

abbrev pub invariant-loop-i : goal.invariant-loop-i
invariant-loop-i l = (l.chain < chains) × (l.chain ≡ chain_of (window l.s (l.a + l.i) (l.n - l.i)))
