use Prim.Native.Nat.{ℕ, ◌+◌, ◌*◌, ◌%◌}
use mathlib.Core.Path.{refl, ap₂, ◌∙◌}
use native.Mathlib.Omega.{arith}
use Rattle.labels.specs.Inner.Labels.{chains}
use Rattle.labels.proofs.Laws.{chain_none, chain_more}
use Rattle.labels.proofs.chains.chain_of.Goals as goal

pub loop-i-init : goal.loop-i-init
loop-i-init c =
    let a = c.args in
    (omega arith, chain_none a.s.now a.a a.n a.n refl)

pub loop-i-preserved : goal.loop-i-preserved
loop-i-preserved c =
    let a = c.args in
    let p = c.loop-i in (
      omega arith,
      ap₂ (λ (x y : ℕ). (37 * x + y) % chains) p.invariant.1 (c.from.ensures ∙ c.byte.ensures)
          ∙ chain_more a.s.now a.a a.n p.i c.loop-i-test.true p.auto.i,
    )
