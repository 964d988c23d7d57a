use native.Mathlib.Omega.{arith}
use Rattle.labels.proofs.Laws.{key-none, key-some}
use Rattle.labels.proofs.chains.key.Goals as goal

pub returns-then-n-eq0 : goal.returns-then-n-eq0
returns-then-n-eq0 c = key-none c.args.s.now c.args.a c.args.n c.if-n-eq0.true

pub returns : goal.returns
returns c =
    let a = c.args in
    omega (arith, c.from.ensures, c.from-2.ensures, c.byte.ensures, key-some a.s.now a.a a.n c.if-n-eq0.false)
