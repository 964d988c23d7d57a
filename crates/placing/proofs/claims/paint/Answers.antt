-- The cells are filled with the mark, where there are any.
use borrow.Author.Rules.{rules}
use mathlib.Core.Path.{◌≡◌}
use native.Mathlib.Omega.{arith}
use Prim.Native.Nat.{◌+◌, ◌-◌}
use lib.ListN.{length, take, drop, replicate}
use Rattle.placing.proofs.CellLaws.{painted}
use Rattle.placing.proofs.claims.paint.Goals as goal

pub returns-then-n-ne0 : goal.returns-then-n-ne0
returns-then-n-ne0 c =
    let a = c.args in
    let n = c.if-n-ne0.true in
    let e : c.fill.new.self ≡ replicate (length (take (a.at + a.n - a.at) (drop a.at a.marks.now))) a.mark = search rules in
    rw e (painted a.marks.now a.at a.n a.mark (c.requires (omega (arith, n))))

pub returns-else-n-ne0 : goal.returns-else-n-ne0
returns-else-n-ne0 c = rw c.if-n-ne0.false
