-- The item there, where one begins (Located).
use Rattle.std.proofs.Common.{arith}
use Rattle.std.proofs.lemmas.Grind.{common_steps}
use Rattle.items.proofs.Located.{out_there}
use Rattle.items.proofs.places.out_at.Goals as goal

pub returns-then-begins : goal.returns-then-begins
returns-then-begins c =
    let e = out_there c.args.s.now c.args.from.at c.item.result c.item.ensures in
    rw c.if-begins.true (grind (arith, common_steps, c.is_some_and.ensures, e))
