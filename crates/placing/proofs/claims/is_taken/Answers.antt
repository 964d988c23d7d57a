-- Whether any of the cells has a mark, where there are any.
use borrow.Author.Rules.{rules}
use borrow.Author.Tests.{tests}
use mathlib.Core.Bool.{not}
use mathlib.Core.Path.{◌∙◌}
use native.Mathlib.Omega.{arith}
use Prim.Native.Nat.{ℕ, ◌+◌, ◌-◌}
use lib.Dec.{eqb}
use lib.ListN.{take, drop}
use Rattle.std.proofs.lemmas.Iterator.{YieldsList-from_slice}
use Rattle.std.proofs.lemmas.Iterator.Search.{any_from_yields_List}
use Rattle.placing.proofs.CellLaws.{taken_any, taken_none}
use Rattle.placing.proofs.claims.is_taken.Goals as goal

pub returns-then-n-ne0 : goal.returns-then-n-ne0
returns-then-n-ne0 c =
    let a = c.args in
    let n = c.if-n-ne0.true in
    any_from_yields_List (λ (m : ℕ). not (eqb m 0)) _ _ _ c.any.ensures.ran
    (YieldsList-from_slice (take (a.at + a.n - a.at) (drop a.at a.marks.now)) (cc)) (λ x b q k. search (rules, tests))
    ∙ taken_any a.marks.now a.at a.n (c.requires (omega (arith, n)))

pub returns-else-n-ne0 : goal.returns-else-n-ne0
returns-else-n-ne0 c = let a = c.args in taken_none a.marks.now a.at a.n c.if-n-ne0.false
