-- Each mark is tested as the definition tests it (`every_by_each`).
use mathlib.Core.Path.{sym, ap, ◌∙◌}
use Prim.Native.Nat.{ℕ, ◌-◌}
use lib.Dec.{eqb}
use lib.ListN.{take, drop}
use Rattle.std.proofs.Common.{rules, tests}
use Rattle.std.proofs.lemmas.Iterator.{YieldsList-from_slice}
use Rattle.std.proofs.lemmas.Iterator.Search.{all_from_yields_List}
use Rattle.listing.specs.Inner.Begins.{every_code}
use Rattle.listing.proofs.Walks.{every_by_each, read-slice}
use Rattle.listing.proofs.walking.all_code.Goals as goal

pub returns : goal.returns
returns c =
    let a = c.args in
    let read = take (a.to - a.from) (drop a.from a.map.now) in
    all_from_yields_List (λ (mark : ℕ). eqb mark 1) _ _ _ c.all.ensures.ran (YieldsList-from_slice read cc) (λ x b q k. search (rules, tests))
    ∙ sym (every_by_each read) ∙ ap every_code (read-slice a.map.now a.from a.to c.requires.0)
