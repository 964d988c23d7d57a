-- The marks are counted as far as the definition counts them (`reserved_by_prefix`).
use mathlib.Core.Path.{sym, ap, ◌∙◌}
use Prim.Native.Nat.{ℕ, ◌-◌}
use lib.Dec.{eqb}
use lib.ListN.{length, take, drop}
use Rattle.std.proofs.Common.{rules, tests}
use Rattle.std.proofs.lemmas.Iterator.{YieldsList-from_slice}
use Rattle.std.proofs.lemmas.Iterator.Consumers.{count_from_yields_List}
use Rattle.std.proofs.lemmas.Iterator.Search.{YieldsList-from_take_while}
use Rattle.std.proofs.lemmas.List.Folds.{length-prefix_len}
use Rattle.std.proofs.lemmas.List.{take_rest}
use Rattle.listing.specs.Inner.Begins.{reserved_run}
use Rattle.listing.proofs.Walks.{reserved_by_prefix}
use Rattle.listing.proofs.walking.reserved_run.Goals as goal

pub returns : goal.returns
returns c =
    let a = c.args in
    let behind = take (length a.map.now - a.at) (drop a.at a.map.now) in
    count_from_yields_List c.take_while.result c.count.result c.count.ensures.ran
    (YieldsList-from_take_while _ (λ (mark : ℕ). eqb mark 3) (YieldsList-from_slice behind cc) c.take_while.ensures.closure c.take_while.ensures.done (λ x b q k. search (rules, tests)))
    ∙ length-prefix_len (λ (mark : ℕ). eqb mark 3) behind ∙ sym (reserved_by_prefix behind)
    ∙ ap reserved_run (take_rest a.map.now a.at)
