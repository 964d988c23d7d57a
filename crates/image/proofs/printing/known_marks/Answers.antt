-- Each mark is tested as the definition tests it (`known_by_each`). Assumes nothing.
use mathlib.Core.Path.{sym, ◌∙◌}
use Prim.Native.Nat.{ℕ}
use lib.Dec.{leb}
use Rattle.std.proofs.Common.{rules, tests}
use Rattle.std.proofs.lemmas.Iterator.{YieldsList-from_slice}
use Rattle.std.proofs.lemmas.Iterator.Search.{all_from_yields_List}
use Rattle.image.proofs.Texts.{known_by_each}
use Rattle.image.proofs.printing.known_marks.Goals as goal

pub returns : goal.returns
returns c =
    all_from_yields_List (λ (mark : ℕ). leb mark 3) _ _ _ c.all.ensures.ran (YieldsList-from_slice c.args.map.now cc) (λ x b q k. search (rules, tests))
    ∙ sym (known_by_each c.args.map.now)
