-- The place of the first LF is how long the line is (`search_is`).
use mathlib.Core.Path.{◌∙◌}
use Prim.Native.Nat.{ℕ}
use lib.Dec.{eqb}
use Rattle.std.proofs.Common.{rules, tests}
use Rattle.std.proofs.lemmas.Iterator.{YieldsList-from_slice}
use Rattle.std.proofs.lemmas.Iterator.Search.{position_from_yields_List}
use Rattle.numerals.specs.Bytes.{LF}
use Rattle.ports.proofs.Searches.{search_is}
use Rattle.ports.proofs.input.line_length.Goals as goal

pub returns : goal.returns
returns c =
    let p = position_from_yields_List (λ (b : ℕ). eqb b LF) _ _ c.position.result c.position.ensures.ran (YieldsList-from_slice c.args.text.now cc) (λ x b q k. search (rules, tests)) in
    c.unwrap_or.ensures ∙ rw p (search_is LF c.args.text.now)
