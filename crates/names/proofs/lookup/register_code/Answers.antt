-- A word's number's place in the table, which holds the names' numbers, by computing, is its code.
-- Assumes nothing.
use Prim.Native.Nat.{ℕ, ◌≤◌}
use mathlib.Core.Path.{sym, ap, ◌∙◌}
use native.Mathlib.Omega.{arith}
use Rattle.std.specs.Option.{unwrap_or}
use lib.Seq.{slice}
use Rattle.names.specs.Names.{registers}
use Rattle.names.specs.Inner.Packing.{pack, place_of}
use Rattle.names.proofs.Packs.{numbers, place_by_position, place-most}
use Rattle.names.proofs.Places.{register-found}
use Rattle.names.proofs.lookup.register_code.Goals as goal

pub overflow_cast-result : goal.overflow_cast-result
unfolding registers pack
overflow_cast-result c =
    let most : unwrap_or c.place.result 16 ≤ 16 = place-most _ _ (numbers registers) c.place.ensures in
    omega (arith, c.unwrap_or.ensures)

pub returns : goal.returns
unfolding registers pack
returns c =
    let w = slice c.args.start c.args.end c.args.s.now in
    c.unwrap_or.ensures ∙ place_by_position _ _ (numbers registers) c.place.ensures
    ∙ ap (λ (n : ℕ). place_of n (numbers registers)) c.packed.ensures ∙ sym (register-found w)
