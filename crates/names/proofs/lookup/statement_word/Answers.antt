-- A word is the one at its number's place in the table, which holds the names' numbers, by computing.
-- Assumes nothing.
use Prim.Native.Nat.{ℕ, ◌≤◌}
use mathlib.Core.Path.{◌≡◌, sym, ap, ◌∙◌}
use native.Mathlib.Omega.{arith}
use mathlib.Core.List.{List}
use lib.Dec.{eqb}
use lib.ListN.{length}
use Rattle.std.proofs.Common.{Option}
use Rattle.std.specs.List.{position}
use Rattle.std.specs.Option.{unwrap_or}
use lib.Seq.{slice}
use Rattle.isa.specs.Opcodes.{table, opcodes}
use Rattle.names.specs.Names.{statement_words, word_of}
use Rattle.names.specs.Inner.Packing.{pack, number_of, place_of, word_at}
use Rattle.names.proofs.Packs.{numbers, place_by_position, place-most}
use Rattle.names.proofs.Places.{statement_names, word-found}
use Rattle.names.proofs.lookup.statement_word.Goals as goal

pub word_at-requires : goal.word_at-requires
unfolding statement_names statement_words opcodes table pack
word_at-requires c =
    let most : unwrap_or c.place.result 44 ≤ 44 = place-most _ _ (numbers statement_names) c.place.ensures in
    let known = rw c.in-Some.is at most in
    omega arith

-- the word at what the search found
by_place : (r : Option ℕ) (w : List ℕ) (n k : ℕ) → n ≡ number_of w → r ≡ position (λ (m : ℕ). eqb m n) (numbers statement_names)
    → unwrap_or r (length (numbers statement_names)) ≡ k → word_at k ≡ word_of w
by_place r w n k e p q =
    ap word_at (sym q ∙ place_by_position r n (numbers statement_names) p ∙ ap (λ (m : ℕ). place_of m (numbers statement_names)) e) ∙ sym (word-found w)

pub returns-in-Some : goal.returns-in-Some
unfolding statement_names statement_words opcodes table pack
returns-in-Some c =
    c.word_at.ensures
    ∙ by_place c.place.result (slice c.args.start c.args.end c.args.s.now) _ c.in-Some.at c.packed.ensures c.place.ensures (rw c.in-Some.is)

pub returns-in-None : goal.returns-in-None
unfolding statement_names statement_words opcodes table pack word_at
returns-in-None c =
    by_place c.place.result (slice c.args.start c.args.end c.args.s.now) _ 44 c.packed.ensures c.place.ensures (rw c.in-None.is)
