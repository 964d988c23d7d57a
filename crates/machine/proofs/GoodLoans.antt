-- A good loan, fact by fact. Assumes nothing.
use mathlib.Core.Path.{◌≡◌, refl, ◌∙◌}
use mathlib.Core.Bool.{Bool, true, false, ◌&&◌, false≢true}
use mathlib.Core.List.{List}
use Prim.Native.Nat.{ℕ, ◌≤◌, ◌<◌}
use borrow.Author.Tests.{ltb-true, leb-true, lt-ltb, le-leb}
use lib.Dec.{ltb, leb}
use lib.ListN.{length}
use Rattle.codes.specs.Registers.{SR}
use Rattle.machine.specs.States.{State, register}
use Rattle.machine.specs.Stops.{good_loan}

-- "10 bad loan (M, a position past its end, SR above 63, stop code above 6)": none of these
pub record Good (input : List ℕ) (s : State) : Type 0 where
  pub some : 0 < length s.memory
  pub most : length s.memory ≤ 65536
  pub taken : s.registers.taken ≤ length input
  pub written : s.registers.written ≤ length s.output
  pub six_bits : register s SR ≤ 63
  pub code : s.registers.stop ≤ 6

pub and_parts : (a b : Bool) → a && b ≡ true → (a ≡ true) × (b ≡ true)
and_parts true true e = (refl, refl)
and_parts true false e = absurd (false≢true e)
and_parts false b e = absurd (false≢true e)

module _ (input : List ℕ) (s : State) where
  pub good-parts : good_loan input s ≡ true → Good input s
  unfolding good_loan
  good-parts e =
      let size : Bool = ltb 0 (length s.memory) && leb (length s.memory) 65536 in
      let positions : Bool = leb s.registers.taken (length input) && leb s.registers.written (length s.output) in
      let its_record : Bool = leb (register s SR) 63 && leb s.registers.stop 6 in
      let rows = and_parts size positions (and_parts (size && positions) its_record e).0 in
      let cells = and_parts (ltb 0 (length s.memory)) (leb (length s.memory) 65536) rows.0 in
      let places = and_parts (leb s.registers.taken (length input)) (leb s.registers.written (length s.output)) rows.1 in
      let codes = and_parts (leb (register s SR) 63) (leb s.registers.stop 6) (and_parts (size && positions) its_record e).1 in
      record {
        some = ltb-true _ _ cells.0;
        most = leb-true _ _ cells.1;
        taken = leb-true _ _ places.0;
        written = leb-true _ _ places.1;
        six_bits = leb-true _ _ codes.0;
        code = leb-true _ _ codes.1;
      }

  -- all but the stop code
  pub good_but_code : 0 < length s.memory → length s.memory ≤ 65536 → s.registers.taken ≤ length input →
      s.registers.written ≤ length s.output → register s SR ≤ 63 → good_loan input s ≡ leb s.registers.stop 6
  unfolding good_loan
  good_but_code some most taken written six_bits =
      rw (lt-ltb _ _ some, le-leb _ _ most, le-leb _ _ taken, le-leb _ _ written, le-leb _ _ six_bits)

  pub parts-good : Good input s → good_loan input s ≡ true
  parts-good g = good_but_code g.some g.most g.taken g.written g.six_bits ∙ le-leb _ _ g.code

  pub not_good : (Good input s → ⊥) → good_loan input s ≡ false
  not_good h = go (good_loan input s) refl
    where
      go : (t : Bool) → good_loan input s ≡ t → good_loan input s ≡ false
      go true e = absurd (h (good-parts e))
      go false e = e
