-- First words: what one alone decides, and that 601 of them are allowed (01, "Layout"). Assumes nothing.
use mathlib.Core.Path.{◌≡◌, refl}
use mathlib.Core.Bool.{Bool, true, false, cond}
use Prim.Native.Nat.{ℕ, ◌+◌, ◌<◌, ◌≤◌}
use native.Mathlib.Omega.{arith}
use borrow.Author.Tests.{ltb-true, ltb-false, leb-true, leb-false}
use lib.Dec.{ltb, leb}
use Rattle.isa.specs.declared.Opcode.{Opcode}
use Rattle.std.proofs.Common.{Some, None, Ok, Err}
use Rattle.isa.specs.declared.Undecoded.TheVariants.{NoOpcode, NoMode}
use Rattle.isa.specs.Opcodes.{table, opcodes, opcode_of, found_of, count_of}
use Rattle.isa.specs.Operands.{modes_of, one_of}
use Rattle.isa.specs.Decoding.{opcode_in, mode1_in, mode2_in, modes_allowed, first_word_read, size_in, allowed_below}
use Rattle.isa.proofs.Tests.{both_true}
use Rattle.isa.proofs.Modes.{mode-present}

known_by : (b : Bool) (x o : Opcode) → cond b (Some x) None ≡ Some o → (b ≡ true) × (x ≡ o)
known_by true x o e = (refl, cc)
known_by false x o e = let z : ◌≡◌ {A = ℕ} 0 1 = cc in absurd (omega arith)

unknown_by : (b : Bool) (x : Opcode) → cond b (Some x) None ≡ None → b ≡ false
unknown_by true x e = let z : ◌≡◌ {A = ℕ} 0 1 = cc in absurd (omega arith)
unknown_by false x e = refl

-- a number that has an opcode, and one that has none
pub found-known : (n : ℕ) (o : Opcode) → found_of n ≡ Some o → (n < 39) × (opcode_of n ≡ o)
unfolding found_of
found-known n o e = let k = known_by (ltb n 39) (opcode_of n) o e in (ltb-true n 39 k.0, k.1)

pub found-unknown : (n : ℕ) → found_of n ≡ None → 39 ≤ n
unfolding found_of
found-unknown n e = ltb-false n 39 (unknown_by (ltb n 39) (opcode_of n) e)

allowed_by : (b c : Bool) (x o : Opcode) → cond b (Err NoOpcode) (cond c (Ok x) (Err NoMode)) ≡ Ok o
    → (b ≡ false) × (c ≡ true) × (x ≡ o)
allowed_by true c x o e = let z : ◌≡◌ {A = ℕ} 0 1 = cc in absurd (omega arith)
allowed_by false true x o e = (refl, refl, cc)
allowed_by false false x o e = let z : ◌≡◌ {A = ℕ} 0 1 = cc in absurd (omega arith)

no_opcode_by : (b c : Bool) (x : Opcode) → cond b (Err NoOpcode) (cond c (Ok x) (Err NoMode)) ≡ Err NoOpcode → b ≡ true
no_opcode_by true c x e = refl
no_opcode_by false true x e = let z : ◌≡◌ {A = ℕ} 0 1 = cc in absurd (omega arith)
no_opcode_by false false x e = let z : ◌≡◌ {A = ℕ} 0 1 = cc in absurd (omega arith)

no_mode_by : (b c : Bool) (x : Opcode) → cond b (Err NoOpcode) (cond c (Ok x) (Err NoMode)) ≡ Err NoMode
    → (b ≡ false) × (c ≡ false)
no_mode_by true c x e = let z : ◌≡◌ {A = ℕ} 0 1 = cc in absurd (omega arith)
no_mode_by false true x e = let z : ◌≡◌ {A = ℕ} 0 1 = cc in absurd (omega arith)
no_mode_by false false x e = (refl, refl)

-- and back: which outcome tells what
module _ (w : ℕ) where
  pub when_allowed : (o : Opcode) → first_word_read w ≡ Ok o → (w < 2496) × (modes_allowed w ≡ true) × (opcode_in w ≡ o)
  unfolding first_word_read
  when_allowed o e = let k = allowed_by (leb 2496 w) (modes_allowed w) (opcode_in w) o e in (leb-false 2496 w k.0, k.1, k.2)

  pub when_no_opcode : first_word_read w ≡ Err NoOpcode → 2496 ≤ w
  unfolding first_word_read
  when_no_opcode e = leb-true 2496 w (no_opcode_by (leb 2496 w) (modes_allowed w) (opcode_in w) e)

  pub when_no_mode : first_word_read w ≡ Err NoMode → (w < 2496) × (modes_allowed w ≡ false)
  unfolding first_word_read
  when_no_mode e = let k = no_mode_by (leb 2496 w) (modes_allowed w) (opcode_in w) e in (leb-false 2496 w k.0, k.1)

size_by : (p q : Bool) → (1 ≤ 1 + cond p 1 0 + cond q 1 0) × (1 + cond p 1 0 + cond q 1 0 ≤ 3)
size_by true true = omega arith
size_by true false = omega arith
size_by false true = omega arith
size_by false false = omega arith

-- one to three words
pub size-within : (w : ℕ) → (1 ≤ size_in w) × (size_in w ≤ 3)
unfolding size_in
size-within w = size_by (ltb 0 (mode1_in w)) (ltb 0 (mode2_in w))

-- an allowed first word is followed by as many words as its opcode has operands
pub size_by_count : (w : ℕ) → modes_allowed w ≡ true → size_in w ≡ 1 + count_of (opcode_in w)
unfolding modes_allowed size_in count_of
size_by_count w t =
    let modes = both_true (one_of (modes_of (table (opcode_in w)).first) (mode1_in w)) (one_of (modes_of (table (opcode_in w)).second) (mode2_in w)) t in
    omega (
      arith,
      mode-present (table (opcode_in w)).first (mode1_in w) modes.0,
      mode-present (table (opcode_in w)).second (mode2_in w) modes.1,
    )

-- "601 first words are allowed": one test, computed at each first word
pub six_hundred_and_one : allowed_below 2496 ≡ 601
unfolding allowed_below modes_allowed opcode_of opcodes table
six_hundred_and_one = refl
