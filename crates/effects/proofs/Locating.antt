-- An operand, found: a cell counted from a register, and past the modes the seventh. Assumes nothing.
use mathlib.Core.Path.{◌≡◌, ap}
use mathlib.Core.Bool.{true, false}
use mathlib.Core.List.{List}
use Prim.Native.Nat.{ℕ, ◌≤◌}
use lib.ListN.{length, get_or, get_or-eq_default}
use Rattle.isa.specs.Operands.{is_target, operand_of}
use Rattle.isa.specs.declared.Kinds.{Kinds}
use Rattle.isa.specs.declared.Operand.TheVariants.{IndexedSp, Relative}
use Rattle.isa.proofs.Modes.{seventh-target, seventh-other}
use Rattle.effects.specs.Places.{plus}
use Rattle.effects.specs.Inner.Located.{located_at}
use Rattle.effects.specs.declared.Place.TheVariants.{InCell}
use Rattle.effects.specs.declared.Located.{Located}

-- a cell with what stands there
abbrev pub cell_of : List ℕ → ℕ → Located
cell_of m a = located_at (length m) (InCell a) (get_or m a 0)

-- a cell counted from a register
pub counted : (m r : List ℕ) (k d : ℕ) {a : ℕ} → a ≡ plus (get_or r k 0) d → cell_of m a ≡ cell_of m (plus (get_or r k 0) d)
counted m r k d e = ap (cell_of m) e

-- past the seven modes before it
pub relative-operand : (k : Kinds) (mode word : ℕ) → 7 ≤ mode → is_target k ≡ true → operand_of k mode word ≡ Relative word
unfolding operand_of
relative-operand k mode word h t = rw (get_or-eq_default _ _ h) (seventh-target k word t)

pub stacked_operand : (k : Kinds) (mode word : ℕ) → 7 ≤ mode → is_target k ≡ false → operand_of k mode word ≡ IndexedSp word
unfolding operand_of
stacked_operand k mode word h t = rw (get_or-eq_default _ _ h) (seventh-other k word t)
