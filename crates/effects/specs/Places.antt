-- Where an operand is, and what stands there (manual 4.1 to 4.6).
use Rattle.std.specs.Prelude.{ℕ, ◌+◌, ◌%◌, Bool, true, List, ltb, get_or}
use Rattle.codes.specs.Registers.{IX, IY, SP, PC}
use Rattle.isa.specs.declared.Operand.{Operand}
use Rattle.isa.specs.declared.Operand.TheVariants.{Absent, Immediate, Register, Memory, Indirect, IndexedX, IndexedY, IndexedSp, Relative}
use Rattle.effects.specs.Seen.{see}
use Rattle.effects.specs.declared.Place.{Place}
use Rattle.effects.specs.declared.Place.TheVariants.{Nowhere, Constant, InRegister, InCell}

-- "Addresses add modulo 65536"
unfoldable pub plus : ℕ → ℕ → ℕ
plus a d = (a + d) % 65536

unfoldable pub place_of : List ℕ → ℕ → Operand → Place
place_of r next Absent = Nowhere
place_of r next (Immediate v) = Constant v
place_of r next (Register k) = InRegister k
place_of r next (Memory a) = InCell a
place_of r next (Indirect k) = InCell (see r next k)
place_of r next (IndexedX d) = InCell (plus (see r next IX) d)
place_of r next (IndexedY d) = InCell (plus (see r next IY) d)
place_of r next (IndexedSp d) = InCell (plus (see r next SP) d)
place_of r next (Relative d) = InCell (plus (see r next PC) d)

-- what a place holds
unfoldable pub value_at : List ℕ → List ℕ → ℕ → Place → ℕ
value_at r m next Nowhere = 0
value_at r m next (Constant v) = v
value_at r m next (InRegister k) = see r next k
value_at r m next (InCell a) = get_or m a 0

-- a cell is one of the M cells of memory
unfoldable pub there_in : ℕ → Place → Bool
there_in size Nowhere = true
there_in size (Constant v) = true
there_in size (InRegister k) = true
there_in size (InCell a) = ltb a size

-- "Branch and CALL targets are addresses, never a cell's content"; a register is no address, and no opcode allows one there
unfoldable pub target_of : Place → ℕ
target_of Nowhere = 0
target_of (Constant v) = v
target_of (InRegister k) = 0
target_of (InCell a) = a
