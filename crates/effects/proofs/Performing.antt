-- What an opcode comes to with its operands as they were found is what its instruction comes to. Assumes nothing.
use mathlib.Core.Path.{◌≡◌, refl}
use mathlib.Core.Bool.{Bool, true, false, cond, ◌&&◌, ◌||◌}
use mathlib.Core.List.{List}
use Prim.Native.Nat.{ℕ}
use lib.Dec.{eqb}
use lib.ListN.{length, get_or}
use Rattle.codes.specs.Registers.{SR, SP}
use Rattle.codes.specs.Stops.{none, no_register, memory_end}
use Rattle.isa.specs.Opcodes.{table}
use Rattle.isa.specs.Operands.{is_target, register_there}
use Rattle.isa.specs.declared.Instruction.{Instruction}
use Rattle.isa.specs.declared.Opcode.{Opcode}
use Rattle.isa.specs.declared.Opcode.TheVariants as O
use Rattle.effects.specs.Places.{place_of, value_at, there_in}
use Rattle.effects.specs.Effects.{found, by_opcode, addresses_there, perform_of}
use Rattle.effects.specs.Inner.Located.{unregistered, locate, stop_of_faults, performs_on, perform_unless}
use Rattle.effects.specs.declared.Place.{Place}
use Rattle.effects.specs.declared.Located.{Located}
use Rattle.effects.specs.declared.Performed.{Performed}
use Rattle.effects.specs.declared.Performed.TheVariants.{Stops}

-- no opcode's second operand is a target
pub second_no_target : (o : Opcode) → is_target (table o).second ≡ false
unfolding table
second_no_target O.NOP = refl
second_no_target O.HALT = refl
second_no_target O.MOVE = refl
second_no_target O.PUSH = refl
second_no_target O.POP = refl
second_no_target O.ADD = refl
second_no_target O.SUB = refl
second_no_target O.MUL = refl
second_no_target O.DIV = refl
second_no_target O.MOD = refl
second_no_target O.INC = refl
second_no_target O.DEC = refl
second_no_target O.NEG = refl
second_no_target O.CMP = refl
second_no_target O.AND = refl
second_no_target O.OR = refl
second_no_target O.XOR = refl
second_no_target O.NOT = refl
second_no_target O.BR = refl
second_no_target O.BZ = refl
second_no_target O.BNZ = refl
second_no_target O.BP = refl
second_no_target O.BNP = refl
second_no_target O.BN = refl
second_no_target O.BNN = refl
second_no_target O.BV = refl
second_no_target O.BNV = refl
second_no_target O.BC = refl
second_no_target O.BNC = refl
second_no_target O.BE = refl
second_no_target O.BO = refl
second_no_target O.CALL = refl
second_no_target O.RET = refl
second_no_target O.INCHAR = refl
second_no_target O.ININT = refl
second_no_target O.INSTR = refl
second_no_target O.WRCHAR = refl
second_no_target O.WRINT = refl
second_no_target O.WRSTR = refl

-- an operand by whether its register and its cell are there
abbrev by : Bool → Bool → Place → ℕ → Located
by known inside p v = cond known (record { place = p; value = v; fault = cond inside none memory_end }) unregistered

-- the stop by whether the first operand is a target
abbrev stop_by : Bool → ℕ → ℕ → ℕ
stop_by target a b =
    cond (eqb a none && eqb b none) none (cond (eqb a no_register || eqb b no_register) no_register (cond target none memory_end))

module _ (does : Place → Place → ℕ → ℕ → Performed) (p q : Place) (x y : ℕ) where
  abbrev on : Bool → Located → Located → Performed
  on target a b =
      cond (eqb (stop_by target a.fault b.fault) none) (does a.place b.place a.value b.value) (Stops (stop_by target a.fault b.fault))

  all : (t k l i j : Bool) →
      on t (by k i p x) (by l j q y) ≡ cond (k && l) (cond (t || (i && j)) (does p q x y) (Stops memory_end)) (Stops no_register)
  all true true true true true = refl
  all true true true true false = refl
  all true true true false true = refl
  all true true true false false = refl
  all true true false true true = refl
  all true true false true false = refl
  all true true false false true = refl
  all true true false false false = refl
  all true false true true true = refl
  all true false true true false = refl
  all true false true false true = refl
  all true false true false false = refl
  all true false false true true = refl
  all true false false true false = refl
  all true false false false true = refl
  all true false false false false = refl
  all false true true true true = refl
  all false true true true false = refl
  all false true true false true = refl
  all false true true false false = refl
  all false true false true true = refl
  all false true false true false = refl
  all false true false false true = refl
  all false true false false false = refl
  all false false true true true = refl
  all false false true true false = refl
  all false false true false true = refl
  all false false true false false = refl
  all false false false true true = refl
  all false false false true false = refl
  all false false false false true = refl
  all false false false false false = refl

pub performs : (r m : List ℕ) (next : ℕ) (i : Instruction) →
    performs_on r m next i.op (locate r m next i.first) (locate r m next i.second) ≡ perform_unless r m next i
unfolding performs_on stop_of_faults locate perform_unless perform_of addresses_there
performs r m next i =
    let p = place_of r next i.first in
    let q = place_of r next i.second in
    all (λ a b v w. by_opcode (found m next (get_or r SP 0) (get_or r SR 0) a b v w) i.op) p q (value_at r m next p) (value_at r m next q)
    (is_target (table i.op).first) (register_there i.first) (register_there i.second) (there_in (length m) p) (there_in (length m) q)
