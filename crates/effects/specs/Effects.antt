-- The effect of each opcode, as a value (01, "What a step does"; manual 5, in its order). `x` and `y` are the source values
-- of the first and the second operand.
use Rattle.std.specs.Prelude.{ℕ, ◌%◌, Bool, true, cond, ◌&&◌, ◌||◌, List, ltb, eqb, length, get_or, Option, Some, None}
use Rattle.codes.specs.Stops.{memory_end}
use Rattle.codes.specs.Registers.{A, SR, SP, PC}
use Rattle.isa.specs.Opcodes.{table}
use Rattle.isa.specs.Operands.{is_target}
use Rattle.isa.specs.declared.Instruction.{Instruction}
use Rattle.isa.specs.declared.Opcode.{Opcode}
use Rattle.isa.specs.declared.Opcode.TheVariants.{NOP, HALT, MOVE, PUSH, POP, ADD, SUB, MUL, DIV, MOD, INC, DEC, NEG, CMP, AND, OR, XOR, NOT, BR, BZ, BNZ, BP, BNP, BN, BNN, BV, BNV, BC, BNC, BE, BO, CALL, RET, INCHAR, ININT, INSTR, WRCHAR, WRINT, WRSTR}
use Rattle.arithmetic.specs.Operations as Op
use Rattle.arithmetic.specs.declared.Outcome.{Outcome}
use Rattle.effects.specs.Places.{place_of, value_at, there_in, target_of}
use Rattle.effects.specs.Conditions.{taken_bz, taken_bnz, taken_bp, taken_bnp, taken_bn, taken_bnn, taken_bv, taken_bnv, taken_bc, taken_bnc, taken_be, taken_bo}
use Rattle.effects.specs.Stack.{push_cell, pushed_sp, pop_cell, popped_sp}
use Rattle.effects.specs.declared.Place.{Place}
use Rattle.effects.specs.declared.Place.TheVariants.{Nowhere, Constant, InRegister, InCell}
use Rattle.effects.specs.declared.Effect.{Effect}
use Rattle.effects.specs.declared.Port.TheVariants.{TakeByte, TakeNumber, TakeString, PutByte, PutNumber, PutString}
use Rattle.effects.specs.declared.Performed.{Performed}
use Rattle.effects.specs.declared.Performed.TheVariants.{Does, Halts, Asks, Stops}

-- what an instruction finds before anything is written: memory, the address after it, SP and SR, where its operands are, and
-- what stands there
pub record Found : Type 0 where
  pub m : List ℕ
  pub next : ℕ
  pub sp : ℕ
  pub sr : ℕ
  pub first : Place
  pub second : Place
  pub x : ℕ
  pub y : ℕ

-- nothing but going on at an address
unfoldable pub goes_to : ℕ → ℕ → Effect
goes_to next stack = record { next = next; sp = stack; to = Nowhere; value = 0; flags = None }

-- a value written to a place: "A write to register PC gives the next PC"
unfoldable pub writes : ℕ → ℕ → Place → ℕ → Option ℕ → Effect
writes next stack Nowhere v fl = record { next = next; sp = stack; to = Nowhere; value = v; flags = fl }
writes next stack (Constant k) v fl = record { next = next; sp = stack; to = Nowhere; value = v; flags = fl }
writes next stack (InRegister k) v fl =
    cond (eqb k PC) (record { next = v; sp = stack; to = Nowhere; value = v; flags = fl })
    (record { next = next; sp = stack; to = InRegister k; value = v; flags = fl })
writes next stack (InCell a) v fl = record { next = next; sp = stack; to = InCell a; value = v; flags = fl }

-- a value alone, or a result with its flags, to an operand or to the accumulator
abbrev pub moves : Found → Place → ℕ → Performed
moves f place v = Does (writes f.next f.sp place v None)

abbrev pub results : Found → Place → Outcome → Performed
results f place o = Does (writes f.next f.sp place o.value (Some o.flags))

abbrev pub to_a : Place
to_a = InRegister A

-- the quotient or the remainder to the accumulator; a zero divisor is its stop, 6
abbrev pub divides_to : ℕ → ℕ → Option Outcome → Performed
divides_to next sp (Some o) = Does (writes next sp to_a o.value (Some o.flags))
divides_to next sp None = Stops (Op.stop_of_division None)

abbrev pub divides : Found → Option Outcome → Performed
divides f d = divides_to f.next f.sp d

-- the flags alone
abbrev pub compares : Found → ℕ → Performed
compares f fl = Does (writes f.next f.sp Nowhere 0 (Some fl))

-- "Branch .. targets are addresses": taken, the target is the next PC
abbrev pub jumps : Found → Bool → Performed
jumps f taken = Does (goes_to (cond taken (target_of f.first) f.next) f.sp)

-- a value pushed on the way to the next address; a cell outside memory is stop 5
unfoldable pub pushes : List ℕ → ℕ → ℕ → ℕ → Performed
pushes m sp v next =
    cond (ltb (push_cell sp) (length m)) (Does (writes next (pushed_sp sp) (InCell (push_cell sp)) v None)) (Stops memory_end)

-- what is popped, written to a place: `POP .SP` ends with the popped number
unfoldable pub pops : List ℕ → ℕ → ℕ → Place → Performed
pops m sp next place =
    cond (ltb (pop_cell sp) (length m)) (Does (writes next (popped_sp sp) place (get_or m (pop_cell sp) 0) None)) (Stops memory_end)

-- one line for each opcode
unfoldable pub by_opcode : Found → Opcode → Performed
by_opcode f NOP = Does (goes_to f.next f.sp)
by_opcode f HALT = Halts
by_opcode f MOVE = moves f f.second f.x
by_opcode f PUSH = pushes f.m f.sp f.x f.next
by_opcode f POP = pops f.m f.sp f.next f.first
by_opcode f ADD = results f to_a (Op.ADD f.x f.y)
by_opcode f SUB = results f to_a (Op.SUB f.x f.y)
by_opcode f MUL = results f to_a (Op.MUL f.x f.y)
by_opcode f DIV = divides f (Op.DIV f.x f.y)
by_opcode f MOD = divides f (Op.MOD f.x f.y)
by_opcode f INC = results f f.first (Op.INC f.x)
by_opcode f DEC = results f f.first (Op.DEC f.x)
by_opcode f NEG = results f f.first (Op.NEG f.x)
by_opcode f CMP = compares f (Op.CMP f.x f.y)
by_opcode f AND = moves f to_a (Op.AND f.x f.y)
by_opcode f OR = moves f to_a (Op.OR f.x f.y)
by_opcode f XOR = moves f to_a (Op.XOR f.x f.y)
by_opcode f NOT = moves f f.first (Op.NOT f.x)
by_opcode f BR = jumps f true
by_opcode f BZ = jumps f (taken_bz f.sr)
by_opcode f BNZ = jumps f (taken_bnz f.sr)
by_opcode f BP = jumps f (taken_bp f.sr)
by_opcode f BNP = jumps f (taken_bnp f.sr)
by_opcode f BN = jumps f (taken_bn f.sr)
by_opcode f BNN = jumps f (taken_bnn f.sr)
by_opcode f BV = jumps f (taken_bv f.sr)
by_opcode f BNV = jumps f (taken_bnv f.sr)
by_opcode f BC = jumps f (taken_bc f.sr)
by_opcode f BNC = jumps f (taken_bnc f.sr)
by_opcode f BE = jumps f (taken_be f.sr)
by_opcode f BO = jumps f (taken_bo f.sr)
by_opcode f CALL = pushes f.m f.sp (f.next % 65536) (target_of f.first)
by_opcode f RET = pops f.m f.sp f.next (InRegister PC)
by_opcode f INCHAR = Asks (TakeByte f.first)
by_opcode f ININT = Asks (TakeNumber f.first)
by_opcode f INSTR = Asks (TakeString (target_of f.first))
by_opcode f WRCHAR = Asks (PutByte f.x)
by_opcode f WRINT = Asks (PutNumber f.x)
by_opcode f WRSTR = Asks (PutString (target_of f.first))

abbrev pub found : List ℕ → ℕ → ℕ → ℕ → Place → Place → ℕ → ℕ → Found
found m next sp sr p q x y = record { m = m; next = next; sp = sp; sr = sr; first = p; second = q; x = x; y = y }

-- what an instruction finds, with its operands at two places
abbrev pub found_at : List ℕ → List ℕ → ℕ → Place → Place → Found
found_at r m next p q = found m next (get_or r SP 0) (get_or r SR 0) p q (value_at r m next p) (value_at r m next q)

-- "operand addresses (5; branch and CALL targets count only as next PC)"
unfoldable pub addresses_there : ℕ → Opcode → Place → Place → Bool
addresses_there size o p q = is_target (table o).first || (there_in size p && there_in size q)

-- an operand outside memory is stop 5, before everything that the opcode does
unfoldable pub perform_of : List ℕ → List ℕ → ℕ → Instruction → Performed
perform_of r m next i =
    cond (addresses_there (length m) i.op (place_of r next i.first) (place_of r next i.second))
    (by_opcode (found_at r m next (place_of r next i.first) (place_of r next i.second)) i.op) (Stops memory_end)
