-- Each opcode's line is one of seven forms, so that a law on what an instruction can come to goes by the forms and not by the
-- 39 opcodes. Assumes nothing.
use mathlib.Core.Path.{◌≡◌, refl}
use mathlib.Core.Bool.{Bool, true, false, cond, ◌&&◌, ◌||◌, true≢false, false≢true}
use mathlib.Core.List.{List}
use Prim.Native.Nat.{ℕ, ◌%◌, ◌≤◌, ◌<◌}
use native.Mathlib.Omega.{arith}
use lib.ListN.{length, get_or}
use Rattle.codes.specs.Registers.{A, PC}
use Rattle.isa.specs.Opcodes.{table}
use Rattle.isa.specs.Operands.{is_target}
use Rattle.isa.specs.declared.Instruction.{Instruction}
use Rattle.isa.specs.declared.Opcode.{Opcode}
use Rattle.isa.specs.declared.Opcode.TheVariants.{NOP, HALT, MOVE, PUSH, POP, ADD, SUB, MUL, DIV, MOD, INC, DEC, NEG, CMP, AND, OR, XOR, NOT, BR, BZ, BNZ, BP, BNP, BN, BNN, BV, BNV, BC, BNC, BE, BO, CALL, RET, INCHAR, ININT, INSTR, WRCHAR, WRINT, WRSTR}
use Rattle.arithmetic.specs.Operations as Op
use Rattle.arithmetic.specs.declared.Outcome.{Outcome}
use Rattle.std.proofs.Common.{Option, Some, None}
use Rattle.arithmetic.proofs.Laws.{ADD-fits, SUB-fits, MUL-fits, DIV-fits, MOD-fits, AND-fits, OR_fits, XOR-fits, NOT-fits}
use Rattle.effects.specs.Places.{place_of, there_in, target_of}
use Rattle.effects.specs.Conditions.{taken_bz, taken_bnz, taken_bp, taken_bnp, taken_bn, taken_bnn, taken_bv, taken_bnv, taken_bc, taken_bnc, taken_be, taken_bo}
use Rattle.effects.specs.Effects.{Found, goes_to, writes, divides_to, pushes, pops, by_opcode, found_at, addresses_there, perform_of}
use Rattle.effects.specs.declared.Performed.{Performed}
use Rattle.effects.specs.declared.Performed.TheVariants.{Does, Halts, Asks, Stops}
use Rattle.effects.specs.declared.Place.{Place}
use Rattle.effects.specs.declared.Place.TheVariants.{Nowhere, InRegister}
use Rattle.effects.specs.declared.Port.{Port}
use Rattle.effects.specs.declared.Port.TheVariants.{TakeByte, TakeNumber, TakeString, PutByte, PutNumber, PutString}

-- numbers that the machine holds, as they are where registers, memory and an instruction's words are of 16 bits
pub record Small (f : Found) : Type 0 where
  pub x : f.x < 65536
  pub y : f.y < 65536
  pub sp : f.sp < 65536
  pub next : f.next ≤ 65536
  pub target : target_of f.first < 65536
  pub cells : (a : ℕ) → get_or f.m a 0 < 65536

-- a place that a write goes to: an operand of an opcode that is no branch or CALL, or no cell at all
pub data Written (f : Found) (target : Bool) : Place → Type 0 where
  first : target ≡ false → Written f target f.first
  second : target ≡ false → Written f target f.second
  register : (k : ℕ) → Written f target (InRegister k)
  nowhere : Written f target Nowhere

-- the place that input asked for goes to
abbrev pub asked_place : Port → Place
asked_place (TakeByte p) = p
asked_place (TakeNumber p) = p
asked_place (TakeString a) = Nowhere
asked_place (PutByte v) = Nowhere
asked_place (PutNumber v) = Nowhere
asked_place (PutString a) = Nowhere

pub data Form (f : Found) (target : Bool) : Performed → Type 0 where
  goes : (taken : Bool) → Form f target (Does (goes_to (cond taken (target_of f.first) f.next) f.sp))
  puts : {p : Place} → Written f target p → (v : ℕ) (fl : Option ℕ) → (Small f → v < 65536) → Form f target (Does (writes f.next f.sp p v fl))
  pushed : (v next : ℕ) → (Small f → v < 65536) → (Small f → next ≤ 65536) → Form f target (pushes f.m f.sp v next)
  popped : {p : Place} → Written f target p → Form f target (pops f.m f.sp f.next p)
  halts : Form f target Halts
  asks : (q : Port) → Written f target (asked_place q) → Form f target (Asks q)
  no_divisor : Form f target (Stops 6)

division_form : (f : Found) (target : Bool) (d : Option Outcome) → ((o : Outcome) → d ≡ Some o → Small f → o.value < 65536) →
    Form f target (divides_to f.next f.sp d)
division_form f target (Some o) h = puts (register A) _ _ (h o refl)
division_form f target None h = no_divisor

by_opcode_form : (f : Found) (o : Opcode) → Form f (is_target (table o).first) (by_opcode f o)
unfolding by_opcode table
by_opcode_form f NOP = goes false
by_opcode_form f HALT = halts
by_opcode_form f MOVE = puts (second refl) _ _ (λ s. s.x)
by_opcode_form f PUSH = pushed _ _ (λ s. s.x) (λ s. s.next)
by_opcode_form f POP = popped (first refl)
by_opcode_form f ADD = puts (register A) _ _ (λ s. (ADD-fits f.x f.y).value)
by_opcode_form f SUB = puts (register A) _ _ (λ s. (SUB-fits f.x f.y).value)
by_opcode_form f MUL = puts (register A) _ _ (λ s. (MUL-fits f.x f.y).value)
by_opcode_form f DIV = division_form f false (Op.DIV f.x f.y) (λ o e s. (DIV-fits f.x f.y s.x e).value)
by_opcode_form f MOD = division_form f false (Op.MOD f.x f.y) (λ o e s. (MOD-fits f.x f.y s.x e).value)
by_opcode_form f INC = puts (first refl) _ _ (λ s. (ADD-fits f.x 1).value)
by_opcode_form f DEC = puts (first refl) _ _ (λ s. (SUB-fits f.x 1).value)
by_opcode_form f NEG = puts (first refl) _ _ (λ s. (SUB-fits 0 f.x).value)
by_opcode_form f CMP = puts nowhere 0 _ (λ s. omega arith)
by_opcode_form f AND = puts (register A) _ _ (λ s. AND-fits f.x f.y s.x)
by_opcode_form f OR = puts (register A) _ _ (λ s. OR_fits f.x f.y s.x s.y)
by_opcode_form f XOR = puts (register A) _ _ (λ s. XOR-fits f.x f.y s.x s.y)
by_opcode_form f NOT = puts (first refl) _ _ (λ s. NOT-fits f.x)
by_opcode_form f BR = goes true
by_opcode_form f BZ = goes (taken_bz f.sr)
by_opcode_form f BNZ = goes (taken_bnz f.sr)
by_opcode_form f BP = goes (taken_bp f.sr)
by_opcode_form f BNP = goes (taken_bnp f.sr)
by_opcode_form f BN = goes (taken_bn f.sr)
by_opcode_form f BNN = goes (taken_bnn f.sr)
by_opcode_form f BV = goes (taken_bv f.sr)
by_opcode_form f BNV = goes (taken_bnv f.sr)
by_opcode_form f BC = goes (taken_bc f.sr)
by_opcode_form f BNC = goes (taken_bnc f.sr)
by_opcode_form f BE = goes (taken_be f.sr)
by_opcode_form f BO = goes (taken_bo f.sr)
by_opcode_form f CALL = pushed (f.next % 65536) (target_of f.first) (λ s. omega arith) (λ s. omega arith)
by_opcode_form f RET = popped (register PC)
by_opcode_form f INCHAR = asks _ (first refl)
by_opcode_form f ININT = asks _ (first refl)
by_opcode_form f INSTR = asks _ nowhere
by_opcode_form f WRCHAR = asks _ nowhere
by_opcode_form f WRINT = asks _ nowhere
by_opcode_form f WRSTR = asks _ nowhere

-- ---- by the forms

-- a test before what an instruction does, with stop 5 where it fails
pub guarded : (P : Performed → Type 0) (t : Bool) (x : Performed) → P (Stops 5) → (t ≡ true → P x) → P (cond t x (Stops 5))
guarded P true x stop h = h refl
guarded P false x stop h = stop

-- the operands' addresses are those of cells, unless the opcode is a branch or CALL
abbrev pub Addressed : Found → Bool → Type 0
Addressed f target = target ≡ false → (there_in (length f.m) f.first ≡ true) × (there_in (length f.m) f.second ≡ true)

-- what an instruction finds, and where its opcode is a branch or CALL
abbrev pub found_by : List ℕ → List ℕ → ℕ → Instruction → Found
found_by r m next i = found_at r m next (place_of r next i.first) (place_of r next i.second)

abbrev pub to_target : Instruction → Bool
to_target i = is_target (table i.op).first

both-there : (target a b : Bool) → target || (a && b) ≡ true → target ≡ false → (a ≡ true) × (b ≡ true)
both-there true a b e n = absurd (true≢false n)
both-there false true true e n = (refl, refl)
both-there false true false e n = absurd (false≢true e)
both-there false false b e n = absurd (false≢true e)

-- what holds of stop 5, and of what every form of the opcode comes to, holds of what an instruction comes to
pub by_form : (P : Performed → Type 0) (r m : List ℕ) (next : ℕ) (i : Instruction) → P (Stops 5) →
    (Addressed (found_by r m next i) (to_target i) → Form (found_by r m next i) (to_target i) (by_opcode (found_by r m next i) i.op) →
    P (by_opcode (found_by r m next i) i.op)) →
    P (perform_of r m next i)
unfolding perform_of addresses_there
by_form P r m next i stop h =
    guarded P _ _ stop
    (λ e.
    h
    (both-there (to_target i) (there_in (length m) (place_of r next i.first)) (there_in (length m) (place_of r next i.second)) e)
    (by_opcode_form (found_by r m next i) i.op))
