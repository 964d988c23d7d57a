-- The table's numbers and names (01, "Layout"): each opcode has its own. One clause for each opcode, and then every rule over
-- the table is one test that is computed at its 39 lines. Assumes nothing.
use mathlib.Core.Path.{◌≡◌, refl, sym, ap, ◌∙◌, subst}
use mathlib.Core.Bool.{Bool, true, false, cond}
use mathlib.Core.List.{List, [], ◌∷◌}
use Prim.Native.Nat.{ℕ, ◌<◌, ◌≤◌}
use Prim.Native.String.{String}
use native.Mathlib.Omega.{arith}
use borrow.Author.Tests.{ltb-true, ltb-false, eqb-true}
use lib.Dec.{ltb, eqb}
use lib.Text.{eqt}
use lib.ListN.{get_or-eq_default}
use Rattle.isa.specs.declared.Opcode.{Opcode}
use Rattle.isa.specs.declared.Opcode.TheVariants.{NOP, HALT, MOVE, PUSH, POP, ADD, SUB, MUL, DIV, MOD, INC, DEC, NEG, CMP, AND, OR, XOR, NOT, BR, BZ, BNZ, BP, BNP, BN, BNN, BV, BNV, BC, BNC, BE, BO, CALL, RET, INCHAR, ININT, INSTR, WRCHAR, WRINT, WRSTR}
use Rattle.isa.specs.declared.Kinds.{Kinds}
use Rattle.isa.specs.declared.Kinds.TheVariants.{Nothing, Source, Destination, Place, Target}
use Rattle.isa.specs.Opcodes.{table, opcodes, opcode_of, present_in, count_of}
use Rattle.isa.proofs.Tests.{every, every_at}

pub opcode_of_number : (o : Opcode) → opcode_of (table o).number ≡ o
unfolding opcode_of opcodes table
opcode_of_number NOP = refl
opcode_of_number HALT = refl
opcode_of_number MOVE = refl
opcode_of_number PUSH = refl
opcode_of_number POP = refl
opcode_of_number ADD = refl
opcode_of_number SUB = refl
opcode_of_number MUL = refl
opcode_of_number DIV = refl
opcode_of_number MOD = refl
opcode_of_number INC = refl
opcode_of_number DEC = refl
opcode_of_number NEG = refl
opcode_of_number CMP = refl
opcode_of_number AND = refl
opcode_of_number OR = refl
opcode_of_number XOR = refl
opcode_of_number NOT = refl
opcode_of_number BR = refl
opcode_of_number BZ = refl
opcode_of_number BNZ = refl
opcode_of_number BP = refl
opcode_of_number BNP = refl
opcode_of_number BN = refl
opcode_of_number BNN = refl
opcode_of_number BV = refl
opcode_of_number BNV = refl
opcode_of_number BC = refl
opcode_of_number BNC = refl
opcode_of_number BE = refl
opcode_of_number BO = refl
opcode_of_number CALL = refl
opcode_of_number RET = refl
opcode_of_number INCHAR = refl
opcode_of_number ININT = refl
opcode_of_number INSTR = refl
opcode_of_number WRCHAR = refl
opcode_of_number WRINT = refl
opcode_of_number WRSTR = refl

-- two opcodes with one number are one
pub same_number : (o p : Opcode) → (table o).number ≡ (table p).number → o ≡ p
same_number o p e = sym (opcode_of_number o) ∙ ap opcode_of e ∙ opcode_of_number p

number_below_by : (o : Opcode) (b : Bool) → ltb (table o).number 39 ≡ b → (table o).number < 39
unfolding opcode_of opcodes table
number_below_by o true e = ltb-true (table o).number 39 e
number_below_by o false e =
    let past = get_or-eq_default opcodes NOP (ltb-false (table o).number 39 e) in
    let first : NOP ≡ o = sym past ∙ opcode_of_number o in
    rw (← first) (omega arith)

pub number-below : (o : Opcode) → (table o).number < 39
number-below o = number_below_by o (ltb (table o).number 39) refl

-- a test that passes at the 39 opcodes passes at each opcode
pub each : (f : Opcode → Bool) → every (λ (n : ℕ). f (opcode_of n)) 39 ≡ true → (o : Opcode) → f o ≡ true
each f t o =
    subst (λ (p : Opcode). f p ≡ true) (opcode_of_number o)
    (every_at (λ (n : ℕ). f (opcode_of n)) 39 t (table o).number (number-below o))

pub number_of_opcode : (n : ℕ) → n < 39 → (table (opcode_of n)).number ≡ n
unfolding opcode_of opcodes table
number_of_opcode n h = eqb-true (table (opcode_of n)).number n (every_at (λ (k : ℕ). eqb (table (opcode_of k)).number k) 39 refl n h)

-- the opcode of a name, as it is looked up in the table
abbrev first_named : String → List Opcode → Opcode
first_named s [] = NOP
first_named s (o ∷ os) = cond (eqt (table o).name s) o (first_named s os)

named : String → Opcode
named s = first_named s opcodes

opcode_of_name : (o : Opcode) → named (table o).name ≡ o
unfolding named opcode_of opcodes table
opcode_of_name o =
    same_number (named (table o).name) o
    (eqb-true (table (named (table o).name)).number (table o).number
    (each (λ (p : Opcode). eqb (table (named (table p).name)).number (table p).number) refl o))

-- two opcodes with one name are one
pub same_name : (o p : Opcode) → (table o).name ≡ (table p).name → o ≡ p
same_name o p e = sym (opcode_of_name o) ∙ ap named e ∙ opcode_of_name p

-- ---- operands

one_at_most : (k : Kinds) → present_in k ≤ 1
one_at_most Nothing = omega arith
one_at_most Source = omega arith
one_at_most Destination = omega arith
one_at_most Place = omega arith
one_at_most Target = omega arith

pub few-operands : (o : Opcode) → count_of o ≤ 2
unfolding count_of
few-operands o = omega (arith, one_at_most (table o).first, one_at_most (table o).second)
