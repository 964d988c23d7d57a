-- What is kept of a list of operands is enough to judge it: no opcode has more than two.
use Prim.Native.Nat.{ℕ, ◌≤◌}
use mathlib.Core.Bool.{Bool, true, false}
use mathlib.Core.List.{List, [], ◌∷◌}
use mathlib.Core.Path.{◌≡◌, refl, sym, ap, ap₂, ◌∙◌}
use native.Mathlib.Omega.{arith}
use lib.Dec.{eqb}
use lib.ListN.{length}
use borrow.Author.Tests.{eq-eqb, ne_eqb}
use Rattle.std.proofs.Common.{Option, Some, None, Result, Ok, Err}
use Rattle.operands.specs.declared.Operands.{Operands}
use Rattle.values.specs.declared.Name.{Name}
use Rattle.operands.specs.declared.OperandsFault.{OperandsFault}
use Rattle.operands.specs.declared.OperandsFault.TheVariants.{WrongForm, WrongCount, WrongKind, OutOfRange}
use Rattle.isa.specs.Opcodes.{table, row_of, present_in, count_of}
use Rattle.isa.specs.Operands.{allows}
use Rattle.isa.specs.declared.Kinds.{Kinds}
use Rattle.isa.specs.declared.Kinds.TheVariants.{Nothing, Source, Destination, Place, Target}
use Rattle.isa.specs.declared.Opcode.{Opcode}
use Rattle.isa.specs.declared.Operand.{Operand}
use Rattle.isa.specs.declared.Row.{Row}
use Rattle.operands.specs.Reading.{RowRead, reads, wrong}
use Rattle.operands.specs.Checks.{operand_with, word_of, label_in, given, ranged, judged, judged_form}
use Rattle.operands.specs.Inner.Peeks.{keep, keep_all, none_listed, listed, judged_listed}
use Rattle.operands.specs.declared.Given.{Given}
use Rattle.operands.specs.declared.FirstTwo.{FirstTwo}
use Rattle.operands.specs.declared.Written.{Written}

present-most : (k : Kinds) → present_in k ≤ 1
present-most Nothing = omega arith
present-most Source = omega arith
present-most Destination = omega arith
present-most Place = omega arith
present-most Target = omega arith

count_most : (op : Opcode) → count_of op ≤ 2
unfolding count_of
count_most op = omega (arith, present-most (table op).first, present-most (table op).second)

-- from the third operand on nothing more is kept
pub keep_no_more : (a b : Written) (os : List Written) → keep_all (record { count = 3; first = a; second = b }) os ≡ record { count = 3; first = a; second = b }
unfolding keep_all keep
keep_no_more a b [] = refl
keep_no_more a b (o ∷ os) = keep_no_more a b os

module _ (op : Opcode) (a b c : Written) (os : List Written) where
  judged-many : judged_listed op (record { count = 3; first = a; second = b }) ≡ judged op (a ∷ b ∷ c ∷ os)
  unfolding judged_listed judged
  judged-many =
      rw (ne_eqb (length (a ∷ b ∷ c ∷ os)) (count_of op) (λ q. omega (arith, count_most op)), ne_eqb 3 (count_of op) (λ q. omega (arith, count_most op)))

listed-judged : (op : Opcode) (os : List Written) → judged_listed op (keep_all none_listed os) ≡ judged op os
unfolding keep_all keep judged_listed judged
listed-judged op [] = refl
listed-judged op (a ∷ []) = refl
listed-judged op (a ∷ b ∷ []) = refl
listed-judged op (a ∷ b ∷ c ∷ os) = ap (judged_listed op) (keep_no_more a b os) ∙ judged-many op a b c os

-- the answer for what is kept is the answer for what was read
pub read-judged : (op : Opcode) (r : RowRead) {all : FirstTwo} → listed none_listed r ≡ Some all → judged_listed op all ≡ judged_form op r
read-judged op (reads os) {all} e = let q : keep_all none_listed os ≡ all = cc in ap (judged_listed op) (sym q) ∙ listed-judged op os
read-judged op wrong e = let z : ◌≡◌ {A = ℕ} 0 1 = cc in absurd (omega arith)

pub wrong-judged : (op : Opcode) (r : RowRead) → listed none_listed r ≡ None → judged_form op r ≡ Err WrongForm
wrong-judged op (reads os) e = let z : ◌≡◌ {A = ℕ} 0 1 = cc in absurd (omega arith)
wrong-judged op wrong e = refl

-- ---- what the code of instruction.rt finds

module _ (op : Opcode) (all : FirstTwo) {n : ℕ} (counts : n ≡ count_of op) where
  pub count-differs : (all.count ≡ n → ⊥) → Err WrongCount ≡ judged_listed op all
  unfolding judged_listed
  count-differs h = rw (ne_eqb all.count (count_of op) (λ q. h (q ∙ sym counts)))

  module _ {its : Row} {o : Operand} {t : Bool} (as_many : all.count ≡ n) (row : its ≡ row_of op) (kind : o ≡ operand_with all.first 0)
      (allowed : t ≡ allows its.first o) where
    counted : eqb all.count (count_of op) ≡ true
    counted = eq-eqb all.count (count_of op) (as_many ∙ counts)

    first-allowed : allows (table op).first (operand_with all.first 0) ≡ t
    first-allowed = sym (allowed ∙ ap₂ (λ (r : Row) (x : Operand). allows r.first x) row kind)

    pub first_unfit : t ≡ false → Err (WrongKind 1) ≡ judged_listed op all
    unfolding judged_listed
    first_unfit e = rw (counted, first-allowed ∙ e)

    module _ {p : Operand} {u : Bool} (fitting : t ≡ true) (its-kind : p ≡ operand_with all.second 0) (its-allowed : u ≡ allows its.second p) where
      second-allowed : allows (table op).second (operand_with all.second 0) ≡ u
      second-allowed = sym (its-allowed ∙ ap₂ (λ (r : Row) (x : Operand). allows r.second x) row its-kind)

      pub second_unfit : u ≡ false → Err (WrongKind 2) ≡ judged_listed op all
      unfolding judged_listed
      second_unfit e = rw (counted, first-allowed ∙ fitting, second-allowed ∙ e)

      pub both_fit : {r : Result Operands OperandsFault} → u ≡ true → r ≡ ranged all.first (word_of all.first) all.second (word_of all.second)
          → r ≡ judged_listed op all
      unfolding judged_listed
      both_fit e f = rw (counted, first-allowed ∙ fitting, second-allowed ∙ e) f
