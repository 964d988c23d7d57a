-- An allowed instruction, each operand written with decimals, is judged to be that instruction, without a label: what is listed comes back.
use Prim.Native.Nat.{◌+◌, ◌≤◌, ◌<◌}
use mathlib.Core.Bool.{Bool, true, false, cond, false≢true}
use mathlib.Core.List.{List, [], ◌∷◌}
use mathlib.Core.Path.{◌≡◌, refl, sym, ap, ap₂, ◌∙◌}
use native.Mathlib.Omega.{arith}
use lib.Dec.{ltb}
use lib.ListN.{length}
use Rattle.std.proofs.Common.{Some, None, Ok}
use Rattle.isa.specs.Opcodes.{table, present_in, count_of}
use Rattle.isa.specs.Inner.Words as isa
use Rattle.isa.specs.Operands.{allows, mode_of}
use Rattle.isa.specs.Encoding.{allowed}
use Rattle.isa.specs.declared.Instruction.{Instruction}
use Rattle.isa.specs.declared.Kinds.{Kinds}
use Rattle.isa.specs.declared.Operand.{Operand}
use Rattle.isa.specs.declared.Operand.TheVariants as O
use Rattle.isa.proofs.Modes.{mode-present}
use Rattle.isa.proofs.Words.{parts, second_after_first}
use Rattle.values.specs.declared.Value.TheVariants.{Number}
use Rattle.values.proofs.Displaced.{unsigned_of, signed_of, kept-number, kept_displacement}
use Rattle.operands.specs.Checks.{operand_with, operand_at, fits, word_of, label_in, given, judged}
use Rattle.operands.specs.Settling.{reworded}
use Rattle.operands.specs.declared.Given.{Given}
use Rattle.operands.specs.declared.Written.{Written}
use Rattle.operands.specs.declared.Written.TheVariants.{Absent, Immediate, Register, Memory, Indirect, IndexedX, IndexedY, IndexedSp, Relative}
use Rattle.operands.proofs.Exactly.{fits-exactly, judged-fitting}
use Rattle.operands.proofs.Settled.{same_kind}

-- ---- an operand, written

-- values and addresses unsigned, displacements signed
unfoldable pub written_of : Operand → Written
written_of O.Absent = Absent
written_of (O.Immediate v) = Immediate (Number (unsigned_of v))
written_of (O.Register r) = Register r
written_of (O.Memory a) = Memory (Number (unsigned_of a))
written_of (O.Indirect r) = Indirect r
written_of (O.IndexedX d) = IndexedX (Number (signed_of d))
written_of (O.IndexedY d) = IndexedY (Number (signed_of d))
written_of (O.IndexedSp d) = IndexedSp (Number (signed_of d))
written_of (O.Relative d) = Relative (Number (signed_of d))

-- the word comes back
word_back : (o : Operand) → isa.word_of o < 65536 → word_of (written_of o) ≡ Some (isa.word_of o)
unfolding written_of word_of
word_back O.Absent h = refl
word_back (O.Immediate v) h = kept-number v h
word_back (O.Register r) h = refl
word_back (O.Memory a) h = kept-number a h
word_back (O.Indirect r) h = refl
word_back (O.IndexedX d) h = kept_displacement d h
word_back (O.IndexedY d) h = kept_displacement d h
word_back (O.IndexedSp d) h = kept_displacement d h
word_back (O.Relative d) h = kept_displacement d h

-- so does the operand, without a label
abbrev pub plainly : Operand → Given
plainly o = record { operand = o; label = None }

given_back : (o : Operand) → given (written_of o) (isa.word_of o) ≡ plainly o
unfolding written_of label_in
given_back O.Absent = refl
given_back (O.Immediate v) = refl
given_back (O.Register r) = refl
given_back (O.Memory a) = refl
given_back (O.Indirect r) = refl
given_back (O.IndexedX d) = refl
given_back (O.IndexedY d) = refl
given_back (O.IndexedSp d) = refl
given_back (O.Relative d) = refl

-- and its kind
reworded-back : (o : Operand) → operand_with (written_of o) 0 ≡ reworded o 0
unfolding written_of
reworded-back O.Absent = refl
reworded-back (O.Immediate v) = refl
reworded-back (O.Register r) = refl
reworded-back (O.Memory a) = refl
reworded-back (O.Indirect r) = refl
reworded-back (O.IndexedX d) = refl
reworded-back (O.IndexedY d) = refl
reworded-back (O.IndexedSp d) = refl
reworded-back (O.Relative d) = refl

kind-back : (k : Kinds) (o : Operand) → allows k (operand_with (written_of o) 0) ≡ allows k o
kind-back k o = ap (allows k) (reworded-back o) ∙ same_kind k o 0

-- an operand of mode 0 is absent
absent-back : (o : Operand) → ltb 0 (mode_of o) ≡ false → Absent ≡ written_of o
unfolding written_of
absent-back O.Absent e = refl
absent-back (O.Immediate v) e = absurd (false≢true (sym e))
absent-back (O.Register r) e = absurd (false≢true (sym e))
absent-back (O.Memory a) e = absurd (false≢true (sym e))
absent-back (O.Indirect r) e = absurd (false≢true (sym e))
absent-back (O.IndexedX d) e = absurd (false≢true (sym e))
absent-back (O.IndexedY d) e = absurd (false≢true (sym e))
absent-back (O.IndexedSp d) e = absurd (false≢true (sym e))
absent-back (O.Relative d) e = absurd (false≢true (sym e))

-- ---- an instruction's operands, written: those that are there

unfoldable pub list_by : Bool → Bool → Operand → Operand → List Written
list_by one two a b = cond one (written_of a ∷ cond two (written_of b ∷ []) []) []

abbrev pub written_in : Instruction → List Written
written_in i = list_by (ltb 0 (mode_of i.first)) (ltb 0 (mode_of i.second)) i.first i.second

module _ (a b : Operand) where
  first-listed : (one two : Bool) → ltb 0 (mode_of a) ≡ one → operand_at (list_by one two a b) 0 ≡ written_of a
  unfolding list_by
  first-listed true two e = refl
  first-listed false two e = absent-back a e

  second-listed : (one two : Bool) → ltb 0 (mode_of b) ≡ two → cond two 1 0 ≤ cond one 1 0 → operand_at (list_by one two a b) 1 ≡ written_of b
  unfolding list_by
  second-listed true true e h = refl
  second-listed true false e h = absent-back b e
  second-listed false true e h = absurd (omega arith)
  second-listed false false e h = absent-back b e

  count-listed : (one two : Bool) → cond two 1 0 ≤ cond one 1 0 → length (list_by one two a b) ≡ cond one 1 0 + cond two 1 0
  unfolding list_by
  count-listed true true h = refl
  count-listed true false h = refl
  count-listed false true h = absurd (omega arith)
  count-listed false false h = refl

module _ (i : Instruction) (t : allowed i ≡ true) where
  both-kinds : (allows (table i.op).first i.first ≡ true) × (allows (table i.op).second i.second ≡ true)
  unfolding allows
  both-kinds = let p = parts i t in (rw (p.first-mode, p.first-seventh), rw (p.second-mode, p.second-seventh))

  its-first : cond (ltb 0 (mode_of i.first)) 1 0 ≡ present_in (table i.op).first
  its-first = mode-present (table i.op).first (mode_of i.first) (parts i t).first-mode

  its-second : cond (ltb 0 (mode_of i.second)) 1 0 ≡ present_in (table i.op).second
  its-second = mode-present (table i.op).second (mode_of i.second) (parts i t).second-mode

  in_order : cond (ltb 0 (mode_of i.second)) 1 0 ≤ cond (ltb 0 (mode_of i.first)) 1 0
  in_order = omega (arith, its-first, its-second, second_after_first i.op)

  as_many_by : length (written_in i) ≡ present_in (table i.op).first + present_in (table i.op).second → length (written_in i) ≡ count_of i.op
  unfolding count_of
  as_many_by e = e

  first_back : operand_at (written_in i) 0 ≡ written_of i.first
  first_back = first-listed i.first i.second (ltb 0 (mode_of i.first)) (ltb 0 (mode_of i.second)) refl

  second_back : operand_at (written_in i) 1 ≡ written_of i.second
  second_back = second-listed i.first i.second (ltb 0 (mode_of i.first)) (ltb 0 (mode_of i.second)) refl in_order

  -- their number and their kinds are right
  fits-back : fits i.op (written_in i) ≡ true
  fits-back =
      let n = count-listed i.first i.second (ltb 0 (mode_of i.first)) (ltb 0 (mode_of i.second)) in_order in
      (fits-exactly i.op (written_in i)).1 (record {
        as_many = as_many_by (omega (arith, n, its-first, its-second));
        first_kind =
            ap (λ (o : Written). allows (table i.op).first (operand_with o 0)) first_back ∙ kind-back (table i.op).first i.first
            ∙ both-kinds.0;
        second-kind =
            ap (λ (o : Written). allows (table i.op).second (operand_with o 0)) second_back ∙ kind-back (table i.op).second i.second
            ∙ both-kinds.1;
      })

  -- and it is read as it is
  pub judged-back : isa.word_of i.first < 65536 → isa.word_of i.second < 65536
      → judged i.op (written_in i) ≡ Ok (record { first = plainly i.first; second = plainly i.second })
  judged-back h k =
      judged-fitting i.op (written_in i) fits-back
      ∙ rw (first_back, second_back, word_back i.first h, word_back i.second k)
      (ap₂ (λ (a b : Given). Ok (record { first = a; second = b })) (given_back i.first) (given_back i.second))
