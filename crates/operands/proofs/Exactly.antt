-- What is answered exactly when: each answer from a reading of the row, and back. Top.antt restates these.
use Prim.Native.Nat.{ℕ, suc}
use mathlib.Core.Bool.{Bool, true, false, cond, ◌&&◌}
use mathlib.Core.List.{List}
use mathlib.Core.Logic.{◌↔◌, ◌⊎◌, inl, inr}
use mathlib.Core.Path.{◌≡◌, refl, sym, ap, ap₂, subst, ◌∙◌}
use native.Mathlib.Omega.{arith}
use lib.Dec.{eqb}
use lib.ListN.{length, get_or-eq_default}
use borrow.Author.Tests.{eqb-true, eq-eqb}
use Rattle.std.proofs.Common.{Option, Some, None, Result, Ok, Err}
use Rattle.operands.specs.declared.Operands.{Operands}
use Rattle.operands.specs.declared.OperandsFault.{OperandsFault}
use Rattle.operands.specs.declared.OperandsFault.TheVariants.{WrongForm, WrongCount, WrongKind, OutOfRange}
use Rattle.isa.specs.Opcodes.{table, count_of}
use Rattle.isa.specs.Operands.{allows}
use Rattle.isa.specs.declared.Opcode.{Opcode}
use Rattle.isa.proofs.Top.{few-operands}
use Rattle.tokens.specs.declared.Token.{Token}
use Rattle.values.proofs.Walks.{never}
use Rattle.operands.specs.Operands.{OperandField}
use Rattle.operands.specs.Reading.{RowRead, reads, wrong, operands_of}
use Rattle.operands.specs.Checks.{operand_with, operand_at, right_count, kind_allowed, fits, word_of, given, ranged, judged, judged_form, instruction_read, refusal_of}
use Rattle.operands.specs.declared.Given.{Given}
use Rattle.operands.specs.declared.Written.{Written}
use Rattle.operands.specs.declared.Written.TheVariants.{Absent}
use Rattle.operands.proofs.Readings.{field_sound, field_complete}

-- ---- number and kinds

pub record Fits (op : Opcode) (os : List Written) : Type 0 where
  pub as_many : length os ≡ count_of op
  pub first_kind : allows (table op).first (operand_with (operand_at os 0) 0) ≡ true
  pub second-kind : allows (table op).second (operand_with (operand_at os 1) 0) ≡ true

pub fits-exactly : (op : Opcode) (os : List Written) → (fits op os ≡ true) ↔ Fits op os
unfolding fits
fits-exactly op os = (there, back)
  where
    all_true : (a b c : Bool) → (a && (b && c)) ≡ true → (a ≡ true) × (b ≡ true) × (c ≡ true)
    all_true true true true e = (refl, refl, refl)
    all_true true true false e = let z : ◌≡◌ {A = ℕ} 0 1 = cc in absurd (omega arith)
    all_true true false c e = let z : ◌≡◌ {A = ℕ} 0 1 = cc in absurd (omega arith)
    all_true false b c e = let z : ◌≡◌ {A = ℕ} 0 1 = cc in absurd (omega arith)

    first : Bool
    first = allows (table op).first (operand_with (operand_at os 0) 0)

    second : Bool
    second = allows (table op).second (operand_with (operand_at os 1) 0)

    there : (eqb (length os) (count_of op) && (first && second)) ≡ true → Fits op os
    there e =
        let h = all_true (eqb (length os) (count_of op)) first second e in
        record { as_many = eqb-true (length os) (count_of op) h.0; first_kind = h.1; second-kind = h.2 }

    back : Fits op os → (eqb (length os) (count_of op) && (first && second)) ≡ true
    back h = rw (eq-eqb (length os) (count_of op) h.as_many, h.first_kind, h.second-kind)

-- the first operand that is wrong in kind, by its place
pub data FirstWrong (op : Opcode) (os : List Written) : ℕ → Type 0 where
  first-wrong : kind_allowed op os 0 ≡ false → FirstWrong op os 1
  second-wrong : kind_allowed op os 0 ≡ true → kind_allowed op os 1 ≡ false → FirstWrong op os 2

module _ (op : Opcode) (os : List Written) where
  fitting-kinds : right_count op os ≡ true → kind_allowed op os 0 ≡ true → kind_allowed op os 1 ≡ true → fits op os ≡ true
  unfolding fits
  fitting-kinds c k l = rw (c, k, l)

  -- a right count leaves no third operand
  pub third_allowed : (i : ℕ) → right_count op os ≡ true → kind_allowed op os (suc (suc i)) ≡ true
  unfolding allows
  third_allowed i c =
      let few = eqb-true (length os) (count_of op) c in
      let none : operand_at os (suc (suc i)) ≡ Absent = get_or-eq_default os Absent (omega (arith, few, few-operands op)) in
      rw none

  -- what is judged of operands that fit, and what of operands that do not
  pub judged-fitting : fits op os ≡ true
      → judged op os ≡ ranged (operand_at os 0) (word_of (operand_at os 0)) (operand_at os 1) (word_of (operand_at os 1))
  unfolding judged
  judged-fitting e =
      let h = (fits-exactly op os).0 e in
      rw (eq-eqb (length os) (count_of op) h.as_many, h.first_kind, h.second-kind)

  judged-miscounted : right_count op os ≡ false → judged op os ≡ Err WrongCount
  unfolding judged
  judged-miscounted c = rw c

  judged-misfit : {place : ℕ} → right_count op os ≡ true → FirstWrong op os place → judged op os ≡ Err (WrongKind place)
  unfolding judged
  judged-misfit c (first-wrong k) = rw (c, k)
  judged-misfit c (second-wrong k l) = rw (c, k, l)

-- ---- the five answers

module _ (line : List ℕ) (ts : List Token) where
  pub reads-exactly : {os : List Written} → (operands_of line ts ≡ reads os) ↔ OperandField line ts os
  reads-exactly {os} = (field_sound line ts os, λ r. field_complete line r)

  -- a row has a reading or none
  data Found : Type 0 where
    some-are : (os : List Written) → operands_of line ts ≡ reads os → OperandField line ts os → Found
    none-are : operands_of line ts ≡ wrong → ((os : List Written) → OperandField line ts os → ⊥) → Found

  found : Found
  found = go (operands_of line ts) refl
    where
      go : (r : RowRead) → operands_of line ts ≡ r → Found
      go (reads os) e = some-are os e (reads-exactly.0 e)
      go wrong e = none-are e (λ os r. never (sym e ∙ reads-exactly.1 r))

  pub no_reading : (operands_of line ts ≡ wrong) ↔ ((os : List Written) → OperandField line ts os → ⊥)
  no_reading = go found
    where
      go : Found → (operands_of line ts ≡ wrong) ↔ ((os : List Written) → OperandField line ts os → ⊥)
      go (some-are os e r) = (λ f. absurd (never (sym f ∙ e)), λ n. absurd (n os r))
      go (none-are e n) = (λ f. n, λ f. e)

  module _ (op : Opcode) where
    with-reading : {os : List Written} → operands_of line ts ≡ reads os → instruction_read line op ts ≡ judged op os
    unfolding instruction_read
    with-reading e = ap (judged_form op) e

    with_none : operands_of line ts ≡ wrong → instruction_read line op ts ≡ Err WrongForm
    unfolding instruction_read
    with_none e = ap (judged_form op) e

    -- a reading that fits, whose two words are in range; an operand that is not there has the word 0
    pub record Accepted (a b : Given) : Type 0 where
      pub operands : List Written
      pub reading : OperandField line ts operands
      pub fitting : fits op operands ≡ true
      pub first_word : ℕ
      pub first_in_range : word_of (operand_at operands 0) ≡ Some first_word
      pub first-given : a ≡ given (operand_at operands 0) first_word
      pub second_word : ℕ
      pub second_in_range : word_of (operand_at operands 1) ≡ Some second_word
      pub second-given : b ≡ given (operand_at operands 1) second_word

    pub record Miscounted : Type 0 where
      pub operands : List Written
      pub reading : OperandField line ts operands
      pub miscounted : right_count op operands ≡ false

    pub record Misfit (place : ℕ) : Type 0 where
      pub operands : List Written
      pub reading : OperandField line ts operands
      pub counted : right_count op operands ≡ true
      pub wrong-there : FirstWrong op operands place

    pub record Unranged : Type 0 where
      pub operands : List Written
      pub reading : OperandField line ts operands
      pub fitting : fits op operands ≡ true
      pub out_of_range : (word_of (operand_at operands 0) ≡ None) ⊎ (word_of (operand_at operands 1) ≡ None)

    -- what an answer tells of the row
    abbrev Tells : Result Operands OperandsFault → Type 0
    Tells (Ok r) = Accepted r.first r.second
    Tells (Err WrongForm) = (os : List Written) → OperandField line ts os → ⊥
    Tells (Err WrongCount) = Miscounted
    Tells (Err (WrongKind place)) = Misfit place
    Tells (Err OutOfRange) = Unranged

    judged-tells : (os : List Written) → OperandField line ts os → Tells (judged op os)
    unfolding judged
    judged-tells os r = by_kinds (right_count op os) (kind_allowed op os 0) (kind_allowed op os 1) refl refl refl
      where
        a : Written
        a = operand_at os 0

        b : Written
        b = operand_at os 1

        by_words : fits op os ≡ true → (k l : Option ℕ) → word_of a ≡ k → word_of b ≡ l → Tells (ranged a k b l)
        by_words e (Some x) (Some y) p q =
            record {
              operands = os;
              reading = r;
              fitting = e;
              first_word = x;
              first_in_range = p;
              first-given = refl;
              second_word = y;
              second_in_range = q;
              second-given = refl;
            }
        by_words e (Some x) None p q = record { operands = os; reading = r; fitting = e; out_of_range = inr q }
        by_words e None l p q = record { operands = os; reading = r; fitting = e; out_of_range = inl p }

        by_kinds : (c k l : Bool) → right_count op os ≡ c → kind_allowed op os 0 ≡ k → kind_allowed op os 1 ≡ l
            → Tells (cond c (cond k (cond l (ranged a (word_of a) b (word_of b)) (Err (WrongKind 2))) (Err (WrongKind 1))) (Err WrongCount))
        by_kinds true true true p q s = by_words (fitting-kinds op os p q s) (word_of a) (word_of b) refl refl
        by_kinds true true false p q s = record { operands = os; reading = r; counted = p; wrong-there = second-wrong q s }
        by_kinds true false l p q s = record { operands = os; reading = r; counted = p; wrong-there = first-wrong q }
        by_kinds false k l p q s = record { operands = os; reading = r; miscounted = p }

    pub tells : {r : Result Operands OperandsFault} → instruction_read line op ts ≡ r → Tells r
    tells e = subst Tells e (go found)
      where
        go : Found → Tells (instruction_read line op ts)
        go (some-are os f r) = rw (with-reading f) (judged-tells os r)
        go (none-are f n) = rw (with_none f) n

    -- the same by the paper's number for it
    abbrev TellsBy : ℕ → Type 0
    TellsBy n =
        cond (eqb n 3) ((os : List Written) → OperandField line ts os → ⊥)
        (cond (eqb n 15) Miscounted
        (cond (eqb n 16) ((place : ℕ) × Misfit place)
        (cond (eqb n 6) Unranged ((a : Given) × (b : Given) × Accepted a b))))

    pub number-tells : {n : ℕ} → refusal_of (instruction_read line op ts) ≡ n → TellsBy n
    number-tells e = subst TellsBy e (go (instruction_read line op ts) (tells refl))
      where
        go : (r : Result Operands OperandsFault) → Tells r → TellsBy (refusal_of r)
        go (Ok r) h = (r.first, r.second, h)
        go (Err WrongForm) h = h
        go (Err WrongCount) h = h
        go (Err (WrongKind place)) h = (place, h)
        go (Err OutOfRange) h = h

    -- ---- and back

    pub accepted-back : {a b : Given} → Accepted a b → instruction_read line op ts ≡ Ok (record { first = a; second = b })
    accepted-back h =
        with-reading (reads-exactly.1 h.reading) ∙ judged-fitting op h.operands h.fitting
        ∙ rw (h.first_in_range, h.second_in_range) (ap₂ (λ (a b : Given). Ok (record { first = a; second = b })) (sym h.first-given) (sym h.second-given))

    pub miscounted-back : Miscounted → instruction_read line op ts ≡ Err WrongCount
    miscounted-back h = with-reading (reads-exactly.1 h.reading) ∙ judged-miscounted op h.operands h.miscounted

    pub misfit-back : {place : ℕ} → Misfit place → instruction_read line op ts ≡ Err (WrongKind place)
    misfit-back h = with-reading (reads-exactly.1 h.reading) ∙ judged-misfit op h.operands h.counted h.wrong-there

    pub unranged_back : Unranged → instruction_read line op ts ≡ Err OutOfRange
    unranged_back h =
        with-reading (reads-exactly.1 h.reading) ∙ judged-fitting op h.operands h.fitting ∙ out (word_of a) refl h.out_of_range
      where
        a : Written
        a = operand_at h.operands 0

        b : Written
        b = operand_at h.operands 1

        out : (k : Option ℕ) → word_of a ≡ k → ((word_of a ≡ None) ⊎ (word_of b ≡ None)) → ranged a k b (word_of b) ≡ Err OutOfRange
        out None p e = refl
        out (Some x) p (inl e) = let z : ◌≡◌ {A = ℕ} 0 1 = cc in absurd (omega arith)
        out (Some x) p (inr e) = rw e

    pub form-back : ((os : List Written) → OperandField line ts os → ⊥) → instruction_read line op ts ≡ Err WrongForm
    form-back n = with_none (no_reading.1 n)
