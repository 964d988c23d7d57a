-- What this crate promises, beyond the equations at its functions: what those equations' right sides mean.
use Prim.Native.Nat.{ℕ, suc, ◌<◌}
use mathlib.Core.Bool.{true}
use mathlib.Core.List.{List}
use mathlib.Core.Logic.{◌↔◌, ◌⊎◌}
use mathlib.Core.Path.{◌≡◌, sym, ap, ◌∙◌}
use lib.ListN.{length}
use Rattle.std.proofs.Common.{Some, None, Ok, Err}
use Rattle.operands.specs.declared.Operands.{Operands}
use Rattle.operands.specs.declared.OperandsFault.TheVariants.{WrongKind}
use Rattle.isa.specs.Opcodes.{count_of}
use Rattle.isa.specs.Encoding.{words_of, encode_of}
use Rattle.isa.specs.Operands.{allows}
use Rattle.isa.specs.declared.Kinds.{Kinds}
use Rattle.isa.specs.declared.Opcode.{Opcode}
use Rattle.tokens.specs.Reading.{tokens_from}
use Rattle.tokens.specs.declared.Token.{Token}
use Rattle.tokens.proofs.Places.{Within}
use Rattle.values.specs.declared.Name.{Name}
use Rattle.values.proofs.Within.{LabelWithin}
use Rattle.operands.specs.Operands.{OperandField}
use Rattle.operands.specs.Reading.{reads, wrong, operands_of}
use Rattle.operands.specs.Checks.{operand_with, operand_at, word_of, label_in, given, right_count, kind_allowed, fits, instruction_read, refusal_of}
use Rattle.operands.specs.Settling.{settled_operand, settled_instruction}
use Rattle.operands.specs.Places.{OperandStart, NumberOut, operand_start_in, number_out_in}
use Rattle.operands.specs.declared.Given.{Given}
use Rattle.operands.specs.declared.Written.{Written}
use Rattle.operands.proofs.Readings as Readings
use Rattle.operands.proofs.Exactly as Exactly
use Rattle.operands.proofs.Exactly.{Fits, Accepted, Miscounted, Misfit, Unranged}
use Rattle.operands.proofs.Settled as Settled
use Rattle.operands.proofs.Encodes as Encodes
use Rattle.operands.proofs.Within as Bounds
use Rattle.operands.proofs.Located as Located
use Rattle.operands.proofs.Examples as Examples
use Rattle.operands.proofs.Examples.{Examples}

-- ---- form

-- "`#v` immediate, `.reg`, `/v` memory, `[.reg]` indirect, `#v[.IX]`, `#v[.IY]`, `#v[.SP]`, `$v` relative. .. Operands are parted by
-- commas": the reader finds operands exactly where the rule has them.
pub reads-exactly : (line : List ℕ) (ts : List Token) {os : List Written} → (operands_of line ts ≡ reads os) ↔ OperandField line ts os
reads-exactly = Exactly.reads-exactly

pub wrong-exactly : (line : List ℕ) (ts : List Token) → (operands_of line ts ≡ wrong) ↔ ((os : List Written) → OperandField line ts os → ⊥)
wrong-exactly = Exactly.no_reading

-- A row of tokens has one reading at most.
pub one-reading : (line : List ℕ) {ts : List Token} {os os' : List Written} → OperandField line ts os → OperandField line ts os' → os ≡ os'
one-reading = Readings.once

-- ---- the five answers of `instruction`, which thereby come in the order 3, 15, 16 (first kind, second kind), 6

-- "opcode's operand count, or kind not allowed": what it is to fit.
pub fits-exactly : (op : Opcode) (os : List Written) → (fits op os ≡ true) ↔ Fits op os
fits-exactly = Exactly.fits-exactly

-- A right count leaves no third operand to be wrong in kind.
pub third_allowed : (op : Opcode) (os : List Written) (i : ℕ) → right_count op os ≡ true → kind_allowed op os (suc (suc i)) ≡ true
third_allowed = Exactly.third_allowed

module _ (line : List ℕ) (ts : List Token) (op : Opcode) where
  -- An instruction is read exactly where the row has a reading that fits and whose numbers are all in range; the operands handed
  -- back are that reading's, each with its word and its label.
  pub read-exactly : {a b : Given} → (instruction_read line op ts ≡ Ok (record { first = a; second = b })) ↔ Accepted line ts op a b
  read-exactly = (Exactly.tells line ts op, Exactly.accepted-back line ts op)

  -- 0: a reading that fits, each number in its range.
  pub accepted-exactly : (refusal_of (instruction_read line op ts) ≡ 0) ↔ ((a : Given) × (b : Given) × Accepted line ts op a b)
  accepted-exactly = (Exactly.number-tells line ts op, λ h. ap refusal_of (Exactly.accepted-back line ts op h.2))

  -- 3: no reading at all, whatever the opcode.
  pub form-exactly : (refusal_of (instruction_read line op ts) ≡ 3) ↔ ((os : List Written) → OperandField line ts os → ⊥)
  form-exactly = (Exactly.number-tells line ts op, λ h. ap refusal_of (Exactly.form-back line ts op h))

  -- 15: "wrong number of operands" (02, K4), whatever their kinds and numbers.
  pub count-exactly : (refusal_of (instruction_read line op ts) ≡ 15) ↔ Miscounted line ts op
  count-exactly = (Exactly.number-tells line ts op, λ h. ap refusal_of (Exactly.miscounted-back line ts op h))

  -- 16: "kind not allowed" (02, K4): the count is right, whatever the numbers;
  pub kind-exactly : (refusal_of (instruction_read line op ts) ≡ 16) ↔ ((place : ℕ) × Misfit line ts op place)
  kind-exactly = (Exactly.number-tells line ts op, λ h. ap refusal_of (Exactly.misfit-back line ts op h.1))

  -- "with the operand's place, 1 or 2", and "the first is named".
  pub place-exactly : {place : ℕ} → (instruction_read line op ts ≡ Err (WrongKind place)) ↔ Misfit line ts op place
  place-exactly = (Exactly.tells line ts op, Exactly.misfit-back line ts op)

  -- 6: a reading that fits, and a number out of its range.
  pub range_exactly : (refusal_of (instruction_read line op ts) ≡ 6) ↔ Unranged line ts op
  range_exactly = (Exactly.number-tells line ts op, λ h. ap refusal_of (Exactly.unranged_back line ts op h))

  -- What is read is encoded: with any words in its labels' places, the encoder does not refuse it.
  pub encodes : {a b : Given} → instruction_read line op ts ≡ Ok (record { first = a; second = b }) → (v w : ℕ) → (encode_of (settled_instruction op a b v w)).refusal ≡ 0
  encodes e = Encodes.encodes line ts op (Exactly.tells line ts op e)

  -- "First word .., then one word per operand": it takes as many words as its opcode has operands, plus one.
  pub words_count : {a b : Given} → instruction_read line op ts ≡ Ok (record { first = a; second = b }) → (v w : ℕ) → length (words_of (settled_instruction op a b v w)) ≡ suc (count_of op)
  words_count e = Encodes.words_count line ts op (Exactly.tells line ts op e)

-- ---- labels

-- A label that an operand names is a word of the line: it has a byte at least, and lies within the line that its tokens stand in.
pub field_within : (n : ℕ) (line : List ℕ) {us : List Token} {os : List Written} → OperandField line us os → Within n us → (i : ℕ)
    → LabelWithin n (label_in (operand_at os i))
field_within = Bounds.of_field

pub label-within : (line : List ℕ) (at : ℕ) (op : Opcode) {a b : Given} → instruction_read line op (tokens_from line at) ≡ Ok (record { first = a; second = b })
    → LabelWithin (length line) a.label × LabelWithin (length line) b.label
label-within = Bounds.of_read

-- ---- labels replaced by their values

-- "one word per operand in order: value, displacement or register code": an operand that names no label keeps its own word.
pub unlabelled-stays : (g : Given) (w : ℕ) → g.label ≡ None → settled_operand g w ≡ g.operand
unlabelled-stays = Settled.unlabelled-stays

-- One that names a label gets that word, whatever stood there, and is as it was written otherwise.
pub label_replaced : (o : Written) (x w : ℕ) {n : Name} → label_in o ≡ Some n → settled_operand (given o x) w ≡ operand_with o w
label_replaced = Settled.label_replaced

-- No kind changes: an opcode allows the operand where it allowed it before, and nowhere else.
pub kind-stays : (k : Kinds) (g : Given) (w : ℕ) → allows k (settled_operand g w) ≡ allows k g.operand
kind-stays = Settled.kind-stays

-- ---- places (02, K4): what `operand_start` and `number_out` hand back

-- "the operand in 14, 16": in a field of right form that has an i-th operand, i from 1, it is where that operand starts.
pub operand_start_exactly : (line : List ℕ) {ts : List Token} {os : List Written} → OperandField line ts os → (i : ℕ) → i < length os → {p : ℕ}
    → (operand_start_in ts (suc i) ≡ p) ↔ OperandStart line ts (suc i) p
operand_start_exactly = Located.operand_start_exactly

module _ (line : List ℕ) {ts : List Token} {os : List Written} (r : OperandField line ts os) where
  -- "the number .. in 6", its `-` included: of the first two operands, from the left, the first number that is out of range;
  pub number_out_exactly : (word_of (operand_at os 0) ≡ None) ⊎ (word_of (operand_at os 1) ≡ None) → {p : ℕ}
      → (number_out_in line ts ≡ p) ↔ NumberOut line ts p
  number_out_exactly = Located.number_out_exactly line r

  -- 0 where there is none.
  pub number_out_none : {v w : ℕ} → word_of (operand_at os 0) ≡ Some v → word_of (operand_at os 1) ≡ Some w → number_out_in line ts ≡ 0
  number_out_none = Located.number_out_none line r

-- ---- examples, and one reply

-- Lines that are easily misread.
pub examples : Examples
examples = Examples.examples

-- The promise of `instruction` is an equation with its meaning: two replies that meet it coincide.
pub coincide : {A : Type 0} {meaning r r' : A} → r ≡ meaning → r' ≡ meaning → r ≡ r'
coincide p q = p ∙ sym q
