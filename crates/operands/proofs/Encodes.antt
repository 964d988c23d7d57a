-- What is accepted can be encoded, whatever values its labels get, in a word for each operand after the first word.
use Prim.Native.Nat.{ℕ, suc}
use mathlib.Core.Bool.{Bool, true, cond}
use mathlib.Core.List.{List}
use mathlib.Core.Path.{◌≡◌, refl, sym, ap, ◌∙◌}
use lib.Dec.{T, ltb→lt}
use lib.ListN.{length}
use borrow.Author.Tests.{lt-ltb}
use Rattle.std.proofs.Common.{Some}
use Rattle.isa.specs.Opcodes.{table, count_of}
use Rattle.isa.specs.Operands.{allows, register_there}
use Rattle.isa.specs.Encoding.{words_of, allowed, encode_of}
use Rattle.codes.specs.Registers.{is_register}
use Rattle.isa.specs.declared.Kinds.{Kinds}
use Rattle.isa.specs.declared.Opcode.{Opcode}
use Rattle.isa.specs.declared.Operand.{Operand}
use Rattle.isa.specs.declared.Operand.TheVariants as O
use Rattle.isa.proofs.Top as isa
use Rattle.tokens.specs.declared.Token.{Token}
use Rattle.values.specs.declared.Value.{Value}
use Rattle.values.specs.declared.Value.TheVariants.{Number, Label}
use Rattle.operands.specs.Operands as G
use Rattle.operands.specs.Operands.{Index, by_IX, by_IY, by_SP, OperandText, Operands, one, more, OperandField, none, some}
use Rattle.operands.specs.Checks.{operand_with, operand_at, word_of, label_of, label_in, given}
use Rattle.operands.specs.Settling.{reworded, settled_by, settled_operand, settled_instruction}
use Rattle.operands.specs.declared.Given.{Given}
use Rattle.operands.specs.declared.Written.{Written}
use Rattle.operands.specs.declared.Written.TheVariants.{Absent, Immediate, Register, Memory, Indirect, IndexedX, IndexedY, IndexedSp, Relative}
use Rattle.operands.proofs.Exactly.{Accepted, fits-exactly}
use Rattle.operands.proofs.Settled.{same_kind, reworded_as, kind-stays}

-- ---- kinds do not depend on words

kind-kept : (k : Kinds) (o : Written) (x w : ℕ) → allows k (settled_operand (given o x) w) ≡ allows k (operand_with o 0)
kind-kept k o x w =
    kind-stays k (given o x) w ∙ sym (same_kind k (operand_with o x) 0) ∙ ap (allows k) (reworded_as o x 0)

-- ---- registers that are named are there

abbrev Known : Written → Type 0
Known Absent = Unit
Known (Immediate v) = Unit
Known (Register r) = T (is_register r)
Known (Memory v) = Unit
Known (Indirect r) = T (is_register r)
Known (IndexedX v) = Unit
Known (IndexedY v) = Unit
Known (IndexedSp v) = Unit
Known (Relative v) = Unit

index_known : {r : ℕ} {v : Value} {o : Written} → Index r v o → Known o
index_known by_IX = tt
index_known by_IY = tt
index_known by_SP = tt

module _ (line : List ℕ) where
  text-known : {ts : List Token} {o : Written} → OperandText line ts o → Known o
  text-known (G.immediate e u) = tt
  text-known (G.register e n) = n.known
  text-known (G.memory e u) = tt
  text-known (G.indirect ea ed n ez) = n.known
  text-known (G.indexed m a d t z e u ea ed n i ez) = index_known i
  text-known (G.relative e u) = tt

  first_of : {ts : List Token} {os : List Written} → Operands line ts os → Known (operand_at os 0)
  first_of (one t) = text-known t
  first_of (more c t e r) = text-known t

  first-known : {ts : List Token} {os : List Written} → OperandField line ts os → Known (operand_at os 0)
  first-known none = tt
  first-known (some r) = first_of r

  second-known : {ts : List Token} {os : List Written} → OperandField line ts os → Known (operand_at os 1)
  second-known none = tt
  second-known (some (one t)) = tt
  second-known (some (more c t e r)) = first_of r

there-value : (v : Value) (f : ℕ → Operand) (x w : ℕ) → ((y : ℕ) → register_there (f y) ≡ true) → ((y z : ℕ) → reworded (f y) z ≡ f z)
    → register_there (settled_by (label_of v) (f x) w) ≡ true
there-value (Number n) f x w there re = there x
there-value (Label name) f x w there re = ap register_there (re x w) ∙ there w

named-there : {r x : ℕ} → T (is_register r) → ◌≡◌ (Some r) (Some x) → is_register x ≡ true
named-there {r} {x} k e = let q : r ≡ x = cc in ap is_register (sym q) ∙ lt-ltb r 16 (ltb→lt r 16 k)

there-settled : (o : Written) (x w : ℕ) → Known o → word_of o ≡ Some x → register_there (settled_operand (given o x) w) ≡ true
unfolding word_of label_in
there-settled Absent x w k e = refl
there-settled (Immediate v) x w k e = there-value v O.Immediate x w (λ y. refl) (λ y z. refl)
there-settled (Register r) x w k e = named-there k e
there-settled (Memory v) x w k e = there-value v O.Memory x w (λ y. refl) (λ y z. refl)
there-settled (Indirect r) x w k e = named-there k e
there-settled (IndexedX v) x w k e = there-value v O.IndexedX x w (λ y. refl) (λ y z. refl)
there-settled (IndexedY v) x w k e = there-value v O.IndexedY x w (λ y. refl) (λ y z. refl)
there-settled (IndexedSp v) x w k e = there-value v O.IndexedSp x w (λ y. refl) (λ y z. refl)
there-settled (Relative v) x w k e = there-value v O.Relative x w (λ y. refl) (λ y z. refl)

-- ---- an accepted instruction, with any values for its labels

module _ (line : List ℕ) (ts : List Token) (op : Opcode) where
  allowed_then : {a b : Given} → Accepted line ts op a b → (v w : ℕ) → allowed (settled_instruction op a b v w) ≡ true
  unfolding allowed
  allowed_then {a} {b} h v w =
      let o = operand_at h.operands 0 in
      let p = operand_at h.operands 1 in
      let f = (fits-exactly op h.operands).0 h.fitting in
      let k₁ : allows (table op).first (settled_operand a v) ≡ true =
      ap (λ (g : Given). allows (table op).first (settled_operand g v)) h.first-given ∙ kind-kept (table op).first o h.first_word v ∙ f.first_kind in
      let k₂ : allows (table op).second (settled_operand b w) ≡ true =
      ap (λ (g : Given). allows (table op).second (settled_operand g w)) h.second-given ∙ kind-kept (table op).second p h.second_word w ∙ f.second-kind in
      let r₁ : register_there (settled_operand a v) ≡ true =
      ap (λ (g : Given). register_there (settled_operand g v)) h.first-given
      ∙ there-settled o h.first_word v (first-known line h.reading) h.first_in_range in
      let r₂ : register_there (settled_operand b w) ≡ true =
      ap (λ (g : Given). register_there (settled_operand g w)) h.second-given
      ∙ there-settled p h.second_word w (second-known line h.reading) h.second_in_range in
      rw (k₁, k₂, r₁, r₂)

  pub encodes : {a b : Given} → Accepted line ts op a b → (v w : ℕ) → (encode_of (settled_instruction op a b v w)).refusal ≡ 0
  encodes {a} {b} h v w =
      isa.encoder (settled_instruction op a b v w) ∙ ap (λ (t : Bool). cond t 0 5) (allowed_then h v w)

  pub words_count : {a b : Given} → Accepted line ts op a b → (v w : ℕ) → length (words_of (settled_instruction op a b v w)) ≡ suc (count_of op)
  words_count {a} {b} h v w = isa.words_count (settled_instruction op a b v w) (allowed_then h v w)
