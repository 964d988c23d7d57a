-- A label that an operand names stands within the line, as the word that it is.
use Prim.Native.Nat.{ℕ, zero, suc}
use mathlib.Core.List.{List, [], ◌∷◌}
use mathlib.Core.Path.{◌≡◌}
use lib.ListN.{length}
use Rattle.isa.specs.declared.Opcode.{Opcode}
use Rattle.tokens.specs.Reading.{tokens_from}
use Rattle.tokens.specs.declared.Token.{Token}
use Rattle.tokens.proofs.Places.{Within, row_within, parts_within}
use Rattle.values.specs.Values.{ValueText}
use Rattle.values.specs.declared.Value.{Value}
use Rattle.values.specs.declared.Value.TheVariants.{Number, Label}
use Rattle.values.proofs.Within.{ValueWithin, LabelWithin, value-within}
use Rattle.operands.specs.Operands as G
use Rattle.operands.specs.Operands.{Index, by_IX, by_IY, by_SP, OperandText, Operands, one, more, OperandField, none, some}
use Rattle.operands.specs.Checks.{operand_at, label_of, label_in, instruction_read}
use Rattle.operands.specs.declared.Given.{Given}
use Rattle.std.proofs.Common.{Ok}
use Rattle.operands.specs.declared.Written.{Written}
use Rattle.operands.proofs.Exactly.{tells}

module _ (n : ℕ) where
  label_of_within : (v : Value) → ValueWithin n v → LabelWithin n (label_of v)
  label_of_within (Number k) h = tt
  label_of_within (Label x) h = h

  of_value : {us : List Token} {v : Value} → ValueText us v → Within n us → LabelWithin n (label_of v)
  of_value {v = v} u h = label_of_within v (value-within n u h)

  of_index : {r : ℕ} {v : Value} {o : Written} → Index r v o → LabelWithin n (label_of v) → LabelWithin n (label_in o)
  unfolding label_in
  of_index by_IX h = h
  of_index by_IY h = h
  of_index by_SP h = h

  module _ (line : List ℕ) where
    of_operand : {us : List Token} {o : Written} → OperandText line us o → Within n us → LabelWithin n (label_in o)
    unfolding label_in
    of_operand (G.immediate e u) h = of_value u h.1
    of_operand (G.register e r) h = tt
    of_operand (G.memory e u) h = of_value u h.1
    of_operand (G.indirect ea ed r ez) h = tt
    of_operand (G.indexed {us} m a d t z e u ea ed r i ez) h = of_index i (of_value u (parts_within n us (a ∷ d ∷ t ∷ z ∷ []) h.1).0)
    of_operand (G.relative e u) h = of_value u h.1

    of_operands : {us : List Token} {os : List Written} → Operands line us os → Within n us → (i : ℕ) → LabelWithin n (label_in (operand_at os i))
    unfolding label_in
    of_operands (one t) h zero = of_operand t h
    of_operands (one t) h (suc i) = tt
    of_operands (more {ts} {us} c t e r) h zero = of_operand t (parts_within n ts (c ∷ us) h).0
    of_operands (more {ts} {us} c t e r) h (suc i) = of_operands r (parts_within n ts (c ∷ us) h).1.1 i

    pub of_field : {us : List Token} {os : List Written} → OperandField line us os → Within n us → (i : ℕ) → LabelWithin n (label_in (operand_at os i))
    unfolding label_in
    of_field none h i = tt
    of_field (some r) h i = of_operands r h i

pub of_read : (line : List ℕ) (at : ℕ) (op : Opcode) {a b : Given} → instruction_read line op (tokens_from line at) ≡ Ok (record { first = a; second = b })
    → LabelWithin (length line) a.label × LabelWithin (length line) b.label
of_read line at op e =
    let h = tells line (tokens_from line at) op e in
    let w = of_field (length line) line h.reading (row_within line at) in
    (rw h.first-given (w 0), rw h.second-given (w 1))
