-- The words of an instruction and the encoder's answer (01, "Layout"). Assumes nothing.
use mathlib.Core.Path.{◌≡◌, refl, sym, ap, ap₂, ◌∙◌}
use mathlib.Core.Bool.{Bool, true, false, cond, ◌&&◌}
use mathlib.Core.List.{List, [], ◌∷◌, ◌++◌}
use Prim.Native.Nat.{ℕ, suc, ◌<◌, ◌≤◌}
use native.Mathlib.Omega.{arith}
use borrow.Author.Tests.{leb-true}
use lib.Dec.{ltb, leb}
use lib.ListN.{length, length-append}
use Rattle.isa.specs.declared.Opcode.{Opcode}
use Rattle.isa.specs.declared.Operand.{Operand}
use Rattle.isa.specs.declared.Instruction.{Instruction}
use Rattle.isa.specs.declared.Encoded.{Encoded}
use Rattle.std.proofs.Common.{Option, Some, None}
use Rattle.isa.specs.declared.Encoded.TheVariants.{One, Two, Three}
use Rattle.isa.specs.Opcodes.{table, opcodes, opcode_of, present_in, count_of}
use Rattle.isa.specs.Operands.{mode_of, operand_words, register_there, modes_of, one_of, seventh_fits, allows}
use Rattle.isa.specs.Encoding.{first_word_of, words_of, allowed, Encoding, encoding, encode_of, refusal_of, words_in, answered}
use Rattle.isa.specs.Inner.Words.{word_of, handed_back}
use Rattle.isa.specs.Decoding.{opcode_in, mode1_in, mode2_in, modes_allowed, size_in, words_of_mode}
use Rattle.isa.proofs.Tests.{both_true}
use Rattle.isa.proofs.Numbers.{number-below, opcode_of_number, each}
use Rattle.isa.proofs.Modes.{mode-below, words-of}
use Rattle.isa.proofs.FirstWords.{size_by_count}

-- the parts of a first word are small
pub ruleset small_parts = (number-below, mode-below)

-- what it is to be allowed, part by part: a mode of the opcode's list, mode 7 as it is meant there, and registers that are there
pub record Parts (i : Instruction) : Type 0 where
  pub first-mode : one_of (modes_of (table i.op).first) (mode_of i.first) ≡ true
  pub first-seventh : seventh_fits (table i.op).first i.first ≡ true
  pub second-mode : one_of (modes_of (table i.op).second) (mode_of i.second) ≡ true
  pub second-seventh : seventh_fits (table i.op).second i.second ≡ true
  pub first-register : register_there i.first ≡ true
  pub second-register : register_there i.second ≡ true

pub parts : (i : Instruction) → allowed i ≡ true → Parts i
unfolding allowed allows
parts i t =
    let all = both_true _ (register_there i.first && register_there i.second) t in
    let kinds = both_true (allows (table i.op).first i.first) (allows (table i.op).second i.second) all.0 in
    let first = both_true _ (seventh_fits (table i.op).first i.first) kinds.0 in
    let second = both_true _ (seventh_fits (table i.op).second i.second) kinds.1 in
    let registers = both_true (register_there i.first) (register_there i.second) all.1 in
    record {
      first-mode = first.0;
      first-seventh = first.1;
      second-mode = second.0;
      second-seventh = second.1;
      first-register = registers.0;
      second-register = registers.1;
    }

pub from_parts : (i : Instruction) → Parts i → allowed i ≡ true
unfolding allowed allows
from_parts i p =
    rw (p.first-mode, p.first-seventh, p.second-mode, p.second-seventh, p.first-register, p.second-register)

-- the first word holds the number and the modes
module _ (i : Instruction) where
  pub first_word_below : first_word_of i < 2496
  unfolding first_word_of
  first_word_below = omega (arith, number-below i.op, mode-below i.first, mode-below i.second)

  pub opcode-in : opcode_in (first_word_of i) ≡ i.op
  unfolding first_word_of
  opcode-in =
      ap opcode_of (omega (arith, mode-below i.first, mode-below i.second)) ∙ opcode_of_number i.op

  pub mode1-in : mode1_in (first_word_of i) ≡ mode_of i.first
  unfolding first_word_of
  mode1-in = omega (arith, mode-below i.first, mode-below i.second)

  pub mode2-in : mode2_in (first_word_of i) ≡ mode_of i.second
  unfolding first_word_of
  mode2-in = omega (arith, mode-below i.first, mode-below i.second)

-- the first word of an allowed instruction has modes that its opcode allows
pub first_word_allowed : (i : Instruction) → allowed i ≡ true → modes_allowed (first_word_of i) ≡ true
unfolding modes_allowed
first_word_allowed i t =
    let p = parts i t in
    rw (opcode-in i, mode1-in i, mode2-in i, p.first-mode, p.second-mode)

-- no line of the table has a second operand and no first
pub second_after_first : (o : Opcode) → present_in (table o).second ≤ present_in (table o).first
unfolding opcode_of opcodes table
second_after_first o =
    leb-true (present_in (table o).second) (present_in (table o).first)
    (each (λ (p : Opcode). leb (present_in (table p).second) (present_in (table p).first)) refl o)

-- how many words an operand has, and an instruction
words_length_of : (o : Operand) → length (operand_words o) ≡ words_of_mode (mode_of o)
words_length_of o = ap length (words-of o) ∙ by (ltb 0 (mode_of o))
  where
    by : (b : Bool) → length (cond b (word_of o ∷ []) []) ≡ cond b 1 0
    by true = refl
    by false = refl

pub words-length : (i : Instruction) → length (words_of i) ≡ size_in (first_word_of i)
unfolding words_of size_in
words-length i =
    rw (mode1-in i, mode2-in i)
    (omega (
      arith,
      length-append (operand_words i.first) (operand_words i.second),
      words_length_of i.first,
      words_length_of i.second,
    ))

-- "then one word per operand": an allowed instruction has its opcode's number of them
pub words_count : (i : Instruction) → allowed i ≡ true → length (words_of i) ≡ suc (count_of i.op)
words_count i t =
    omega (arith, words-length i, size_by_count (first_word_of i) (first_word_allowed i t), ap count_of (opcode-in i))

handed-back : (w : ℕ) (xs ys : List ℕ) → length xs ≤ 1 → length ys ≤ 1 → words_in (handed_back (w ∷ xs ++ ys)) ≡ w ∷ xs ++ ys
handed-back w [] [] h k = refl
handed-back w [] (y ∷ []) h k = refl
handed-back w (x ∷ []) [] h k = refl
handed-back w (x ∷ []) (y ∷ []) h k = refl
handed-back w (x ∷ z ∷ xs) ys h k = absurd (omega arith)
handed-back w [] (y ∷ z ∷ ys) h k = absurd (omega arith)
handed-back w (x ∷ []) (y ∷ z ∷ ys) h k = absurd (omega arith)

at_most_one : (o : Operand) → length (operand_words o) ≤ 1
at_most_one o = rw (words_length_of o) (by (ltb 0 (mode_of o)))
  where
    by : (b : Bool) → cond b 1 0 ≤ 1
    by true = omega arith
    by false = omega arith

-- the words of an answer
pub words_handed_back : (i : Instruction) → words_in (handed_back (words_of i)) ≡ words_of i
unfolding words_of
words_handed_back i =
    handed-back (first_word_of i) (operand_words i.first) (operand_words i.second) (at_most_one i.first) (at_most_one i.second)

no_refusal : (e : Option Encoded) (w : ℕ) (ws : List ℕ) → words_in e ≡ w ∷ ws → refusal_of e ≡ 0
no_refusal (Some (One a)) w ws e = refl
no_refusal (Some (Two a b)) w ws e = refl
no_refusal (Some (Three a b c)) w ws e = refl
no_refusal None w ws e = let z : ◌≡◌ {A = ℕ} 0 1 = cc in absurd (omega arith)

-- an allowed instruction is handed back as its words, whichever way its first word was found
pub encoded : (i : Instruction) (w : ℕ) → allowed i ≡ true → w ≡ first_word_of i
    → answered (handed_back (w ∷ operand_words i.first ++ operand_words i.second)) ≡ encode_of i
unfolding encode_of words_of
encoded i w t e =
    let operands = operand_words i.first ++ operand_words i.second in
    let its-words = words_handed_back i in
    rw (e, t) (ap₂ encoding (no_refusal (handed_back (first_word_of i ∷ operands)) (first_word_of i) operands its-words) its-words)

-- "Encoding any other instruction is 5": 0 exactly where the instruction is allowed, and then its words
module _ (i : Instruction) where
  pub encode_allowed : allowed i ≡ true → encode_of i ≡ encoding 0 (words_of i)
  unfolding encode_of
  encode_allowed t = rw t

  pub encode_words : allowed i ≡ true → (encode_of i).words ≡ words_of i
  encode_words t = ap (λ (e : Encoding). e.words) (encode_allowed t)

  pub refusal : (encode_of i).refusal ≡ cond (allowed i) 0 5
  unfolding encode_of
  refusal = by (allowed i)
    where
      by : (b : Bool) → (cond b (encoding 0 (words_of i)) (encoding 5 [])).refusal ≡ cond b 0 5
      by true = refl
      by false = refl

-- an answer is told by its words
back_in_hand : (e : Option Encoded) → handed_back (words_in e) ≡ e
back_in_hand (Some (One a)) = refl
back_in_hand (Some (Two a b)) = refl
back_in_hand (Some (Three a b c)) = refl
back_in_hand None = refl

pub same_answer : (e f : Option Encoded) → answered e ≡ answered f → e ≡ f
same_answer e f q = sym (back_in_hand e) ∙ ap (λ (x : Encoding). handed_back x.words) q ∙ back_in_hand f
