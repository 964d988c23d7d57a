-- What the instruction set promises (01, "Layout"), restated for a reader. The functions' own promises stand in src/; the arguments
-- are in the files beside this one.
use mathlib.Core.Path.{◌≡◌, refl, sym, ◌∙◌}
use mathlib.Core.Bool.{true, cond}
use mathlib.Core.List.{List, [], ◌∷◌, ◌++◌}
use mathlib.Core.Logic.{◌↔◌}
use Prim.Native.Nat.{ℕ, suc, ◌+◌, ◌-◌, ◌<◌, ◌≤◌}
use native.Mathlib.Omega.{arith}
use borrow.Author.Tests.{ltb-true, lt-ltb}
use lib.ListN.{length, take, drop}
use Rattle.isa.specs.declared.Opcode.{Opcode}
use Rattle.isa.specs.declared.Opcode.TheVariants.{INC, BZ, BR, MOVE}
use Rattle.isa.specs.declared.Operand.{Operand}
use Rattle.isa.specs.declared.Operand.TheVariants.{Absent, Register, IndexedSp, Relative}
use Rattle.isa.specs.declared.Instruction.{Instruction}
use Rattle.isa.specs.declared.Address.{Address}
use Rattle.std.proofs.Common.{Option, Ok}
use Rattle.isa.specs.declared.Encoded.{Encoded}
use Rattle.isa.specs.Opcodes.{table, opcodes, opcode_of, count_of}
use Rattle.isa.specs.Operands.{allows, operand_of}
use Rattle.codes.specs.Registers.{PC, is_register}
use Rattle.isa.specs.Encoding.{first_word_of, words_of, allowed, Encoding, encode_of, answered}
use Rattle.isa.specs.Decoding.{allowed_below, modes_allowed, first_word_read, size_in, instruction_in, read_unless, decode_word, decode_of, stop_of}
use Rattle.isa.proofs.Numbers as numbers
use Rattle.isa.proofs.Words as words
use Rattle.isa.proofs.FirstWords as first-words
use Rattle.isa.proofs.RoundTrip as round_trip

-- "601 first words are allowed". The marked table of document 01 stands in the crate `marked`.
pub allowed_first_words : allowed_below 2496 ≡ 601
allowed_first_words = first-words.six_hundred_and_one

-- "Encoding any other instruction is 5": the words come back where the instruction is allowed, and 5 everywhere else
pub encoder : (i : Instruction) → (encode_of i).refusal ≡ cond (allowed i) 0 5
encoder = words.refusal

pub encoder-words : (i : Instruction) → allowed i ≡ true → (encode_of i).words ≡ words_of i
encoder-words = words.encode_words

-- "First word .., then one word per operand": an allowed instruction has as many words as its opcode has operands, plus one
pub words_count : (i : Instruction) → allowed i ≡ true → length (words_of i) ≡ suc (count_of i.op)
words_count = words.words_count

-- What is encoded is decoded to itself, with the address after it, wherever its words stand
pub decode_encode : (i : Instruction) (before after : List ℕ) → allowed i ≡ true
    → decode_of (before ++ (words_of i ++ after)) (length before) ≡ Ok (record { instruction = i; next = (record { 0 = length before + length (words_of i) }) })
decode_encode = round_trip.decode_encode

-- What is decoded is an allowed instruction whose words, operand words included, are those that were read; they are all there
pub encode_decode : (m : List ℕ) (at : ℕ) (i : Instruction) (next : Address) → decode_of m at ≡ Ok (record { instruction = i; next = next })
    → (allowed i ≡ true) × ((encode_of i).words ≡ take (next.0 - at) (drop at m)) × (at < next.0) × (next.0 ≤ length m)
encode_decode m at i next e =
    let r = round_trip.encode_decode m at i next e in
    (r.is_allowed, r.same-words, r.onward, r.within)

-- The first words that are counted as allowed are those of allowed instructions
pub first-word-of : (i : Instruction) → allowed i ≡ true → (first_word_of i < 2496) × (modes_allowed (first_word_of i) ≡ true)
first-word-of i t = (words.first_word_below i, words.first_word_allowed i t)

pub first_word_used : (w : ℕ) → w < 2496 → modes_allowed w ≡ true
    → (allowed (instruction_in w 0 0) ≡ true) × (first_word_of (instruction_in w 0 0) ≡ w)
first_word_used = round_trip.first_word_used

-- Each opcode has a number below 39 and a name of its own
pub number-below : (o : Opcode) → (table o).number < 39
number-below = numbers.number-below

pub same_number : (o p : Opcode) → (table o).number ≡ (table p).number → o ≡ p
same_number = numbers.same_number

pub same_name : (o p : Opcode) → (table o).name ≡ (table p).name → o ≡ p
same_name = numbers.same_name

-- No opcode has more than two operands
pub few-operands : (o : Opcode) → count_of o ≤ 2
few-operands = numbers.few-operands

-- "Registers: R0..R9 0..9, A 10, SR 11, IX 12, IY 13, SP 14, PC 15": a code names a register up to PC, and none above
pub register-codes : (code : ℕ) → (is_register code ≡ true) ↔ (code ≤ PC)
register-codes code = (λ e. omega (arith, ltb-true code 16 e), λ h. lt-ltb code 16 (omega arith))

abbrev instruction : Opcode → Operand → Operand → Instruction
instruction o a b = record { op = o; first = a; second = b }

-- "Decoding refuses as stops 2, 3, 5, 4 below, in step order": the order itself is in `Refusals`; here it is at single words
pub record RefusedExamples : Type 0 where
  -- no words at all
  pub empty : stop_of (decode_of [] 0) ≡ 5
  -- "A first word of 2,496 or more is 2", whatever its low bits
  pub opcode : stop_of (decode_of (2496 ∷ []) 0) ≡ 2
  pub last_word : stop_of (decode_of (65535 ∷ []) 0) ≡ 2
  -- NOP with a second mode, and MOVE with no second mode
  pub mode : stop_of (decode_of (1 ∷ []) 0) ≡ 3
  pub no_mode : stop_of (decode_of (144 ∷ []) 0) ≡ 3
  -- `MOVE.16,..`: with a word missing 5, and 4 once all are there
  pub missing : stop_of (decode_of (146 ∷ 16 ∷ []) 0) ≡ 5
  pub register : stop_of (decode_of (146 ∷ 16 ∷ 0 ∷ []) 0) ≡ 4
  pub second-register : stop_of (decode_of (146 ∷ 0 ∷ 16 ∷ []) 0) ≡ 4
  -- "Testing mode 7 by code lets `INC $3` pass as SP-indexed"
  pub relative : (encode_of (instruction INC (Relative 3) Absent)).refusal ≡ 5
  pub indexed : (encode_of (instruction BR (IndexedSp 3) Absent)).refusal ≡ 5
  -- "Its `BZ .R3` is refused: the opcode's own list decides"
  pub branch : (encode_of (instruction BZ (Register 3) Absent)).refusal ≡ 5
  -- a register code of 16
  pub code : (encode_of (instruction MOVE (Register 16) (Register 0))).refusal ≡ 5

pub refused : RefusedExamples
unfolding decode_of decode_word first_word_read modes_allowed size_in instruction_in read_unless opcode_of opcodes operand_of encode_of allowed allows words_of first_word_of table
refused = record {
  empty = refl;
  opcode = refl;
  last_word = refl;
  mode = refl;
  no_mode = refl;
  missing = refl;
  register = refl;
  second-register = refl;
  relative = refl;
  indexed = refl;
  branch = refl;
  code = refl;
}

-- Each function's promise says that its reply is a meaning, so two replies that keep it are one
pub one-reply : {A : Type 0} {meaning r s : A} → r ≡ meaning → s ≡ meaning → r ≡ s
one-reply e f = e ∙ sym f

-- and the encoder's says its number and words, so two answers that keep it are one
pub one-encoding : {meaning : Encoding} {r s : Option Encoded} → answered r ≡ meaning → answered s ≡ meaning → r ≡ s
one-encoding {r = r} {s = s} e f = words.same_answer r s (e ∙ sym f)
