-- What stands at an address, outcome by outcome, in the paper's order: past the end 5, opcode 2, mode 3, missing words 5, register
-- code 4. Assumes nothing.
use mathlib.Core.Path.{◌≡◌, refl, sym, ◌∙◌}
use mathlib.Core.Bool.{Bool, true, false, cond}
use mathlib.Core.List.{List}
use Prim.Native.Nat.{ℕ, ◌+◌, ◌<◌, ◌≤◌}
use native.Mathlib.Omega.{arith}
use borrow.Author.Tests.{lt-ltb, le-ltb, le-leb, lt-leb, leb-true}
use lib.Dec.{leb}
use lib.ListN.{length, get_or, get_or-eq_default}
use Rattle.isa.specs.declared.Instruction.{Instruction}
use Rattle.std.proofs.Common.{Ok, Err}
use Rattle.isa.specs.declared.Undecoded.{Undecoded}
use Rattle.isa.specs.declared.Undecoded.TheVariants.{NoOpcode, NoMode, NoRegister, PastMemory}
use Rattle.isa.specs.declared.Opcode.{Opcode}
use Rattle.isa.specs.Opcodes.{table, opcodes, opcode_of}
use Rattle.isa.specs.Operands.{operand_of}
use Rattle.isa.specs.Decoding.{opcode_in, mode1_in, mode2_in, modes_allowed, size_in, instruction_in, registers_there, first_word_read, read_unless, decode_word, decode_of}
use Rattle.isa.proofs.FirstWords.{size-within}

-- a first word w that stands at an address
module _ (m : List ℕ) (at w : ℕ) where
  pub word_no_opcode : 2496 ≤ w → decode_word m at w ≡ Err NoOpcode
  unfolding decode_word first_word_read
  word_no_opcode h = rw (le-leb 2496 w h)

  pub word_no_mode : w < 2496 → modes_allowed w ≡ false → decode_word m at w ≡ Err NoMode
  unfolding decode_word first_word_read
  word_no_mode h n = rw (lt-leb 2496 w h, n)

  pub word-missing : w < 2496 → modes_allowed w ≡ true → length m < at + size_in w → decode_word m at w ≡ Err PastMemory
  unfolding decode_word first_word_read
  word-missing h t s = rw (lt-leb 2496 w h, t, lt-ltb (length m) (at + size_in w) s)

  pub word-whole : w < 2496 → modes_allowed w ≡ true → at + size_in w ≤ length m
      → decode_word m at w ≡ read_unless (instruction_in w (get_or m (at + 1) 0) (get_or m (at + 2) 0)) (at + size_in w)
  unfolding decode_word first_word_read
  word-whole h t s = rw (lt-leb 2496 w h, t, le-ltb (length m) (at + size_in w) s)

  -- a first word that is refused decides by itself
  pub word-refused : (why : Undecoded) → first_word_read w ≡ Err why → decode_word m at w ≡ Err why
  unfolding decode_word
  word-refused why e = rw e

module _ (m : List ℕ) (at : ℕ) where
  -- "PC≥M (5)"
  pub past_the_end : length m ≤ at → decode_of m at ≡ Err PastMemory
  unfolding decode_of
  past_the_end h = rw (le-leb (length m) at h)

  at_a_word_by : (b : Bool) → leb (length m) at ≡ b
      → cond b (Err PastMemory) (decode_word m at (get_or m at 0)) ≡ decode_word m at (get_or m at 0)
  unfolding modes_allowed opcode_of opcodes table
  at_a_word_by true e =
      let past = leb-true (length m) at e in
      rw (get_or-eq_default m 0 past) (sym (word-missing m at 0 (omega arith) refl (omega (arith, size-within 0))))
  at_a_word_by false e = refl

  -- the word at the address decides; past the end it is 0, which is NOP, and missing
  pub at_a_word : decode_of m at ≡ decode_word m at (get_or m at 0)
  unfolding decode_of
  at_a_word = at_a_word_by (leb (length m) at) refl

  -- a first word that is refused decides by itself
  pub refused_word : (why : Undecoded) → first_word_read (get_or m at 0) ≡ Err why → decode_of m at ≡ Err why
  refused_word why e = at_a_word ∙ word-refused m at (get_or m at 0) why e

  -- "A first word of 2,496 or more is 2"
  pub no-opcode : 2496 ≤ get_or m at 0 → decode_of m at ≡ Err NoOpcode
  no-opcode h = at_a_word ∙ word_no_opcode m at (get_or m at 0) h

  -- then the modes: 3
  pub no_mode : get_or m at 0 < 2496 → modes_allowed (get_or m at 0) ≡ false → decode_of m at ≡ Err NoMode
  no_mode h n = at_a_word ∙ word_no_mode m at (get_or m at 0) h n

  -- then "missing words (5)"
  pub missing-words : get_or m at 0 < 2496 → modes_allowed (get_or m at 0) ≡ true → length m < at + size_in (get_or m at 0)
      → decode_of m at ≡ Err PastMemory
  missing-words h t s = at_a_word ∙ word-missing m at (get_or m at 0) h t s

  -- then the registers: 4
  pub no_register : get_or m at 0 < 2496 → modes_allowed (get_or m at 0) ≡ true → at + size_in (get_or m at 0) ≤ length m
      → registers_there (instruction_in (get_or m at 0) (get_or m (at + 1) 0) (get_or m (at + 2) 0)) ≡ false
      → decode_of m at ≡ Err NoRegister
  unfolding read_unless
  no_register h t s r = rw (at_a_word, word-whole m at (get_or m at 0) h t s, r)

  -- and else the instruction, with the address after it
  pub whole : (w : ℕ) (i : Instruction) → get_or m at 0 ≡ w → w < 2496 → modes_allowed w ≡ true → at + size_in w ≤ length m
      → instruction_in w (get_or m (at + 1) 0) (get_or m (at + 2) 0) ≡ i → registers_there i ≡ true
      → decode_of m at ≡ Ok (record { instruction = i; next = (record { 0 = at + size_in w }) })
  unfolding read_unless
  whole w i e h t s its r = rw (at_a_word, e, word-whole m at w h t s, its, r)

-- the instruction of a first word, by its opcode
pub instruction_by : (w a b : ℕ) (o : Opcode) → opcode_in w ≡ o
    → instruction_in w a b ≡ record {
      op = o;
      first = operand_of (table o).first (mode1_in w) a;
      second = operand_of (table o).second (mode2_in w) b;
    }
unfolding instruction_in
instruction_by w a b o e = rw e
