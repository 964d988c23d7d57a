-- Encoding and decoding undo each other. Assumes nothing.
use mathlib.Core.Path.{◌≡◌, refl, sym, ap, ◌∙◌}
use mathlib.Core.Bool.{Bool, true, false, cond}
use mathlib.Core.List.{List, [], ◌∷◌, ◌++◌}
use Prim.Native.Nat.{ℕ, zero, suc, ◌+◌, ◌-◌, ◌/◌, ◌<◌, ◌≤◌}
use native.Mathlib.Nat.{min-le_right}
use native.Mathlib.Numerals.{add-one}
use native.Mathlib.Omega.{arith}
use borrow.Author.Tests.{lt-ltb, leb-false, ltb-true, ltb-false}
use lib.Dec.{ltb, leb}
use lib.ListN.{length, get_or, take, drop, length-append, length-take, length-drop, take-append-drop}
use lib.Seq.{get_or-append_seam, get_or-append-add, drop-cons, length-take-le}
use Rattle.isa.specs.declared.Instruction.{Instruction}
use Rattle.isa.specs.declared.Address.{Address}
use Rattle.isa.specs.declared.Opcode.{Opcode}
use Rattle.std.proofs.Common.{Result, Ok, Err}
use Rattle.isa.specs.declared.Undecoded.{Undecoded}
use Rattle.isa.specs.declared.Undecoded.TheVariants.{NoOpcode, NoMode, NoRegister, PastMemory}
use Rattle.isa.specs.declared.Decoded.{Decoded}
use Rattle.isa.specs.Opcodes.{table}
use Rattle.isa.specs.Operands.{mode_of, operand_words, register_there, modes_of, one_of, operand_of}
use Rattle.isa.specs.Inner.Words.{word_of}
use Rattle.isa.specs.Encoding.{first_word_of, words_of, allowed, encoding, encode_of}
use Rattle.isa.specs.Decoding.{opcode_in, mode1_in, mode2_in, modes_allowed, size_in, instruction_in, registers_there, first_word_read, read_unless}
use Rattle.isa.specs.Decoding.{followed, decode_word, decode_of, stop_of, words_of_mode}
use Rattle.isa.proofs.Tests.{both_true}
use Rattle.isa.proofs.Numbers.{number_of_opcode}
use Rattle.isa.proofs.Modes.{Made, one_word, operand-back, operand_made, mode-present}
use Rattle.isa.proofs.Words.{parts, from_parts, first_word_below, opcode-in, mode1-in, mode2-in, first_word_allowed, second_after_first, words-length, encode_allowed, encode_words}
use Rattle.isa.proofs.FirstWords.{size-within}
use Rattle.isa.proofs.Refusals.{whole, instruction_by}

-- the instruction that is put together from an instruction's first word and the words of its operands
instruction-back : (i : Instruction) (a b : ℕ) → allowed i ≡ true
    → (0 < mode_of i.first → a ≡ word_of i.first)
    → (0 < mode_of i.second → b ≡ word_of i.second)
    → instruction_in (first_word_of i) a b ≡ i
instruction-back i a b t first second =
    let p = parts i t in
    rw (
      instruction_by (first_word_of i) a b i.op (opcode-in i),
      mode1-in i,
      mode2-in i,
      operand-back (table i.op).first i.first a p.first-seventh first,
      operand-back (table i.op).second i.second b p.second-seventh second,
    )

-- an allowed instruction with a second operand has a first
first_too : (i : Instruction) → allowed i ≡ true → 0 < mode_of i.second → 0 < mode_of i.first
first_too i t h =
    let p = parts i t in
    let second = mode-present (table i.op).second (mode_of i.second) p.second-mode in
    let first = mode-present (table i.op).first (mode_of i.first) p.first-mode in
    let one : words_of_mode (mode_of i.second) ≡ 1 = rw (lt-ltb 0 (mode_of i.second) h) in
    ltb-true 0 (mode_of i.first) (by (ltb 0 (mode_of i.first)) (omega (arith, second_after_first i.op)))
  where
    by : (b : Bool) → 1 ≤ cond b 1 0 → b ≡ true
    by true l = refl
    by false l = absurd (omega arith)

-- the words after the first, where an instruction's words are followed by others
first_operand_at : (i : Instruction) (after : List ℕ) → 0 < mode_of i.first → get_or (words_of i ++ after) 1 0 ≡ word_of i.first
unfolding words_of
first_operand_at i after h = rw (one_word i.first (λ none. (omega arith)))

second_operand_at : (i : Instruction) (after : List ℕ) → 0 < mode_of i.first → 0 < mode_of i.second
    → get_or (words_of i ++ after) 2 0 ≡ word_of i.second
unfolding words_of
second_operand_at i after h k = rw (one_word i.first (λ none. (omega arith)), one_word i.second (λ none. (omega arith)))

-- the words of an allowed instruction, wherever they stand, are decoded to it
pub decode_encode : (i : Instruction) (before after : List ℕ) → allowed i ≡ true
    → decode_of (before ++ (words_of i ++ after)) (length before) ≡ Ok (record { instruction = i; next = (record { 0 = length before + length (words_of i) }) })
unfolding words_of
decode_encode i before after t =
    let m = before ++ (words_of i ++ after) in
    let n = length before in
    let long : length m ≡ n + (length (words_of i) + length after) = rw (length-append before (words_of i ++ after), length-append (words_of i) after) in
    let size = words-length i in
    let its =
    instruction-back i (get_or m (n + 1) 0) (get_or m (n + 2) 0) t
    (λ h. get_or-append-add before (words_of i ++ after) 1 0 ∙ first_operand_at i after h)
    (λ h. get_or-append-add before (words_of i ++ after) 2 0 ∙ second_operand_at i after (first_too i t h) h) in
    let registers : registers_there i ≡ true = rw ((parts i t).first-register, (parts i t).second-register) in
    whole m n (first_word_of i) i
    (get_or-append_seam before (first_word_of i) ((operand_words i.first ++ operand_words i.second) ++ after) 0)
    (first_word_below i) (first_word_allowed i t) (omega arith) its registers ∙
    ap (λ (k : ℕ). (Ok (record { instruction = i; next = (record { 0 = n + k }) }))) (sym size)

-- the same of words that stand at an address of a list
pub decode_there : (i : Instruction) (m : List ℕ) (at : ℕ) → allowed i ≡ true → take (length (words_of i)) (drop at m) ≡ words_of i
    → decode_of m at ≡ Ok (record { instruction = i; next = (record { 0 = at + length (words_of i) }) })
decode_there i m at t e =
    let n = length (words_of i) in
    let rest = drop n (drop at m) in
    let split : take at m ++ (words_of i ++ rest) ≡ m =
    ap (λ (l : List ℕ). take at m ++ (l ++ rest)) (sym e) ∙
    ap (λ (l : List ℕ). take at m ++ l) (take-append-drop n (drop at m)) ∙
    take-append-drop at m in
    let inside : at ≤ length m =
    omega (
      arith,
      words-length i,
      size-within (first_word_of i),
      ap length e,
      length-take n (drop at m),
      length-drop at m,
      min-le_right n (length (drop at m)),
    ) in
    rw (split, length-take-le at m inside) at (decode_encode i (take at m) rest t)

-- what is put together from a first word w and the words a and b after it
module _ (w a b : ℕ) where
  first_made : Made (table (opcode_in w)).first (mode1_in w) a (operand_of (table (opcode_in w)).first (mode1_in w) a)
  first_made = operand_made (table (opcode_in w)).first (mode1_in w) a (omega arith)

  second_made : Made (table (opcode_in w)).second (mode2_in w) b (operand_of (table (opcode_in w)).second (mode2_in w) b)
  second_made = operand_made (table (opcode_in w)).second (mode2_in w) b (omega arith)

  its-modes : modes_allowed w ≡ true
      → (one_of (modes_of (table (opcode_in w)).first) (mode1_in w) ≡ true) ×
      (one_of (modes_of (table (opcode_in w)).second) (mode2_in w) ≡ true)
  unfolding modes_allowed
  its-modes modes = both_true _ _ modes

  first_word_back : w < 2496 → first_word_of (instruction_in w a b) ≡ w
  unfolding first_word_of instruction_in
  first_word_back below =
      rw (first_made.its-mode, second_made.its-mode) (omega (arith, number_of_opcode (w / 64) (omega arith)))

  instruction-allowed : modes_allowed w ≡ true → registers_there (instruction_in w a b) ≡ true → allowed (instruction_in w a b) ≡ true
  unfolding instruction_in
  instruction-allowed modes t =
      let registers = both_true (register_there (instruction_in w a b).first) (register_there (instruction_in w a b).second) t in
      from_parts (instruction_in w a b)
      (record {
        first-mode = rw first_made.its-mode (its-modes modes).0;
        first-seventh = first_made.fits;
        second-mode = rw second_made.its-mode (its-modes modes).1;
        second-seventh = second_made.fits;
        first-register = registers.0;
        second-register = registers.1;
      })

  -- as many words as the modes say: the first word, and the words of the operands in order
  two_in_order : (p q : Bool) → cond q 1 0 ≤ cond p 1 0
      → w ∷ cond p (a ∷ []) [] ++ cond q (b ∷ []) [] ≡ take (1 + cond p 1 0 + cond q 1 0) (w ∷ a ∷ b ∷ [])
  two_in_order true true h = refl
  two_in_order true false h = refl
  two_in_order false false h = refl
  two_in_order false true h = absurd (omega arith)

  words_back : w < 2496 → modes_allowed w ≡ true → words_of (instruction_in w a b) ≡ take (size_in w) (w ∷ a ∷ b ∷ [])
  unfolding words_of instruction_in size_in
  words_back below modes =
      let first = mode-present (table (opcode_in w)).first (mode1_in w) (its-modes modes).0 in
      let second = mode-present (table (opcode_in w)).second (mode2_in w) (its-modes modes).1 in
      rw (first_made.its-words, second_made.its-words, first_word_back below)
      (two_in_order (ltb 0 (mode1_in w)) (ltb 0 (mode2_in w)) (omega (arith, second_after_first (opcode_in w))))

-- the first words that are counted are those of allowed instructions: each has one
pub first_word_used : (w : ℕ) → w < 2496 → modes_allowed w ≡ true
    → (allowed (instruction_in w 0 0) ≡ true) × (first_word_of (instruction_in w 0 0) ≡ w)
unfolding instruction_in
first_word_used w below modes = (
  instruction-allowed w 0 0 modes (rw ((first_made w 0 0).register refl, (second_made w 0 0).register refl)),
  first_word_back w 0 0 below,
)

-- what it says that the decoder read an instruction, test by test
record Decodes (m : List ℕ) (at : ℕ) (i : Instruction) (next : Address) : Type 0 where
  there : at < length m
  below : get_or m at 0 < 2496
  modes : modes_allowed (get_or m at 0) ≡ true
  whole_words : at + size_in (get_or m at 0) ≤ length m
  registers : registers_there (instruction_in (get_or m at 0) (get_or m (at + 1) 0) (get_or m (at + 2) 0)) ≡ true
  its : instruction_in (get_or m at 0) (get_or m (at + 1) 0) (get_or m (at + 2) 0) ≡ i
  after : at + size_in (get_or m at 0) ≡ next.0

passed : (b : Bool) (x y : Result Decoded Undecoded) (i : Instruction) (next : Address) → 0 < stop_of x → cond b x y ≡ Ok (record { instruction = i; next = next })
    → (b ≡ false) × (y ≡ Ok (record { instruction = i; next = next }))
passed true x y i next stop e = let none = ap stop_of e in absurd (omega arith)
passed false x y i next stop e = (refl, e)

held : (b : Bool) (x y : Result Decoded Undecoded) (i : Instruction) (next : Address) → 0 < stop_of x → cond b y x ≡ Ok (record { instruction = i; next = next })
    → (b ≡ true) × (y ≡ Ok (record { instruction = i; next = next }))
held true x y i next stop e = (refl, e)
held false x y i next stop e = let none = ap stop_of e in absurd (omega arith)

-- what an instruction that was read says of its first word: below 2,496, its modes allowed, and read as one that is
first_word_passed : (m : List ℕ) (at w : ℕ) (past modes : Bool) (o : Opcode) (i : Instruction) (next : Address)
    → followed m at w (cond past (Err NoOpcode) (cond modes (Ok o) (Err NoMode))) ≡ Ok (record { instruction = i; next = next })
    → (past ≡ false) × (modes ≡ true) × (followed m at w (Ok o) ≡ Ok (record { instruction = i; next = next }))
first_word_passed m at w true modes o i next e = let none = ap stop_of e in absurd (omega arith)
first_word_passed m at w false true o i next e = (refl, refl, e)
first_word_passed m at w false false o i next e = let none = ap stop_of e in absurd (omega arith)

-- one reply has one instruction and one address
read-both : (i j : Instruction) (n k : Address) → ◌≡◌ {A = Result Decoded Undecoded} (Ok (record { instruction = i; next = n })) (Ok (record { instruction = j; next = k }))
    → (i ≡ j) × (n ≡ k)
read-both i j n k e = let d : ◌≡◌ {A = Decoded} (record { instruction = i; next = n }) (record { instruction = j; next = k }) = cc in (ap (λ (x : Decoded). x.instruction) d, ap (λ (x : Decoded). x.next) d)

decodes : (m : List ℕ) (at : ℕ) (i : Instruction) (next : Address) → decode_of m at ≡ Ok (record { instruction = i; next = next }) → Decodes m at i next
unfolding decode_of decode_word first_word_read read_unless
decodes m at i next e =
    let w = get_or m at 0 in
    let x = instruction_in w (get_or m (at + 1) 0) (get_or m (at + 2) 0) in
    let n = at + size_in w in
    let p1 = passed (leb (length m) at) (Err PastMemory) (decode_word m at w) i next (omega arith) e in
    let p2 = first_word_passed m at w (leb 2496 w) (modes_allowed w) (opcode_in w) i next p1.1 in
    let p4 = passed (ltb (length m) n) (Err PastMemory) (read_unless x n) i next (omega arith) p2.2 in
    let p5 = held (registers_there x) (Err NoRegister) (Ok (record { instruction = x; next = (record { 0 = n }) })) i next (omega arith) p4.1 in
    let both = read-both x i (record { 0 = n }) next p5.1 in
    record {
      there = leb-false (length m) at p1.0;
      below = leb-false 2496 w p2.0;
      modes = p2.1;
      whole_words = ltb-false (length m) n p4.0;
      registers = p5.0;
      its = both.0;
      after = ap (λ (a : Address). a.0) both.1;
    }

drop-one : (m : List ℕ) (at : ℕ) → at < length m → drop at m ≡ get_or m at 0 ∷ drop (at + 1) m
drop-one m at h = rw add-one (drop-cons m at 0 h)

-- up to three words from an address on, one by one
up_to_three : (m : List ℕ) (at n : ℕ) → n ≤ 3 → at + n ≤ length m
    → take n (drop at m) ≡ take n (get_or m at 0 ∷ get_or m (at + 1) 0 ∷ get_or m (at + 2) 0 ∷ [])
up_to_three m at zero h l = refl
up_to_three m at (suc zero) h l = rw (drop-one m at (omega arith))
up_to_three m at (suc (suc zero)) h l = rw (drop-one m at (omega arith), drop-one m (at + 1) (omega arith))
up_to_three m at (suc (suc (suc zero))) h l =
    let next : at + 1 + 1 ≡ at + 2 = omega arith in
    rw (drop-one m at (omega arith), drop-one m (at + 1) (omega arith), next, drop-one m (at + 2) (omega arith))
up_to_three m at (suc (suc (suc (suc n)))) h l = absurd (omega arith)

-- the words from an address up to another
abbrev pub between : List ℕ → ℕ → ℕ → List ℕ
between m at next = take (next - at) (drop at m)

-- what was decoded is allowed and is encoded to the words that were read, all of which are there
pub record Returns (m : List ℕ) (at : ℕ) (i : Instruction) (next : Address) : Type 0 where
  pub is_allowed : allowed i ≡ true
  pub its-words : words_of i ≡ between m at next.0
  pub its-encoding : encode_of i ≡ encoding 0 (words_of i)
  pub same-words : (encode_of i).words ≡ between m at next.0
  pub onward : at < next.0
  pub within : next.0 ≤ length m
  pub short : next.0 ≤ at + 3

pub encode_decode : (m : List ℕ) (at : ℕ) (i : Instruction) (next : Address) → decode_of m at ≡ Ok (record { instruction = i; next = next }) → Returns m at i next
encode_decode m at i next e =
    let d = decodes m at i next e in
    let w = get_or m at 0 in
    let a = get_or m (at + 1) 0 in
    let b = get_or m (at + 2) 0 in
    let size = size-within w in
    let long : next.0 - at ≡ size_in w = omega (arith, d.after) in
    let ok : allowed i ≡ true = rw (← d.its) (instruction-allowed w a b d.modes d.registers) in
    let words : words_of i ≡ between m at next.0 =
    rw (← d.its, long, up_to_three m at (size_in w) size.1 d.whole_words) (words_back w a b d.below d.modes) in
    record {
      is_allowed = ok;
      its-words = words;
      its-encoding = encode_allowed i ok;
      same-words = encode_words i ok ∙ words;
      onward = omega (arith, d.after);
      within = omega (arith, d.after);
      short = omega (arith, d.after);
    }

-- an instruction that was read ends behind its words
pub size-read : (m : List ℕ) (at : ℕ) (i : Instruction) (next : Address) → decode_of m at ≡ Ok (record { instruction = i; next = next }) → at + length (words_of i) ≡ next.0
size-read m at i next e =
    let r = encode_decode m at i next e in
    let l = length-take-le (next.0 - at) (drop at m) (omega (arith, r.within, length-drop at m)) in
    omega (arith, r.onward, ap length r.its-words, l)
