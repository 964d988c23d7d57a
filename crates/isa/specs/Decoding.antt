-- What words decode to (01, "Layout": "Decoding refuses as stops 2, 3, 5, 4 below, in step order").
use Rattle.std.specs.Prelude.{ℕ, zero, suc, ◌+◌, ◌/◌, ◌%◌, Bool, true, false, cond, ◌&&◌, List, ltb, leb, length, get_or}
use Rattle.codes.specs.Limits.{first_words}
use Rattle.codes.specs.Stops.{none, no_opcode, no_mode, no_register, memory_end}
use Rattle.isa.specs.Opcodes.{table, opcode_of}
use Rattle.isa.specs.Operands.{operand_of, register_there, modes_of, one_of}
use Rattle.isa.specs.declared.Opcode.{Opcode}
use Rattle.isa.specs.declared.Instruction.{Instruction}
use Rattle.std.specs.Prelude.{Result, Ok, Err}
use Rattle.isa.specs.declared.Undecoded.{Undecoded}
use Rattle.isa.specs.declared.Undecoded.TheVariants.{NoOpcode, NoMode, NoRegister, PastMemory}
use Rattle.isa.specs.declared.Decoded.{Decoded}

-- the parts of a first word
abbrev pub opcode_in : ℕ → Opcode
opcode_in w = opcode_of (w / 64)

abbrev pub mode1_in : ℕ → ℕ
mode1_in w = w / 8 % 8

abbrev pub mode2_in : ℕ → ℕ
mode2_in w = w % 8

-- a first word below 2,496 whose modes its opcode allows
unfoldable pub modes_allowed : ℕ → Bool
modes_allowed w =
    one_of (modes_of (table (opcode_in w)).first) (mode1_in w) && one_of (modes_of (table (opcode_in w)).second) (mode2_in w)

-- "A first word of 2,496 or more is 2", and then the modes are judged
unfoldable pub first_word_read : ℕ → Result Opcode Undecoded
first_word_read w = cond (leb first_words w) (Err NoOpcode) (cond (modes_allowed w) (Ok (opcode_in w)) (Err NoMode))

-- a mode that has a word
abbrev pub words_of_mode : ℕ → ℕ
words_of_mode mode = cond (ltb 0 mode) 1 0

-- the words of the instruction that a first word begins
unfoldable pub size_in : ℕ → ℕ
size_in w = 1 + words_of_mode (mode1_in w) + words_of_mode (mode2_in w)

-- the instruction of a first word w and the two words after it
unfoldable pub instruction_in : ℕ → ℕ → ℕ → Instruction
instruction_in w a b = record {
  op = opcode_in w;
  first = operand_of (table (opcode_in w)).first (mode1_in w) a;
  second = operand_of (table (opcode_in w)).second (mode2_in w) b;
}

abbrev pub registers_there : Instruction → Bool
registers_there i = register_there i.first && register_there i.second

-- an instruction with the address after it, unless it names a register that is not there
unfoldable pub read_unless : Instruction → ℕ → Result Decoded Undecoded
read_unless i after = cond (registers_there i) (Ok (record { instruction = i; next = (record { 0 = after }) })) (Err NoRegister)

-- what follows from what a first word w at an address decides: 2, 3, missing words 5, 4
abbrev pub followed : List ℕ → ℕ → ℕ → Result Opcode Undecoded → Result Decoded Undecoded
followed m at w (Err why) = Err why
followed m at w (Ok o) =
    cond (ltb (length m) (at + size_in w)) (Err PastMemory)
    (read_unless (instruction_in w (get_or m (at + 1) 0) (get_or m (at + 2) 0)) (at + size_in w))

-- the first word w stands at an address
unfoldable pub decode_word : List ℕ → ℕ → ℕ → Result Decoded Undecoded
decode_word m at w = followed m at w (first_word_read w)

-- what stands at an address of a list of words: an address past its end is 5
unfoldable pub decode_of : List ℕ → ℕ → Result Decoded Undecoded
decode_of m at = cond (leb (length m) at) (Err PastMemory) (decode_word m at (get_or m at 0))

-- the paper's stop for words that are no instruction
abbrev pub undecoded_stop : Undecoded → ℕ
undecoded_stop NoOpcode = no_opcode
undecoded_stop NoMode = no_mode
undecoded_stop NoRegister = no_register
undecoded_stop PastMemory = memory_end

-- the paper's stop for an answer
abbrev pub stop_of : Result Decoded Undecoded → ℕ
stop_of (Ok r) = none
stop_of (Err why) = undecoded_stop why

abbrev pub one : Bool → ℕ
one true = 1
one false = 0

-- how many first words below n are allowed
unfoldable pub allowed_below : ℕ → ℕ
allowed_below zero = 0
allowed_below (suc w) = one (modes_allowed w) + allowed_below w
