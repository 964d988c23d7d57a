-- Lines that are easily misread, settled one by one by computing them.
use Prim.Native.Nat.{ℕ}
use Prim.Native.String.{String}
use mathlib.Core.List.{List, [], ◌∷◌}
use mathlib.Core.Path.{◌≡◌, refl}
use Rattle.numerals.specs.Bytes.{bytes, rank}
use Rattle.numerals.specs.Digits.{worth_after}
use Rattle.numerals.specs.Numbers.{kept_of}
use Rattle.numerals.specs.Reading.{run, digits_at, radix_at, unsigned_at}
use Rattle.isa.specs.Opcodes.{table, count_of}
use Rattle.isa.specs.Operands.{allows}
use Rattle.codes.specs.Registers.{A, PC}
use Rattle.isa.specs.declared.Opcode.{Opcode}
use Rattle.isa.specs.declared.Opcode.TheVariants.{NOP, MOVE, PUSH, INC, BR, BZ, INSTR}
use Rattle.isa.specs.declared.Operand.{Operand}
use Rattle.isa.specs.declared.Operand.TheVariants.{Absent, Immediate, Register, Memory, Indirect, IndexedX, IndexedY, IndexedSp, Relative}
use Rattle.names.specs.Names.{capital, is_named, registers, place_in, register_code}
use Rattle.tokens.specs.Bytes.{is_blank, is_mark}
use Rattle.tokens.specs.Reading.{blanks, closing, token_here, token_at, tokens_within, tokens_from}
use Rattle.values.specs.Ranges.{displacement_of}
use Rattle.std.proofs.Common.{Some, None, Result, Ok, Err}
use Rattle.operands.specs.declared.Operands.{Operands}
use Rattle.operands.specs.declared.OperandsFault.{OperandsFault}
use Rattle.operands.specs.declared.OperandsFault.TheVariants.{WrongForm, WrongCount, WrongKind, OutOfRange}
use Rattle.operands.specs.Reading.{starts, index_step, walk, operands_of}
use Rattle.operands.specs.Checks.{word_of, label_in, judged, instruction_read}
use Rattle.operands.specs.Places.{start_of, after_comma, after_commas, operand_start_in, number_start_in, number_out_in}
use Rattle.operands.specs.Settling.{settled_instruction}
use Rattle.operands.specs.declared.Given.{Given}

-- what a line of operands alone is, after an opcode
abbrev pub Says : Opcode → String → Result Operands OperandsFault → Type 0
Says op text r = instruction_read (bytes text) op (tokens_from (bytes text) 0) ≡ r

abbrev pub plain : Operand → Given
plain o = record { operand = o; label = None }

-- an operand with the label from a place to another
abbrev pub labelled : Operand → ℕ → ℕ → Given
labelled o start end = record { operand = o; label = Some (record { start = start; end = end }) }

-- an instruction that is read from a line of operands alone, with two words for its labels
abbrev pub settled_in : Opcode → Result Operands OperandsFault → ℕ → ℕ → List Operand
settled_in op (Ok r) v w = (settled_instruction op r.first r.second v w).first ∷ (settled_instruction op r.first r.second v w).second ∷ []
settled_in op (Err WrongForm) v w = []
settled_in op (Err WrongCount) v w = []
settled_in op (Err (WrongKind place)) v w = []
settled_in op (Err OutOfRange) v w = []

abbrev pub Settles : Opcode → String → ℕ → ℕ → Operand → Operand → Type 0
Settles op text v w o p = settled_in op (instruction_read (bytes text) op (tokens_from (bytes text) 0)) v w ≡ o ∷ p ∷ []

-- each of these lines is of wrong form
abbrev pub WrongForms : List String → Type 0
WrongForms [] = Unit {0}
WrongForms (text ∷ texts) = Says PUSH text (Err WrongForm) × WrongForms texts

-- an operand, and what it is
pub record Shown : Type 0 where
  pub text : String
  pub is : Operand

abbrev shown : String → Operand → Shown
shown text o = record { text = text; is = o }

-- each of these is that operand of PUSH, or of BR; with 7 for its label; or out of range
abbrev pub Reads : Opcode → List Shown → Type 0
Reads op [] = Unit {0}
Reads op (x ∷ xs) = Says op x.text (Ok (record { first = plain x.is; second = plain Absent })) × Reads op xs

abbrev pub EachSettles : Opcode → List Shown → Type 0
EachSettles op [] = Unit {0}
EachSettles op (x ∷ xs) = Settles op x.text 7 8 x.is Absent × EachSettles op xs

abbrev pub OutOfRanges : Opcode → List String → Type 0
OutOfRanges op [] = Unit {0}
OutOfRanges op (text ∷ texts) = Says op text (Err OutOfRange) × OutOfRanges op texts

-- the place of the first or the second operand, of what follows a word of 4 bytes, and of the first number out of range there
abbrev pub start_in : String → ℕ → ℕ
start_in line i = operand_start_in (tokens_from (bytes line) 4) i

abbrev pub out_in : String → ℕ
out_in line = number_out_in (bytes line) (tokens_from (bytes line) 4)

pub record Examples : Type 0 where
  -- each shape at the ends of its range: "Range -32768..65535"; "A decimal displacement .. lies in -32768..32767; a hex one .. is a bit pattern"
  pub numbers : Reads PUSH (shown "#-32768" (Immediate 32768) ∷ shown "#65535" (Immediate 65535) ∷ shown "/-32768" (Memory 32768) ∷ shown "/65535" (Memory 65535) ∷ [])
  pub by_IX : Reads PUSH (shown "#-32768[.IX]" (IndexedX 32768) ∷ shown "#32767[.IX]" (IndexedX 32767) ∷ shown "#0xFFFF[.IX]" (IndexedX 65535) ∷ [])
  pub by_IY : Reads PUSH (shown "#-32768[.IY]" (IndexedY 32768) ∷ shown "#32767[.IY]" (IndexedY 32767) ∷ shown "#0xFFFF[.IY]" (IndexedY 65535) ∷ [])
  pub by_SP : Reads PUSH (shown "#-32768[.SP]" (IndexedSp 32768) ∷ shown "#32767[.SP]" (IndexedSp 32767) ∷ shown "#0xFFFF[.SP]" (IndexedSp 65535) ∷ [])
  pub targets : Reads BR (shown "$-32768" (Relative 32768) ∷ shown "$32767" (Relative 32767) ∷ shown "$0xFFFF" (Relative 65535) ∷ shown "/65535" (Memory 65535) ∷ [])
  pub past-numbers : OutOfRanges PUSH ("#-32769" ∷ "#65536" ∷ "/-32769" ∷ "/65536" ∷ [])
  pub past_displacements : OutOfRanges PUSH ("#-32769[.IX]" ∷ "#32768[.IX]" ∷ "#-32769[.IY]" ∷ "#32768[.IY]" ∷ "#-32769[.SP]" ∷ "#32768[.SP]" ∷ "#0x10000[.SP]" ∷ [])
  pub past-targets : OutOfRanges BR ("$-32769" ∷ "$32768" ∷ "$0x10000" ∷ [])
  -- each shape that holds a label
  pub labels : EachSettles PUSH (shown "#x" (Immediate 7) ∷ shown "/x" (Memory 7) ∷ shown "#x[.IX]" (IndexedX 7) ∷ shown "#x[.IY]" (IndexedY 7) ∷ shown "#x[.SP]" (IndexedSp 7) ∷ [])
  -- the first and the last register
  pub first_and_last : Reads PUSH (shown ".R0" (Register 0) ∷ shown ".PC" (Register PC) ∷ shown "[.R0]" (Indirect 0) ∷ shown "[.PC]" (Indirect PC) ∷ [])
  -- "blanks may stand between" tokens; "Labels keep case; other words don't"
  pub blanks-between : Says MOVE "# -5 [ . ix ] , [ . A ]" (Ok (record { first = plain (IndexedX 65531); second = plain (Indirect A) }))
  pub nothing : Says NOP " ; no operand" (Ok (record { first = plain Absent; second = plain Absent }))
  -- a register's name without `.` is a label
  pub label : Says PUSH "#R1" (Ok (record { first = labelled (Immediate 0) 1 3; second = plain Absent }))
  pub label-target : Says BR "$loop" (Ok (record { first = labelled (Relative 0) 1 5; second = plain Absent }))
  -- 3: form
  pub wrong-forms : WrongForms ("#- 5" ∷ "#5[.R1]" ∷ "#1," ∷ ",#1" ∷ "#1 #2" ∷ ".R10" ∷ "R1" ∷ "[R1]" ∷ "/1[.IX]" ∷ "#5[.IX" ∷ "#-0x5" ∷ "5" ∷ "#\"a\"" ∷ [])
  pub form-first : Says NOP ".A,.A,.X" (Err WrongForm)
  -- 5: number and kinds; "Testing mode 7 by code lets `INC $3` pass as SP-indexed"
  pub relative : Says INC "$3" (Err (WrongKind 1))
  pub indexed : Says BR "#3[.SP]" (Err (WrongKind 1))
  pub indexed-there : Says INC "#3[.SP]" (Ok (record { first = plain (IndexedSp 3); second = plain Absent }))
  -- "Its `BZ .R3` is refused: the opcode's own list decides"
  pub branch : Says BZ ".R3" (Err (WrongKind 1))
  pub three : Says MOVE ".A,.A,.A" (Err WrongCount)
  pub none-given : Says PUSH "" (Err WrongCount)
  pub register_for_a_place : Says INSTR ".A" (Err (WrongKind 1))
  pub kind_before_range : Says INC "$40000" (Err (WrongKind 1))
  pub count_before_range : Says INC "/99999,/99999" (Err WrongCount)
  -- "15 comes before 16 in its old place, and of two operands wrong in kind the first is named" (02, K4)
  pub count_before_kind : Says NOP "$1" (Err WrongCount)
  pub first_of_two : Says MOVE "$1,#2" (Err (WrongKind 1))
  pub second-alone : Says MOVE "#1,#2" (Err (WrongKind 2))
  -- 6: ranges; "A decimal displacement .. lies in -32768..32767; a hex one .. is a bit pattern"
  pub decimal_displacement : Says BR "$32768" (Err OutOfRange)
  pub hexadecimal_displacement : Says BR "$0x8000" (Ok (record { first = plain (Relative 32768); second = plain Absent }))
  pub indexed_displacement : Says PUSH "#40000[.IX]" (Err OutOfRange)
  pub second_out_of_range : Says MOVE "#1,/65536" (Err OutOfRange)
  pub immediate : Says PUSH "#40000" (Ok (record { first = plain (Immediate 40000); second = plain Absent }))
  -- a label's value takes its place, in order; no other word changes
  pub label-settled : Settles BR "/x" 7 8 (Memory 7) Absent
  pub target-settled : Settles BR "$x" 65531 8 (Relative 65531) Absent
  pub second-settled : Settles MOVE ".R1,#x[.IX]" 7 8 (Register 1) (IndexedX 8)
  pub both-settled : Settles MOVE "#x,/x" 7 8 (Immediate 7) (Memory 8)
  pub number-stays : Settles MOVE "#5,.A" 7 8 (Immediate 5) (Register A)
  -- places, from 0: the number's first byte, its `-` included, from the left; the operand's first byte
  pub number_after_blank : out_in "PUSH # 70000" ≡ 7
  pub number_below_zero : out_in "PUSH #-32769" ≡ 6
  pub first-number : out_in "MOVE #70000,/80000" ≡ 6
  pub second-number : out_in "MOVE #x,#40000[.IX]" ≡ 9
  pub no_number : out_in "MOVE #1,.A" ≡ 0
  pub first-operand : start_in "MOVE $1,#2" 1 ≡ 5
  pub second-operand : start_in "MOVE #1,#2" 2 ≡ 8

pub examples : Examples
unfolding rank worth_after kept_of run digits_at radix_at unsigned_at table count_of allows capital is_named registers place_in register_code is_blank is_mark blanks closing token_here token_at tokens_within tokens_from displacement_of starts index_step walk operands_of word_of label_in judged instruction_read start_of after_comma after_commas operand_start_in number_start_in number_out_in
examples =
    record {
      numbers = (refl, (refl, (refl, (refl, tt))));
      by_IX = (refl, (refl, (refl, tt)));
      by_IY = (refl, (refl, (refl, tt)));
      by_SP = (refl, (refl, (refl, tt)));
      targets = (refl, (refl, (refl, (refl, tt))));
      past-numbers = (refl, (refl, (refl, (refl, tt))));
      past_displacements = (refl, (refl, (refl, (refl, (refl, (refl, (refl, tt)))))));
      past-targets = (refl, (refl, (refl, tt)));
      labels = (refl, (refl, (refl, (refl, (refl, tt)))));
      first_and_last = (refl, (refl, (refl, (refl, tt))));
      blanks-between = refl;
      nothing = refl;
      label = refl;
      label-target = refl;
      wrong-forms = (refl, (refl, (refl, (refl, (refl, (refl, (refl, (refl, (refl, (refl, (refl, (refl, (refl, tt)))))))))))));
      form-first = refl;
      relative = refl;
      indexed = refl;
      indexed-there = refl;
      branch = refl;
      three = refl;
      none-given = refl;
      register_for_a_place = refl;
      kind_before_range = refl;
      count_before_range = refl;
      count_before_kind = refl;
      first_of_two = refl;
      second-alone = refl;
      decimal_displacement = refl;
      hexadecimal_displacement = refl;
      indexed_displacement = refl;
      second_out_of_range = refl;
      immediate = refl;
      label-settled = refl;
      target-settled = refl;
      second-settled = refl;
      both-settled = refl;
      number-stays = refl;
      number_after_blank = refl;
      number_below_zero = refl;
      first-number = refl;
      second-number = refl;
      no_number = refl;
      first-operand = refl;
      second-operand = refl;
    }
