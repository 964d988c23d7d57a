-- The words of an instruction (01, "Layout").
--
--     first word        15 .. 6    5 4 3    2 1 0       then one word for each operand that is there
--                       opcode     mode1    mode2
use Rattle.std.specs.Prelude.{ℕ, ◌+◌, ◌*◌, Bool, cond, ◌&&◌, List, [], ◌∷◌, ◌++◌}
use Rattle.isa.specs.Opcodes.{table}
use Rattle.isa.specs.Operands.{mode_of, operand_words, register_there, allows}
use Rattle.isa.specs.declared.Instruction.{Instruction}
use Rattle.isa.specs.declared.Encoded.{Encoded}
use Rattle.std.specs.Prelude.{Option, Some, None}
use Rattle.isa.specs.declared.Encoded.TheVariants.{One, Two, Three}

-- "First word = opcode × 64 + mode1 × 8 + mode2"
unfoldable pub first_word_of : Instruction → ℕ
first_word_of i = (table i.op).number * 64 + mode_of i.first * 8 + mode_of i.second

-- ".. then one word per operand in order"
unfoldable pub words_of : Instruction → List ℕ
words_of i = first_word_of i ∷ operand_words i.first ++ operand_words i.second

-- the opcode's own list allows each operand, and each register that is named is there
unfoldable pub allowed : Instruction → Bool
allowed i =
    (allows (table i.op).first i.first && allows (table i.op).second i.second) &&
    (register_there i.first && register_there i.second)

-- a refusal's number, 0 for none, and the words
pub record Encoding : Type 0 where
  pub refusal : ℕ
  pub words : List ℕ

abbrev pub encoding : ℕ → List ℕ → Encoding
encoding n ws = record { refusal = n; words = ws }

-- "Encoding any other instruction is 5"
unfoldable pub encode_of : Instruction → Encoding
encode_of i = cond (allowed i) (encoding 0 (words_of i)) (encoding 5 [])

-- the paper's number for an answer, and the words it stands for
abbrev pub refusal_of : Option Encoded → ℕ
refusal_of (Some (One w)) = 0
refusal_of (Some (Two w a)) = 0
refusal_of (Some (Three w a b)) = 0
refusal_of None = 5

abbrev pub words_in : Option Encoded → List ℕ
words_in (Some (One w)) = w ∷ []
words_in (Some (Two w a)) = w ∷ a ∷ []
words_in (Some (Three w a b)) = w ∷ a ∷ b ∷ []
words_in None = []

-- what an answer says
abbrev pub answered : Option Encoded → Encoding
answered r = encoding (refusal_of r) (words_in r)
