-- Where an operand and its number stand (02, K4: "the operand in 14, 16; the number .. in 6"), over the rule of Operands.antt and without
-- a reader; then the same places as functions of the tokens, which `proofs/Top.antt` shows to be these. Places are bytes of the line, from 0.
use Rattle.std.specs.Prelude.{ℕ, zero, suc, List, [], ◌∷◌, ◌++◌, ◌≡◌}
use Prim.Native.Char.{code}
use Rattle.std.specs.Prelude.{Option, Some, None}
use Rattle.numerals.specs.declared.Numeral.{Numeral}
use Rattle.tokens.specs.Commas.{on_comma}
use Rattle.tokens.specs.Marks.{IsMark, on_mark}
use Rattle.tokens.specs.declared.Token.{Token}
use Rattle.values.specs.Values.{NumberText}
use Rattle.operands.specs.Operands.{OperandText, Operands}
use Rattle.operands.specs.Reading.{RowRead, reads, wrong, operands_of}
use Rattle.operands.specs.Checks.{operand_at, word_of}
use Rattle.operands.specs.declared.Written.{Written}

-- ---- by the rule

-- where a row's first token starts
pub data Starts : List Token → ℕ → Type 0 where
  head : {t : Token} {ts : List Token} → Starts (t ∷ ts) t.start

-- where an operand's number starts: behind its first mark, its `-` included
pub data NumberStarts : List Token → ℕ → Type 0 where
  behind : {us : List Token} {b p : ℕ} {n : Numeral} (m : Token) (rest : List Token) → IsMark b m → NumberText us n → Starts us p
      → NumberStarts (m ∷ us ++ rest) p

module _ (line : List ℕ) where
  -- the i-th of a row of operands, from 1, is these tokens, which say this operand
  pub data OperandThere : List Token → ℕ → List Token → Written → Type 0 where
    alone : {ts : List Token} {o : Written} → OperandText line ts o → OperandThere ts 1 ts o
    first : {ts us : List Token} {o : Written} {os : List Written} (c : Token) → OperandText line ts o → IsMark (code ",") c → Operands line us os
        → OperandThere (ts ++ c ∷ us) 1 ts o
    later : {ts us vs : List Token} {o q : Written} {i : ℕ} (c : Token) → OperandText line ts o → IsMark (code ",") c → OperandThere us (suc i) vs q
        → OperandThere (ts ++ c ∷ us) (suc (suc i)) vs q

  -- the i-th operand starts at p
  pub record OperandStart (ts : List Token) (i p : ℕ) : Type 0 where
    pub tokens : List Token
    pub operand : Written
    pub there : OperandThere ts i tokens operand
    pub starts : Starts tokens p

  -- the number of the i-th operand, which is o, starts at p
  pub record NumberAt (ts : List Token) (i : ℕ) (o : Written) (p : ℕ) : Type 0 where
    pub tokens : List Token
    pub there : OperandThere ts i tokens o
    pub starts : NumberStarts tokens p

  -- of the first two operands, from the left, the first whose number is out of range has it at p
  pub data NumberOut (ts : List Token) (p : ℕ) : Type 0 where
    in_first : {o : Written} → NumberAt ts 1 o p → word_of o ≡ None → NumberOut ts p
    in_second : {us : List Token} {o q : Written} {w : ℕ} → OperandThere ts 1 us o → word_of o ≡ Some w → NumberAt ts 2 q p → word_of q ≡ None
        → NumberOut ts p

-- ---- as functions of the tokens; 0 where there is no such place

unfoldable pub start_of : List Token → ℕ
start_of [] = 0
start_of (t ∷ ts) = t.start

-- the row behind the first comma: no operand has a comma inside
unfoldable pub after_comma : List Token → List Token
after_comma [] = []
after_comma (t ∷ ts) = on_comma (after_comma ts) ts t.kind

-- the row from the operand behind so many commas on
unfoldable pub after_commas : ℕ → List Token → List Token
after_commas zero ts = ts
after_commas (suc i) ts = after_commas i (after_comma ts)

unfoldable pub operand_start_in : List Token → ℕ → ℕ
operand_start_in ts zero = 0
operand_start_in ts (suc i) = start_of (after_commas i ts)

-- the token behind an operand's first mark
unfoldable pub number_start_in : List Token → ℕ
number_start_in [] = 0
number_start_in (t ∷ ts) = on_mark 0 (λ b. start_of ts) t.kind

abbrev pub out_by : List Token → Option ℕ → Option ℕ → ℕ
out_by ts None l = number_start_in ts
out_by ts (Some x) None = number_start_in (after_comma ts)
out_by ts (Some x) (Some y) = 0

abbrev pub out_of : List Token → RowRead → ℕ
out_of ts (reads os) = out_by ts (word_of (operand_at os 0)) (word_of (operand_at os 1))
out_of ts wrong = 0

unfoldable pub number_out_in : List ℕ → List Token → ℕ
number_out_in line ts = out_of ts (operands_of line ts)
