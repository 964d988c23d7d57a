-- The checks of a line by itself, each a statement of its own with its number beside it, in the paper's order (01, "Refusing a
-- source": "word 4; form 3; 5; 8; 6 or 7 in order of evaluation (left, right, operation); then the statement's result"; "15 comes before 16 in its old place", 5's: 02, K4).
use Rattle.std.specs.Prelude.{ℕ, ◌<◌, Bool, true, false, ◌&&◌, List, [], ◌∷◌, ◌≡◌, ℤ, pos, negsuc}
use Rattle.std.specs.Int.Signed.{le_z}
use Rattle.std.specs.Prelude.{Option, None, Ok, Err}
use Rattle.values.specs.declared.Name.{Name}
use Rattle.expressions.specs.declared.Fault.TheVariants.{OutOfRange, ByZero}
use Rattle.isa.specs.declared.Opcode.{Opcode}
use Rattle.codes.specs.Limits.{deepest}
use Rattle.expressions.specs.Trees.{Tree, depth}
use Rattle.expressions.specs.Worths.{worth_of}
use Rattle.operands.specs.Checks.{right_count, kind_allowed, operand_at, word_of}
use Rattle.operands.specs.declared.Written.{Written}
use Rattle.items.specs.Items.{all_in_range}
use Rattle.statements.specs.Statements.{Reading, nothing, instruction, org, equ, res, cells, end, Says, UnknownWord, NoReading}
use Rattle.statements.specs.FirstFailing.{Check, check}
use Rattle.statements.specs.declared.Failure.{Failure}
use Rattle.statements.specs.declared.Failure.TheVariants as F

-- ---- of a reading

-- "`ORG e` (0..65535), `EQU e` (-32768..65535, ..), `RES e` (0..65535)": the least result
abbrev pub least_unsigned : ℤ
least_unsigned = pos 0

-- -32768
abbrev pub least_signed : ℤ
least_signed = negsuc 32767

abbrev pub result_in : ℤ → ℤ → Bool
result_in least z = le_z least z && le_z z (pos 65535)

-- this holds of the statement's expression, with the least result that the statement allows
abbrev pub OfExpression : (ℤ → Tree → Type 0) → Reading → Type 0
OfExpression P nothing = ⊥
OfExpression P (instruction op os) = ⊥
OfExpression P (org e) = P least_unsigned e
OfExpression P (equ e) = P least_signed e
OfExpression P (res e) = P least_unsigned e
OfExpression P (cells is) = ⊥
OfExpression P end = ⊥

-- this holds of the opcode and its operands
abbrev pub OfOperands : (Opcode → List Written → Type 0) → Reading → Type 0
OfOperands P nothing = ⊥
OfOperands P (instruction op os) = P op os
OfOperands P (org e) = ⊥
OfOperands P (equ e) = ⊥
OfOperands P (res e) = ⊥
OfOperands P (cells is) = ⊥
OfOperands P end = ⊥

-- "opcode's operand count"
abbrev pub WrongCount : Reading → Type 0
WrongCount = OfOperands (λ op os. right_count op os ≡ false)

-- "kind not allowed": the count is right, and some operand's kind is not allowed
abbrev pub WrongKind : Reading → Type 0
WrongKind = OfOperands (λ op os. (right_count op os ≡ true) × ((i : ℕ) × (kind_allowed op os i ≡ false)))

-- the same of the operand whose place is 1 + i
abbrev pub WrongKindAt : ℕ → Reading → Type 0
WrongKindAt i = OfOperands (λ op os. (right_count op os ≡ true) × (kind_allowed op os i ≡ false))

-- "too deep": "parentheses at most 32 deep"
abbrev pub TooDeep : Reading → Type 0
TooDeep = OfExpression (λ least e. deepest < depth e)

-- "number, expression .. out of range": an operand's number; an item's; an expression's number or operation, before any zero divisor
abbrev pub NumberOut : Reading → Type 0
NumberOut nothing = ⊥
NumberOut (instruction op os) = (i : ℕ) × (word_of (operand_at os i) ≡ None)
NumberOut (org e) = worth_of e ≡ Err OutOfRange
NumberOut (equ e) = worth_of e ≡ Err OutOfRange
NumberOut (res e) = worth_of e ≡ Err OutOfRange
NumberOut (cells is) = all_in_range is ≡ false
NumberOut end = ⊥

-- "expression divides by zero", before any number or operation is out of range
abbrev pub ZeroDivisor : Reading → Type 0
ZeroDivisor = OfExpression (λ least e. worth_of e ≡ Err ByZero)

-- "then the statement's result"
abbrev pub ResultOut : Reading → Type 0
ResultOut = OfExpression (λ least e. (z : ℤ) × (worth_of e ≡ Ok z) × (result_in least z ≡ false))

-- ---- of a line

module _ (line : List ℕ) where
  -- the line has a reading of which this holds
  abbrev pub OfReading : (Reading → Type 0) → Type 0
  OfReading P = (l : Option Name) × (r : Reading) × Says line l r × P r

  unfoldable pub checks : List (Check ℕ)
  checks =
      check 4 (UnknownWord line)
      ∷ check 3 (NoReading line)
      ∷ check 15 (OfReading WrongCount)
      ∷ check 16 (OfReading WrongKind)
      ∷ check 8 (OfReading TooDeep)
      ∷ check 6 (OfReading NumberOut)
      ∷ check 7 (OfReading ZeroDivisor)
      ∷ check 6 (OfReading ResultOut)
      ∷ []

  -- the same, each with what is told of it; "of two operands wrong in kind the first is named" (02, K4)
  unfoldable pub failures : List (Check Failure)
  failures =
      check F.UnknownWord (UnknownWord line)
      ∷ check F.WrongForm (NoReading line)
      ∷ check F.WrongCount (OfReading WrongCount)
      ∷ check (F.WrongKind 1) (OfReading (WrongKindAt 0))
      ∷ check (F.WrongKind 2) (OfReading (WrongKindAt 1))
      ∷ check F.TooDeep (OfReading TooDeep)
      ∷ check F.OutOfRange (OfReading NumberOut)
      ∷ check F.ByZero (OfReading ZeroDivisor)
      ∷ check F.ResultOut (OfReading ResultOut)
      ∷ []
