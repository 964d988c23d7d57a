-- What a line's reading comes to: what it says, or the check that fails; and the paper's number for each answer.
use Rattle.std.specs.Prelude.{ℕ, suc, cond, leb, ℤ, length}
use Rattle.std.specs.Int.{w16}
use Rattle.std.proofs.Common.{of_z}
use Rattle.isa.specs.Opcodes.{count_of}
use Rattle.isa.specs.declared.Opcode.{Opcode}
use Rattle.codes.specs.Limits.{deepest}
use Rattle.expressions.specs.Trees.{Tree, depth}
use Rattle.expressions.specs.Worths.{worth_of}
use Rattle.expressions.specs.Worths.{Worth}
use Rattle.std.specs.Prelude.{Result, Ok, Err}
use Rattle.operands.specs.declared.Operands.{Operands}
use Rattle.expressions.specs.declared.Fault.{Fault}
use Rattle.expressions.specs.declared.Fault.TheVariants.{OutOfRange, ByZero}
use Rattle.expressions.specs.declared.Malformed.{Malformed}
use Rattle.expressions.specs.declared.Malformed.TheVariants.{WrongForm, TooDeep}
use Rattle.items.specs.declared.ItemsFault.{ItemsFault}
use Rattle.items.specs.declared.ItemsFault.TheVariants.{WrongForm, OutOfRange}
use Rattle.operands.specs.declared.OperandsFault.{OperandsFault}
use Rattle.operands.specs.declared.OperandsFault.TheVariants.{WrongForm, WrongCount, WrongKind, OutOfRange}
use Rattle.operands.specs.Checks as Operands
use Rattle.items.specs.Items.{cells_of, all_in_range}
use Rattle.statements.specs.Statements.{Reading, nothing, instruction, org, equ, res, cells, end}
use Rattle.statements.specs.Checks.{least_unsigned, least_signed, result_in}
use Rattle.statements.specs.declared.Failure.{Failure}
use Rattle.statements.specs.declared.Failure.TheVariants.{UnknownWord, WrongForm, WrongCount, WrongKind, TooDeep, OutOfRange, ByZero, ResultOut}
use Rattle.statements.specs.declared.Statement.{Statement}
use Rattle.statements.specs.declared.Statement.TheVariants.{Nothing, Instruction, Org, Equ, Res, Data, End}

-- ---- the paper's numbers

abbrev pub number_of : Failure → ℕ
number_of UnknownWord = 4
number_of WrongForm = 3
number_of WrongCount = 15
number_of (WrongKind place) = 16
number_of TooDeep = 8
number_of OutOfRange = 6
number_of ByZero = 7
number_of ResultOut = 6

-- 0 where the line's own checks pass
abbrev pub refusal_of : Result Statement Failure → ℕ
refusal_of (Ok s) = 0
refusal_of (Err f) = number_of f

-- ---- the check that fails where a part of the line does not pass

abbrev pub form_failure : Malformed → Failure
form_failure WrongForm = WrongForm
form_failure TooDeep = TooDeep

abbrev pub worth_failure : Fault → Failure
worth_failure OutOfRange = OutOfRange
worth_failure ByZero = ByZero

abbrev pub operands_failure : OperandsFault → Failure
operands_failure WrongForm = WrongForm
operands_failure WrongCount = WrongCount
operands_failure (WrongKind place) = WrongKind place
operands_failure OutOfRange = OutOfRange

abbrev pub items_failure : ItemsFault → Failure
items_failure WrongForm = WrongForm
items_failure OutOfRange = OutOfRange

-- ---- an expression: 8, then 6 or 7, then the result, "kept modulo 65536"

unfoldable pub result_of : ℤ → (ℕ → Statement) → ℤ → Result Statement Failure
result_of least says z = cond (result_in least z) (Ok (says (of_z w16 z))) (Err ResultOut)

abbrev pub worth_result : ℤ → (ℕ → Statement) → Worth → Result Statement Failure
worth_result least says (Ok z) = result_of least says z
worth_result least says (Err why) = Err (worth_failure why)

unfoldable pub tree_result : ℤ → (ℕ → Statement) → Tree → Result Statement Failure
tree_result least says e = cond (leb (depth e) deepest) (worth_result least says (worth_of e)) (Err TooDeep)

-- ---- an opcode's operands: 15, 16, then 6

abbrev pub instruction_result : Opcode → Result Operands OperandsFault → Result Statement Failure
instruction_result op (Ok r) = Ok (Instruction op r.first r.second)
instruction_result op (Err why) = Err (operands_failure why)

-- ---- what a reading comes to

unfoldable pub judged : Reading → Result Statement Failure
judged nothing = Ok Nothing
judged (instruction op os) = instruction_result op (Operands.judged op os)
judged (org e) = tree_result least_unsigned Org e
judged (equ e) = tree_result least_signed Equ e
judged (res e) = tree_result least_unsigned Res e
judged (cells is) = cond (all_in_range is) (Ok (Data (length (cells_of is)))) (Err OutOfRange)
judged end = Ok End

-- how many cells a statement claims: an instruction its words, DATA its items'; "RES must claim its cells" (02, K2)
abbrev pub claim_of : Statement → ℕ
claim_of Nothing = 0
claim_of (Instruction op a b) = suc (count_of op)
claim_of (Org v) = 0
claim_of (Equ v) = 0
claim_of (Res v) = v
claim_of (Data n) = n
claim_of End = 0
