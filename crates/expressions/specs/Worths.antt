-- What an expression is worth: a number of 32 bits with a sign, or the first fault "in order of evaluation (left, right,
-- operation)" (01, "Refusing a source").
use Rattle.std.specs.Prelude.{ℕ, Bool, cond, ◌&&◌, leb, ℤ, pos, negsuc, ◌+ℤ◌, ◌-ℤ◌, ◌*ℤ◌}
use Rattle.std.specs.Int.Signed.{le_z, quot_z, rem_z}
use Rattle.expressions.specs.Trees.{Tree, literal, node, enclosed}
use Rattle.expressions.specs.declared.Operation.{Operation}
use Rattle.expressions.specs.declared.Operation.TheVariants.{Plus, Minus, Times, Over, Rest}
use Rattle.std.specs.Prelude.{Result, Ok, Err}
use Rattle.expressions.specs.declared.Fault.{Fault}
use Rattle.expressions.specs.declared.Fault.TheVariants.{OutOfRange, ByZero}

-- a number, or 6 or 7
abbrev pub Worth : Type 0
Worth = Result ℤ Fault

-- "within a signed 32-bit range": from -2147483648 (`negsuc 2147483647`) to 2147483647
unfoldable pub within32 : ℤ → Worth
within32 z = cond (le_z (negsuc 2147483647) z && le_z z (pos 2147483647)) (Ok z) (Err OutOfRange)

-- "Numbers here are 0..65535"
unfoldable pub of_number : ℕ → Worth
of_number v = cond (leb v 65535) (Ok (pos v)) (Err OutOfRange)

-- "Division cuts toward zero; the remainder has the dividend's sign"; "expression divides by zero" is 7
abbrev pub is_zero : ℤ → Bool
is_zero z = le_z z (pos 0) && le_z (pos 0) z

unfoldable pub operation : Operation → ℤ → ℤ → Worth
operation Plus a b = within32 (a +ℤ b)
operation Minus a b = within32 (a -ℤ b)
operation Times a b = within32 (a *ℤ b)
operation Over a b = cond (is_zero b) (Err ByZero) (within32 (quot_z a b))
operation Rest a b = cond (is_zero b) (Err ByZero) (within32 (rem_z a b))

-- left, right, operation
unfoldable pub operate : Operation → Worth → Worth → Worth
operate o (Ok a) (Ok b) = operation o a b
operate o (Ok a) (Err right) = Err right
operate o (Err left) b = Err left

unfoldable pub worth_of : Tree → Worth
worth_of (literal v) = of_number v
worth_of (node o a b) = operate o (worth_of a) (worth_of b)
worth_of (enclosed a) = worth_of a

-- the paper's number for a fault
abbrev pub fault_of : Worth → ℕ
fault_of (Ok z) = 0
fault_of (Err OutOfRange) = 6
fault_of (Err ByZero) = 7
