-- What the code looks at on its way: a register's name; what an answer for one operand says of the walk; and what is
-- kept of a list.
use Rattle.std.specs.Prelude.{ℕ, ◌≤◌, cond, List, [], ◌∷◌, ◌≡◌, eqb}
use Rattle.numerals.specs.declared.Cursor.{Cursor}
use Rattle.numerals.specs.declared.Numeral.{Numeral}
use Rattle.isa.specs.Opcodes.{table, count_of}
use Rattle.isa.specs.Operands.{allows}
use Rattle.codes.specs.Registers.{is_register}
use Rattle.isa.specs.declared.Opcode.{Opcode}
use Rattle.tokens.specs.Reading.{tokens_from}
use Rattle.tokens.specs.declared.Kind.{Kind}
use Rattle.tokens.specs.declared.Kind.TheVariants as K
use Rattle.tokens.specs.declared.Token.{Token}
use Rattle.values.specs.Walks as Walks
use Rattle.values.specs.declared.Value.{Value}
use Rattle.values.specs.declared.Value.TheVariants.{Number, Label}
use Rattle.operands.specs.Reading.{State, operand, done, Step, RowRead, reads, wrong, code_at, walk}
use Rattle.operands.specs.Checks.{operand_with, word_of, ranged}
use Rattle.std.specs.Prelude.{Option, Some, None, Result, Err}
use Rattle.numerals.specs.Reading.{upto}
use Rattle.numerals.specs.declared.Read.{Read}
use Rattle.operands.specs.declared.Operands.{Operands}
use Rattle.operands.specs.declared.OperandsFault.{OperandsFault}
use Rattle.operands.specs.declared.OperandsFault.TheVariants.{WrongCount, WrongKind}
use Rattle.operands.specs.declared.FirstTwo.{FirstTwo}
use Rattle.operands.specs.declared.Written.{Written}
use Rattle.operands.specs.declared.Written.TheVariants.{Absent}

-- ---- one token

-- a code that names a register
abbrev pub named : ℕ → Cursor → Option (Read ℕ)
named r next = cond (is_register r) (Some (upto r next)) None

abbrev pub register_by : ℕ → Kind → Cursor → Option (Read ℕ)
register_by r K.End next = None
register_by r K.Stray next = None
register_by r K.Word next = named r next
register_by r (K.Number v k) next = None
register_by r K.Text next = None
register_by r (K.Mark b) next = None

abbrev pub register_of : List ℕ → Token → Option (Read ℕ)
register_of line t = register_by (code_at line t) t.kind t.next

-- the cursor behind a mark, where it is this one
abbrev pub behind_mark : ℕ → Option (Read ℕ) → Option Cursor
behind_mark mark None = None
behind_mark mark (Some r) = cond (eqb r.value mark) (Some r.next) None

-- ---- a value

-- a value's number, where it is one
abbrev pub numeral_of : Value → Option Numeral
numeral_of (Number n) = Some n
numeral_of (Label name) = None

-- ---- one operand

-- where a step leads: after a comma, an operand begins
abbrev pub stepped : Step → (State → RowRead) → RowRead
stepped = Walks.stepped operand

abbrev pub goes_on : List ℕ → Option (Read Written) → RowRead
goes_on line (Some r) = walk line (done r.value) (tokens_from line r.next.at)
goes_on line None = wrong

-- an answer's cursor lies no further back
abbrev pub Onward : ℕ → Option (Read Written) → Type 0
Onward at (Some r) = at ≤ r.next.at
Onward at None = Unit

-- the walk from a state and a place is the walk from where the answer has come to
pub record Goes (line : List ℕ) (st : State) (at : ℕ) (r : Option (Read Written)) : Type 0 where
  pub same : walk line st (tokens_from line at) ≡ goes_on line r
  pub on : Onward at r

-- ---- a list

unfoldable pub keep : FirstTwo → Written → FirstTwo
keep all o =
    cond (eqb all.count 0) (record { count = 1; first = o; second = all.second })
    (cond (eqb all.count 1) (record { count = 2; first = all.first; second = o })
    (record { count = 3; first = all.first; second = all.second }))

unfoldable pub keep_all : FirstTwo → List Written → FirstTwo
keep_all all [] = all
keep_all all (o ∷ os) = keep_all (keep all o) os

abbrev pub none_listed : FirstTwo
none_listed = record { count = 0; first = Absent; second = Absent }

abbrev pub listed : FirstTwo → RowRead → Option FirstTwo
listed all (reads os) = Some (keep_all all os)
listed all wrong = None

-- ---- what is judged of a list

unfoldable pub judged_listed : Opcode → FirstTwo → Result Operands OperandsFault
judged_listed op all =
    cond (eqb all.count (count_of op))
    (cond (allows (table op).first (operand_with all.first 0))
    (cond (allows (table op).second (operand_with all.second 0))
    (ranged all.first (word_of all.first) all.second (word_of all.second))
    (Err (WrongKind 2)))
    (Err (WrongKind 1)))
    (Err WrongCount)
