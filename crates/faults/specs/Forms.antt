-- What may be next in a line, as one state (src/lib.rt says what each is), and how a word, a number, a string, a mark or a blank moves it
-- on. "Whatever the number and kinds of its operands" (02, K4): every opcode is followed alike.
use Rattle.std.specs.Prelude.{ℕ, Bool, true, false, cond, List, eqb}
use Prim.Native.Char.{code}
use Rattle.numerals.specs.declared.Radix.{Radix}
use Rattle.numerals.specs.declared.Radix.TheVariants.{Decimal, Hexadecimal}
use Rattle.codes.specs.Registers.{IX, IY, SP, is_register}
use Rattle.tokens.specs.Marks.{only}
use Rattle.tokens.specs.Commas.{at_comma}
use Rattle.names.specs.Names.{word_of, register_code}
use Rattle.names.specs.declared.Word.{Word}
use Rattle.names.specs.declared.Word.TheVariants as W
use Rattle.expressions.specs.Reading.{mark_symbol}
use Rattle.expressions.specs.Inner.Scanning.{scan_step, scan_end}
use Rattle.std.specs.Prelude.{Option, Some, None}
use Rattle.expressions.specs.declared.Scan.{Scan}
use Rattle.faults.specs.declared.State.{State}
use Rattle.faults.specs.declared.State.TheVariants.{Start, Body, Field, Operand, Value, Digits, AfterHash, IndexDot, IndexName, RegisterName, IndirectDot, IndirectName, Closing, Done, Expression, Item, ItemDigits, ItemDone, Ended, Dead}

-- behind a value: "`#v` immediate", with an index or none, or "`/v` memory" and "`$v` relative"
abbrev pub put : Bool → State
put true = AfterHash
put false = Done

-- in an expression: the scan of the crate `expressions`, at any depth
abbrev pub scanned : Option Scan → State
scanned (Some r) = Expression r.operand r.height
scanned None = Dead

-- behind a statement's word: "`ORG e`", "`EQU e`", "`RES e`", "`DATA` with one or more numbers and strings"; "All bytes after END as a
-- statement's word are ignored"
abbrev pub enter : Word → State
enter (W.Instructs op) = Field
enter W.Org = Expression true 0
enter W.Equ = Expression true 0
enter W.Res = Expression true 0
enter W.Data = Item
enter W.End = Ended
enter W.Unknown = Dead

-- "`#v[.IX]`, `#v[.IY]`, `#v[.SP]`"
unfoldable pub indexes : ℕ → State
indexes r = cond (eqb r IX) Closing (cond (eqb r IY) Closing (cond (eqb r SP) Closing Dead))

-- an operand's first mark: "`#v` immediate, `.reg`, `/v` memory, `[.reg]` indirect, .. `$v` relative"
unfoldable pub starts : ℕ → State
starts b =
    cond (eqb b (code "#")) (Value true)
    (cond (eqb b (code ".")) RegisterName
    (cond (eqb b (code "/")) (Value false)
    (cond (eqb b (code "[")) IndirectDot
    (cond (eqb b (code "$")) (Value false) Dead))))

-- a word: "the statement's word"; "v is a number or label"; a register's name
abbrev pub word_step : State → List ℕ → State
word_step Start w = enter (word_of w)
word_step Body w = enter (word_of w)
word_step (Value k) w = put k
word_step IndexName w = indexes (register_code w)
word_step RegisterName w = cond (is_register (register_code w)) Done Dead
word_step IndirectName w = cond (is_register (register_code w)) Closing Dead
word_step Ended w = Ended
word_step _ w = Dead

-- "decimal digits, optionally with `-` directly before"
abbrev pub decimal : Radix → State → State
decimal Decimal st = st
decimal Hexadecimal st = Dead

-- a number: "v is a number or label"; an operand of an expression, "with no `-`"; an item of DATA
abbrev pub number_step : State → Radix → State
number_step (Value i) k = put i
number_step (Digits i) k = decimal k (put i)
number_step (Expression q h) k = cond q (Expression false h) Dead
number_step Item k = ItemDone
number_step ItemDigits k = decimal k ItemDone
number_step Ended k = Ended
number_step _ k = Dead

-- a string: "`DATA` with one or more numbers and strings by commas"
abbrev pub text_step : State → State
text_step Item = ItemDone
text_step Ended = Ended
text_step _ = Dead

-- a single mark: "Operands are parted by commas", and each has its own
abbrev pub mark_step : State → ℕ → State
mark_step Field b = starts b
mark_step Operand b = starts b
mark_step (Value i) b = only Dead (code "-") (Digits i) b
mark_step AfterHash b = cond (eqb b (code "[")) IndexDot (at_comma Dead Operand b)
mark_step IndexDot b = only Dead (code ".") IndexName b
mark_step IndirectDot b = only Dead (code ".") IndirectName b
mark_step Closing b = only Dead (code "]") Done b
mark_step Done b = at_comma Dead Operand b
mark_step (Expression q h) b = scanned (scan_step (mark_symbol b) q h)
mark_step Item b = only Dead (code "-") ItemDigits b
mark_step ItemDone b = at_comma Dead Item b
mark_step Ended b = Ended
mark_step _ b = Dead

-- "blanks may stand between them, never inside one": none between a `-` and its digits
abbrev pub blank_step : State → State
blank_step (Digits i) = Dead
blank_step ItemDigits = Dead
blank_step st = st

-- the line may end here
abbrev pub final : State → Bool
final Start = true
final Body = true
final Field = true
final AfterHash = true
final Done = true
final (Expression q h) = scan_end q h
final ItemDone = true
final Ended = true
final _ = false

-- something goes on from here
abbrev pub lives : State → Bool
lives Dead = false
lives _ = true

-- a label may be next
abbrev pub is_start : State → Bool
is_start Start = true
is_start _ = false

-- all that follows is ignored
abbrev pub is_ended : State → Bool
is_ended Ended = true
is_ended _ = false
