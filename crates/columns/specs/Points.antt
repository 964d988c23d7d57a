-- What the failure of a line's check points at (02, K4: "the 1-based place in its line where the fault starts"), without a reader, over the
-- rules of writing.
use Rattle.std.specs.Prelude.{ℕ, ◌+◌, List, ◌∷◌, ◌⊎◌, ◌≡◌, Err}
use Rattle.isa.specs.declared.Opcode.{Opcode}
use Rattle.tokens.specs.Rows.{RowOf}
use Rattle.tokens.specs.declared.Token.{Token}
use Rattle.names.specs.declared.Word.{Word}
use Rattle.names.specs.declared.Word.TheVariants as W
use Rattle.values.specs.declared.Name.{Name}
use Rattle.expressions.specs.Places.{Placed, PlacedExpression, found_of, here, deep_at}
use Rattle.expressions.specs.declared.Fault.TheVariants.{OutOfRange, ByZero}
use Rattle.operands.specs.Places as Operands
use Rattle.operands.specs.Places.{OperandStart}
use Rattle.items.specs.Places as Items
use Rattle.statements.specs.Statements.{Label, Labelled, StatementWord}
use Rattle.statements.specs.FirstFailing.{Pass, First}
use Rattle.statements.specs.Checks.{failures}
use Rattle.statements.specs.Judging.{number_of}
use Rattle.statements.specs.declared.Failure.{Failure}
use Rattle.statements.specs.declared.Failure.TheVariants.{UnknownWord, WrongForm, WrongCount, WrongKind, TooDeep, OutOfRange, ByZero, ResultOut}
use Rattle.faults.specs.Faults.{Column}

-- a line's tokens, and those after any label
pub data AfterLabel : List Token → List Token → Type 0 where
  labelled : {ts us : List Token} {n : Name} → Label ts n us → AfterLabel ts us
  unlabelled : {ts : List Token} → ((n : Name) (us : List Token) → Label ts n us → ⊥) → AfterLabel ts ts

-- the line's statement: its word and what that means, and the tokens behind it
pub record Statement (line : List ℕ) (w : Token) (x : Word) (ts : List Token) : Type 0 where
  pub tokens : List Token
  pub row : RowOf line tokens
  pub after : AfterLabel tokens (w ∷ ts)
  pub word : StatementWord line w x

-- "`ORG e` .., `EQU e` .., `RES e`"
pub data TakesExpression : Word → Type 0 where
  org : TakesExpression W.Org
  equ : TakesExpression W.Equ
  res : TakesExpression W.Res

-- "the word in 4"; "the statement's word in 11, 12, 15 and for a result or label address in 6"
pub data OfWord : Failure → Type 0 where
  unknown : OfWord UnknownWord
  count : OfWord WrongCount
  result : OfWord ResultOut

module _ (line : List ℕ) where
  pub data Points : Failure → ℕ → Type 0 where
    word : {why : Failure} {w : Token} {x : Word} {ts : List Token} → OfWord why → Statement line w x ts → Points why (w.start + 1)
    -- "in 3 the first token or stray byte .. that no line of right form has there"
    form : {c : ℕ} → Column line c → Points WrongForm c
    -- "the operand in 14, 16"
    kind : {w : Token} {op : Opcode} {ts : List Token} {i p : ℕ} → Statement line w (W.Instructs op) ts → OperandStart line ts i p
        → Points (WrongKind i) (p + 1)
    -- "the parenthesis opening level 33 in 8"
    deep : {w : Token} {x : Word} {ts : List Token} {e : Placed} {p : ℕ} → Statement line w x ts → TakesExpression x → PlacedExpression ts e
        → deep_at e ≡ here p
        → Points TooDeep (p + 1)
    -- "the number or the operation's mark in 6, 7"
    zero : {w : Token} {x : Word} {ts : List Token} {e : Placed} {p : ℕ} → Statement line w x ts → TakesExpression x → PlacedExpression ts e
        → found_of e ≡ Err (record { fault = ByZero; at = p })
        → Points ByZero (p + 1)
    out : {w : Token} {x : Word} {ts : List Token} {e : Placed} {p : ℕ} → Statement line w x ts → TakesExpression x → PlacedExpression ts e
        → found_of e ≡ Err (record { fault = OutOfRange; at = p })
        → Points OutOfRange (p + 1)
    operand-out : {w : Token} {op : Opcode} {ts : List Token} {p : ℕ} → Statement line w (W.Instructs op) ts → Operands.NumberOut line ts p
        → Points OutOfRange (p + 1)
    item_out : {w : Token} {ts : List Token} {p : ℕ} → Statement line w W.Data ts → Items.FirstOut line ts p → Points OutOfRange (p + 1)

-- ---- a line's refusal, by its number

-- "16, kind not allowed, the latter with the operand's place, 1 or 2"; 0 beside any other
abbrev pub operand_of : Failure → ℕ
operand_of UnknownWord = 0
operand_of WrongForm = 0
operand_of WrongCount = 0
operand_of (WrongKind place) = place
operand_of TooDeep = 0
operand_of OutOfRange = 0
operand_of ByZero = 0
operand_of ResultOut = 0

module _ (line : List ℕ) where
  -- the line is refused with a number: the column, and the operand's place
  pub data PointsIn : ℕ → ℕ → ℕ → Type 0 where
    -- "the label in 9, 10"
    label : {number : ℕ} {n : Name} → (number ≡ 9) ⊎ (number ≡ 10) → Labelled line n → PointsIn number (n.start + 1) 0
    -- the first of the line's own checks that fails
    own : {why : Failure} {c : ℕ} → First (failures line) why → Points line why c → PointsIn (number_of why) c (operand_of why)
    -- they pass: "the statement's word in 11, 12 .. and for a .. label address in 6"
    statement : {number : ℕ} {w : Token} {x : Word} {ts : List Token} → (number ≡ 6) ⊎ ((number ≡ 11) ⊎ (number ≡ 12)) → Pass (failures line)
        → Statement line w x ts
        → PointsIn number (w.start + 1) 0
