-- The reading of an operand field as a walk over its tokens (values' specs/Walks.antt); `proofs/Top.antt` shows that it finds exactly the rule's
-- operands.
use Rattle.std.specs.Prelude.{ℕ, cond, List, [], ◌∷◌, eqb}
use Prim.Native.Char.{code}
use Rattle.codes.specs.Registers.{IX, IY, SP, is_register}
use Rattle.names.specs.Names.{register_code}
use Rattle.tokens.specs.Marks.{on_mark, only}
use Rattle.tokens.specs.Commas.{at_comma, on_comma}
use Rattle.tokens.specs.declared.Kind.{Kind}
use Rattle.tokens.specs.declared.Kind.TheVariants as K
use Rattle.tokens.specs.declared.Token.{Token}
use Rattle.values.specs.Values.{name_at}
use Rattle.values.specs.Reading.{value_by, digits_by}
use Rattle.values.specs.Walks as Walks
pub use Rattle.values.specs.Walks.{to, emit, halt, reads, wrong, cons}
use Rattle.values.specs.declared.Value.{Value}
use Rattle.values.specs.declared.Value.TheVariants.{Number, Label}
use Rattle.operands.specs.Operands.{word_at}
use Rattle.operands.specs.declared.Written.{Written}
use Rattle.operands.specs.declared.Written.TheVariants.{Immediate, Register, Memory, Indirect, IndexedX, IndexedY, IndexedSp, Relative}

-- the shapes that hold a value
pub data Shape : Type 0 where
  hash slash dollar : Shape

-- what may be next
pub data State : Type 0 where
  operand : State  -- an operand's first mark
  value : Shape → State  -- a value
  digits : Shape → State  -- the digits after `-`
  after_hash : Value → State  -- `[`, a comma or the end, after `#v`
  index_dot : Value → State  -- `.` after `#v[`
  index_name : Value → State  -- IX, IY or SP after `#v[.`
  register_name : State  -- a register after `.`
  indirect_dot : State  -- `.` after `[`
  indirect_name : State  -- a register after `[.`
  closing : Written → State  -- `]`
  done : Written → State  -- a comma or the end

abbrev pub Step : Type 0
Step = Walks.Step State Written

abbrev pub RowRead : Type 0
RowRead = Walks.RowRead Written

abbrev pub put : Shape → Value → State
put hash v = after_hash v
put slash v = done (Memory v)
put dollar v = done (Relative v)

abbrev pub on_word : Step → Kind → Step
on_word f K.End = halt
on_word f K.Stray = halt
on_word f K.Word = f
on_word f (K.Number v k) = halt
on_word f K.Text = halt
on_word f (K.Mark b) = halt

unfoldable pub starts : ℕ → Step
starts b =
    cond (eqb b (code "#")) (to (value hash))
    (cond (eqb b (code ".")) (to register_name)
    (cond (eqb b (code "/")) (to (value slash))
    (cond (eqb b (code "[")) (to indirect_dot)
    (cond (eqb b (code "$")) (to (value dollar)) halt))))

-- an index by a register's code
unfoldable pub index_step : Value → ℕ → Step
index_step v r =
    cond (eqb r IX) (to (closing (IndexedX v)))
    (cond (eqb r IY) (to (closing (IndexedY v)))
    (cond (eqb r SP) (to (closing (IndexedSp v))) halt))

abbrev pub finish : State → RowRead
finish operand = wrong
finish (value k) = wrong
finish (digits k) = wrong
finish (after_hash v) = reads (Immediate v ∷ [])
finish (index_dot v) = wrong
finish (index_name v) = wrong
finish register_name = wrong
finish indirect_dot = wrong
finish indirect_name = wrong
finish (closing o) = wrong
finish (done o) = reads (o ∷ [])

module _ (line : List ℕ) where
  -- the code of the register that a word of the line names, or 16
  abbrev pub code_at : Token → ℕ
  code_at t = register_code (word_at line t)

  abbrev pub step : State → Token → Step
  step operand t = on_mark halt starts t.kind
  step (value k) t = value_by (to (put k (Label (name_at t)))) (λ n. to (put k (Number n))) (to (digits k)) halt t.kind
  step (digits k) t = digits_by (λ n. to (put k (Number n))) halt t.kind t.directly
  step (after_hash v) t = on_mark halt (λ b. cond (eqb b (code "[")) (to (index_dot v)) (at_comma halt (emit (Immediate v)) b)) t.kind
  step (index_dot v) t = on_mark halt (only halt (code ".") (to (index_name v))) t.kind
  step (index_name v) t = on_word (index_step v (code_at t)) t.kind
  step register_name t = on_word (cond (is_register (code_at t)) (to (done (Register (code_at t)))) halt) t.kind
  step indirect_dot t = on_mark halt (only halt (code ".") (to indirect_name)) t.kind
  step indirect_name t = on_word (cond (is_register (code_at t)) (to (closing (Indirect (code_at t)))) halt) t.kind
  step (closing o) t = on_mark halt (only halt (code "]") (to (done o))) t.kind
  step (done o) t = on_comma halt (emit o) t.kind

  unfoldable pub walk : State → List Token → RowRead
  walk st ts = Walks.walk operand step finish st ts

  -- what follows an opcode: no operands, or some
  unfoldable pub operands_of : List Token → RowRead
  operands_of [] = reads []
  operands_of (t ∷ ts) = walk operand (t ∷ ts)
