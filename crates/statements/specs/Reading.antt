-- The reading of a line as a function of its tokens; `proofs/Top.antt` shows that it is the rule's reading, judged.
use Rattle.expressions.specs.Worths.{Worth}
use Rattle.std.specs.Prelude.{ℕ, Bool, true, false, cond, ◌&&◌, List, [], ◌∷◌, eqb, ℤ}
use Prim.Native.Char.{code}
use Rattle.tokens.specs.Reading.{tokens_from}
use Rattle.tokens.specs.declared.Kind.{Kind}
use Rattle.tokens.specs.declared.Kind.TheVariants as K
use Rattle.tokens.specs.declared.Token.{Token}
use Rattle.names.specs.Names.{word_of}
use Rattle.names.specs.declared.Word.{Word}
use Rattle.names.specs.declared.Word.TheVariants as W
use Rattle.values.specs.Values.{name_at}
use Rattle.std.specs.Prelude.{Option, Some, None, Result, Ok, Err}
use Rattle.statements.specs.declared.Failure.{Failure}
use Rattle.values.specs.declared.Name.{Name}
use Rattle.items.specs.declared.ItemsFault.{ItemsFault}
use Rattle.expressions.specs.declared.Malformed.{Malformed}
use Rattle.expressions.specs.Reading.{expression_read}
use Rattle.operands.specs.Operands.{word_at}
use Rattle.operands.specs.Checks.{instruction_read}
use Rattle.items.specs.Reading.{items_read}
use Rattle.statements.specs.Checks.{least_unsigned, least_signed}
use Rattle.statements.specs.Judging.{form_failure, items_failure, worth_result, instruction_result}
use Rattle.statements.specs.declared.Failure.TheVariants.{UnknownWord, WrongForm}
use Rattle.statements.specs.declared.LineRead.{LineRead}
use Rattle.statements.specs.declared.Statement.{Statement}
use Rattle.statements.specs.declared.Statement.TheVariants.{Nothing, Org, Equ, Res, Data, End}

abbrev pub is_word : Kind → Bool
is_word K.End = false
is_word K.Stray = false
is_word K.Word = true
is_word (K.Number v k) = false
is_word K.Text = false
is_word (K.Mark b) = false

abbrev pub is_colon : Kind → Bool
is_colon K.End = false
is_colon K.Stray = false
is_colon K.Word = false
is_colon (K.Number v k) = false
is_colon K.Text = false
is_colon (K.Mark b) = eqb b (code ":")

-- ---- the label

-- the first two tokens are a word directly followed by `:`
abbrev pub labelled : List Token → Bool
labelled [] = false
labelled (w ∷ []) = false
labelled (w ∷ c ∷ ts) = is_word w.kind && (is_colon c.kind && c.directly)

abbrev pub first_name : List Token → Option Name
first_name [] = None
first_name (w ∷ ts) = Some (name_at w)

unfoldable pub label_read : List Token → Option Name
label_read ts = cond (labelled ts) (first_name ts) None

abbrev pub behind_two : List Token → List Token
behind_two [] = []
behind_two (w ∷ []) = []
behind_two (w ∷ c ∷ ts) = ts

unfoldable pub after_label : List Token → List Token
after_label ts = cond (labelled ts) (behind_two ts) ts

-- ---- the statement

abbrev pub expression_result : ℤ → (ℕ → Statement) → Result Worth Malformed → Result Statement Failure
expression_result least says (Ok w) = worth_result least says w
expression_result least says (Err why) = Err (form_failure why)

abbrev pub items_result : Result ℕ ItemsFault → Result Statement Failure
items_result (Ok n) = Ok (Data n)
items_result (Err why) = Err (items_failure why)

module _ (line : List ℕ) where
  abbrev pub by_word : Word → List Token → Result Statement Failure
  by_word (W.Instructs op) ts = instruction_result op (instruction_read line op ts)
  by_word W.Org ts = expression_result least_unsigned Org (expression_read ts)
  by_word W.Equ ts = expression_result least_signed Equ (expression_read ts)
  by_word W.Res ts = expression_result least_unsigned Res (expression_read ts)
  by_word W.Data ts = items_result (items_read line ts)
  by_word W.End ts = Ok End
  by_word W.Unknown ts = Err UnknownWord

  -- "a token there that is no word is 3"
  unfoldable pub statement_read : List Token → Result Statement Failure
  statement_read [] = Ok Nothing
  statement_read (w ∷ ts) = cond (is_word w.kind) (by_word (word_of (word_at line w)) ts) (Err WrongForm)

unfoldable pub line_read : List ℕ → LineRead
line_read line = record { label = label_read (tokens_from line 0); statement = statement_read line (after_label (tokens_from line 0)) }
