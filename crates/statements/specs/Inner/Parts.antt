-- What the parts of `read_line` promise one another. These promises are inner ones; `read_line` has the natural one.
use Rattle.std.specs.Prelude.{ℕ, Bool, cond, List, ◌≡◌, eqb, ℤ, get_or}
use Prim.Native.Char.{code}
use Rattle.std.specs.Int.{w16}
use Rattle.std.proofs.Common.{of_z}
use Rattle.tokens.specs.Reading.{after_kind, tokens_from}
use Rattle.tokens.specs.declared.Token.{Token}
use Rattle.std.specs.Prelude.{None, Result, Ok, Err}
use Rattle.statements.specs.declared.Failure.{Failure}
use Rattle.expressions.specs.declared.Malformed.{Malformed}
use Rattle.expressions.specs.Worths.{Worth}
use Rattle.statements.specs.Checks.{result_in}
use Rattle.statements.specs.Judging.{form_failure, worth_failure}
use Rattle.statements.specs.Reading.{label_read, after_label}
use Rattle.statements.specs.declared.Failure.TheVariants.{ResultOut}
use Rattle.statements.specs.declared.Labelled.{Labelled}
use Rattle.statements.specs.declared.Statement.{Statement}

-- a `:` stands at a place of the line; past its end the byte is 0
abbrev pub colon_at : List ℕ → ℕ → Bool
colon_at line at = eqb (get_or line at 0) (code ":")

-- the row that a token of the line begins
abbrev pub begun_by : List ℕ → Token → List Token
begun_by line w = after_kind w.kind w (tokens_from line)

-- no label: the statement begins with the line's first token
abbrev pub no_label : Token → Labelled
no_label w = record { label = None; word = w }

-- the label, and the token with which what comes after it begins
pub record LabelDone (line : List ℕ) (r : Labelled) : Type 0 where
  pub named : r.label ≡ label_read (tokens_from line 0)
  pub behind : after_label (tokens_from line 0) ≡ begun_by line r.word

-- a result from the least one up to 65535
unfoldable pub cell_in : ℤ → ℤ → Result ℕ Failure
cell_in least z = cond (result_in least z) (Ok (of_z w16 z)) (Err ResultOut)

abbrev pub worth_outcome : ℤ → Worth → Result ℕ Failure
worth_outcome least (Ok z) = cell_in least z
worth_outcome least (Err why) = Err (worth_failure why)

abbrev pub outcome_of : ℤ → Result Worth Malformed → Result ℕ Failure
outcome_of least (Ok w) = worth_outcome least w
outcome_of least (Err why) = Err (form_failure why)

-- what a statement makes of its outcome
abbrev pub said : (ℕ → Statement) → Result ℕ Failure → Result Statement Failure
said makes (Ok v) = Ok (makes v)
said makes (Err why) = Err why
