-- The reading of DATA's items as a walk over their tokens (values' specs/Walks.antt); `proofs/Top.antt` shows that it finds exactly the rule's items.
use Rattle.std.specs.Prelude.{ℕ, ◌+◌, cond, List, [], ◌∷◌, eqb, length, drop}
use Rattle.tokens.specs.Bytes.{is_quote}
use Rattle.tokens.specs.Strings.{backslash}
use Rattle.tokens.specs.Commas.{on_comma}
use Rattle.tokens.specs.declared.Kind.{Kind}
use Rattle.tokens.specs.declared.Kind.TheVariants as K
use Rattle.tokens.specs.declared.Token.{Token}
use Rattle.values.specs.Reading.{value_by, digits_by}
use Rattle.values.specs.Walks as Walks
pub use Rattle.values.specs.Walks.{to, emit, halt, reads, wrong, cons}
use Rattle.items.specs.Items.{Item, number, string, cells_of, all_in_range}
use Rattle.std.specs.Prelude.{Result, Ok, Err}
use Rattle.items.specs.declared.ItemsFault.{ItemsFault}
use Rattle.items.specs.declared.ItemsFault.TheVariants.{WrongForm, OutOfRange}

-- the characters of a string, up to its closing quote
unfoldable mutual
  pub characters : List ℕ → List ℕ
  characters [] = []
  characters (b ∷ s) = cond (is_quote b) [] (cond (eqb b backslash) (newline s) (b ∷ characters s))

  pub newline : List ℕ → List ℕ
  newline [] = []
  newline (b ∷ s) = 10 ∷ characters s

-- what may be next
pub data State : Type 0 where
  item : State  -- an item
  digits : State  -- the digits after `-`
  done : Item → State  -- a comma or the end

abbrev pub Step : Type 0
Step = Walks.Step State Item

abbrev pub RowRead : Type 0
RowRead = Walks.RowRead Item

-- what a string leads to; any other token leads to `other`
abbrev pub on_text : {S : Type 0} → S → S → Kind → S
on_text other text K.End = other
on_text other text K.Stray = other
on_text other text K.Word = other
on_text other text (K.Number v k) = other
on_text other text K.Text = text
on_text other text (K.Mark b) = other

abbrev pub finish : State → RowRead
finish item = wrong
finish digits = wrong
finish (done i) = reads (i ∷ [])

module _ (line : List ℕ) where
  -- a string's item
  abbrev pub string_of : Token → Item
  string_of t = string (characters (drop (t.start + 1) line))

  -- a label is no item
  abbrev pub step : State → Token → Step
  step item t = value_by halt (λ n. to (done (number n))) (to digits) (on_text halt (to (done (string_of t))) t.kind) t.kind
  step digits t = digits_by (λ n. to (done (number n))) halt t.kind t.directly
  step (done i) t = on_comma halt (emit i) t.kind

  unfoldable pub walk : State → List Token → RowRead
  walk st ts = Walks.walk item step finish st ts

-- form 3, then ranges 6
abbrev pub judged : RowRead → Result ℕ ItemsFault
judged (reads is) = cond (all_in_range is) (Ok (length (cells_of is))) (Err OutOfRange)
judged wrong = Err WrongForm

unfoldable pub items_read : List ℕ → List Token → Result ℕ ItemsFault
items_read line ts = judged (walk line item ts)

-- the paper's number for each answer: 3 form, 6 a number out of range
abbrev pub refusal_of : Result ℕ ItemsFault → ℕ
refusal_of (Ok n) = 0
refusal_of (Err WrongForm) = 3
refusal_of (Err OutOfRange) = 6
