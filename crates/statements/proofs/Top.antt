-- What this crate promises, beyond the equations at its functions: what those equations' right sides mean. `Says` goes from a line's
-- bytes to its label and what it says, and `checks` is the list of its checks; no token and no walk over tokens stands here.
use Prim.Native.Nat.{ℕ, ◌≤◌, ◌<◌}
use mathlib.Core.Bool.{true}
use mathlib.Core.List.{List, []}
use mathlib.Core.Logic.{◌↔◌, ◌⊎◌}
use mathlib.Core.Path.{◌≡◌, refl, sym, ◌∙◌}
use lib.IntN.{ℤ}
use lib.ListN.{length}
use mir.Syntax.{w16}
use mir.Val.{of_z}
use Rattle.std.proofs.Common.{Option, Some, None, Result, Ok, Err}
use Rattle.operands.specs.declared.Operands.{Operands}
use Rattle.items.specs.declared.ItemsFault.{ItemsFault}
use Rattle.expressions.specs.declared.Malformed.{Malformed}
use Rattle.operands.specs.declared.OperandsFault.{OperandsFault}
use Rattle.isa.specs.Encoding.{words_of}
use Rattle.isa.specs.declared.Opcode.{Opcode}
use Rattle.names.specs.declared.Word.TheVariants as W
use Rattle.values.specs.declared.Name.{Name}
use Rattle.values.proofs.Within.{LabelWithin}
use Rattle.codes.specs.Limits.{deepest}
use Rattle.expressions.specs.Trees.{Tree, depth}
use Rattle.expressions.specs.Worths.{Worth, worth_of}
use Rattle.expressions.specs.Reading as Expressions
use Rattle.operands.specs.Checks.{fits, operand_at, word_of, given}
use Rattle.operands.specs.Checks as Operands
use Rattle.operands.specs.Settling.{settled_instruction}
use Rattle.operands.specs.declared.Given.{Given}
use Rattle.operands.specs.declared.Written.{Written}
use Rattle.items.specs.Items.{Item, cells_of, all_in_range}
use Rattle.items.specs.Reading as Items
use Rattle.statements.specs.Statements.{Reading, instruction, cells, end, Says, Labelled, HasWord, UnknownWord, NoReading}
use Rattle.statements.specs.FirstFailing.{Pass, First}
use Rattle.statements.specs.Checks.{result_in, checks, failures}
use Rattle.statements.specs.Judging.{number_of, refusal_of, instruction_result, judged, claim_of}
use Rattle.statements.specs.Reading.{expression_result, items_result, line_read}
use Rattle.statements.specs.Cells.{cells_in}
use Rattle.statements.specs.declared.Failure.{Failure}
use Rattle.statements.specs.declared.Failure.TheVariants as F
use Rattle.statements.specs.declared.Statement.{Statement}
use Rattle.statements.specs.declared.Statement.TheVariants.{Nothing, Instruction, Org, Equ, Res, Data, End}
use Rattle.statements.proofs.Lines as Lines
use Rattle.statements.proofs.FirstFails as FirstFails
use Rattle.statements.proofs.Judgements as Judgements
use Rattle.statements.proofs.Judgements.{Asks}
use Rattle.statements.proofs.Places as Places
use Rattle.statements.proofs.CellsGiven as CellsGiven
use Rattle.statements.proofs.Passing as Passing
use Rattle.statements.proofs.Claims as Claims
use Rattle.statements.proofs.Examples as Examples
use Rattle.statements.proofs.Examples.{Examples}

module _ (line : List ℕ) where
  -- ---- reading

  -- A line has one reading at most: its label and what its statement says.
  pub one-reading : {l l' : Option Name} {r r' : Reading} → Says line l r → Says line l' r' → (l ≡ l') × (r ≡ r')
  one-reading = Lines.one-reading line

  -- Where a line has a reading, `read_line` hands back its label and what the reading comes to.
  pub read-judged : {l : Option Name} {r : Reading} → Says line l r → line_read line ≡ record { label = l; statement = judged r }
  read-judged = Lines.read-judged line

  -- Every line has a reading, an unknown word or wrong form, and no two of these.
  pub every-line : ((l : Option Name) × (r : Reading) × Says line l r) ⊎ (UnknownWord line ⊎ ((UnknownWord line → ⊥) × NoReading line))
  every-line = Lines.every-line line

  pub not-both : {l : Option Name} {r : Reading} → Says line l r → UnknownWord line → ⊥
  not-both = Lines.says-known line

  -- ---- the line's own checks, in the paper's order

  -- A number is answered exactly where its check is the first of the list that fails.
  pub refused-exactly : (n : ℕ) → ((f : Failure) × ((line_read line).statement ≡ Err f) × (number_of f ≡ n)) ↔ First (checks line) n
  refused-exactly = Lines.refused-exactly line

  -- Each failure is told exactly where its check is the first of the list that fails: a number or an operation out of range apart from
  -- the statement's result, a wrong count apart from a wrong kind, and of two operands wrong in kind the first.
  pub fails-exactly : (f : Failure) → ((line_read line).statement ≡ Err f) ↔ First (failures line) f
  fails-exactly = Lines.fails-exactly line

  -- The line passes exactly where every check of the list does.
  pub passes-exactly : ((s : Statement) × ((line_read line).statement ≡ Ok s)) ↔ Pass (checks line)
  passes-exactly = Lines.passes-exactly line

  -- What it then says is what its reading comes to.
  pub says-exactly : {l : Option Name} {s : Statement}
      → (line_read line ≡ record { label = l; statement = Ok s }) ↔ ((r : Reading) × Says line l r × (judged r ≡ Ok s))
  says-exactly = Lines.says-exactly line

  -- At most one number is the first that fails, and none where all pass.
  pub one_number : {n n' : ℕ} → First (checks line) n → First (checks line) n' → n ≡ n'
  one_number = FirstFails.first-once (checks line)

  pub never_both : (n : ℕ) → Pass (checks line) → First (checks line) n → ⊥
  never_both = FirstFails.pass-none (checks line)

  -- 4, "statement's word unknown"
  pub unknown-exactly : ((line_read line).statement ≡ Err F.UnknownWord) ↔ UnknownWord line
  unknown-exactly = Lines.unknown-exactly line

  -- 3, "form": no reading at all. "word 4; form 3": an unknown word is never 3, and all other refusals are of lines with a reading.
  pub form-exactly : ((line_read line).statement ≡ Err F.WrongForm) ↔ ((UnknownWord line → ⊥) × NoReading line)
  form-exactly = Lines.form-exactly line

  -- "All bytes after END as a statement's word are ignored": a line says END exactly where its statement's word is END.
  pub end-exactly : ((l : Option Name) × Says line l end) ↔ HasWord line W.End
  end-exactly = Lines.end-exactly line

  -- ---- the label

  -- "A line's first token, if a word directly followed by `:`, is its label": handed back whatever the statement comes to.
  pub label-exactly : (n : Name) → ((line_read line).label ≡ Some n) ↔ Labelled line n
  label-exactly = Lines.label-exactly line

  pub no_label_exactly : ((line_read line).label ≡ None) ↔ ((n : Name) → Labelled line n → ⊥)
  no_label_exactly = Lines.no_label_exactly line

  -- It has a byte at least, and lies within the line.
  pub label-within : {n : Name} → Labelled line n → (n.start < n.end) × (n.end ≤ length line)
  label-within = Places.label-within line

-- ---- what a reading says that passes

-- an opcode's operands, each with its word
pub instruction-says : (op : Opcode) (os : List Written) {x y : ℕ} → fits op os ≡ true → word_of (operand_at os 0) ≡ Some x
    → word_of (operand_at os 1) ≡ Some y
    → judged (instruction op os) ≡ Ok (Instruction op (given (operand_at os 0) x) (given (operand_at os 1) y))
instruction-says = Judgements.instruction-says

-- "`ORG e` (0..65535), `EQU e` (-32768..65535, kept modulo 65536), `RES e` (0..65535)": the result
pub expression-says : {r : Reading} {least z : ℤ} {makes : ℕ → Statement} {e : Tree} → Asks r least makes e → depth e ≤ deepest
    → worth_of e ≡ Ok z
    → result_in least z ≡ true
    → judged r ≡ Ok (makes (of_z w16 z))
expression-says = Judgements.expression-says

-- DATA: the number of its cells
pub items_say : (is : List Item) → all_in_range is ≡ true → judged (cells is) ≡ Ok (Data (length (cells_of is)))
items_say = Judgements.items_say

-- ---- cells

-- What `write_cells` writes of a line is the cells of the items that it says; nothing, where it says no DATA that passes.
pub cells-exactly : (line : List ℕ) {l : Option Name} {is : List Item} → Says line l (cells is) → all_in_range is ≡ true → cells_in line ≡ cells_of is
cells-exactly = CellsGiven.cells-exactly

pub no_cells : (line : List ℕ) → ((l : Option Name) (is : List Item) → Says line l (cells is) → all_in_range is ≡ true → ⊥) → cells_in line ≡ []
no_cells = CellsGiven.no_cells

-- DATA claims as many cells as its items take.
pub cells-claimed : (line : List ℕ) {l : Option Name} {is : List Item} {s : Statement} → Says line l (cells is) → (line_read line).statement ≡ Ok s
    → claim_of s ≡ length (cells_of is)
cells-claimed = Claims.cells-claimed

module _ (line : List ℕ) {n : ℕ} (e : (line_read line).statement ≡ Ok (Data n)) where
  -- As many are written, and they are no more than the line's bytes.
  pub cells-written : length (cells_in line) ≡ claim_of (Data n)
  cells-written = Passing.cells-written line e

  pub cells-few : claim_of (Data n) ≤ length line
  cells-few = Passing.cells-few line e

module _ (line : List ℕ) {op : Opcode} {a b : Given} (e : (line_read line).statement ≡ Ok (Instruction op a b)) where
  -- An instruction claims as many cells as it has words, whatever its labels stand for.
  pub words-claimed : (v w : ℕ) → length (words_of (settled_instruction op a b v w)) ≡ claim_of (Instruction op a b)
  words-claimed = Passing.words-claimed line e

  -- The labels that its operands name lie within the line.
  pub operand_labels_within : LabelWithin (length line) a.label × LabelWithin (length line) b.label
  operand_labels_within = Passing.operand_labels_within line e

-- "RES must claim its cells" (02, K2): as many as it reserves.
pub reserved-claimed : (v : ℕ) → claim_of (Res v) ≡ v
reserved-claimed v = refl

-- No other statement claims one.
pub claims-none : (claim_of Nothing ≡ 0)
    × ((v : ℕ) → claim_of (Org v) ≡ 0)
    × ((v : ℕ) → claim_of (Equ v) ≡ 0)
    × (claim_of End ≡ 0)
claims-none = (refl, λ v. refl, λ v. refl, refl)

-- ---- numbers

-- The numbers that the crates below give their answers are the line's.
pub expression-number : (least : ℤ) (says : ℕ → Statement) (r : Result Worth Malformed) → (Expressions.refusal_of r ≡ 0 → ⊥)
    → refusal_of (expression_result least says r) ≡ Expressions.refusal_of r
expression-number = Claims.expression-number

pub operands-number : (op : Opcode) (r : Result Operands OperandsFault) → refusal_of (instruction_result op r) ≡ Operands.refusal_of r
operands-number = Claims.operands-number

pub items-number : (r : Result ℕ ItemsFault) → refusal_of (items_result r) ≡ Items.refusal_of r
items-number = Claims.items-number

-- ---- examples, and one reply

-- Lines that are easily misread, with the paper's numbers.
pub examples : Examples
examples = Examples.examples

-- Every promise of this crate is an equation with its meaning: two replies that meet it coincide.
pub coincide : {A : Type 0} {meaning r r' : A} → r ≡ meaning → r' ≡ meaning → r ≡ r'
coincide p q = p ∙ sym q
