-- The labels that operands name, in the order of lines and of operands, and the word that each stands for (01, "Rules of writing":
-- "`$label` is the label's value less the address after the instruction, as plain numbers").
use Rattle.std.specs.Prelude.{ℕ, ◌+◌, ◌-◌, ◌%◌, cond, List, [], ◌∷◌, ◌++◌, length, Option, Some, None, Result, Ok, Err}
use Rattle.isa.specs.Operands.{operand_words}
use Rattle.isa.specs.declared.Operand.{Operand}
use Rattle.isa.specs.declared.Operand.TheVariants as O
use Rattle.names.specs.Names.{same}
use Rattle.statements.specs.declared.Failure.{Failure}
use Rattle.values.specs.declared.Name.{Name}
use Rattle.operands.specs.declared.Given.{Given}
use Rattle.statements.specs.Judging.{claim_of}
use Rattle.statements.specs.declared.Statement.{Statement}
use Rattle.statements.specs.declared.Statement.TheVariants.{Nothing, Instruction, Org, Equ, Res, Data, End}
use Rattle.sources.specs.Sources.{spelled}
use Rattle.sources.specs.Placing.{Bound, Judged, next_from}

-- ---- the value of a label

pub data Value : Type 0 where
  known : ℕ → Value
  unknown : Value

-- "Labels keep case": the value of the label that has this name
unfoldable pub value_of : List Bound → List ℕ → Value
value_of [] w = unknown
value_of (b ∷ bs) w = cond (same b.name w) (known b.value) (value_of bs w)

-- ---- the labels that operands name

-- a label's value stands as it is, or less the address after the instruction
pub data Counted : Type 0 where
  plainly : Counted
  from : ℕ → Counted

abbrev pub counted_for : Operand → ℕ → Counted
counted_for O.Absent next = plainly
counted_for (O.Immediate v) next = plainly
counted_for (O.Register r) next = plainly
counted_for (O.Memory a) next = plainly
counted_for (O.Indirect r) next = plainly
counted_for (O.IndexedX d) next = plainly
counted_for (O.IndexedY d) next = plainly
counted_for (O.IndexedSp d) next = plainly
counted_for (O.Relative d) next = from next

-- a label that an operand names: its line, its name, the cell of the operand's word, and how that word is counted
pub record Use : Type 0 where
  pub line : ℕ
  pub name : List ℕ
  pub cell : ℕ
  pub counted : Counted

-- of an operand on the k-th line, with the cell of its word and the address after the instruction
abbrev pub use_by : ℕ → List ℕ → ℕ → ℕ → Operand → Option Name → List Use
use_by k bytes cell next o None = []
use_by k bytes cell next o (Some n) = record { line = k; name = spelled bytes n; cell = cell; counted = counted_for o next } ∷ []

abbrev pub use_of : ℕ → List ℕ → ℕ → ℕ → Given → List Use
use_of k bytes cell next g = use_by k bytes cell next g.operand g.label

-- the cell of the second operand's word: after the first word and the first operand's
abbrev pub second_cell : ℕ → Given → ℕ
second_cell at a = at + 1 + length (operand_words a.operand)

-- "by line, then operand": of a statement on the k-th line at an address
unfoldable pub uses_by : ℕ → List ℕ → ℕ → Statement → List Use
uses_by k bytes at Nothing = []
uses_by k bytes at (Instruction op a b) =
    let next = at + claim_of (Instruction op a b) in
    use_of k bytes (at + 1) next a ++ use_of k bytes (second_cell at a) next b
uses_by k bytes at (Org v) = []
uses_by k bytes at (Equ v) = []
uses_by k bytes at (Res v) = []
uses_by k bytes at (Data n) = []
uses_by k bytes at End = []

abbrev pub uses_read : ℕ → List ℕ → ℕ → Result Statement Failure → List Use
uses_read k bytes at (Ok s) = uses_by k bytes at s
uses_read k bytes at (Err why) = []

-- of lines, the first of them the k-th and at an address
unfoldable pub uses_of : ℕ → ℕ → List Judged → List Use
uses_of k at [] = []
uses_of k at (x ∷ xs) = uses_read k x.bytes at x.read.statement ++ uses_of (k + 1) (next_from at x) xs

-- ---- the word that a label stands for

-- "less the address after the instruction", kept modulo 65536; an unknown one has none, and its source is refused
abbrev pub counted_word : Counted → Value → ℕ
counted_word plainly (known v) = v
counted_word (from next) (known v) = (v + 65536 - next) % 65536
counted_word c unknown = 0
