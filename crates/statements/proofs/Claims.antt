-- DATA claims as many cells as its items take; and a refusal has the number that the crate below gives it.
use Rattle.expressions.specs.Worths.{Worth}
use Prim.Native.Nat.{ℕ}
use mathlib.Core.Bool.{Bool, true, false, cond}
use mathlib.Core.List.{List}
use mathlib.Core.Path.{◌≡◌, refl, sym, ap, ◌∙◌}
use lib.IntN.{ℤ}
use lib.ListN.{length}
use Rattle.std.proofs.Common.{Option, Result, Ok, Err}
use Rattle.operands.specs.declared.Operands.{Operands}
use Rattle.values.specs.declared.Name.{Name}
use Rattle.expressions.specs.declared.Fault.TheVariants.{OutOfRange, ByZero}
use Rattle.items.specs.declared.ItemsFault.{ItemsFault}
use Rattle.items.specs.declared.ItemsFault.TheVariants.{WrongForm, OutOfRange}
use Rattle.expressions.specs.declared.Malformed.{Malformed}
use Rattle.expressions.specs.declared.Malformed.TheVariants.{TooDeep, WrongForm}
use Rattle.operands.specs.declared.OperandsFault.{OperandsFault}
use Rattle.operands.specs.declared.OperandsFault.TheVariants.{WrongForm, WrongCount, WrongKind, OutOfRange}
use Rattle.expressions.specs.Reading as Expressions
use Rattle.isa.specs.declared.Opcode.{Opcode}
use Rattle.operands.specs.Checks as Operands
use Rattle.items.specs.Items.{Item, cells_of, all_in_range}
use Rattle.items.specs.Reading as Items
use Rattle.statements.specs.Statements.{cells, Says}
use Rattle.statements.specs.Judging.{refusal_of, instruction_result, judged, claim_of}
use Rattle.statements.specs.Reading.{expression_result, items_result, line_read}
use Rattle.statements.specs.declared.Failure.TheVariants as F
use Rattle.statements.specs.declared.LineRead.{LineRead}
use Rattle.statements.specs.declared.Statement.{Statement}
use Rattle.statements.specs.declared.Statement.TheVariants.{Data}
use Rattle.statements.proofs.Labelling.{never}
use Rattle.statements.proofs.Lines.{read-judged}

-- ---- DATA

pub cells-claimed : (line : List ℕ) {l : Option Name} {is : List Item} {s : Statement} → Says line l (cells is) → (line_read line).statement ≡ Ok s
    → claim_of s ≡ length (cells_of is)
unfolding judged
cells-claimed line {is = is} {s} x e = go (all_in_range is) (sym (ap (λ (a : LineRead). a.statement) (read-judged line x)) ∙ e)
  where
    go : (b : Bool) → cond b (Ok (Data (length (cells_of is)))) (Err F.OutOfRange) ≡ Ok s → claim_of s ≡ length (cells_of is)
    go true q = let h : s ≡ Data (length (cells_of is)) = cc in ap claim_of h
    go false q = never (cc)

-- ---- numbers

pub expression-number : (least : ℤ) (says : ℕ → Statement) (r : Result Worth Malformed) → (Expressions.refusal_of r ≡ 0 → ⊥)
    → refusal_of (expression_result least says r) ≡ Expressions.refusal_of r
expression-number least says (Ok (Ok z)) n = absurd (n refl)
expression-number least says (Ok (Err OutOfRange)) n = refl
expression-number least says (Ok (Err ByZero)) n = refl
expression-number least says (Err TooDeep) n = refl
expression-number least says (Err WrongForm) n = refl

pub operands-number : (op : Opcode) (r : Result Operands OperandsFault) → refusal_of (instruction_result op r) ≡ Operands.refusal_of r
operands-number op (Ok g) = refl
operands-number op (Err WrongForm) = refl
operands-number op (Err WrongCount) = refl
operands-number op (Err (WrongKind place)) = refl
operands-number op (Err OutOfRange) = refl

pub items-number : (r : Result ℕ ItemsFault) → refusal_of (items_result r) ≡ Items.refusal_of r
items-number (Ok n) = refl
items-number (Err WrongForm) = refl
items-number (Err OutOfRange) = refl
