-- END as a line says it is END as its reading is judged.
use Prim.Native.Nat.{ℕ}
use mathlib.Core.Bool.{Bool, true, false, cond}
use mathlib.Core.Logic.{◌⊎◌, inl, inr}
use mathlib.Core.Path.{◌≡◌, refl}
use lib.Dec.{leb}
use lib.IntN.{ℤ}
use lib.ListN.{length}
use mir.Syntax.{w16}
use mir.Val.{of_z}
use Rattle.isa.specs.declared.Opcode.{Opcode}
use Rattle.codes.specs.Limits.{deepest}
use Rattle.expressions.specs.Trees.{Tree, depth}
use Rattle.expressions.specs.Worths.{worth_of, Worth}
use Rattle.std.proofs.Common.{Result, Ok, Err}
use Rattle.operands.specs.declared.Operands.{Operands}
use Rattle.operands.specs.declared.OperandsFault.{OperandsFault}
use Rattle.operands.specs.Checks as Operands
use Rattle.items.specs.Items.{cells_of, all_in_range}
use Rattle.statements.specs.Statements.{Reading, nothing, instruction, org, equ, res, cells, end}
use Rattle.statements.specs.Checks.{least_unsigned, least_signed, result_in}
use Rattle.statements.specs.Judging.{result_of, worth_result, tree_result, instruction_result, judged}
use Rattle.statements.specs.declared.Failure.TheVariants as F
use Rattle.statements.specs.declared.Statement.{Statement}
use Rattle.statements.specs.declared.Statement.TheVariants.{Org, Equ, Res, Data}
use Rattle.statements.proofs.Labelling.{never}
use Rattle.sources.specs.Inner.Assembling.{is_end, ends_it}

-- a statement that is no END, whatever its expression comes to
module _ (least : ℤ) (makes : ℕ → Statement) (on : (v : ℕ) → is_end (makes v) ≡ false) where
  worth_on : (w : Worth) → ends_it (worth_result least makes w) ≡ false
  unfolding result_of
  worth_on (Ok z) = go (result_in least z)
    where
      go : (b : Bool) → ends_it (cond b (Ok (makes (of_z w16 z))) (Err F.ResultOut)) ≡ false
      go true = on (of_z w16 z)
      go false = refl
  worth_on (Err why) = refl

  tree_on : (e : Tree) → ends_it (tree_result least makes e) ≡ false
  unfolding tree_result
  tree_on e = go (leb (depth e) deepest)
    where
      go : (b : Bool) → ends_it (cond b (worth_result least makes (worth_of e)) (Err F.TooDeep)) ≡ false
      go true = worth_on (worth_of e)
      go false = refl

instruction_on : (op : Opcode) (i : Result Operands OperandsFault) → ends_it (instruction_result op i) ≡ false
instruction_on op (Ok g) = refl
instruction_on op (Err why) = refl

cells_on : (n : ℕ) (b : Bool) → ends_it (cond b (Ok (Data n)) (Err F.OutOfRange)) ≡ false
cells_on n true = refl
cells_on n false = refl

pub end-ends : ends_it (judged end) ≡ true
unfolding judged
end-ends = refl

pub others_go_on : (r : Reading) → (r ≡ end → ⊥) → ends_it (judged r) ≡ false
unfolding judged
others_go_on nothing not_end = refl
others_go_on (instruction op os) not_end = instruction_on op (Operands.judged op os)
others_go_on (org e) not_end = tree_on least_unsigned Org (λ v. refl) e
others_go_on (equ e) not_end = tree_on least_signed Equ (λ v. refl) e
others_go_on (res e) not_end = tree_on least_unsigned Res (λ v. refl) e
others_go_on (cells is) not_end = cells_on (length (cells_of is)) (all_in_range is)
others_go_on end not_end = absurd (not_end refl)

pub end_or_not : (r : Reading) → (r ≡ end) ⊎ (r ≡ end → ⊥)
end_or_not nothing = inr (λ e. never (cc))
end_or_not (instruction op os) = inr (λ e. never (cc))
end_or_not (org t) = inr (λ e. never (cc))
end_or_not (equ t) = inr (λ e. never (cc))
end_or_not (res t) = inr (λ e. never (cc))
end_or_not (cells is) = inr (λ e. never (cc))
end_or_not end = inl refl
