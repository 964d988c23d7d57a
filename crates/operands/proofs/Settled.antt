-- What settling does to an operand: a label's word takes its place, and nothing else changes.
use Prim.Native.Nat.{ℕ}
use mathlib.Core.Path.{◌≡◌, refl, ap, ◌∙◌}
use Rattle.isa.specs.Operands.{allows}
use Rattle.isa.specs.declared.Kinds.{Kinds}
use Rattle.isa.specs.declared.Operand.{Operand}
use Rattle.isa.specs.declared.Operand.TheVariants as O
use Rattle.std.proofs.Common.{Option, Some, None}
use Rattle.values.specs.declared.Name.{Name}
use Rattle.operands.specs.Checks.{operand_with, label_in, given}
use Rattle.operands.specs.Settling.{reworded, settled_by, settled_operand}
use Rattle.operands.specs.declared.Given.{Given}
use Rattle.operands.specs.declared.Written.{Written}
use Rattle.operands.specs.declared.Written.TheVariants.{Absent, Immediate, Register, Memory, Indirect, IndexedX, IndexedY, IndexedSp, Relative}

-- the kind does not depend on the word
pub same_kind : (k : Kinds) (o : Operand) (w : ℕ) → allows k (reworded o w) ≡ allows k o
unfolding allows
same_kind k O.Absent w = refl
same_kind k (O.Immediate v) w = refl
same_kind k (O.Register r) w = refl
same_kind k (O.Memory a) w = refl
same_kind k (O.Indirect r) w = refl
same_kind k (O.IndexedX d) w = refl
same_kind k (O.IndexedY d) w = refl
same_kind k (O.IndexedSp d) w = refl
same_kind k (O.Relative d) w = refl

-- nor on the word that stood there
pub reworded_as : (o : Written) (x w : ℕ) → reworded (operand_with o x) w ≡ operand_with o w
reworded_as Absent x w = refl
reworded_as (Immediate v) x w = refl
reworded_as (Register r) x w = refl
reworded_as (Memory v) x w = refl
reworded_as (Indirect r) x w = refl
reworded_as (IndexedX v) x w = refl
reworded_as (IndexedY v) x w = refl
reworded_as (IndexedSp v) x w = refl
reworded_as (Relative v) x w = refl

pub unlabelled-stays : (g : Given) (w : ℕ) → g.label ≡ None → settled_operand g w ≡ g.operand
unlabelled-stays g w e = ap (λ (l : Option Name). settled_by l g.operand w) e

pub label_replaced : (o : Written) (x w : ℕ) {n : Name} → label_in o ≡ Some n → settled_operand (given o x) w ≡ operand_with o w
label_replaced o x w e = ap (λ (l : Option Name). settled_by l (operand_with o x) w) e ∙ reworded_as o x w

pub kind-stays : (k : Kinds) (g : Given) (w : ℕ) → allows k (settled_operand g w) ≡ allows k g.operand
kind-stays k g w = by g.label
  where
    by : (l : Option Name) → allows k (settled_by l g.operand w) ≡ allows k g.operand
    by None = refl
    by (Some n) = same_kind k g.operand w
