-- The columns of the names in operands, and of their operands, in a line that passes. Top.antt restates it.
use Prim.Native.Nat.{ℕ, zero, suc, ◌+◌, ◌≤◌}
use mathlib.Core.Bool.{Bool, true, false, cond}
use mathlib.Core.List.{List}
use mathlib.Core.Path.{◌≡◌, ap, subst, ◌∙◌}
use native.Mathlib.Omega.{arith}
use lib.ListN.{length, get_or}
use Rattle.isa.specs.declared.Opcode.{Opcode}
use Rattle.tokens.specs.Bytes.{is_blank}
use Rattle.std.proofs.Common.{Option, Some, None, Ok}
use Rattle.values.specs.declared.Name.{Name}
use Rattle.values.proofs.Within.{LabelWithin, NameWithin}
use Rattle.operands.specs.declared.Given.{Given}
use Rattle.statements.specs.Reading.{line_read}
use Rattle.statements.specs.declared.Statement.TheVariants.{Instruction}
use Rattle.statements.proofs.Top.{operand_labels_within}
use Rattle.columns.specs.Columns.{mark_before, name_by, name_column_at, name_column_by, name_column}
use Rattle.columns.proofs.Found.{in_line}

-- the columns that 13 and 14 tell of a name
abbrev pub At : List ℕ → Bool → Name → Type 0
At line second n = (name_column line 13 second ≡ n.start + 1) × (name_column line 14 second ≡ mark_before line n.start + 1)

module _ (line : List ℕ) where
  mark-below : (p : ℕ) → mark_before line p ≤ p
  unfolding mark_before
  mark-below zero = omega arith
  mark-below (suc p) = go (is_blank (get_or line p 0)) (mark-below p)
    where
      go : (b : Bool) → mark_before line p ≤ p → cond b (mark_before line p) p ≤ suc p
      go true l = omega (arith, l)
      go false l = omega arith

  module _ {op : Opcode} {a b : Given} (e : (line_read line).statement ≡ Ok (Instruction op a b)) where
    by_label : (second : Bool) (n : Name) → name_by a.label b.label second ≡ Some n → NameWithin (length line) n → At line second n
    unfolding name_column
    by_label second n g w =
        let l : n.start ≤ length line = omega (arith, w.0, w.1) in (
          ap (name_column_by line 13 second) e ∙ ap (name_column_at line 13) g ∙ in_line line n.start l,
          ap (name_column_by line 14 second) e ∙ ap (name_column_at line 14) g
              ∙ in_line line (mark_before line n.start) (omega (arith, l, mark-below n.start)),
        )

    within : {l : Option Name} {n : Name} → LabelWithin (length line) l → l ≡ Some n → NameWithin (length line) n
    within h g = subst (LabelWithin (length line)) g h

    pub first-name : {n : Name} → a.label ≡ Some n → At line false n
    first-name {n} f = by_label false n (ap (λ (l : Option Name). name_by l b.label false) f) (within (operand_labels_within line e).0 f)

    pub only-name : {n : Name} (second : Bool) → a.label ≡ None → b.label ≡ Some n → At line second n
    only-name {n} second f g =
        by_label second n (ap (λ (l : Option Name). name_by l b.label second) f ∙ g) (within (operand_labels_within line e).1 g)

    pub second-name : {m n : Name} → a.label ≡ Some m → b.label ≡ Some n → At line true n
    second-name {n = n} f g =
        by_label true n (ap (λ (l : Option Name). name_by l b.label true) f ∙ g) (within (operand_labels_within line e).1 g)
