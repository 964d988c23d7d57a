-- One operand's label, kept by its place in the source.
use Prim.Native.Nat.{ℕ, ◌+◌, ◌-◌, ◌≤◌, ◌<◌}
use mathlib.Core.List.{List, [], ◌∷◌, ◌++◌, append-nil, append_assoc}
use mathlib.Core.Path.{◌≡◌, refl, sym, ap, ap₂, subst, ◌∙◌}
use native.Mathlib.Omega.{arith}
use borrow.Author.Tests.{ne_eqb}
use lib.ListN.{length}
use Rattle.codes.specs.Limits.{most_cells}
use Rattle.isa.specs.Operands.{operand_words}
use Rattle.isa.specs.declared.Operand.{Operand}
use Rattle.isa.specs.declared.Operand.TheVariants as O
use Rattle.std.proofs.Common.{Option, Some, None}
use Rattle.values.specs.declared.Name.{Name}
use Rattle.operands.specs.declared.Given.{Given}
use Rattle.isa.specs.declared.Opcode.{Opcode}
use Rattle.statements.specs.declared.Statement.{Statement}
use Rattle.statements.specs.declared.Statement.TheVariants.{Nothing, Instruction, Org, Equ, Res, Data, End}
use Rattle.labels.specs.Inner.Labels.{window, InCell}
use Rattle.sources.specs.Uses.{Counted, from, Use, counted_for, second_cell, uses_by}
use Rattle.uses.specs.Inner.Held.{counted_by, use_held}
use Rattle.walking.specs.Inner.Noting.{away_for, Placeable, noted_by, noted}

-- what is asked of a label that is named
pub placeable : (start cell next : ℕ) {l : Option Name} {n : Name} → l ≡ Some n → Placeable start cell next l
    → (n.start ≤ n.end) × InCell (start + n.end) × (cell < next) × (next ≤ cell + 2) × (next ≤ most_cells)
placeable start cell next e h = subst (Placeable start cell next) e h

-- the distance that is kept gives the address after the instruction back
counted_away : (o : Operand) (cell next : ℕ) → cell < next → counted_by cell (away_for o (next - cell)) ≡ counted_for o next
counted_away O.Absent cell next h = refl
counted_away (O.Immediate v) cell next h = refl
counted_away (O.Register r) cell next h = refl
counted_away (O.Memory a) cell next h = refl
counted_away (O.Indirect r) cell next h = refl
counted_away (O.IndexedX d) cell next h = refl
counted_away (O.IndexedY d) cell next h = refl
counted_away (O.IndexedSp d) cell next h = refl
counted_away (O.Relative d) cell next h =
    let e : cell + (next - cell) ≡ next = omega arith in
    rw (ne_eqb (next - cell) 0 (λ z. omega (arith, z, h))) (ap from e)

module _ (s : List ℕ) (start k cell next : ℕ) (g : Given) where
  -- no label: nothing is kept
  pub noted-none : (us : List Use) → g.label ≡ None → us ≡ us ++ noted s start k cell next g
  noted-none us e = sym (ap (λ (l : Option Name). us ++ noted_by s start k cell next g.operand l) e ∙ append-nil us)

  -- a label: one more is kept
  pub noted_one : (us : List Use) {vs : List Use} {n : Name} {far : ℕ} → g.label ≡ Some n → cell < next → far ≡ away_for g.operand (next - cell)
      → vs ≡ us ++ (use_held s (start + n.start) (n.end - n.start) cell k far ∷ [])
      → vs ≡ us ++ noted s start k cell next g
  noted_one us {n = n} e h f v =
      v
      ∙ ap (λ (c : Counted). us ++ (record { line = k; name = window s (start + n.start) (n.end - n.start); cell = cell; counted = c } ∷ []))
      (ap (counted_by cell) f ∙ counted_away g.operand cell next h)
      ∙ ap (λ (l : Option Name). us ++ noted_by s start k cell next g.operand l) (sym e)

-- an operand has one word at most
pub few_words : (o : Operand) → length (operand_words o) ≤ 1
few_words O.Absent = omega arith
few_words (O.Immediate v) = omega arith
few_words (O.Register r) = omega arith
few_words (O.Memory a) = omega arith
few_words (O.Indirect r) = omega arith
few_words (O.IndexedX d) = omega arith
few_words (O.IndexedY d) = omega arith
few_words (O.IndexedSp d) = omega arith
few_words (O.Relative d) = omega arith

-- the cell of the second operand's word, by the first one's width
pub second-cell : (at : ℕ) (a : Given) {w : ℕ} → w ≡ length (operand_words a.operand) → second_cell at a ≡ at + 1 + w
second-cell at a e = ap (λ (n : ℕ). at + 1 + n) (sym e)

-- one operand, then the other
pub both-noted : (s : List ℕ) (start k at next : ℕ) (a b : Given) (us : List Use) {vs ws : List Use} {w : ℕ} → w ≡ length (operand_words a.operand)
    → vs ≡ us ++ noted s start k (at + 1) next a
    → ws ≡ vs ++ noted s start k (at + 1 + w) next b
    → ws ≡ us ++ (noted s start k (at + 1) next a ++ noted s start k (second_cell at a) next b)
both-noted s start k at next a b us e v w =
    let x = noted s start k (at + 1) next a in
    w
    ∙ ap₂ (λ (l : List Use) (n : ℕ). l ++ noted s start k n next b) v (sym (second-cell at a e))
    ∙ append_assoc us x (noted s start k (second_cell at a) next b)

-- a statement that is no instruction names no label
pub no_uses : (us : List Use) (k at : ℕ) (line : List ℕ) (x : Statement) → ((op : Opcode) (a b : Given) → x ≡ Instruction op a b → ⊥)
    → us ≡ us ++ uses_by k line at x
unfolding uses_by
no_uses us k at line (Instruction op a b) n = absurd (n op a b refl)
no_uses us k at line Nothing n = sym (append-nil us)
no_uses us k at line (Org v) n = sym (append-nil us)
no_uses us k at line (Equ v) n = sym (append-nil us)
no_uses us k at line (Res v) n = sym (append-nil us)
no_uses us k at line (Data n') n = sym (append-nil us)
no_uses us k at line End n = sym (append-nil us)
