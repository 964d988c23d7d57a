-- An instruction or DATA that passes was read from the line's tokens; so what holds of its operands or items holds of it.
use Prim.Native.Nat.{ℕ, ◌≤◌}
use mathlib.Core.Bool.{Bool, true, false, cond}
use mathlib.Core.List.{List}
use mathlib.Core.Path.{◌≡◌, refl, ap, subst, ◌∙◌}
use native.Mathlib.Omega.{arith}
use lib.Dec.{leb}
use lib.IntN.{ℤ}
use lib.ListN.{length}
use mir.Syntax.{w16}
use mir.Val.{of_z}
use Rattle.isa.specs.Encoding.{words_of}
use Rattle.isa.specs.declared.Opcode.{Opcode}
use Rattle.tokens.specs.Reading.{tokens_from}
use Rattle.values.proofs.Within.{LabelWithin}
use Rattle.codes.specs.Limits.{deepest}
use Rattle.expressions.specs.Trees.{Tree, depth}
use Rattle.expressions.specs.Worths.{worth_of}
use Rattle.expressions.specs.Worths.{Worth}
use Rattle.std.proofs.Common.{Result, Ok, Err}
use Rattle.statements.specs.declared.Failure.{Failure}
use Rattle.operands.specs.declared.Operands.{Operands}
use Rattle.operands.specs.declared.OperandsFault.{OperandsFault}
use Rattle.operands.specs.Checks.{instruction_read}
use Rattle.operands.specs.Checks as Operands
use Rattle.operands.specs.Settling.{settled_instruction}
use Rattle.operands.specs.declared.Given.{Given}
use Rattle.operands.specs.declared.Written.{Written}
use Rattle.operands.proofs.Top.{reads-exactly, words_count, label-within}
use Rattle.items.specs.Items.{Item, cells_of, all_in_range}
use Rattle.statements.specs.Statements.{Reading, nothing, instruction, org, equ, res, cells, end, Says}
use Rattle.statements.specs.Checks.{least_unsigned, least_signed, result_in}
use Rattle.statements.specs.Judging.{result_of, worth_result, tree_result, instruction_result, judged, claim_of}
use Rattle.statements.specs.Reading.{line_read}
use Rattle.statements.specs.Cells.{cells_in}
use Rattle.statements.specs.declared.Failure.TheVariants as F
use Rattle.statements.specs.declared.Statement.{Statement}
use Rattle.statements.specs.declared.Statement.TheVariants.{Instruction, Org, Equ, Res, Data}
use Rattle.statements.proofs.Labelling.{never}
use Rattle.statements.proofs.Lines.{says-exactly}
use Rattle.statements.proofs.CellsGiven.{cells-exactly}
use Rattle.statements.proofs.Places.{operands-from, few-cells}

-- ---- which reading says an instruction

-- an expression that passes says its result
tree_makes : (least : ℤ) (makes : ℕ → Statement) (e : Tree) {s : Statement} → tree_result least makes e ≡ Ok s → (v : ℕ) × (s ≡ makes v)
unfolding tree_result result_of
tree_makes least makes e {s} h = by_depth (leb (depth e) deepest) h
  where
    by_result : (z : ℤ) (b : Bool) → cond b (Ok (makes (of_z w16 z))) (Err F.ResultOut) ≡ Ok s → (v : ℕ) × (s ≡ makes v)
    by_result z true q = (of_z w16 z, cc)
    by_result z false q = never (cc)

    by_worth : (w : Worth) → worth_result least makes w ≡ Ok s → (v : ℕ) × (s ≡ makes v)
    by_worth (Ok z) q = by_result z (result_in least z) q
    by_worth (Err why) q = never (cc)

    by_depth : (b : Bool) → cond b (worth_result least makes (worth_of e)) (Err F.TooDeep) ≡ Ok s → (v : ℕ) × (s ≡ makes v)
    by_depth true q = by_worth (worth_of e) q
    by_depth false q = never (cc)

module _ (op : Opcode) (a b : Given) where
  -- a reading is an instruction whose operands are these
  abbrev Given_by : Reading → Type 0
  Given_by r = (os : List Written) × (r ≡ instruction op os) × (Operands.judged op os ≡ Ok (record { first = a; second = b }))

  given_by : (r : Reading) → judged r ≡ Ok (Instruction op a b) → Given_by r
  unfolding judged
  given_by nothing e = never (cc)
  given_by (instruction op' os) e = go (Operands.judged op' os) refl e
    where
      go : (i : Result Operands OperandsFault) → Operands.judged op' os ≡ i → instruction_result op' i ≡ Ok (Instruction op a b) → Given_by (instruction op' os)
      go (Ok g) q e =
          let o : op' ≡ op = cc in
          let p : g.first ≡ a = cc in
          let r : g.second ≡ b = cc in
          (os, ap (λ (o : Opcode). instruction o os) o, subst (λ (o : Opcode). Operands.judged o os ≡ Ok (record { first = a; second = b })) o (rw (p, r) at q))
      go (Err why) q e = never (cc)
  given_by (org t) e = let h = (tree_makes least_unsigned Org t e).1 in never (cc)
  given_by (equ t) e = let h = (tree_makes least_signed Equ t e).1 in never (cc)
  given_by (res t) e = let h = (tree_makes least_unsigned Res t e).1 in never (cc)
  given_by (cells is) e = go (all_in_range is) e
    where
      go : (t : Bool) → cond t (Ok (Data (length (cells_of is)))) (Err F.OutOfRange) ≡ Ok (Instruction op a b) → Given_by (cells is)
      go true q = never (cc)
      go false q = never (cc)
  given_by end e = never (cc)

-- ---- which reading says DATA

module _ (n : ℕ) where
  -- a reading is DATA with items in range that take so many cells
  abbrev Taken_by : Reading → Type 0
  Taken_by r = (is : List Item) × (r ≡ cells is) × (all_in_range is ≡ true) × (length (cells_of is) ≡ n)

  taken_by : (r : Reading) → judged r ≡ Ok (Data n) → Taken_by r
  unfolding judged
  taken_by nothing e = never (cc)
  taken_by (instruction op os) e = go (Operands.judged op os) e
    where
      go : (i : Result Operands OperandsFault) → instruction_result op i ≡ Ok (Data n) → Taken_by (instruction op os)
      go (Ok r) e = never (cc)
      go (Err why) e = never (cc)
  taken_by (org t) e = let h = (tree_makes least_unsigned Org t e).1 in never (cc)
  taken_by (equ t) e = let h = (tree_makes least_signed Equ t e).1 in never (cc)
  taken_by (res t) e = let h = (tree_makes least_unsigned Res t e).1 in never (cc)
  taken_by (cells is) e = go (all_in_range is) refl e
    where
      go : (t : Bool) → all_in_range is ≡ t → cond t (Ok (Data (length (cells_of is)))) (Err F.OutOfRange) ≡ Ok (Data n) → Taken_by (cells is)
      go true q e = (is, refl, q, cc)
      go false q e = never (cc)
  taken_by end e = never (cc)

-- ---- of the line

-- the reading of a line that passes
reading-of : (line : List ℕ) {s : Statement} → (line_read line).statement ≡ Ok s
    → (r : Reading) × Says line (line_read line).label r × (judged r ≡ Ok s)
reading-of line e = (says-exactly line).0 (ap (λ (x : Result Statement Failure). record { label = (line_read line).label; statement = x }) e)

pub instruction-from : (line : List ℕ) {op : Opcode} {a b : Given} → (line_read line).statement ≡ Ok (Instruction op a b)
    → (at : ℕ) × (instruction_read line op (tokens_from line at) ≡ Ok (record { first = a; second = b }))
unfolding instruction_read
instruction-from line {op} {a} {b} e =
    let h = reading-of line e in
    let g = given_by op a b h.0 h.2 in
    let f = operands-from line (subst (λ (r : Reading). Says line (line_read line).label r) g.1 h.1) in
    (f.0, ap (Operands.judged_form op) ((reads-exactly line (tokens_from line f.0)).1 f.1) ∙ g.2)

module _ (line : List ℕ) {op : Opcode} {a b : Given} (e : (line_read line).statement ≡ Ok (Instruction op a b)) where
  -- as many words as are claimed, whatever its labels stand for
  pub words-claimed : (v w : ℕ) → length (words_of (settled_instruction op a b v w)) ≡ claim_of (Instruction op a b)
  words-claimed v w = let h = instruction-from line e in words_count line (tokens_from line h.0) op h.1 v w

  -- its labels stand in the line
  pub operand_labels_within : LabelWithin (length line) a.label × LabelWithin (length line) b.label
  operand_labels_within = let h = instruction-from line e in label-within line h.0 op h.1

module _ (line : List ℕ) {n : ℕ} (e : (line_read line).statement ≡ Ok (Data n)) where
  items-said : (is : List Item) × Says line (line_read line).label (cells is) × (all_in_range is ≡ true) × (length (cells_of is) ≡ n)
  items-said =
      let h = reading-of line e in
      let g = taken_by n h.0 h.2 in
      (g.0, subst (λ (r : Reading). Says line (line_read line).label r) g.1 h.1, g.2, g.3)

  -- as many cells are written as are claimed
  pub cells-written : length (cells_in line) ≡ claim_of (Data n)
  cells-written = let h = items-said in ap length (cells-exactly line h.1 h.2) ∙ h.3

  pub cells-few : claim_of (Data n) ≤ length line
  cells-few = let h = items-said in omega (arith, few-cells line h.1, h.3)
