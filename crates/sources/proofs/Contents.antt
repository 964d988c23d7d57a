-- What a line gives: as many cells as it claims; and the cells that are written of it over zeros, with its labels' words filled in, are
-- those.
use Prim.Native.Nat.{ℕ, suc, ◌+◌, ◌≤◌, ◌<◌}
use mathlib.Core.Bool.{Bool, true, false, cond}
use mathlib.Core.List.{List, [], ◌∷◌, ◌++◌, append-nil}
use mathlib.Core.Path.{◌≡◌, refl, sym, ap, subst, ◌∙◌}
use native.Mathlib.Omega.{arith}
use lib.Dec.{leb}
use lib.IntN.{ℤ}
use lib.ListN.{length, get_or, replicate, length-append, length-replicate}
use lib.Seq.{sets}
use mir.Syntax.{w16}
use mir.Val.{of_z}
use Rattle.isa.specs.Encoding.{first_word_of, words_of}
use Rattle.isa.specs.Operands.{mode_of, operand_words}
use Rattle.isa.specs.declared.Instruction.{Instruction}
use Rattle.isa.specs.declared.Opcode.{Opcode}
use Rattle.isa.specs.declared.Operand.{Operand}
use Rattle.isa.specs.declared.Operand.TheVariants as O
use Rattle.tokens.specs.Reading.{tokens_from}
use Rattle.std.proofs.Common.{Option, Some, None, Result, Ok, Err}
use Rattle.statements.specs.declared.Failure.{Failure}
use Rattle.operands.specs.declared.Operands.{Operands}
use Rattle.values.specs.declared.Name.{Name}
use Rattle.operands.specs.declared.OperandsFault.{OperandsFault}
use Rattle.codes.specs.Limits.{deepest}
use Rattle.expressions.specs.Trees.{Tree, depth}
use Rattle.expressions.specs.Worths.{worth_of, Worth}
use Rattle.operands.specs.Checks.{operand_at, label_in, given}
use Rattle.operands.specs.Checks as Operands
use Rattle.operands.specs.Settling.{settled_by, settled_operand, settled_instruction}
use Rattle.operands.specs.declared.Given.{Given}
use Rattle.operands.specs.declared.Written.{Written}
use Rattle.operands.specs.declared.Written.TheVariants as W
use Rattle.operands.proofs.Top as operands
use Rattle.items.specs.Items.{Item, cells_of, all_in_range}
use Rattle.statements.specs.Statements.{Reading, nothing, instruction, org, equ, res, cells, end, Says}
use Rattle.statements.specs.Checks.{least_unsigned, least_signed, result_in}
use Rattle.statements.specs.Judging.{result_of, worth_result, tree_result, instruction_result, judged, claim_of}
use Rattle.statements.specs.Reading.{line_read}
use Rattle.statements.specs.declared.Failure.TheVariants as F
use Rattle.statements.specs.declared.LineRead.{LineRead}
use Rattle.statements.specs.declared.Statement.{Statement}
use Rattle.statements.specs.declared.Statement.TheVariants as S
use Rattle.statements.proofs.Labelling.{never}
use Rattle.statements.proofs.Passing.{instruction-from}
use Rattle.statements.proofs.Top as statements
use Rattle.codes.specs.Marks.{free}
use Rattle.sources.specs.Placing.{does, does_read, moved_by, Bound}
use Rattle.sources.specs.Uses.{Use, use_by, use_of, second_cell, uses_by}
use Rattle.sources.specs.Image.{word_by, word_in, code_of, code_read, given_by}
use Rattle.sources.specs.Inner.Assembling.{raw_by, filled}
use Rattle.sources.proofs.Stores.{set-inside, zeros_stay}

-- ---- which reading passes as which statement

-- an expression that passes says its result
tree_makes : (least : ℤ) (makes : ℕ → Statement) (e : Tree) {s : Statement} → tree_result least makes e ≡ Ok s → (v : ℕ) × (s ≡ makes v)
unfolding tree_result result_of
tree_makes least makes e {s} h = by_depth (leb (depth e) deepest) h
  where
    by_result : (z : ℤ) (b : Bool) → cond b (Ok (makes (of_z w16 z))) (Err F.ResultOut) ≡ Ok s → (v : ℕ) × (s ≡ makes v)
    by_result z true q = (of_z w16 z, cc)
    by_result z false q = never (cc)

    by_worth : (w : Worth) → worth_result least makes w ≡ Ok s → (v : ℕ) × (s ≡ makes v)
    by_worth (Ok z) q = by_result z (result_in least z) q
    by_worth (Err why) q = never (cc)

    by_depth : (b : Bool) → cond b (worth_result least makes (worth_of e)) (Err F.TooDeep) ≡ Ok s → (v : ℕ) × (s ≡ makes v)
    by_depth true q = by_worth (worth_of e) q
    by_depth false q = never (cc)

-- a reading and the statement that it passes as
pub data PassesAs : Reading → Statement → Type 0 where
  as_nothing : PassesAs nothing S.Nothing
  as_instruction : {op : Opcode} {os : List Written} {a b : Given} → Operands.judged op os ≡ Ok (record { first = a; second = b })
      → PassesAs (instruction op os) (S.Instruction op a b)
  as_org : {t : Tree} {v : ℕ} → PassesAs (org t) (S.Org v)
  as_equ : {t : Tree} {v : ℕ} → PassesAs (equ t) (S.Equ v)
  as_res : {t : Tree} {v : ℕ} → judged (res t) ≡ Ok (S.Res v) → PassesAs (res t) (S.Res v)
  as_cells : {is : List Item} → all_in_range is ≡ true → PassesAs (cells is) (S.Data (length (cells_of is)))
  as_end : PassesAs end S.End

pub passes_as : (r : Reading) {s : Statement} → judged r ≡ Ok s → PassesAs r s
unfolding judged
passes_as nothing {s} e = let q : S.Nothing ≡ s = cc in subst (PassesAs nothing) q as_nothing
passes_as (instruction op os) {s} e = go (Operands.judged op os) refl e
  where
    go : (i : Result Operands OperandsFault) → Operands.judged op os ≡ i → instruction_result op i ≡ Ok s → PassesAs (instruction op os) s
    go (Ok r) f q = let t : S.Instruction op r.first r.second ≡ s = cc in subst (PassesAs (instruction op os)) t (as_instruction f)
    go (Err why) f q = never (cc)
passes_as (org t) e = let h = tree_makes least_unsigned S.Org t e in subst (PassesAs (org t)) (sym h.1) as_org
passes_as (equ t) e = let h = tree_makes least_signed S.Equ t e in subst (PassesAs (equ t)) (sym h.1) as_equ
passes_as (res t) e = let h = tree_makes least_unsigned S.Res t e in subst (PassesAs (res t)) (sym h.1) (as_res (e ∙ ap Ok h.1))
passes_as (cells is) {s} e = go (all_in_range is) refl e
  where
    go : (b : Bool) → all_in_range is ≡ b → cond b (Ok (S.Data (length (cells_of is)))) (Err F.OutOfRange) ≡ Ok s → PassesAs (cells is) s
    go true f q = let t : S.Data (length (cells_of is)) ≡ s = cc in subst (PassesAs (cells is)) t (as_cells f)
    go false f q = never (cc)
passes_as end {s} e = let q : S.End ≡ s = cc in subst (PassesAs end) q as_end

-- ---- what a statement claims

-- what is claimed is the count of the statement's cells
pub claims-count : (s : Statement) → (does s).claims ≡ claim_of s
unfolding does
claims-count S.Nothing = refl
claims-count (S.Instruction op a b) = refl
claims-count (S.Org v) = refl
claims-count (S.Equ v) = refl
claims-count (S.Res v) = refl
claims-count (S.Data n) = refl
claims-count S.End = refl

-- a statement that claims cells marks them
pub marked-cells : (s : Statement) → 0 < (does s).claims → (does s).mark ≡ free → ⊥
unfolding does
marked-cells S.Nothing h e = omega arith
marked-cells (S.Instruction op a b) h e = omega arith
marked-cells (S.Org v) h e = omega arith
marked-cells (S.Equ v) h e = omega arith
marked-cells (S.Res v) h e = omega arith
marked-cells (S.Data n) h e = omega arith
marked-cells S.End h e = omega arith

-- ---- an operand's word

-- an operand that is not there names no label
abbrev pub Worded : Option Name → Operand → Type 0
Worded l O.Absent = l ≡ None
Worded l (O.Immediate v) = Unit {0}
Worded l (O.Register r) = Unit {0}
Worded l (O.Memory a) = Unit {0}
Worded l (O.Indirect r) = Unit {0}
Worded l (O.IndexedX d) = Unit {0}
Worded l (O.IndexedY d) = Unit {0}
Worded l (O.IndexedSp d) = Unit {0}
Worded l (O.Relative d) = Unit {0}

-- so it is of operands as they are read
given-worded : (o : Written) (x : ℕ) → Worded (given o x).label (given o x).operand
unfolding label_in
given-worded W.Absent x = refl
given-worded (W.Immediate v) x = tt
given-worded (W.Register r) x = tt
given-worded (W.Memory v) x = tt
given-worded (W.Indirect r) x = tt
given-worded (W.IndexedX v) x = tt
given-worded (W.IndexedY v) x = tt
given-worded (W.IndexedSp v) x = tt
given-worded (W.Relative v) x = tt

-- no mode changes with an operand's word
same-mode : (l : Option Name) (o : Operand) (w : ℕ) → mode_of (settled_by l o w) ≡ mode_of o
same-mode None o w = refl
same-mode (Some n) O.Absent w = refl
same-mode (Some n) (O.Immediate v) w = refl
same-mode (Some n) (O.Register r) w = refl
same-mode (Some n) (O.Memory a) w = refl
same-mode (Some n) (O.Indirect r) w = refl
same-mode (Some n) (O.IndexedX d) w = refl
same-mode (Some n) (O.IndexedY d) w = refl
same-mode (Some n) (O.IndexedSp d) w = refl
same-mode (Some n) (O.Relative d) w = refl

-- nor the number of its words
same_length : (l : Option Name) (o : Operand) (w : ℕ) → length (operand_words (settled_by l o w)) ≡ length (operand_words o)
same_length None o w = refl
same_length (Some n) O.Absent w = refl
same_length (Some n) (O.Immediate v) w = refl
same_length (Some n) (O.Register r) w = refl
same_length (Some n) (O.Memory a) w = refl
same_length (Some n) (O.Indirect r) w = refl
same_length (Some n) (O.IndexedX d) w = refl
same_length (Some n) (O.IndexedY d) w = refl
same_length (Some n) (O.IndexedSp d) w = refl
same_length (Some n) (O.Relative d) w = refl

-- uses are filled one after the other
pub filled_append : (bs : List Bound) (us vs : List Use) (m : List ℕ) → filled bs (us ++ vs) m ≡ filled bs vs (filled bs us m)
unfolding filled
filled_append bs [] vs m = refl
filled_append bs (u ∷ us) vs m = filled_append bs us vs _

-- the cells of some uses are among n cells from an address on
abbrev pub Inside : ℕ → ℕ → List Use → Type 0
Inside at n [] = Unit {0}
Inside at n (u ∷ us) = ((i : ℕ) × (i < n) × (u.cell ≡ at + i)) × Inside at n us

inside_append : (at n : ℕ) (us vs : List Use) → Inside at n us → Inside at n vs → Inside at n (us ++ vs)
inside_append at n [] vs h g = g
inside_append at n (u ∷ us) vs h g = (h.0, inside_append at n us vs h.1 g)

module _ (bs : List Bound) (k : ℕ) (bytes : List ℕ) (at next : ℕ) where
  -- an operand's word, filled in behind some words and before others
  fill-operand : (l : Option Name) (o : Operand) → Worded l o → (before after m : List ℕ)
      → filled bs (use_by k bytes (at + length before) next o l) (sets m at (before ++ (operand_words o ++ after)))
      ≡ sets m at (before ++ (operand_words (settled_by l o (word_by bs bytes next l o)) ++ after))
  unfolding filled
  fill-operand None o h before after m = refl
  fill-operand (Some n) O.Absent h before after m = never (cc)
  fill-operand (Some n) (O.Immediate v) h before after m = set-inside before after m at v _
  fill-operand (Some n) (O.Register r) h before after m = set-inside before after m at r _
  fill-operand (Some n) (O.Memory a) h before after m = set-inside before after m at a _
  fill-operand (Some n) (O.Indirect r) h before after m = set-inside before after m at r _
  fill-operand (Some n) (O.IndexedX d) h before after m = set-inside before after m at d _
  fill-operand (Some n) (O.IndexedY d) h before after m = set-inside before after m at d _
  fill-operand (Some n) (O.IndexedSp d) h before after m = set-inside before after m at d _
  fill-operand (Some n) (O.Relative d) h before after m = set-inside before after m at d _

  -- its cell is among those of its words
  inside-operand : (l : Option Name) (o : Operand) → Worded l o → (cell c n : ℕ) → cell ≡ at + c → c + length (operand_words o) ≤ n
      → Inside at n (use_by k bytes cell next o l)
  inside-operand None o h cell c n e f = tt
  inside-operand (Some m) O.Absent h cell c n e f = never (cc)
  inside-operand (Some m) (O.Immediate v) h cell c n e f = ((c, omega (arith, f), e), tt)
  inside-operand (Some m) (O.Register r) h cell c n e f = ((c, omega (arith, f), e), tt)
  inside-operand (Some m) (O.Memory a) h cell c n e f = ((c, omega (arith, f), e), tt)
  inside-operand (Some m) (O.Indirect r) h cell c n e f = ((c, omega (arith, f), e), tt)
  inside-operand (Some m) (O.IndexedX d) h cell c n e f = ((c, omega (arith, f), e), tt)
  inside-operand (Some m) (O.IndexedY d) h cell c n e f = ((c, omega (arith, f), e), tt)
  inside-operand (Some m) (O.IndexedSp d) h cell c n e f = ((c, omega (arith, f), e), tt)
  inside-operand (Some m) (O.Relative d) h cell c n e f = ((c, omega (arith, f), e), tt)

-- ---- an instruction's words

-- the first word does not depend on the operands' words
same_first_word : (op : Opcode) (a b : Given) (v w : ℕ)
    → first_word_of (settled_instruction op a b v w) ≡ first_word_of (record { op = op; first = a.operand; second = b.operand })
unfolding first_word_of
same_first_word op a b v w = rw (same-mode a.label a.operand v, same-mode b.label b.operand w)

-- there is a word before those of the operands
words_long : (i : Instruction) → length (words_of i) ≡ suc (length (operand_words i.first) + length (operand_words i.second))
unfolding words_of
words_long i = ap suc (length-append (operand_words i.first) (operand_words i.second))

-- there are as many with any words in the labels' places
same_count : (op : Opcode) (a b : Given) (v w : ℕ)
    → length (words_of (settled_instruction op a b v w)) ≡ suc (length (operand_words a.operand) + length (operand_words b.operand))
same_count op a b v w =
    words_long (settled_instruction op a b v w)
    ∙ ap (λ (n : ℕ). suc (n + length (operand_words (settled_operand b w)))) (same_length a.label a.operand v)
    ∙ ap (λ (n : ℕ). suc (length (operand_words a.operand) + n)) (same_length b.label b.operand w)

module _ (bs : List Bound) (k : ℕ) (bytes : List ℕ) (at next : ℕ) (op : Opcode) (a b : Given) where
  -- the words with their labels filled in are those of the settled instruction
  code-filled : Worded a.label a.operand → Worded b.label b.operand → (m : List ℕ)
      → filled bs (use_of k bytes (at + 1) next a ++ use_of k bytes (second_cell at a) next b)
      (sets m at (words_of (record { op = op; first = a.operand; second = b.operand })))
      ≡ sets m at (code_of bs bytes next op a b)
  unfolding words_of
  code-filled wa wb m =
      let v = word_in bs bytes next a in
      let w = word_in bs bytes next b in
      let f = first_word_of (record { op = op; first = a.operand; second = b.operand }) in
      let xs = operand_words a.operand in
      let ys = operand_words b.operand in
      let xs' = operand_words (settled_operand a v) in
      let ys' = operand_words (settled_operand b w) in
      let us = use_of k bytes (at + 1) next a in
      let vs = use_of k bytes (second_cell at a) next b in
      let long : length xs' ≡ length xs = same_length a.label a.operand v in
      let there : at + suc (length xs') ≡ second_cell at a = omega (arith, long) in
      let first : filled bs us (sets m at (f ∷ (xs ++ ys))) ≡ sets m at (f ∷ (xs' ++ ys)) =
      fill-operand bs k bytes at next a.label a.operand wa (f ∷ []) ys m in
      let ends : sets m at (f ∷ (xs' ++ ys)) ≡ sets m at ((f ∷ xs') ++ (ys ++ [])) =
      ap (λ (zs : List ℕ). sets m at (f ∷ (xs' ++ zs))) (sym (append-nil ys)) in
      let from = sets m at ((f ∷ xs') ++ (ys ++ [])) in
      let to = sets m at ((f ∷ xs') ++ (ys' ++ [])) in
      let second : filled bs vs from ≡ to =
      subst (λ (c : ℕ). filled bs (use_by k bytes c next b.operand b.label) from ≡ to) there
      (fill-operand bs k bytes at next b.label b.operand wb (f ∷ xs') [] m) in
      let back : sets m at ((f ∷ xs') ++ (ys' ++ [])) ≡ sets m at (f ∷ (xs' ++ ys')) =
      ap (λ (zs : List ℕ). sets m at (f ∷ (xs' ++ zs))) (append-nil ys') in
      let word : sets m at (f ∷ (xs' ++ ys')) ≡ sets m at (first_word_of (settled_instruction op a b v w) ∷ (xs' ++ ys')) =
      ap (λ (x : ℕ). sets m at (x ∷ (xs' ++ ys'))) (sym (same_first_word op a b v w)) in
      filled_append bs us vs (sets m at (f ∷ (xs ++ ys))) ∙ ap (filled bs vs) (first ∙ ends) ∙ second ∙ back ∙ word

  -- its labels' cells are among the words
  code_inside : Worded a.label a.operand → Worded b.label b.operand → (n : ℕ)
      → suc (length (operand_words a.operand) + length (operand_words b.operand)) ≡ n
      → Inside at n (use_of k bytes (at + 1) next a ++ use_of k bytes (second_cell at a) next b)
  code_inside wa wb n e =
      let x = length (operand_words a.operand) in
      let y = length (operand_words b.operand) in
      inside_append at n (use_of k bytes (at + 1) next a) (use_of k bytes (second_cell at a) next b)
      (inside-operand bs k bytes at next a.label a.operand wa (at + 1) 1 n refl (omega (arith, e)))
      (inside-operand bs k bytes at next b.label b.operand wb (second_cell at a) (1 + x) n (omega arith) (omega (arith, e)))

-- ---- a line that passes

module _ (bytes : List ℕ) {l : Option Name} (r : Reading) {s : Statement} (x : Says bytes l r) (e : judged r ≡ Ok s) where
  -- the statement that is read of it
  pub statement-read : (line_read bytes).statement ≡ Ok s
  statement-read = ap (λ (i : LineRead). i.statement) (statements.read-judged bytes x) ∙ e

module _ (bytes : List ℕ) {op : Opcode} {a b : Given} (e : (line_read bytes).statement ≡ Ok (S.Instruction op a b)) where
  -- an operand of it that names a label is there
  operands-worded : Worded a.label a.operand × Worded b.label b.operand
  operands-worded =
      let h = instruction-from bytes e in
      let g = (operands.read-exactly bytes (tokens_from bytes h.0) op).0 h.1 in (
        subst (λ (i : Given). Worded i.label i.operand) (sym g.first-given) (given-worded (operand_at g.operands 0) g.first_word),
        subst (λ (i : Given). Worded i.label i.operand) (sym g.second-given) (given-worded (operand_at g.operands 1) g.second_word),
      )

-- what holds of the cells of a line at an address
pub record LineCells (bs : List Bound) (k : ℕ) (bytes : List ℕ) (at : ℕ) (r : Reading) (s : Statement) : Type 0 where
  pub given-long : (next : ℕ) → length (given_by bs bytes next r) ≡ claim_of s
  pub raw-within : length (raw_by bytes s) ≤ claim_of s
  pub fills : (m : List ℕ) → ((i : ℕ) → i < claim_of s → get_or m (at + i) 0 ≡ 0)
      → filled bs (uses_by k bytes at s) (sets m at (raw_by bytes s)) ≡ sets m at (given_by bs bytes (moved_by (does s).moves at) r)
  pub uses-inside : Inside at (claim_of s) (uses_by k bytes at s)

module _ (bs : List Bound) (k : ℕ) (bytes : List ℕ) (at : ℕ) where
  line_by : {l : Option Name} {r : Reading} {s : Statement} → Says bytes l r → (line_read bytes).statement ≡ Ok s → PassesAs r s
      → LineCells bs k bytes at r s
  unfolding uses_by filled does
  line_by x e as_nothing = record { given-long = λ next. refl; raw-within = omega arith; fills = λ m z. refl; uses-inside = tt }
  line_by x e (as_instruction {op} {os} {a} {b} f) =
      let next = at + claim_of (S.Instruction op a b) in
      let v = word_in bs bytes next a in
      let w = word_in bs bytes next b in
      let h = operands-worded bytes e in
      let c = sym (same_count op a b v w) ∙ statements.words-claimed bytes e v w in
      let given : (n : ℕ) → code_of bs bytes n op a b ≡ given_by bs bytes n (instruction op os) =
      λ n. ap (λ (i : Result Operands OperandsFault). code_read bs bytes n op i) (sym f) in
      record {
        given-long = λ n. ap length (sym (given n)) ∙ statements.words-claimed bytes e (word_in bs bytes n a) (word_in bs bytes n b);
        raw-within = omega (arith, words_long (record { op = op; first = a.operand; second = b.operand }), c);
        fills = λ m z. code-filled bs k bytes at next op a b h.0 h.1 m ∙ ap (sets m at) (given next);
        uses-inside = code_inside bs k bytes at next op a b h.0 h.1 (claim_of (S.Instruction op a b)) c;
      }
  line_by x e as_org = record { given-long = λ next. refl; raw-within = omega arith; fills = λ m z. refl; uses-inside = tt }
  line_by x e as_equ = record { given-long = λ next. refl; raw-within = omega arith; fills = λ m z. refl; uses-inside = tt }
  line_by x e (as_res {t} {v} f) =
      let n : (does_read (judged (res t))).claims ≡ v = ap (λ (j : Result Statement Failure). (does_read j).claims) f in
      record {
        given-long = λ next. length-replicate {A = ℕ} (does_read (judged (res t))).claims 0 ∙ n;
        raw-within = omega arith;
        fills = λ m z. zeros_stay v m at z ∙ ap (λ (k : ℕ). sets m at (replicate k 0)) (sym n);
        uses-inside = tt;
      }
  line_by x e (as_cells {is} f) =
      let c = statements.cells-exactly bytes x f in
      record { given-long = λ next. refl; raw-within = omega (arith, ap length c); fills = λ m z. ap (sets m at) c; uses-inside = tt }
  line_by x e as_end = record { given-long = λ next. refl; raw-within = omega arith; fills = λ m z. refl; uses-inside = tt }

  -- as many cells are given as are claimed, and no more are written; over zeros, with the labels' words filled in, they are those that are
  -- given; and each label's cell is among them
  pub line-cells : {l : Option Name} (r : Reading) {s : Statement} → Says bytes l r → judged r ≡ Ok s → LineCells bs k bytes at r s
  line-cells r x e = line_by x (statement-read bytes r x e) (passes_as r e)
