-- A comment may be added to any line of an accepted source: its lines up to END have whole tokens, as they pass their checks; what comes
-- after END, on its own line and below, is ignored.
use Prim.Native.Nat.{ℕ, ◌+◌, ◌≤◌}
use mathlib.Core.Bool.{Bool, true, false, cond, not, ◌||◌}
use mathlib.Core.List.{List, [], ◌∷◌, ◌++◌}
use mathlib.Core.Path.{◌≡◌, refl, sym, ap, subst, subst₂, ◌∙◌}
use lib.Dec.{leb, ltb, eqb}
use lib.IntN.{ℤ}
use lib.ListN.{length}
use mir.Syntax.{w16}
use mir.Val.{of_z}
use borrow.Author.Tests.{ltb-false}
use Rattle.isa.specs.declared.Opcode.{Opcode}
use Rattle.tokens.specs.Lines.{Lines}
use Rattle.tokens.specs.Reading.{lines_of, tokens_from}
use Rattle.tokens.proofs.Top.{source_lines, one_list, line_row}
use Rattle.tokens.proofs.Spacing.{Over}
use Rattle.tokens.proofs.Respacing.{NoStray, line-itself, comment-added}
use Rattle.std.proofs.Common.{Option, Result, Ok, Err}
use Rattle.operands.specs.declared.Operands.{Operands}
use Rattle.values.specs.declared.Name.{Name}
use Rattle.operands.specs.declared.OperandsFault.{OperandsFault}
use Rattle.values.proofs.Spacing.{none, some}
use Rattle.codes.specs.Limits.{deepest, most_cells, longest_source}
use Rattle.expressions.specs.Trees.{Tree, depth}
use Rattle.expressions.specs.Worths.{worth_of, Worth}
use Rattle.operands.specs.Checks as Operands
use Rattle.items.specs.Items.{cells_of, all_in_range}
use Rattle.statements.specs.Checks.{result_in, least_unsigned, least_signed}
use Rattle.statements.specs.Judging.{result_of, worth_result, tree_result, instruction_result, judged}
use Rattle.statements.specs.Reading.{line_read}
use Rattle.statements.specs.Statements.{Reading, nothing, instruction, org, equ, res, cells, end, Says}
use Rattle.statements.specs.declared.Failure.{Failure}
use Rattle.statements.specs.declared.Failure.TheVariants.{OutOfRange, TooDeep, ResultOut}
use Rattle.statements.specs.declared.Statement.{Statement}
use Rattle.statements.specs.declared.Statement.TheVariants as S
use Rattle.statements.proofs.Labelling.{never}
use Rattle.statements.proofs.Spacing.{ReadAlike, alike_read}
use Rattle.statements.proofs.Top.{says-exactly}
use Rattle.sources.specs.Placing.{does_read, Place, start, labelled, after}
use Rattle.sources.specs.Order.{Refusal, ◌on◌}
use Rattle.sources.specs.Inner.Assembling.{Verdict, passes, refused, first_of, and_then, read_line, ends_it, up_to_end, loan_verdict, label_verdict, own_verdict, act_verdict, line_verdict, walk_lines, work_of, verdict_of, late_verdict, memory_of, assembled_by, accepted, assemble_of}
use Rattle.sources.proofs.Spacing.{Lists, cut-alike, ends_same, loans-same, parts_same}
use Rattle.sources.proofs.CommentLines.{comment_line_same}
use Rattle.sources.proofs.WholeLines.{line-whole}
use Rattle.sources.proofs.EndLines.{end-comment}

-- ---- what comes to END says END

module _ (least : ℤ) (makes : ℕ → Statement) (n : (v : ℕ) → makes v ≡ S.End → ⊥) where
  kept_no_end : (y : Bool) (v : ℕ) (why : Failure) → cond y (Ok (makes v)) (Err why) ≡ Ok S.End → ⊥
  kept_no_end true v why e = n v (cc e)
  kept_no_end false v why e = never (cc e)

  worth_no_end : (w : Worth) → worth_result least makes w ≡ Ok S.End → ⊥
  unfolding result_of
  worth_no_end (Ok z) e = kept_no_end (result_in least z) (of_z w16 z) ResultOut e
  worth_no_end (Err why) e = never (cc e)

  deep_no_end : (y : Bool) (w : Worth) (why : Failure) → cond y (worth_result least makes w) (Err why) ≡ Ok S.End → ⊥
  deep_no_end true w why e = worth_no_end w e
  deep_no_end false w why e = never (cc e)

  tree_no_end : (t : Tree) → tree_result least makes t ≡ Ok S.End → ⊥
  unfolding tree_result
  tree_no_end t e = deep_no_end (leb (depth t) deepest) (worth_of t) TooDeep e

instruction_no_end : (op : Opcode) (r : Result Operands OperandsFault) → instruction_result op r ≡ Ok S.End → ⊥
instruction_no_end op (Ok r) e = never (cc e)
instruction_no_end op (Err why) e = never (cc e)

data_no_end : (y : Bool) (n : ℕ) (why : Failure) → cond y (Ok (S.Data n)) (Err why) ≡ Ok S.End → ⊥
data_no_end true n why e = never (cc e)
data_no_end false n why e = never (cc e)

judged-end : (r : Reading) → judged r ≡ Ok S.End → r ≡ end
unfolding judged
judged-end nothing e = never (cc e)
judged-end (instruction op os) e = absurd (instruction_no_end op (Operands.judged op os) e)
judged-end (org t) e = absurd (tree_no_end least_unsigned S.Org (λ v q. never (cc q)) t e)
judged-end (equ t) e = absurd (tree_no_end least_signed S.Equ (λ v q. never (cc q)) t e)
judged-end (res t) e = absurd (tree_no_end least_unsigned S.Res (λ v q. never (cc q)) t e)
judged-end (cells is) e = absurd (data_no_end (all_in_range is) (length (cells_of is)) OutOfRange e)
judged-end end e = refl

says-end : (b : List ℕ) → (line_read b).statement ≡ Ok S.End → (l : Option Name) × Says b l end
says-end b e =
    let f : line_read b ≡ record { label = (line_read b).label; statement = Ok S.End } =
    ap (λ (x : Result Statement Failure). record { label = (line_read b).label; statement = x }) e in
    let h = (says-exactly b).0 f in
    ((line_read b).label, subst (Says b (line_read b).label) (judged-end h.0 h.2) h.1)

-- ---- what passes

both-pass : (v w : Verdict) → and_then v w ≡ passes → (v ≡ passes) × (w ≡ passes)
both-pass passes w e = (refl, e)
both-pass (refused why) w e = never (cc e)

own-passes : (k : ℕ) (r : Result Statement Failure) → own_verdict k r ≡ passes → (s : Statement) × (r ≡ Ok s)
own-passes k (Ok s) e = (s, refl)
own-passes k (Err why) e = never (cc e)

line-passes : (M k : ℕ) (p : Place) (b : List ℕ) → line_verdict M k p (read_line b) ≡ passes → (s : Statement) × ((line_read b).statement ≡ Ok s)
unfolding line_verdict
line-passes M k p b e =
    let act = act_verdict M k (labelled p b (line_read b).label) (does_read (line_read b).statement) in
    let h = both-pass (label_verdict k p b (line_read b).label) (and_then (own_verdict k (line_read b).statement) act) e in
    own-passes k (line_read b).statement (both-pass (own_verdict k (line_read b).statement) act h.1).0

short_by : (x y : Bool) (a b : Refusal) → cond x (refused a) (cond y (refused b) passes) ≡ passes → y ≡ false
short_by true y a b e = never (cc e)
short_by false true a b e = never (cc e)
short_by false false a b e = refl

loan-short : (M N : ℕ) (source : List ℕ) → loan_verdict M N source ≡ passes → length source ≤ longest_source
unfolding loan_verdict first_of
loan-short M N source e = ltb-false longest_source (length source)
    (short_by (eqb M 0 || (ltb most_cells M || not (eqb N M))) (ltb longest_source (length source)) (1 on 0) (2 on 0) e)

-- ---- a whole line among others

-- a line that passes reads alike with a comment or blanks at its end
passing-alike : (b tail : List ℕ) → Over tail → (s : Statement) → (line_read b).statement ≡ Ok s → ReadAlike b (b ++ tail)
passing-alike b tail o s e = go s e
  where
    whole : NoStray (tokens_from b 0) → ReadAlike b (b ++ tail)
    whole n = alike_read (comment-added true tail (line_row b) n o)

    go : (s : Statement) → (line_read b).statement ≡ Ok s → ReadAlike b (b ++ tail)
    go S.Nothing e = whole (line-whole b e (λ q. never (cc q)))
    go (S.Instruction op x y) e = whole (line-whole b e (λ q. never (cc q)))
    go (S.Org v) e = whole (line-whole b e (λ q. never (cc q)))
    go (S.Equ v) e = whole (line-whole b e (λ q. never (cc q)))
    go (S.Res v) e = whole (line-whole b e (λ q. never (cc q)))
    go (S.Data n) e = whole (line-whole b e (λ q. never (cc q)))
    go S.End e = end-comment tail (says-end b e).1 o

read-itself : (b : List ℕ) → ReadAlike b b
read-itself b = alike_read (line-itself true b)

lists-itself : (bs : List (List ℕ)) → Lists bs bs
lists-itself [] = none
lists-itself (b ∷ bs) = some (read-itself b) (lists-itself bs)

-- one line for another that reads alike if it passes
module _ (M : ℕ) (b b' : List ℕ) (ys : List (List ℕ)) (reads : (s : Statement) → (line_read b).statement ≡ Ok s → ReadAlike b b') where
  changed : (k : ℕ) (p : Place) (xs : List (List ℕ)) → walk_lines M k p (up_to_end (xs ++ (b ∷ ys))) ≡ passes
      → Lists (up_to_end (xs ++ (b ∷ ys))) (up_to_end (xs ++ (b' ∷ ys)))
  unfolding up_to_end walk_lines
  changed k p [] e =
      let further = walk_lines M (k + 1) (after p (read_line b)) (cond (ends_it (line_read b).statement) [] (up_to_end ys)) in
      let s = line-passes M k p b (both-pass (line_verdict M k p (read_line b)) further e).0 in
      let h = reads s.0 s.1 in
      some h (cut-alike (ends_it (line_read b).statement) (ends_it (line_read b').statement) (ends_same b b' h.statement) (lists-itself (up_to_end ys)))
  changed k p (x ∷ xs) e =
      let further = walk_lines M (k + 1) (after p (read_line x)) (cond (ends_it (line_read x).statement) [] (up_to_end (xs ++ (b ∷ ys)))) in
      some (read-itself x)
      (go (ends_it (line_read x).statement) (both-pass (line_verdict M k p (read_line x)) further e).1 (changed (k + 1) (after p (read_line x)) xs))
    where
      go : (y : Bool) → walk_lines M (k + 1) (after p (read_line x)) (cond y [] (up_to_end (xs ++ (b ∷ ys)))) ≡ passes
          → (walk_lines M (k + 1) (after p (read_line x)) (up_to_end (xs ++ (b ∷ ys))) ≡ passes
          → Lists (up_to_end (xs ++ (b ∷ ys))) (up_to_end (xs ++ (b' ∷ ys))))
          → Lists (cond y [] (up_to_end (xs ++ (b ∷ ys)))) (cond y [] (up_to_end (xs ++ (b' ∷ ys))))
      go true e f = none
      go false e f = f e

-- ---- the theorem

accepted-passes : (v : Verdict) (m k : List ℕ) {memory marks : List ℕ} → assembled_by v m k ≡ accepted memory marks → v ≡ passes
accepted-passes passes m k e = refl
accepted-passes (refused why) m k e = never (cc e)

verdict-passes : (M N : ℕ) (source : List ℕ) {memory marks : List ℕ} → assemble_of M N source ≡ accepted memory marks
    → (loan_verdict M N source ≡ passes) × (walk_lines M 1 (start M) (up_to_end (lines_of source)) ≡ passes)
unfolding assemble_of verdict_of
verdict-passes M N source e =
    let walked = walk_lines M 1 (start M) (up_to_end (lines_of source)) in
    let late = late_verdict (work_of M source) (length (up_to_end (lines_of source))) in
    let v = accepted-passes (verdict_of M N source) (memory_of (work_of M source)) (work_of M source).place.marks e in
    let h = both-pass (loan_verdict M N source) (and_then walked late) v in
    (h.0, (both-pass walked late h.1).0)

-- Adding a comment changes no image: a comment, or blanks, at the end of any line of an accepted source, if the source stays as short as
-- sources must be.
pub comment-accepted : (M N : ℕ) {source source' : List ℕ} (xs ys : List (List ℕ)) (b tail : List ℕ) {memory marks : List ℕ}
    → Lines source (xs ++ (b ∷ ys))
    → Lines source' (xs ++ ((b ++ tail) ∷ ys))
    → Over tail
    → length source' ≤ longest_source
    → assemble_of M N source ≡ accepted memory marks
    → assemble_of M N source' ≡ accepted memory marks
comment-accepted M N {source} {source'} xs ys b tail has has' o n' e =
    let p = verdict-passes M N source e in
    let q : xs ++ (b ∷ ys) ≡ lines_of source = one_list has (source_lines source) in
    let q' : xs ++ ((b ++ tail) ∷ ys) ≡ lines_of source' = one_list has' (source_lines source') in
    let walked : walk_lines M 1 (start M) (up_to_end (xs ++ (b ∷ ys))) ≡ passes = rw q p.1 in
    let l = changed M b (b ++ tail) ys (passing-alike b tail o) 1 (start M) xs walked in
    let same = parts_same M N source source' (loans-same M N source source' (loan-short M N source p.0) n')
    (subst₂ (λ (bs bs' : List (List ℕ)). Lists (up_to_end bs) (up_to_end bs')) q q' l) in
    sym same ∙ e

-- Nor does a line of blanks and a comment alone, put before, between or after the lines of an accepted source.
pub comment_line_accepted : (M N : ℕ) {source source' : List ℕ} (xs ys : List (List ℕ)) (c : List ℕ) {memory marks : List ℕ}
    → Lines source (xs ++ ys)
    → Lines source' (xs ++ (c ∷ ys))
    → Over c
    → length source' ≤ longest_source
    → assemble_of M N source ≡ accepted memory marks
    → assemble_of M N source' ≡ accepted memory marks
comment_line_accepted M N {source} xs ys c has has' o n' e =
    comment_line_same M N xs ys c has has' o (loan-short M N source (verdict-passes M N source e).0) n' e
