-- The columns of Columns.antt are those of Points.antt. Top.antt restates it.
use Prim.Native.Nat.{ℕ, ◌+◌, ◌≤◌, ◌<◌}
use mathlib.Core.Bool.{Bool, true, false, cond, ◌||◌}
use mathlib.Core.List.{List, [], ◌∷◌}
use mathlib.Core.Logic.{◌↔◌}
use mathlib.Core.Path.{◌≡◌, refl, sym, ap, subst, ◌∙◌}
use native.Mathlib.Omega.{arith}
use lib.Dec.{eqb, ltb}
use lib.IntN.{ℤ}
use lib.ListN.{length, get_or-eq_default}
use mir.Syntax.{w16}
use mir.Val.{of_z}
use borrow.Author.Tests.{eqb-true, ltb-true, ltb-false}
use Rattle.isa.specs.Opcodes.{table, opcodes, opcode_of, count_of}
use Rattle.isa.specs.Operands.{allows}
use Rattle.isa.specs.declared.Opcode.{Opcode}
use Rattle.isa.proofs.Numbers.{each}
use Rattle.tokens.specs.Reading.{tokens_from}
use Rattle.tokens.specs.declared.Token.{Token}
use Rattle.tokens.proofs.Top.{line_row, one-row}
use Rattle.names.specs.Names.{word_of}
use Rattle.names.specs.declared.Word.{Word}
use Rattle.names.specs.declared.Word.TheVariants as W
use Rattle.values.specs.declared.Name.{Name}
use Rattle.expressions.specs.Worths.{Worth}
use Rattle.expressions.specs.Places.{found_of, fault_place, fault_in, place_or, Place}
use Rattle.expressions.specs.Reading as Expressions
use Rattle.expressions.specs.Reading.{expression_read}
use Rattle.std.proofs.Common.{Result, Ok, Err}
use Rattle.operands.specs.declared.Operands.{Operands}
use Rattle.expressions.specs.declared.Fault.TheVariants.{OutOfRange, ByZero}
use Rattle.items.specs.declared.ItemsFault.{ItemsFault}
use Rattle.items.specs.declared.ItemsFault.TheVariants.{WrongForm, OutOfRange}
use Rattle.expressions.specs.declared.Malformed.{Malformed}
use Rattle.expressions.specs.declared.Malformed.TheVariants.{TooDeep, WrongForm}
use Rattle.operands.specs.declared.OperandsFault.{OperandsFault}
use Rattle.operands.specs.declared.OperandsFault.TheVariants.{WrongForm, WrongCount, WrongKind, OutOfRange}
use Rattle.expressions.proofs.Top as Expressed
use Rattle.operands.specs.Operands.{word_at, OperandField}
use Rattle.operands.specs.Checks as Checks
use Rattle.operands.specs.Checks.{instruction_read, kinds_at, kind_allowed, right_count, operand_at, operand_with}
use Rattle.operands.specs.Places.{OperandStart, operand_start_in}
use Rattle.operands.specs.declared.Written.{Written}
use Rattle.operands.specs.declared.Written.TheVariants.{Absent}
use Rattle.operands.proofs.Exactly.{FirstWrong, first-wrong, second-wrong}
use Rattle.operands.proofs.Top as Operands
use Rattle.items.specs.Items.{Item, Items, all_in_range}
use Rattle.items.specs.Reading.{items_read}
use Rattle.items.proofs.Top as Itemed
use Rattle.statements.specs.Statements.{label, Labelled}
use Rattle.statements.specs.Checks.{least_unsigned, least_signed, result_in}
use Rattle.statements.specs.Judging.{result_of, instruction_result}
use Rattle.statements.specs.Reading.{is_word, after_label, by_word, statement_read, line_read, expression_result, items_result}
use Rattle.statements.specs.declared.Failure.{Failure}
use Rattle.statements.specs.declared.Failure.TheVariants.{WrongForm, WrongKind, TooDeep, OutOfRange, ByZero, ResultOut}
use Rattle.statements.specs.declared.Statement.{Statement as Said}
use Rattle.statements.specs.declared.Statement.TheVariants.{Org, Equ, Res}
use Rattle.statements.proofs.Labelling.{never, word-kind, label_after, Labels, label_is, none_is, labels, goes_on_lem, behind-label}
use Rattle.statements.proofs.Top.{label-exactly, label-within}
use Rattle.faults.specs.Faults.{Column, column}
use Rattle.faults.specs.Walk.{place}
use Rattle.faults.proofs.Top as Faults
use Rattle.columns.specs.Points as P
use Rattle.columns.specs.Points.{AfterLabel, labelled, unlabelled, Statement, TakesExpression, org, equ, res, OfWord, unknown, count, result, Points, operand_of}
use Rattle.columns.specs.Columns.{column_at, label_column_by, label_column, word_column_in, word_column, place_by, place_in, column_of, pointed_at, again_by, read_again, pointed}
use Rattle.columns.proofs.Bounds.{Below, row_below, placed_bounded, fault_below, deep-below, form-below, operand_below, number_out_below, item_out_below}
use Rattle.columns.proofs.Found.{in_line, of_checks}

-- ---- the statement

after_is : {ts us : List Token} → AfterLabel ts us → after_label ts ≡ us
after_is (labelled l) = label_after l
after_is (unlabelled {ts} none) = go (labels ts)
  where
    go : Labels ts → after_label ts ≡ ts
    go (label_is n us l) = absurd (none n us l)
    go (none_is _ _ g) = g

after-there : (ts : List Token) → AfterLabel ts (after_label ts)
after-there ts = go (labels ts)
  where
    go : Labels ts → AfterLabel ts (after_label ts)
    go (label_is n us l) = subst (AfterLabel ts) (sym (label_after l)) (labelled l)
    go (none_is none _ g) = subst (AfterLabel ts) (sym g) (unlabelled none)

after-below : (n : ℕ) {ts us : List Token} → AfterLabel ts us → Below n ts → Below n us
after-below n (labelled (label k m d)) h = h.1.1
after-below n (unlabelled none) h = h

module _ (line : List ℕ) {w : Token} {x : Word} {ts : List Token} (s : Statement line w x ts) where
  its-row : after_label (tokens_from line 0) ≡ w ∷ ts
  its-row = ap after_label (one-row (line_row line) s.row) ∙ after_is s.after

  its-reading : (line_read line).statement ≡ by_word line x ts
  unfolding line_read statement_read
  its-reading = ap (statement_read line) its-row ∙ rw (s.word.word, s.word.means)

  its-place : (why : Failure) → place_in line why (after_label (tokens_from line 0)) ≡ place_by line why w.start x ts
  unfolding place_in
  its-place why = ap (place_in line why) its-row ∙ rw (s.word.word, s.word.means)

  its-below : Below (length line) (w ∷ ts)
  its-below = after-below (length line) s.after (subst (Below (length line)) (one-row (line_row line) s.row) (row_below line))

  -- its column, where the place is within the line
  its-column : (why : Failure) {p : ℕ} → place_by line why w.start x ts ≡ p → p ≤ length line → column_of line why ≡ p + 1
  unfolding column_of
  its-column why {p} e l = ap (column_at line) (its-place why ∙ e) ∙ in_line line p l

-- ---- wrong form

form-place : (line : List ℕ) (ts : List Token) → place_in line WrongForm ts ≡ place line
unfolding place_in
form-place line [] = refl
form-place line (w ∷ ts) = go (is_word w.kind)
  where
    go : (b : Bool) → cond b (place line) (place line) ≡ place line
    go true = refl
    go false = refl

form-column : (line : List ℕ) {c : ℕ} → Column line c → column_of line WrongForm ≡ c
unfolding column_of
form-column line (column f) =
    let e = Faults.one-column (column f) in
    let l = form-below f in
    ap (column_at line) (form-place line (after_label (tokens_from line 0))) ∙ in_line line (place line) (omega (arith, e, l)) ∙ e

-- ---- expressions

-- what an expression's reading fails by
data Why : Result Worth Malformed → Failure → Type 0 where
  form : Why (Err WrongForm) WrongForm
  deep : Why (Err TooDeep) TooDeep
  out : Why (Ok (Err OutOfRange)) OutOfRange
  zero : Why (Ok (Err ByZero)) ByZero
  result-out : {z : ℤ} → Why (Ok (Ok z)) ResultOut

fails-one : {f g : Failure} → ◌≡◌ {A = Result Said Failure} (Err f) (Err g) → f ≡ g
fails-one e = cc

why_of : (least : ℤ) (makes : ℕ → Said) (r : Result Worth Malformed) {why : Failure} → expression_result least makes r ≡ Err why → Why r why
unfolding result_of
why_of least makes (Ok (Ok z)) {why} e = go (result_in least z) e
  where
    go : (b : Bool) → cond b (Ok (makes (of_z w16 z))) (Err ResultOut) ≡ Err why → Why (Ok (Ok z)) why
    go true e = never (cc)
    go false e = subst (Why (Ok (Ok z))) (fails-one e) result-out
why_of least makes (Ok (Err OutOfRange)) e = subst (Why (Ok (Err OutOfRange))) (fails-one e) out
why_of least makes (Ok (Err ByZero)) e = subst (Why (Ok (Err ByZero))) (fails-one e) zero
why_of least makes (Err TooDeep) e = subst (Why (Err TooDeep)) (fails-one e) deep
why_of least makes (Err WrongForm) e = subst (Why (Err WrongForm)) (fails-one e) form

why_said : (line : List ℕ) {x : Word} (ts : List Token) {why : Failure} → TakesExpression x → by_word line x ts ≡ Err why → Why (expression_read ts) why
why_said line ts org e = why_of least_unsigned Org (expression_read ts) e
why_said line ts equ e = why_of least_signed Equ (expression_read ts) e
why_said line ts res e = why_of least_unsigned Res (expression_read ts) e

out-number : {r : Result Worth Malformed} → Why r OutOfRange → Expressions.refusal_of r ≡ 6
out-number out = refl

zero_number : {r : Result Worth Malformed} → Why r ByZero → Expressions.refusal_of r ≡ 7
zero_number zero = refl

out-place : (line : List ℕ) {x : Word} (at : ℕ) (ts : List Token) → TakesExpression x → place_by line OutOfRange at x ts ≡ fault_in ts
out-place line at ts org = refl
out-place line at ts equ = refl
out-place line at ts res = refl

-- ---- an operand that is wrong in kind

abbrev there : ℕ → Opcode → Bool
there i op = kind_allowed op [] i || ltb i (count_of op)

first-there : (op : Opcode) → there 0 op ≡ true
unfolding allows opcode_of opcodes table count_of
first-there op = each (there 0) refl op

second-there : (op : Opcode) → there 1 op ≡ true
unfolding allows opcode_of opcodes table count_of
second-there op = each (there 1) refl op

wrong-there : (op : Opcode) (os : List Written) (i : ℕ) → there i op ≡ true → right_count op os ≡ true → kind_allowed op os i ≡ false → i < length os
wrong-there op os i t c k = go (ltb i (length os)) refl
  where
    many : length os ≡ count_of op
    many = eqb-true (length os) (count_of op) c

    go : (b : Bool) → ltb i (length os) ≡ b → i < length os
    go true e = ltb-true i (length os) e
    go false e =
        let l : length os ≤ i = ltb-false i (length os) e in
        let a : operand_at os i ≡ Absent = get_or-eq_default os Absent l in
        let k' : kind_allowed op [] i ≡ false = ap (λ (o : Written). allows (kinds_at op i) (operand_with o 0)) (sym a) ∙ k in
        let t' : ltb i (count_of op) ≡ true = rw k' at t in
        omega (arith, ltb-true i (count_of op) t', many)

kind-exactly : (line : List ℕ) {ts : List Token} {i : ℕ} (op : Opcode) (os : List Written) → OperandField line ts os → right_count op os ≡ true
    → FirstWrong op os i → {p : ℕ} → (operand_start_in ts (cond (eqb i 2) 2 1) ≡ p) ↔ OperandStart line ts i p
kind-exactly line op os r c (first-wrong k) = Operands.operand_start_exactly line r 0 (wrong-there op os 0 (first-there op) c k)
kind-exactly line op os r c (second-wrong k l) = Operands.operand_start_exactly line r 1 (wrong-there op os 1 (second-there op) c l)

-- what an opcode's operands fail by
kind-told : (op : Opcode) (r : Result Operands OperandsFault) {i : ℕ} → instruction_result op r ≡ Err (WrongKind i) → r ≡ Err (WrongKind i)
kind-told op (Ok r) e = never (cc)
kind-told op (Err WrongForm) e = never (cc)
kind-told op (Err WrongCount) e = never (cc)
kind-told op (Err (WrongKind j)) e = cc
kind-told op (Err OutOfRange) e = never (cc)

range_told : (op : Opcode) (r : Result Operands OperandsFault) → instruction_result op r ≡ Err OutOfRange → Checks.refusal_of r ≡ 6
range_told op (Ok r) e = never (cc)
range_told op (Err WrongForm) e = never (cc)
range_told op (Err WrongCount) e = never (cc)
range_told op (Err (WrongKind j)) e = never (cc)
range_told op (Err OutOfRange) e = refl

items-told : (r : Result ℕ ItemsFault) → items_result r ≡ Err OutOfRange → r ≡ Err OutOfRange
items-told (Ok n) e = never (cc)
items-told (Err WrongForm) e = never (cc)
items-told (Err OutOfRange) e = refl

-- ---- one column

word-place : (line : List ℕ) (at : ℕ) (x : Word) (ts : List Token) {why : Failure} → OfWord why → place_by line why at x ts ≡ at
word-place line at x ts unknown = refl
word-place line at x ts count = refl
word-place line at x ts result = refl

module _ (line : List ℕ) where
  -- the row behind the word is again a row of the line
  row_at : (at : ℕ) × (after_label (tokens_from line 0) ≡ tokens_from line at)
  row_at = go (labels (tokens_from line 0))
    where
      go : Labels (tokens_from line 0) → (at : ℕ) × (after_label (tokens_from line 0) ≡ tokens_from line at)
      go (label_is n us l) = let h = behind-label line 0 l in (h.0, label_after l ∙ h.1)
      go (none_is _ _ g) = (0, g)

  behind-word : {w : Token} {x : Word} {ts : List Token} → Statement line w x ts → ts ≡ tokens_from line w.next.at
  behind-word s =
      let k = s.word.word in
      goes_on_lem line row_at.0 (sym row_at.1 ∙ its-row line s) (λ z. never (cc))

  items-are : {w : Token} {ts : List Token} → Statement line w W.Data ts → items_read line ts ≡ Err OutOfRange
      → (is : List Item) × Items line ts is × (all_in_range is ≡ false)
  items-are {w} {ts} s e =
      let q = behind-word s in
      let h = (Itemed.range_exactly line w.next.at).0 (ap (items_read line) (sym q) ∙ e) in
      (h.0, subst (λ (us : List Token). Items line us h.0) (sym q) h.1, h.2)

  pub one : {why : Failure} {c : ℕ} → Points line why c → (line_read line).statement ≡ Err why → column_of line why ≡ c
  one (P.word {why} {w} {x} {ts} k s) f = its-column line s why (word-place line w.start x ts k) (its-below line s).0
  one (P.form c) f = form-column line c
  one (P.kind {op = op} {ts} {i} {p} s o) f =
      let m = (Operands.place-exactly line ts op).0 (kind-told op (instruction_read line op ts) (sym (its-reading line s) ∙ f)) in
      let e = (kind-exactly line op m.operands m.reading m.counted m.wrong-there).1 o in
      its-column line s (WrongKind i) e (omega (arith, e, operand_below (length line) ts (cond (eqb i 2) 2 1) (its-below line s).1))
  one (P.deep {ts = ts} {e = e} {p} s t r d) f =
      let l = deep-below (length line) 0 e (placed_bounded (length line) r (its-below line s).1) in
      its-column line s TooDeep ((Expressed.deep-place ts).1 (e, r, d)).1 (omega (arith, l, ap (λ (x : Place). place_or x 0) d))
  one (P.zero {ts = ts} {e = e} {p} s t r q) f =
      let l = fault_below (length line) e (placed_bounded (length line) r (its-below line s).1) in
      let n = zero_number (why_said line ts t (sym (its-reading line s) ∙ f)) in
      let h = (Expressed.fault_exactly ts).1.0 (n, refl) in
      let g : fault_in ts ≡ p = ap fault_place (sym h.3 ∙ ap found_of (Expressed.one_placed h.1 r) ∙ q) in
      its-column line s ByZero g (omega (arith, l, ap fault_place q))
  one (P.out {w = w} {ts = ts} {e = e} {p} s t r q) f =
      let l = fault_below (length line) e (placed_bounded (length line) r (its-below line s).1) in
      let n = out-number (why_said line ts t (sym (its-reading line s) ∙ f)) in
      let h = (Expressed.fault_exactly ts).0.0 (n, refl) in
      let g : fault_in ts ≡ p = ap fault_place (sym h.3 ∙ ap found_of (Expressed.one_placed h.1 r) ∙ q) in
      its-column line s OutOfRange (out-place line w.start ts t ∙ g) (omega (arith, l, ap fault_place q))
  one (P.operand-out {op = op} {ts} s o) f =
      let m = (Operands.range_exactly line ts op).0 (range_told op (instruction_read line op ts) (sym (its-reading line s) ∙ f)) in
      let e = (Operands.number_out_exactly line m.reading m.out_of_range).1 o in
      its-column line s OutOfRange e (omega (arith, e, number_out_below (length line) line ts (its-below line s).1))
  one (P.item_out {ts = ts} s o) f =
      let m = items-are s (items-told (items_read line ts) (sym (its-reading line s) ∙ f)) in
      let e = (Itemed.number_out_exactly line m.1 m.2).1 o in
      its-column line s OutOfRange e (omega (arith, e, item_out_below (length line) true ts (its-below line s).1))

  -- ---- some column

  abbrev Pointed : Failure → Type 0
  Pointed why = (c : ℕ) × Points line why c

  form-pointed : (line_read line).statement ≡ Err WrongForm → Pointed WrongForm
  form-pointed f = (place line + 1, P.form (Faults.refused_has_column line f))

  expression-pointed : {w : Token} {x : Word} {ts : List Token} {why : Failure} {r : Result Worth Malformed} → Statement line w x ts → TakesExpression x
      → expression_read ts ≡ r → (line_read line).statement ≡ Err why → Why r why → Pointed why
  expression-pointed s t e f form = form-pointed f
  expression-pointed {ts = ts} s t e f deep = let h = (Expressed.deep-place ts).0 (e, refl) in (_, P.deep s t h.1 h.2)
  expression-pointed {ts = ts} s t e f out =
      let h = (Expressed.fault_exactly ts).0.0 (ap Expressions.refusal_of e, refl) in (_, P.out s t h.1 h.3)
  expression-pointed {ts = ts} s t e f zero =
      let h = (Expressed.fault_exactly ts).1.0 (ap Expressions.refusal_of e, refl) in (_, P.zero s t h.1 h.3)
  expression-pointed s t e f result-out = (_, P.word result s)

  instruction-pointed : {w : Token} {op : Opcode} {ts : List Token} {why : Failure} → Statement line w (W.Instructs op) ts
      → (line_read line).statement ≡ Err why → (r : Result Operands OperandsFault) → instruction_read line op ts ≡ r → instruction_result op r ≡ Err why
      → Pointed why
  instruction-pointed s f (Ok r) q e = never (cc)
  instruction-pointed s f (Err WrongForm) q e = subst Pointed (fails-one e) (form-pointed (f ∙ sym e))
  instruction-pointed s f (Err WrongCount) q e = subst Pointed (fails-one e) (_, P.word count s)
  instruction-pointed {op = op} {ts} s f (Err (WrongKind i)) q e =
      let m = (Operands.place-exactly line ts op).0 q in
      subst Pointed (fails-one e) (_, P.kind s ((kind-exactly line op m.operands m.reading m.counted m.wrong-there).0 refl))
  instruction-pointed {op = op} {ts} s f (Err OutOfRange) q e =
      let m = (Operands.range_exactly line ts op).0 (ap Checks.refusal_of q) in
      subst Pointed (fails-one e) (_, P.operand-out s ((Operands.number_out_exactly line m.reading m.out_of_range).0 refl))

  items-pointed : {w : Token} {ts : List Token} {why : Failure} → Statement line w W.Data ts → (line_read line).statement ≡ Err why
      → (r : Result ℕ ItemsFault) → items_read line ts ≡ r → items_result r ≡ Err why → Pointed why
  items-pointed s f (Ok n) q e = never (cc)
  items-pointed s f (Err WrongForm) q e = subst Pointed (fails-one e) (form-pointed (f ∙ sym e))
  items-pointed s f (Err OutOfRange) q e =
      let m = items-are s q in
      subst Pointed (fails-one e) (_, P.item_out s ((Itemed.number_out_exactly line m.1 m.2).0 refl))

  word-pointed : {w : Token} {ts : List Token} {why : Failure} (x : Word) → Statement line w x ts → (line_read line).statement ≡ Err why
      → by_word line x ts ≡ Err why → Pointed why
  word-pointed {ts = ts} (W.Instructs op) s f e = instruction-pointed s f (instruction_read line op ts) refl e
  word-pointed {ts = ts} W.Org s f e = expression-pointed s org refl f (why_said line ts org e)
  word-pointed {ts = ts} W.Equ s f e = expression-pointed s equ refl f (why_said line ts equ e)
  word-pointed {ts = ts} W.Res s f e = expression-pointed s res refl f (why_said line ts res e)
  word-pointed {ts = ts} W.Data s f e = items-pointed s f (items_read line ts) refl e
  word-pointed W.End s f e = never (cc)
  word-pointed W.Unknown s f e = subst Pointed (fails-one e) (_, P.word unknown s)

  pub some : {why : Failure} → (line_read line).statement ≡ Err why → Pointed why
  unfolding line_read statement_read
  some {why} f = by_row (after_label (tokens_from line 0)) refl f
    where
      by_kind : (w : Token) (ts : List Token) → after_label (tokens_from line 0) ≡ w ∷ ts → (b : Bool) → is_word w.kind ≡ b
          → cond b (by_word line (word_of (word_at line w)) ts) (Err WrongForm) ≡ Err why → Pointed why
      by_kind w ts q true k e =
          word-pointed (word_of (word_at line w))
          (record {
            tokens = tokens_from line 0;
            row = line_row line;
            after = subst (AfterLabel (tokens_from line 0)) q (after-there (tokens_from line 0));
            word = record { word = word-kind w.kind k; means = refl };
          }) f e
      by_kind w ts q false k e = subst Pointed (fails-one e) (form-pointed (f ∙ sym e))

      by_row : (us : List Token) → after_label (tokens_from line 0) ≡ us → statement_read line us ≡ Err why → Pointed why
      by_row [] q e = never (cc)
      by_row (w ∷ ts) q e = by_kind w ts q (is_word w.kind) refl e

-- ---- exactly

pub exactly : (line : List ℕ) {why : Failure} {c : ℕ} → (line_read line).statement ≡ Err why → (column_of line why ≡ c) ↔ Points line why c
exactly line {why} f =
    let h = some line f in
    (λ e. subst (Points line why) (sym (one line h.1 f) ∙ e) h.1, λ p. one line p f)

-- ---- what `pointed` hands back

module _ (line : List ℕ) (number : ℕ) (nine : number ≡ 9 → ⊥) (ten : number ≡ 10 → ⊥) (eleven : number ≡ 11 → ⊥) (twelve : number ≡ 12 → ⊥) where
  pub failed : {why : Failure} → (line_read line).statement ≡ Err why → pointed line number ≡ pointed_at (column_of line why) (operand_of why)
  unfolding read_again
  failed e = of_checks line number nine ten eleven twelve ∙ ap (again_by line) e

  pub passed : {s : Said} → (line_read line).statement ≡ Ok s → pointed line number ≡ pointed_at (word_column line) 0
  unfolding read_again
  passed e = of_checks line number nine ten eleven twelve ∙ ap (again_by line) e

-- ---- the label and the word

module _ (line : List ℕ) where
  pub label-column : {n : Name} → Labelled line n → label_column line ≡ n.start + 1
  unfolding line_read label_column
  label-column {n} x =
      let within = label-within line x in
      ap (label_column_by line) ((label-exactly line n).1 x) ∙ in_line line n.start (omega (arith, within.0, within.1))

  pub word-column : {w : Token} {x : Word} {ts : List Token} → Statement line w x ts → word_column line ≡ w.start + 1
  unfolding word_column word_column_in
  word-column {w} s = ap (word_column_in line) (its-row line s) ∙ rw s.word.word (in_line line w.start (its-below line s).0)
