-- Two lines with the same tokens, whatever blanks and comments stand between and after them (tokens' Spacing.antt), read alike: labels with
-- the same bytes, the same statement and cells, the same failure.
use Rattle.expressions.specs.Worths.{Worth}
use Prim.Native.Nat.{ℕ}
use Prim.Native.Char.{code}
use mathlib.Core.Bool.{Bool, true, false, cond, ◌&&◌, false≢true}
use mathlib.Core.List.{List, ◌∷◌}
use mathlib.Core.Path.{◌≡◌, refl, sym, ap, subst, subst₂, ◌∙◌}
use lib.Dec.{eqb, T}
use lib.IntN.{ℤ}
use lib.Seq.{slice}
use mir.Syntax.{w16}
use mir.Val.{of_z}
use Rattle.isa.specs.declared.Opcode.{Opcode}
use Rattle.tokens.specs.Rows.{token, RowOf}
use Rattle.tokens.specs.Reading.{tokens_from}
use Rattle.tokens.specs.declared.Kind.{Kind}
use Rattle.tokens.specs.declared.Kind.TheVariants as K
use Rattle.tokens.specs.declared.Token.{Token}
use Rattle.tokens.proofs.Top.{line_row, one-row}
use Rattle.tokens.proofs.Spacing.{AsDirectly, AlikeRow, over, next, Alike}
use Rattle.names.specs.Names.{word_of}
use Rattle.names.specs.declared.Word.{Word}
use Rattle.names.specs.declared.Word.TheVariants as W
use Rattle.values.specs.Values.{name_at}
use Rattle.std.proofs.Common.{Option, Some, None, Result, Ok, Err}
use Rattle.operands.specs.declared.Operands.{Operands}
use Rattle.items.specs.declared.ItemsFault.{ItemsFault}
use Rattle.expressions.specs.declared.Malformed.{Malformed}
use Rattle.operands.specs.declared.OperandsFault.{OperandsFault}
use Rattle.values.specs.declared.Name.{Name}
use Rattle.values.proofs.Spacing.{SameName, AlikeLabel, absent, named}
use Rattle.expressions.specs.Reading.{expression_read}
use Rattle.expressions.proofs.Spacing.{SameKinds, alike-kinds, expression-same}
use Rattle.operands.specs.Operands.{word_at}
use Rattle.operands.specs.declared.Given.{Given}
use Rattle.operands.proofs.Spacing.{AlikeGiven, AlikeRead, read, fails as refused, instruction-alike}
use Rattle.items.specs.Reading.{items_read}
use Rattle.items.proofs.Spacing.{items-same, cells_same}
use Rattle.statements.specs.Statements.{StatementWord, WordIn, behind, first, Says, HasWord}
use Rattle.statements.specs.Statements as R
use Rattle.statements.specs.Checks.{least_unsigned, least_signed, result_in}
use Rattle.statements.specs.Judging.{result_of, judged, instruction_result}
use Rattle.statements.specs.Reading.{is_word, is_colon, label_read, after_label, expression_result, items_result, by_word, statement_read, line_read}
use Rattle.statements.specs.Cells.{is_data, body_cells, cells_in}
use Rattle.statements.specs.declared.Failure.{Failure}
use Rattle.statements.specs.declared.Failure.TheVariants.{ResultOut}
use Rattle.statements.specs.declared.Statement.{Statement}
use Rattle.statements.specs.declared.Statement.TheVariants as S
use Rattle.statements.proofs.Labelling.{never, Labels, label_is, none_is, labels, label_after}
use Rattle.statements.proofs.Lines.{read-judged, one-reading}
use Rattle.statements.proofs.CellsGiven.{no_cells}

-- no operand, so no label's place
abbrev pub placeless : Statement → Bool
placeless S.Nothing = true
placeless (S.Instruction op a b) = false
placeless (S.Org v) = true
placeless (S.Equ v) = true
placeless (S.Res v) = true
placeless (S.Data n) = true
placeless S.End = true

module _ (line line' : List ℕ) where
  -- the same statement, with labels of the same bytes, or the same failure
  pub data AlikeStatement : Result Statement Failure → Result Statement Failure → Type 0 where
    instruction : {op : Opcode} {a a' b b' : Given} → AlikeGiven line line' a a' → AlikeGiven line line' b b'
        → AlikeStatement (Ok (S.Instruction op a b)) (Ok (S.Instruction op a' b'))
    other : (s : Statement) → T (placeless s) → AlikeStatement (Ok s) (Ok s)
    fails : (why : Failure) → AlikeStatement (Err why) (Err why)

-- two lines that read alike
pub record ReadAlike (line line' : List ℕ) : Type 0 where
  pub label : AlikeLabel line line' (line_read line).label (line_read line').label
  pub statement : AlikeStatement line line' (line_read line).statement (line_read line').statement
  pub cells : cells_in line ≡ cells_in line'

true-false : true ≡ false → ⊥
true-false e = false≢true (sym e)

module _ (line line' : List ℕ) where
  -- ---- statements by their words

  instruction-says : (op : Opcode) {r r' : Result Operands OperandsFault} → AlikeRead line line' r r'
      → AlikeStatement line line' (instruction_result op r) (instruction_result op r')
  instruction-says op (read h g) = instruction h g
  instruction-says op (refused why) = fails _

  passing : (y : Bool) (s : Statement) (why : Failure) → T (placeless s)
      → AlikeStatement line line' (cond y (Ok s) (Err why)) (cond y (Ok s) (Err why))
  passing true s why t = other s t
  passing false s why t = fails why

  -- a statement that has an expression's value
  expression-says : (least : ℤ) (makes : ℕ → Statement) → ((v : ℕ) → T (placeless (makes v))) → (r : Result Worth Malformed)
      → AlikeStatement line line' (expression_result least makes r) (expression_result least makes r)
  unfolding result_of
  expression-says least makes p (Ok (Ok z)) = passing (result_in least z) (makes (of_z w16 z)) ResultOut (p (of_z w16 z))
  expression-says least makes p (Ok (Err why)) = fails _
  expression-says least makes p (Err why) = fails _

  items_say : (r : Result ℕ ItemsFault) → AlikeStatement line line' (items_result r) (items_result r)
  items_say (Ok n) = other (S.Data n) tt
  items_say (Err why) = fails _

  -- ORG, EQU and RES look at their tokens' kinds alone
  of_expression : {ts ts' : List Token} → SameKinds ts ts' → (least : ℤ) (makes : ℕ → Statement) → ((v : ℕ) → T (placeless (makes v)))
      → AlikeStatement line line' (expression_result least makes (expression_read ts)) (expression_result least makes (expression_read ts'))
  of_expression {ts} {ts'} h least makes p = rw (expression-same h) (expression-says least makes p (expression_read ts'))

  by-word : (x : Word) {before : Kind} {ts ts' : List Token} → AlikeRow line line' true before ts ts'
      → AlikeStatement line line' (by_word line x ts) (by_word line' x ts')
  by-word (W.Instructs op) r = instruction-says op (instruction-alike line line' op r)
  by-word W.Org r = of_expression (alike-kinds line line' r) least_unsigned S.Org (λ v. tt)
  by-word W.Equ r = of_expression (alike-kinds line line' r) least_signed S.Equ (λ v. tt)
  by-word W.Res r = of_expression (alike-kinds line line' r) least_unsigned S.Res (λ v. tt)
  by-word W.Data {ts' = ts'} r = rw (items-same line line' r) (items_say (items_read line' ts'))
  by-word W.End r = other S.End tt
  by-word W.Unknown r = fails _

  statement-alike : {before : Kind} {ts ts' : List Token} → AlikeRow line line' true before ts ts'
      → AlikeStatement line line' (statement_read line ts) (statement_read line' ts')
  unfolding statement_read
  statement-alike over = other S.Nothing tt
  statement-alike (next K.End m s r) = fails _
  statement-alike (next K.Stray m s r) = fails _
  statement-alike (next {at' = at'} {end'} {ts' = ts'} K.Word m s r) = rw s (by-word (word_of (slice at' end' line')) r)
  statement-alike (next (K.Number v k) m s r) = fails _
  statement-alike (next K.Text m s r) = fails _
  statement-alike (next (K.Mark b) m s r) = fails _

  -- ---- cells

  body_same : {before : Kind} {ts ts' : List Token} → AlikeRow line line' true before ts ts' → body_cells line ts ≡ body_cells line' ts'
  unfolding body_cells
  body_same over = refl
  body_same (next K.End m s r) = refl
  body_same (next K.Stray m s r) = refl
  body_same (next K.Word m s r) = rw (s, cells_same line line' r)
  body_same (next (K.Number v k) m s r) = refl
  body_same (next K.Text m s r) = refl
  body_same (next (K.Mark b) m s r) = refl

  -- ---- the label

  colon_same : (signs : Bool) (k x : Kind) (d d' : Bool) → AsDirectly signs k x d d' → (is_word k && (is_colon x && d)) ≡ (is_word k && (is_colon x && d'))
  colon_same signs K.End x d d' m = refl
  colon_same signs K.Stray x d d' m = refl
  colon_same signs K.Word K.End d d' m = refl
  colon_same signs K.Word K.Stray d d' m = refl
  colon_same signs K.Word K.Word d d' m = refl
  colon_same signs K.Word (K.Number v k) d d' m = refl
  colon_same signs K.Word K.Text d d' m = refl
  colon_same signs K.Word (K.Mark b) d d' m = go (eqb b (code ":")) m
    where
      go : (y : Bool) → (T y → d ≡ d') → (y && d) ≡ (y && d')
      go true m = m tt
      go false m = refl
  colon_same signs (K.Number v k) x d d' m = refl
  colon_same signs K.Text x d d' m = refl
  colon_same signs (K.Mark b) x d d' m = refl

  -- what is read of two rows: labels alike, and rows after them alike
  record Parted (signs : Bool) (ts ts' : List Token) : Type 0 where
    label : AlikeLabel line line' (label_read ts) (label_read ts')
    before : Kind
    rest : AlikeRow line line' signs before (after_label ts) (after_label ts')

  label_picked : (y y' : Bool) → y ≡ y' → (n n' : Name) → SameName line line' n n'
      → AlikeLabel line line' (cond y (Some n) None) (cond y' (Some n') None)
  label_picked true true e n n' h = named h
  label_picked true false e n n' h = absurd (true-false e)
  label_picked false true e n n' h = absurd (true-false (sym e))
  label_picked false false e n n' h = absent

  rest_picked : (signs y y' : Bool) → y ≡ y' → (k : Kind) {ts ts' us us' : List Token} → AlikeRow line line' signs k ts ts'
      → AlikeRow line line' signs K.End us us'
      → AlikeRow line line' signs (cond y k K.End) (cond y ts us) (cond y' ts' us')
  rest_picked signs true true e k h g = h
  rest_picked signs true false e k h g = absurd (true-false e)
  rest_picked signs false true e k h g = absurd (true-false (sym e))
  rest_picked signs false false e k h g = g

  parted : {signs : Bool} {ts ts' : List Token} → AlikeRow line line' signs K.End ts ts' → Parted signs ts ts'
  unfolding label_read after_label
  parted over = record { label = absent; before = K.End; rest = over }
  parted (next k m s over) = record { label = absent; before = K.End; rest = next k m s over }
  parted (next K.End m s (next x n u r)) = record { label = absent; before = K.End; rest = next K.End m s (next x n u r) }
  parted (next K.Stray m s (next x n u r)) = record { label = absent; before = K.End; rest = next K.Stray m s (next x n u r) }
  parted {signs} (next {at = at} {end} {at'} {end'} {d} {d'} K.Word m s (next {d = c} {d' = c'} x n u r)) =
      let e = colon_same signs K.Word x c c' n in
      record {
        label = label_picked (is_colon x && c) (is_colon x && c') e (name_at (token K.Word at d end)) (name_at (token K.Word at' d' end')) s;
        before = cond (is_colon x && c) x K.End;
        rest = rest_picked signs (is_colon x && c) (is_colon x && c') e x r (next K.Word m s (next x n u r));
      }
  parted (next (K.Number v k) m s (next x n u r)) = record { label = absent; before = K.End; rest = next (K.Number v k) m s (next x n u r) }
  parted (next K.Text m s (next x n u r)) = record { label = absent; before = K.End; rest = next K.Text m s (next x n u r) }
  parted (next (K.Mark b) m s (next x n u r)) = record { label = absent; before = K.End; rest = next (K.Mark b) m s (next x n u r) }

-- ---- whole lines

tokens-are : {line : List ℕ} {ts : List Token} → RowOf line ts → ts ≡ tokens_from line 0
tokens-are {line} r = one-row r (line_row line)

row-alike : {signs : Bool} {line line' : List ℕ} → Alike signs line line' → AlikeRow line line' signs K.End (tokens_from line 0) (tokens_from line' 0)
row-alike {signs} {line} {line'} a = subst₂ (AlikeRow line line' signs K.End) (tokens-are a.has) (tokens-are a.has') a.alike

-- lines with the same tokens read alike
pub alike_read : {line line' : List ℕ} → Alike true line line' → ReadAlike line line'
unfolding line_read cells_in
alike_read {line} {line'} a =
    let h = parted line line' (row-alike a) in
    record { label = h.label; statement = statement-alike line line' h.rest; cells = body_same line line' h.rest }

-- ---- where no `-` is a sign

-- the words of statements with no operand and no item, whose tokens are looked at by their kinds alone, or not at all
abbrev pub signless : Word → Bool
signless (W.Instructs op) = false
signless W.Org = true
signless W.Equ = true
signless W.Res = true
signless W.Data = false
signless W.End = true
signless W.Unknown = true

-- what a line's tokens begin with after any label
record Headed (line : List ℕ) (x : Word) (ts : List Token) : Type 0 where
  word : Token
  rest : List Token
  split : ts ≡ word ∷ rest
  is : StatementWord line word x

headed : (line : List ℕ) {x : Word} {ts : List Token} → WordIn line x ts → Headed line x (after_label ts)
headed line (behind {us = us} {w = w} l h) = record { word = w; rest = us; split = label_after l; is = h }
headed line {x} (first {us} {w} n h) = go (labels (w ∷ us))
  where
    go : Labels (w ∷ us) → Headed line x (after_label (w ∷ us))
    go (label_is m vs l) = absurd (n m vs l)
    go (none_is m e f) = record { word = w; rest = us; split = f; is = h }

module _ (line line' : List ℕ) (x : Word) (signs : T (signless x)) where
  signless-says : (y : Word) → T (signless y) → {ts ts' : List Token} → SameKinds ts ts'
      → AlikeStatement line line' (by_word line y ts) (by_word line' y ts')
  signless-says (W.Instructs op) t r = absurd t
  signless-says W.Org t r = of_expression line line' r least_unsigned S.Org (λ v. tt)
  signless-says W.Equ t r = of_expression line line' r least_signed S.Equ (λ v. tt)
  signless-says W.Res t r = of_expression line line' r least_unsigned S.Res (λ v. tt)
  signless-says W.Data t r = absurd t
  signless-says W.End t r = other S.End tt
  signless-says W.Unknown t r = fails _

  signless-cells : (y : Word) → T (signless y) → is_data y ≡ false
  signless-cells (W.Instructs op) t = refl
  signless-cells W.Org t = refl
  signless-cells W.Equ t = refl
  signless-cells W.Res t = refl
  signless-cells W.Data t = absurd t
  signless-cells W.End t = refl
  signless-cells W.Unknown t = refl

  -- both begin with the same word
  words_are : (at end at' end' : ℕ) → slice at end line ≡ slice at' end' line' → {d : Bool} {us : List Token}
      → Headed line x (token K.Word at d end ∷ us)
      → (word_of (slice at end line) ≡ x) × (word_of (slice at' end' line') ≡ x)
  words_are at end at' end' e {d} h =
      let w : token K.Word at d end ≡ h.word = cc h.split in
      let f : word_of (slice at end line) ≡ x = ap (λ (t : Token). word_of (word_at line t)) w ∙ h.is.means in
      (f, ap word_of (sym e) ∙ f)

  -- no other kind begins it
  not-word : {X : Type 0} {k : Kind} {at end : ℕ} {d : Bool} {us : List Token} → (k ≡ K.Word → ⊥) → Headed line x (token k at d end ∷ us) → X
  not-word {k = k} {at} {end} {d} n h =
      let w : token k at d end ≡ h.word = cc h.split in
      absurd (n (ap (λ (t : Token). t.kind) w ∙ h.is.word))

  signless-alike : {before : Kind} {ts ts' : List Token} → AlikeRow line line' false before ts ts' → Headed line x ts
      → AlikeStatement line line' (statement_read line ts) (statement_read line' ts') × (body_cells line ts ≡ body_cells line' ts')
  unfolding statement_read body_cells
  signless-alike over h = never (cc h.split)
  signless-alike (next K.End m s r) h = not-word (λ e. never (cc)) h
  signless-alike (next K.Stray m s r) h = not-word (λ e. never (cc)) h
  signless-alike (next {at = at} {end} {at'} {end'} K.Word m s r) h =
      let w = words_are at end at' end' s h in
      (rw (w.0, w.1) (signless-says x signs (alike-kinds line line' r)), rw (w.0, w.1, signless-cells x signs))
  signless-alike (next (K.Number v k) m s r) h = not-word (λ e. never (cc)) h
  signless-alike (next K.Text m s r) h = not-word (λ e. never (cc)) h
  signless-alike (next (K.Mark b) m s r) h = not-word (λ e. never (cc)) h

-- lines with the same tokens whose statement has no operand and no item read alike, as directly after a `-` or not
pub signless-read : {line line' : List ℕ} {x : Word} → Alike false line line' → HasWord line x → T (signless x) → ReadAlike line line'
unfolding line_read cells_in
signless-read {line} {line'} {x} a w t =
    let h = parted line line' (row-alike a) in
    let g : Headed line x (after_label (tokens_from line 0)) = headed line (subst (WordIn line x) (tokens-are w.row) w.word) in
    let r = signless-alike line line' x t h.rest g in
    record { label = h.label; statement = r.0; cells = r.1 }

-- ---- END

-- "All bytes after END as a statement's word are ignored": two lines that say END read alike, whatever follows, if their labels do
pub end_read : {line line' : List ℕ} {l l' : Option Name} → Says line l R.end → Says line' l' R.end → AlikeLabel line line' l l' → ReadAlike line line'
unfolding judged
end_read {line} {line'} {l} {l'} e e' h =
    let r = read-judged line e in
    let r' = read-judged line' e' in
    record {
      label = rw (r, r') h;
      statement = rw (r, r') (other S.End tt);
      cells = no_cells line (λ m is s a. never (cc (one-reading line e s).1)) ∙ sym (no_cells line' (λ m is s a. never (cc (one-reading line' e' s).1)));
    }
