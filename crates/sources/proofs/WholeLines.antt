-- A line that passes its own checks has whole tokens, unless its word is END: so a comment may be added to any line of an accepted source.
use Prim.Native.Nat.{ℕ}
use mathlib.Core.Bool.{cond, not}
use mathlib.Core.List.{List, [], ◌∷◌}
use mathlib.Core.Path.{◌≡◌, refl, sym, ap, subst, ◌∙◌}
use lib.Dec.{T}
use lib.IntN.{ℤ}
use Rattle.tokens.specs.Reading.{tokens_from}
use Rattle.tokens.specs.declared.Kind.{Kind}
use Rattle.tokens.specs.declared.Kind.TheVariants as K
use Rattle.tokens.specs.declared.Token.{Token}
use Rattle.tokens.proofs.Respacing.{is_stray, NoStray}
use Rattle.names.specs.Names.{word_of}
use Rattle.names.specs.declared.Word.{Word}
use Rattle.names.specs.declared.Word.TheVariants as W
use Rattle.values.specs.Walks.{Step, to, emit, halt, RowRead, reads, wrong, stepped}
use Rattle.values.specs.Walks as Walks
use Rattle.values.proofs.Walks.{un_cons}
use Rattle.std.proofs.Common.{Result, Ok, Err}
use Rattle.expressions.specs.Worths.{Worth}
use Rattle.expressions.specs.declared.Malformed.{Malformed}
use Rattle.expressions.specs.Reading.{expression_read}
use Rattle.expressions.proofs.Spacing.{expression-whole}
use Rattle.operands.specs.Operands.{word_at}
use Rattle.operands.specs.Reading as O
use Rattle.operands.specs.declared.Written.{Written}
use Rattle.items.specs.Items.{Item}
use Rattle.operands.specs.Checks.{judged_form, instruction_read}
use Rattle.items.specs.Reading as I
use Rattle.isa.specs.declared.Opcode.{Opcode}
use Rattle.statements.specs.Judging.{instruction_result}
use Rattle.statements.specs.Reading.{is_word, after_label, expression_result, items_result, by_word, statement_read, line_read}
use Rattle.statements.specs.declared.Statement.{Statement}
use Rattle.statements.specs.declared.Statement.TheVariants as S
use Rattle.statements.specs.declared.Failure.TheVariants.{WrongForm}
use Rattle.values.specs.declared.Name.{Name}
use Rattle.statements.proofs.Labelling.{never, Labels, label_is, none_is, labels, label_after}
use Rattle.statements.specs.Statements.{Label, label}

-- ---- walks

not-stray : (k : Kind) → (k ≡ K.Stray → ⊥) → T (not (is_stray k))
not-stray K.End n = tt
not-stray K.Stray n = absurd (n refl)
not-stray K.Word n = tt
not-stray (K.Number v r) n = tt
not-stray K.Text n = tt
not-stray (K.Mark b) n = tt

-- a walk that halts at a stray token and reads has met none
module _ {S A : Type 0} (begin : S) (step : S → Token → Step S A) (finish : S → RowRead A)
    (halts : (st : S) (t : Token) → t.kind ≡ K.Stray → step st t ≡ halt) where
  walk-whole : (ts : List Token) (st : S) (xs : List A) → Walks.walk begin step finish st ts ≡ reads xs → NoStray ts
  walk-whole [] st xs e = tt
  walk-whole (t ∷ ts) st xs e = (not-stray t.kind no_stray, go (step st t) e (walk-whole ts))
    where
      no_stray : t.kind ≡ K.Stray → ⊥
      no_stray q = never (cc (sym (ap (λ (y : Step S A). stepped begin y (λ x. Walks.walk begin step finish x ts)) (halts st t q)) ∙ e))

      go : (y : Step S A) → stepped begin y (λ x. Walks.walk begin step finish x ts) ≡ reads xs
          → ((st : S) (xs : List A) → Walks.walk begin step finish st ts ≡ reads xs → NoStray ts) → NoStray ts
      go (to x) e f = f x xs e
      go (emit a) e f = let u = un_cons a (Walks.walk begin step finish begin ts) e in f begin u.0 u.1
      go halt e f = never (cc e)

operand-halts : (line : List ℕ) (st : O.State) (t : Token) → t.kind ≡ K.Stray → O.step line st t ≡ halt
operand-halts line O.operand t e = rw e
operand-halts line (O.value k) t e = rw e
operand-halts line (O.digits k) t e = rw e
operand-halts line (O.after_hash v) t e = rw e
operand-halts line (O.index_dot v) t e = rw e
operand-halts line (O.index_name v) t e = rw e
operand-halts line O.register_name t e = rw e
operand-halts line O.indirect_dot t e = rw e
operand-halts line O.indirect_name t e = rw e
operand-halts line (O.closing o) t e = rw e
operand-halts line (O.done o) t e = rw e

operands-whole : (line : List ℕ) (ts : List Token) {os : List Written} → O.operands_of line ts ≡ reads os → NoStray ts
unfolding O.operands_of O.walk
operands-whole line [] e = tt
operands-whole line (t ∷ ts) {os} e = walk-whole O.operand (O.step line) O.finish (operand-halts line) (t ∷ ts) O.operand os e

item-halts : (line : List ℕ) (st : I.State) (t : Token) → t.kind ≡ K.Stray → I.step line st t ≡ halt
item-halts line I.item t e = rw e
item-halts line I.digits t e = rw e
item-halts line (I.done i) t e = rw e

items-whole : (line : List ℕ) (ts : List Token) {is : List Item} → I.walk line I.item ts ≡ reads is → NoStray ts
unfolding I.walk
items-whole line ts {is} e = walk-whole I.item (I.step line) I.finish (item-halts line) ts I.item is e

-- ---- statements

instruction-whole : (line : List ℕ) (op : Opcode) (ts : List Token) {s : Statement} → instruction_result op (instruction_read line op ts) ≡ Ok s
    → NoStray ts
unfolding instruction_read
instruction-whole line op ts {s} e = go (O.operands_of line ts) refl e
  where
    go : (r : RowRead Written) → O.operands_of line ts ≡ r → instruction_result op (judged_form op r) ≡ Ok s → NoStray ts
    go (reads os) q e = operands-whole line ts q
    go wrong q e = never (cc e)

of_expression_whole : (least : ℤ) (makes : ℕ → Statement) (ts : List Token) {s : Statement}
    → expression_result least makes (expression_read ts) ≡ Ok s
    → NoStray ts
of_expression_whole least makes ts {s} e = go (expression_read ts) refl e
  where
    go : (r : Result Worth Malformed) → expression_read ts ≡ r → expression_result least makes r ≡ Ok s → NoStray ts
    go (Ok w) q e = expression-whole ts q
    go (Err why) q e = never (cc e)

data_whole : (line : List ℕ) (ts : List Token) {s : Statement} → items_result (I.items_read line ts) ≡ Ok s → NoStray ts
unfolding I.items_read
data_whole line ts {s} e = go (I.walk line I.item ts) refl e
  where
    go : (r : RowRead Item) → I.walk line I.item ts ≡ r → items_result (I.judged r) ≡ Ok s → NoStray ts
    go (reads is) q e = items-whole line ts q
    go wrong q e = never (cc e)

by_word_whole : (line : List ℕ) (x : Word) (ts : List Token) {s : Statement} → by_word line x ts ≡ Ok s → (s ≡ S.End → ⊥) → NoStray ts
by_word_whole line (W.Instructs op) ts e n = instruction-whole line op ts e
by_word_whole line W.Org ts e n = of_expression_whole _ _ ts e
by_word_whole line W.Equ ts e n = of_expression_whole _ _ ts e
by_word_whole line W.Res ts e n = of_expression_whole _ _ ts e
by_word_whole line W.Data ts e n = data_whole line ts e
by_word_whole line W.End ts e n = absurd (n (cc e))
by_word_whole line W.Unknown ts e n = never (cc e)

statement-whole : (line : List ℕ) (ts : List Token) {s : Statement} → statement_read line ts ≡ Ok s → (s ≡ S.End → ⊥) → NoStray ts
unfolding statement_read
statement-whole line [] e n = tt
statement-whole line (w ∷ ts) {s} e n = go w.kind refl e
  where
    go : (k : Kind) → w.kind ≡ k → cond (is_word k) (by_word line (word_of (word_at line w)) ts) (Err WrongForm) ≡ Ok s
        → T (not (is_stray w.kind)) × NoStray ts
    go K.End q e = never (cc e)
    go K.Stray q e = never (cc e)
    go K.Word q e = (rw q tt, by_word_whole line (word_of (word_at line w)) ts e n)
    go (K.Number v r) q e = never (cc e)
    go K.Text q e = never (cc e)
    go (K.Mark b) q e = never (cc e)

-- a label is whole
label-whole : {ts us : List Token} {n : Name} → Label ts n us → NoStray us → NoStray ts
label-whole (label {w} {c} k m d) h = (rw k tt, (rw m tt, h))

after-whole : (ts : List Token) → NoStray (after_label ts) → NoStray ts
after-whole ts h = go (labels ts)
  where
    go : Labels ts → NoStray ts
    go (label_is n us l) = label-whole l (subst NoStray (label_after l) h)
    go (none_is n e f) = subst NoStray f h

-- a line that passes its own checks has whole tokens, unless it says END
pub line-whole : (line : List ℕ) {s : Statement} → (line_read line).statement ≡ Ok s → (s ≡ S.End → ⊥) → NoStray (tokens_from line 0)
unfolding line_read
line-whole line e n = after-whole (tokens_from line 0) (statement-whole line (after_label (tokens_from line 0)) e n)
