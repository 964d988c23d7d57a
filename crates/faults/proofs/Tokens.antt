-- The states over tokens: they end well exactly where the rules have a reading. Each part is held against its own crate's walk.
use Prim.Native.Nat.{ℕ}
use Prim.Native.Char.{code}
use mathlib.Core.Bool.{Bool, true, false, cond}
use mathlib.Core.List.{List, [], ◌∷◌}
use mathlib.Core.Path.{◌≡◌, refl, sym, ap, ◌∙◌}
use lib.Dec.{eqb}
use Rattle.numerals.specs.declared.Radix.TheVariants.{Decimal, Hexadecimal}
use Rattle.codes.specs.Registers.{IX, IY, SP, is_register}
use Rattle.tokens.specs.Marks.{on_mark, only}
use Rattle.tokens.specs.Commas.{at_comma, on_comma}
use Rattle.tokens.specs.declared.Kind.{Kind}
use Rattle.tokens.specs.declared.Kind.TheVariants as K
use Rattle.tokens.specs.declared.Token.{Token}
use Rattle.names.specs.Names.{word_of}
use Rattle.names.specs.declared.Word.{Word}
use Rattle.names.specs.declared.Word.TheVariants as W
use Rattle.expressions.specs.Trees.{Tree, Expression}
use Rattle.expressions.specs.Reading.{kind_symbol}
use Rattle.expressions.specs.Inner.Scanning.{scan_step, scan_on, right_form}
use Rattle.std.proofs.Common.{Option, Some, None}
use Rattle.expressions.specs.declared.Scan.{Scan}
use Rattle.expressions.proofs.Top.{form-exactly}
use Rattle.operands.specs.Operands.{word_at, OperandField}
use Rattle.operands.specs.Reading as O
use Rattle.operands.specs.declared.Written.{Written}
use Rattle.operands.specs.declared.Written.TheVariants.{Immediate, Register, Indirect}
use Rattle.operands.proofs.Top.{reads-exactly}
use Rattle.items.specs.Items.{Item, number, Items}
use Rattle.items.specs.Reading as I
use Rattle.items.proofs.Readings.{InLine, sound, complete}
use Rattle.values.specs.Values.{numeral, name_at}
use Rattle.values.specs.Reading.{value_by, digits_by}
use Rattle.values.specs.Walks.{Step, to, emit, halt, RowRead, reads, wrong, cons, stepped, walk}
use Rattle.values.specs.declared.Name.{Name}
use Rattle.values.specs.declared.Value.{Value}
use Rattle.values.specs.declared.Value.TheVariants as V'
use Rattle.statements.specs.Statements.{Reading, Label, label, StatementWord, Body, empty, opcode, origin, equals, reserve, items, ends, LineText, labelled, unlabelled}
use Rattle.statements.specs.Statements as S
use Rattle.statements.specs.Reading.{after_label}
use Rattle.statements.proofs.Labelling.{never, Labels, label_is, none_is, labels, label_after}
use Rattle.faults.specs.declared.State.{State}
use Rattle.faults.specs.declared.State.TheVariants as At
use Rattle.faults.specs.Forms.{put, scanned, enter, indexes, starts, word_step, number_step, text_step, mark_step, blank_step, final, is_ended}

-- ---- the states over tokens

abbrev pub blank_if : Bool → State → State
blank_if true st = st
blank_if false st = blank_step st

module _ (line : List ℕ) where
  abbrev pub token_step : State → Kind → Token → State
  token_step st K.End t = cond (is_ended st) At.Ended At.Dead
  token_step st K.Stray t = cond (is_ended st) At.Ended At.Dead
  token_step st K.Word t = word_step st (word_at line t)
  token_step st (K.Number v k) t = number_step st k
  token_step st K.Text t = text_step st
  token_step st (K.Mark b) t = mark_step st b

  unfoldable pub finishes : State → List Token → Bool
  finishes st [] = final st
  finishes st (t ∷ ts) = finishes (token_step (blank_if t.directly st) t.kind t) ts

-- where a blank changes nothing it may stand or not
pub skip : (d : Bool) (st : State) → blank_step st ≡ st → blank_if d st ≡ st
skip true st e = refl
skip false st e = e

module _ (line : List ℕ) where
  dead_step : (k : Kind) (t : Token) → token_step line At.Dead k t ≡ At.Dead
  dead_step K.End t = refl
  dead_step _ t = refl

  ended-step : (k : Kind) (t : Token) → token_step line At.Ended k t ≡ At.Ended
  ended-step K.End t = refl
  ended-step _ t = refl

  pub dead_never : (ts : List Token) → finishes line At.Dead ts ≡ false
  unfolding finishes
  dead_never [] = refl
  dead_never (t ∷ ts) = rw (skip t.directly At.Dead refl, dead_step t.kind t) (dead_never ts)

  pub ended_always : (ts : List Token) → finishes line At.Ended ts ≡ true
  unfolding finishes
  ended_always [] = refl
  ended_always (t ∷ ts) = rw (skip t.directly At.Ended refl, ended-step t.kind t) (ended_always ts)

-- ---- walks over tokens

-- The walks of operands and of items know more than the states do: what is read so far is erased.
module _ {S A : Type 0} (erase : S → State) (begin : S) where
  -- a state moves as such a walk does
  abbrev Moves : State → Step S A → Type 0
  Moves st (to s) = st ≡ erase s
  Moves st (emit a) = st ≡ erase begin
  Moves st halt = st ≡ At.Dead

  cond-moves : (y : Bool) (st st' : State) (f f' : Step S A) → Moves st f → Moves st' f' → Moves (cond y st st') (cond y f f')
  cond-moves true st st' f f' h g = h
  cond-moves false st st' f f' h g = g

  only-moves : (x b : ℕ) (st : State) (f : Step S A) → Moves st f → Moves (only At.Dead x st b) (only halt x f b)
  only-moves x b st f h = cond-moves (eqb b x) st At.Dead f halt h refl

abbrev is_read : {A : Type 0} → RowRead A → Bool
is_read (reads xs) = true
is_read wrong = false

cons-read : {A : Type 0} (a : A) (r : RowRead A) → is_read (cons a r) ≡ is_read r
cons-read a (reads xs) = refl
cons-read a wrong = refl

module _ (line : List ℕ) {S A : Type 0} (erase : S → State) (begin : S) (step : S → Token → Step S A) (finish : S → RowRead A)
    (ends_so : (s : S) → final (erase s) ≡ is_read (finish s))
    (moves_so : (s : S) (t : Token) → Moves erase begin (token_step line (blank_if t.directly (erase s)) t.kind t) (step s t)) where
  walk-finishes : (ts : List Token) (s : S) → finishes line (erase s) ts ≡ is_read (walk begin step finish s ts)
  unfolding finishes
  walk-finishes [] s = ends_so s
  walk-finishes (t ∷ ts) s =
      go (token_step line (blank_if t.directly (erase s)) t.kind t) (step s t) (moves_so s t) (walk-finishes ts)
    where
      go : (st : State) (x : Step S A) → Moves erase begin st x
          → ((s : S) → finishes line (erase s) ts ≡ is_read (walk begin step finish s ts))
          → finishes line st ts ≡ is_read (stepped begin x (λ next. walk begin step finish next ts))
      go st (to s) e ih = rw e (ih s)
      go st (emit a) e ih = rw (e, cons-read a (walk begin step finish begin ts)) (ih begin)
      go st halt e ih = rw e (dead_never line ts)

-- ---- operands

abbrev is_hash : O.Shape → Bool
is_hash O.hash = true
is_hash O.slash = false
is_hash O.dollar = false

abbrev erased : O.State → State
erased O.operand = At.Operand
erased (O.value k) = At.Value (is_hash k)
erased (O.digits k) = At.Digits (is_hash k)
erased (O.after_hash v) = At.AfterHash
erased (O.index_dot v) = At.IndexDot
erased (O.index_name v) = At.IndexName
erased O.register_name = At.RegisterName
erased O.indirect_dot = At.IndirectDot
erased O.indirect_name = At.IndirectName
erased (O.closing o) = At.Closing
erased (O.done o) = At.Done

abbrev OperandMoves : State → O.Step → Type 0
OperandMoves = Moves erased O.operand

put-moves : (k : O.Shape) (v : Value) → OperandMoves (put (is_hash k)) (to (O.put k v))
put-moves O.hash v = refl
put-moves O.slash v = refl
put-moves O.dollar v = refl

starts-moves : (b : ℕ) → OperandMoves (starts b) (O.starts b)
unfolding starts O.starts
starts-moves b =
    cond-moves erased O.operand (eqb b (code "#")) _ _ _ _ refl
    (cond-moves erased O.operand (eqb b (code ".")) _ _ _ _ refl
    (cond-moves erased O.operand (eqb b (code "/")) _ _ _ _ refl
    (cond-moves erased O.operand (eqb b (code "[")) _ _ _ _ refl
    (cond-moves erased O.operand (eqb b (code "$")) _ _ _ _ refl refl))))

index_moves : (v : Value) (r : ℕ) → OperandMoves (indexes r) (O.index_step v r)
unfolding indexes O.index_step
index_moves v r =
    cond-moves erased O.operand (eqb r IX) _ _ _ _ refl
    (cond-moves erased O.operand (eqb r IY) _ _ _ _ refl (cond-moves erased O.operand (eqb r SP) _ _ _ _ refl refl))

module _ (line : List ℕ) where
  step-moves : (st : O.State) (t : Token) → OperandMoves (token_step line (blank_if t.directly (erased st)) t.kind t) (O.step line st t)
  step-moves O.operand t = rw (skip t.directly At.Operand refl) (go t.kind)
    where
      go : (k : Kind) → OperandMoves (token_step line At.Operand k t) (on_mark halt O.starts k)
      go (K.Mark b) = starts-moves b
      go _ = refl
  step-moves (O.value s) t = rw (skip t.directly (At.Value (is_hash s)) refl) (go t.kind)
    where
      go : (k : Kind) → OperandMoves (token_step line (At.Value (is_hash s)) k t) (value_by (to (O.put s (V'.Label (name_at t)))) (λ n. to (O.put s (V'.Number n))) (to (O.digits s)) halt k)
      go K.End = refl
      go K.Stray = refl
      go K.Word = put-moves s (V'.Label (name_at t))
      go (K.Number v k) = put-moves s (V'.Number (numeral false k v))
      go K.Text = refl
      go (K.Mark b) = only-moves erased O.operand (code "-") b (At.Digits (is_hash s)) (to (O.digits s)) refl
  step-moves (O.digits s) t = go t.kind t.directly
    where
      go : (k : Kind) (d : Bool) → OperandMoves (token_step line (blank_if d (At.Digits (is_hash s))) k t) (digits_by (λ n. to (O.put s (V'.Number n))) halt k d)
      go K.End true = refl
      go K.End false = refl
      go K.Stray true = refl
      go K.Stray false = refl
      go K.Word true = refl
      go K.Word false = refl
      go (K.Number v Decimal) true = put-moves s (V'.Number (numeral true Decimal v))
      go (K.Number v Decimal) false = refl
      go (K.Number v Hexadecimal) true = refl
      go (K.Number v Hexadecimal) false = refl
      go K.Text true = refl
      go K.Text false = refl
      go (K.Mark b) true = refl
      go (K.Mark b) false = refl
  step-moves (O.after_hash v) t = rw (skip t.directly At.AfterHash refl) (go t.kind)
    where
      go : (k : Kind) → OperandMoves (token_step line At.AfterHash k t)
          (on_mark halt (λ b. cond (eqb b (code "[")) (to (O.index_dot v)) (at_comma halt (emit (Immediate v)) b)) k)
      go (K.Mark b) = cond-moves erased O.operand (eqb b (code "[")) _ _ _ _ refl (only-moves erased O.operand (code ",") b At.Operand (emit (Immediate v)) refl)
      go _ = refl
  step-moves (O.index_dot v) t = rw (skip t.directly At.IndexDot refl) (go t.kind)
    where
      go : (k : Kind) → OperandMoves (token_step line At.IndexDot k t) (on_mark halt (only halt (code ".") (to (O.index_name v))) k)
      go (K.Mark b) = only-moves erased O.operand (code ".") b At.IndexName (to (O.index_name v)) refl
      go _ = refl
  step-moves (O.index_name v) t = rw (skip t.directly At.IndexName refl) (go t.kind)
    where
      go : (k : Kind) → OperandMoves (token_step line At.IndexName k t) (O.on_word (O.index_step v (O.code_at line t)) k)
      go K.Word = index_moves v (O.code_at line t)
      go _ = refl
  step-moves O.register_name t = rw (skip t.directly At.RegisterName refl) (go t.kind)
    where
      go : (k : Kind) → OperandMoves (token_step line At.RegisterName k t)
          (O.on_word (cond (is_register (O.code_at line t)) (to (O.done (Register (O.code_at line t)))) halt) k)
      go K.Word = cond-moves erased O.operand (is_register (O.code_at line t)) _ _ _ _ refl refl
      go _ = refl
  step-moves O.indirect_dot t = rw (skip t.directly At.IndirectDot refl) (go t.kind)
    where
      go : (k : Kind) → OperandMoves (token_step line At.IndirectDot k t) (on_mark halt (only halt (code ".") (to O.indirect_name)) k)
      go (K.Mark b) = only-moves erased O.operand (code ".") b At.IndirectName (to O.indirect_name) refl
      go _ = refl
  step-moves O.indirect_name t = rw (skip t.directly At.IndirectName refl) (go t.kind)
    where
      go : (k : Kind) → OperandMoves (token_step line At.IndirectName k t)
          (O.on_word (cond (is_register (O.code_at line t)) (to (O.closing (Indirect (O.code_at line t)))) halt) k)
      go K.Word = cond-moves erased O.operand (is_register (O.code_at line t)) _ _ _ _ refl refl
      go _ = refl
  step-moves (O.closing o) t = rw (skip t.directly At.Closing refl) (go t.kind)
    where
      go : (k : Kind) → OperandMoves (token_step line At.Closing k t) (on_mark halt (only halt (code "]") (to (O.done o))) k)
      go (K.Mark b) = only-moves erased O.operand (code "]") b At.Done (to (O.done o)) refl
      go _ = refl
  step-moves (O.done o) t = rw (skip t.directly At.Done refl) (go t.kind)
    where
      go : (k : Kind) → OperandMoves (token_step line At.Done k t) (on_comma halt (emit o) k)
      go (K.Mark b) = only-moves erased O.operand (code ",") b At.Operand (emit o) refl
      go _ = refl

  ends-alike : (st : O.State) → final (erased st) ≡ is_read (O.finish st)
  ends-alike O.operand = refl
  ends-alike _ = refl

  operands-finish : (ts : List Token) (st : O.State) → finishes line (erased st) ts ≡ is_read (O.walk line st ts)
  unfolding O.walk
  operands-finish = walk-finishes line erased O.operand (O.step line) O.finish ends-alike step-moves

  field_finishes : (ts : List Token) → finishes line At.Field ts ≡ is_read (O.operands_of line ts)
  unfolding finishes O.operands_of
  field_finishes [] = refl
  field_finishes (t ∷ ts) = rw (skip t.directly At.Field refl, same t.kind) (rw (skip t.directly At.Operand refl) at (operands-finish (t ∷ ts) O.operand))
    where
      same : (k : Kind) → token_step line At.Field k t ≡ token_step line At.Operand k t
      same K.End = refl
      same _ = refl

-- ---- expressions

module _ (line : List ℕ) where
  scanned-finishes : (x : Option Scan) (ts : List Token) → ((q : Bool) (h : ℕ) → finishes line (At.Expression q h) ts ≡ right_form ts q h)
      → finishes line (scanned x) ts ≡ scan_on x (λ q h. right_form ts q h)
  scanned-finishes (Some r) ts ih = ih r.operand r.height
  scanned-finishes None ts ih = dead_never line ts

  symbol_step : (k : Kind) (t : Token) (q : Bool) (h : ℕ) → token_step line (At.Expression q h) k t ≡ scanned (scan_step (kind_symbol k) q h)
  symbol_step K.End t true h = refl
  symbol_step K.End t false h = refl
  symbol_step K.Stray t true h = refl
  symbol_step K.Stray t false h = refl
  symbol_step K.Word t true h = refl
  symbol_step K.Word t false h = refl
  symbol_step (K.Number v k) t true h = refl
  symbol_step (K.Number v k) t false h = refl
  symbol_step K.Text t true h = refl
  symbol_step K.Text t false h = refl
  symbol_step (K.Mark b) t q h = refl

  expression-finishes : (ts : List Token) (q : Bool) (h : ℕ) → finishes line (At.Expression q h) ts ≡ right_form ts q h
  unfolding finishes right_form
  expression-finishes [] q h = refl
  expression-finishes (t ∷ ts) q h =
      rw (skip t.directly (At.Expression q h) refl, symbol_step t.kind t q h)
      (scanned-finishes (scan_step (kind_symbol t.kind) q h) ts (λ q h. expression-finishes ts q h))

-- ---- items

abbrev erased_item : I.State → State
erased_item I.item = At.Item
erased_item I.digits = At.ItemDigits
erased_item (I.done i) = At.ItemDone

abbrev ItemMoves : State → I.Step → Type 0
ItemMoves = Moves erased_item I.item

module _ (line : List ℕ) where
  item-moves : (st : I.State) (t : Token) → ItemMoves (token_step line (blank_if t.directly (erased_item st)) t.kind t) (I.step line st t)
  item-moves I.item t = rw (skip t.directly At.Item refl) (go t.kind)
    where
      go : (k : Kind) → ItemMoves (token_step line At.Item k t) (value_by halt (λ n. to (I.done (number n))) (to I.digits) (I.on_text halt (to (I.done (I.string_of line t))) k) k)
      go (K.Mark b) = only-moves erased_item I.item (code "-") b At.ItemDigits (to I.digits) refl
      go _ = refl
  item-moves I.digits t = go t.kind t.directly
    where
      go : (k : Kind) (d : Bool) → ItemMoves (token_step line (blank_if d At.ItemDigits) k t) (digits_by (λ n. to (I.done (number n))) halt k d)
      go K.End true = refl
      go K.End false = refl
      go K.Stray true = refl
      go K.Stray false = refl
      go K.Word true = refl
      go K.Word false = refl
      go (K.Number v Decimal) true = refl
      go (K.Number v Decimal) false = refl
      go (K.Number v Hexadecimal) true = refl
      go (K.Number v Hexadecimal) false = refl
      go K.Text true = refl
      go K.Text false = refl
      go (K.Mark b) true = refl
      go (K.Mark b) false = refl
  item-moves (I.done i) t = rw (skip t.directly At.ItemDone refl) (go t.kind)
    where
      go : (k : Kind) → ItemMoves (token_step line At.ItemDone k t) (on_comma halt (emit i) k)
      go (K.Mark b) = only-moves erased_item I.item (code ",") b At.Item (emit i) refl
      go _ = refl

  item-ends : (st : I.State) → final (erased_item st) ≡ is_read (I.finish st)
  item-ends I.item = refl
  item-ends I.digits = refl
  item-ends (I.done i) = refl

  items-finish : (ts : List Token) (st : I.State) → finishes line (erased_item st) ts ≡ is_read (I.walk line st ts)
  unfolding I.walk
  items-finish = walk-finishes line erased_item I.item (I.step line) I.finish item-ends item-moves

-- ---- behind the statement's word

module _ (line : List ℕ) where
  operands-sound : (ts : List Token) → finishes line At.Field ts ≡ true → (os : List Written) × OperandField line ts os
  operands-sound ts f = go (O.operands_of line ts) refl (sym (field_finishes line ts) ∙ f)
    where
      go : (r : O.RowRead) → O.operands_of line ts ≡ r → is_read r ≡ true → (os : List Written) × OperandField line ts os
      go (reads os) e g = (os, (reads-exactly line ts).0 e)
      go wrong e g = never (cc)

  operands-complete : (ts : List Token) {os : List Written} → OperandField line ts os → finishes line At.Field ts ≡ true
  operands-complete ts o = field_finishes line ts ∙ ap is_read ((reads-exactly line ts).1 o)

  expression-sound : (ts : List Token) → finishes line (At.Expression true 0) ts ≡ true → (e : Tree) × Expression ts e
  expression-sound ts f = (form-exactly ts).0 (sym (expression-finishes line ts true 0) ∙ f)

  expression-complete : (ts : List Token) {e : Tree} → Expression ts e → finishes line (At.Expression true 0) ts ≡ true
  expression-complete ts {e} x = expression-finishes line ts true 0 ∙ (form-exactly ts).1 (e, x)

  items-sound : (ts : List Token) → InLine line ts → finishes line At.Item ts ≡ true → (is : List Item) × Items line ts is
  items-sound ts w f = go (I.walk line I.item ts) refl (sym (items-finish line ts I.item) ∙ f)
    where
      go : (r : I.RowRead) → I.walk line I.item ts ≡ r → is_read r ≡ true → (is : List Item) × Items line ts is
      go (reads is) e g = (is, sound line w e)
      go wrong e g = never (cc)

  items-complete : (ts : List Token) {is : List Item} → Items line ts is → finishes line At.Item ts ≡ true
  items-complete ts x = items-finish line ts I.item ∙ ap is_read (complete line x)

  -- ---- the tokens after any label

  body_complete : {ts : List Token} {r : Reading} → Body line ts r → finishes line At.Body ts ≡ true
  unfolding finishes
  body_complete empty = refl
  body_complete (opcode {w} {ts} s o) = rw (skip w.directly At.Body refl, s.word, s.means) (operands-complete ts o)
  body_complete (origin {w} {ts} s o) = rw (skip w.directly At.Body refl, s.word, s.means) (expression-complete ts o)
  body_complete (equals {w} {ts} s o) = rw (skip w.directly At.Body refl, s.word, s.means) (expression-complete ts o)
  body_complete (reserve {w} {ts} s o) = rw (skip w.directly At.Body refl, s.word, s.means) (expression-complete ts o)
  body_complete (items {w} {ts} s o) = rw (skip w.directly At.Body refl, s.word, s.means) (items-complete ts o)
  body_complete (ends {w} {ts} s) = rw (skip w.directly At.Body refl, s.word, s.means) (ended_always line ts)

  by-word : (w : Token) (ts : List Token) (x : Word) → InLine line ts → StatementWord line w x → finishes line (enter x) ts ≡ true
      → (r : Reading) × Body line (w ∷ ts) r
  by-word w ts (W.Instructs op) i s f = let h = operands-sound ts f in (S.instruction op h.0, opcode s h.1)
  by-word w ts W.Org i s f = let h = expression-sound ts f in (S.org h.0, origin s h.1)
  by-word w ts W.Equ i s f = let h = expression-sound ts f in (S.equ h.0, equals s h.1)
  by-word w ts W.Res i s f = let h = expression-sound ts f in (S.res h.0, reserve s h.1)
  by-word w ts W.Data i s f = let h = items-sound ts i f in (S.cells h.0, items s h.1)
  by-word w ts W.End i s f = (S.end, ends s)
  by-word w ts W.Unknown i s f = let z : false ≡ true = sym (dead_never line ts) ∙ f in never (cc)

  body_sound : (ts : List Token) → InLine line ts → finishes line At.Body ts ≡ true → (r : Reading) × Body line ts r
  unfolding finishes
  body_sound [] i f = (S.nothing, empty)
  body_sound (w ∷ ts) i f = go w.kind refl (rw (skip w.directly At.Body refl) at f)
    where
      no : {X : Type 0} → finishes line At.Dead ts ≡ true → X
      no g = let z : false ≡ true = sym (dead_never line ts) ∙ g in never (cc)

      go : (k : Kind) → w.kind ≡ k → finishes line (token_step line At.Body k w) ts ≡ true → (r : Reading) × Body line (w ∷ ts) r
      go K.Word e g = by-word w ts (word_of (word_at line w)) i.1 (record { word = e; means = refl }) g
      go _ e g = no g

  -- ---- lines

  behind : {ts us : List Token} {n : Name} → Label ts n us → InLine line ts → InLine line us
  behind (label a b c) i = i.1.1

  pub line-sound : (ts : List Token) → InLine line ts → finishes line At.Body (after_label ts) ≡ true
      → (l : Option Name) × (r : Reading) × LineText line ts l r
  line-sound ts i f = go (labels ts)
    where
      go : Labels ts → (l : Option Name) × (r : Reading) × LineText line ts l r
      go (label_is n us a) =
          let h = body_sound us (behind a i) (ap (finishes line At.Body) (sym (label_after a)) ∙ f) in
          (Some n, h.0, labelled a h.1)
      go (none_is none e g) = let h = body_sound ts i (ap (finishes line At.Body) (sym g) ∙ f) in (None, h.0, unlabelled none h.1)

  pub line-complete : {ts : List Token} {l : Option Name} {r : Reading} → LineText line ts l r → finishes line At.Body (after_label ts) ≡ true
  line-complete (labelled a b) = ap (finishes line At.Body) (label_after a) ∙ body_complete b
  line-complete (unlabelled {ts} none b) = go (labels ts)
    where
      go : Labels ts → finishes line At.Body (after_label ts) ≡ true
      go (label_is n us a) = absurd (none n us a)
      go (none_is m e g) = ap (finishes line At.Body) g ∙ body_complete b
