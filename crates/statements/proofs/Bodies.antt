-- The tokens after any label: they have one reading, or an unknown word, or neither, and the reader answers accordingly.
use Prim.Native.Nat.{ℕ}
use mathlib.Core.Bool.{Bool, true, false, cond}
use mathlib.Core.List.{List, [], ◌∷◌}
use mathlib.Core.Path.{◌≡◌, refl, sym, ap, subst, ◌∙◌}
use native.Mathlib.Omega.{arith}
use lib.Dec.{leb}
use lib.IntN.{ℤ}
use lib.ListN.{length}
use Rattle.tokens.specs.Reading.{token_at, after_kind, tokens_from}
use Rattle.tokens.specs.declared.Kind.{Kind}
use Rattle.tokens.specs.declared.Kind.TheVariants as K
use Rattle.tokens.specs.declared.Token.{Token}
use Rattle.tokens.proofs.Places.{row_unfolds}
use Rattle.isa.specs.declared.Opcode.{Opcode}
use Rattle.names.specs.Names.{word_of}
use Rattle.names.specs.declared.Word.{Word}
use Rattle.names.specs.declared.Word.TheVariants as W
use Rattle.codes.specs.Limits.{deepest}
use Rattle.expressions.specs.Trees.{Tree, depth, Expression}
use Rattle.expressions.specs.Worths.{worth_of}
use Rattle.expressions.specs.Reading.{expression_read}
use Rattle.expressions.specs.Reading as Expressions
use Rattle.std.proofs.Common.{Ok, Err}
use Rattle.items.specs.declared.ItemsFault.TheVariants.{WrongForm, OutOfRange}
use Rattle.expressions.specs.declared.Malformed.TheVariants.{TooDeep, WrongForm}
use Rattle.expressions.proofs.Exactly.{Found as TreeFound, tree_is, none_is, found as tree-found}
use Rattle.expressions.proofs.Top as Trees
use Rattle.operands.specs.Operands.{word_at, OperandField}
use Rattle.operands.specs.Reading.{operands_of}
use Rattle.operands.specs.Reading as Walk
use Rattle.operands.specs.Checks as Operands
use Rattle.operands.specs.declared.Written.{Written}
use Rattle.operands.proofs.Top.{reads-exactly}
use Rattle.items.specs.Items.{Item, Items, cells_of, all_in_range}
use Rattle.items.specs.Reading as Listed
use Rattle.items.proofs.Top.{items-exactly}
use Rattle.statements.specs.Statements.{Reading, nothing, instruction, org, equ, res, cells, end, StatementWord, Body, empty, opcode, origin, equals, reserve, items, ends}
use Rattle.statements.specs.Checks.{least_unsigned, least_signed}
use Rattle.statements.specs.Judging.{worth_result, tree_result, instruction_result, judged}
use Rattle.statements.specs.Reading.{is_word, expression_result, items_result, by_word, statement_read}
use Rattle.statements.specs.declared.Failure.TheVariants.{UnknownWord, WrongForm, TooDeep, OutOfRange}
use Rattle.statements.specs.declared.Statement.{Statement}
use Rattle.statements.specs.declared.Statement.TheVariants.{Org, Equ, Res, Data}
use Rattle.statements.proofs.Labelling.{never}

module _ (line : List ℕ) where
  -- the first token is a word, and none that statements have
  pub data UnknownHere : List Token → Type 0 where
    here : {w : Token} {ts : List Token} → StatementWord line w W.Unknown → UnknownHere (w ∷ ts)

  -- what the tokens say, and what the reader answers
  pub data Found (ts : List Token) : Type 0 where
    says : (r : Reading) → Body line ts r → ((r' : Reading) → Body line ts r' → r ≡ r') → (UnknownHere ts → ⊥) → statement_read line ts ≡ judged r → Found ts
    unknown : UnknownHere ts → ((r : Reading) → Body line ts r → ⊥) → statement_read line ts ≡ Err UnknownWord → Found ts
    wrong : (UnknownHere ts → ⊥) → ((r : Reading) → Body line ts r → ⊥) → statement_read line ts ≡ Err WrongForm → Found ts

  -- what a reading is by the statement's word
  abbrev ReadBy : Word → List Token → Reading → Type 0
  ReadBy (W.Instructs op) ts r = (os : List Written) × OperandField line ts os × (r ≡ instruction op os)
  ReadBy W.Org ts r = (e : Tree) × Expression ts e × (r ≡ org e)
  ReadBy W.Equ ts r = (e : Tree) × Expression ts e × (r ≡ equ e)
  ReadBy W.Res ts r = (e : Tree) × Expression ts e × (r ≡ res e)
  ReadBy W.Data ts r = (is : List Item) × Items line ts is × (r ≡ cells is)
  ReadBy W.End ts r = r ≡ end
  ReadBy W.Unknown ts r = ⊥

  abbrev word_as : Token → Word
  word_as w = word_of (word_at line w)

  read_by : {w : Token} {ts : List Token} {r : Reading} → Body line (w ∷ ts) r → ReadBy (word_as w) ts r
  read_by (opcode {w} {ts} {op} {os} s f) = subst (λ (x : Word). ReadBy x ts (instruction op os)) (sym s.means) (os, f, refl)
  read_by (origin {w} {ts} {e} s f) = subst (λ (x : Word). ReadBy x ts (org e)) (sym s.means) (e, f, refl)
  read_by (equals {w} {ts} {e} s f) = subst (λ (x : Word). ReadBy x ts (equ e)) (sym s.means) (e, f, refl)
  read_by (reserve {w} {ts} {e} s f) = subst (λ (x : Word). ReadBy x ts (res e)) (sym s.means) (e, f, refl)
  read_by (items {w} {ts} {is} s f) = subst (λ (x : Word). ReadBy x ts (cells is)) (sym s.means) (is, f, refl)
  read_by (ends {w} {ts} s) = subst (λ (x : Word). ReadBy x ts end) (sym s.means) refl

  body_word : {w : Token} {ts : List Token} {r : Reading} → Body line (w ∷ ts) r → w.kind ≡ K.Word
  body_word (opcode s f) = s.word
  body_word (origin s f) = s.word
  body_word (equals s f) = s.word
  body_word (reserve s f) = s.word
  body_word (items s f) = s.word
  body_word (ends s) = s.word

  unknown-word : {w : Token} {ts : List Token} → UnknownHere (w ∷ ts) → StatementWord line w W.Unknown
  unknown-word (here s) = s

-- ---- what each part comes to

module _ (least : ℤ) (makes : ℕ → Statement) where
  tree-result : {ts : List Token} {e : Tree} → Expression ts e → expression_result least makes (expression_read ts) ≡ tree_result least makes e
  unfolding expression_read tree_result
  tree-result {ts} {e} s = ap (λ r. expression_result least makes (Expressions.judged r)) ((Trees.tree_exactly ts).1 s) ∙ go (leb (depth e) deepest)
    where
      go : (b : Bool) → expression_result least makes (cond b (Ok (worth_of e)) (Err TooDeep)) ≡ cond b (worth_result least makes (worth_of e)) (Err TooDeep)
      go true = refl
      go false = refl

  no_tree_result : {ts : List Token} → ((e : Tree) → Expression ts e → ⊥) → expression_result least makes (expression_read ts) ≡ Err WrongForm
  no_tree_result {ts} n = ap (expression_result least makes) ((Trees.wrong-exactly ts).1 n)

operands-result : (line : List ℕ) (op : Opcode) (ts : List Token) {o : Walk.RowRead} → operands_of line ts ≡ o
    → instruction_result op (Operands.instruction_read line op ts) ≡ instruction_result op (Operands.judged_form op o)
unfolding Operands.instruction_read
operands-result line op ts f = ap (λ o. instruction_result op (Operands.judged_form op o)) f

items-result : (line : List ℕ) (ts : List Token) {o : Listed.RowRead} → Listed.walk line Listed.item ts ≡ o
    → items_result (Listed.items_read line ts) ≡ items_result (Listed.judged o)
unfolding Listed.items_read
items-result line ts f = ap (λ o. items_result (Listed.judged o)) f

cells-result : (is : List Item) → items_result (Listed.judged (Listed.reads is)) ≡ judged (cells is)
unfolding judged
cells-result is = go (all_in_range is)
  where
    go : (b : Bool) → items_result (cond b (Ok (length (cells_of is))) (Err OutOfRange)) ≡ cond b (Ok (Data (length (cells_of is)))) (Err OutOfRange)
    go true = refl
    go false = refl

module _ (line : List ℕ) where
  -- ---- by the statement's word

  module _ (w : Token) (k : w.kind ≡ K.Word) where
    abbrev ts : List Token
    ts = tokens_from line w.next.at

    module _ (x : Word) (e : word_of (word_at line w) ≡ x) where
      -- the reader goes by the word
      goes_by : statement_read line (w ∷ ts) ≡ by_word line x ts
      unfolding statement_read
      goes_by = rw (k, e)

      abbrev word_is : StatementWord line w x
      word_is = record { word = k; means = e }

      by_is : (r : Reading) → Body line (w ∷ ts) r → ReadBy line x ts r
      by_is r b = subst (λ (y : Word). ReadBy line y ts r) e (read_by line b)

      known : (x ≡ W.Unknown → ⊥) → UnknownHere line (w ∷ ts) → ⊥
      known n u = n (sym e ∙ (unknown-word line u).means)

      by_tree : (least : ℤ) (makes : ℕ → Statement) (mk : Tree → Reading)
          → (x ≡ W.Unknown → ⊥)
          → by_word line x ts ≡ expression_result least makes (expression_read ts)
          → ((t : Tree) → tree_result least makes t ≡ judged (mk t))
          → ((t : Tree) → Expression ts t → Body line (w ∷ ts) (mk t))
          → ((r : Reading) → ReadBy line x ts r → (t : Tree) × Expression ts t × (r ≡ mk t))
          → Found line (w ∷ ts)
      by_tree least makes mk n goes comes body back = go (tree-found ts)
        where
          go : TreeFound ts → Found line (w ∷ ts)
          go (tree_is t f s) =
              says (mk t) (body t s)
              (λ r b. let h = back r (by_is r b) in ap mk (Trees.one-reading s h.1) ∙ sym h.2)
              (known n)
              (goes_by ∙ goes ∙ tree-result least makes s ∙ comes t)
          go (none_is f m) =
              wrong (known n)
              (λ r b. let h = back r (by_is r b) in m h.0 h.1)
              (goes_by ∙ goes ∙ no_tree_result least makes m)

    by-opcode : (op : Opcode) → word_of (word_at line w) ≡ W.Instructs op → Found line (w ∷ ts)
    unfolding judged
    by-opcode op e = go (operands_of line ts) refl
      where
        go : (o : Walk.RowRead) → operands_of line ts ≡ o → Found line (w ∷ ts)
        go (Walk.reads os) f =
            says (instruction op os) (opcode (word_is (W.Instructs op) e) ((reads-exactly line ts).0 f))
            (λ r b. let h = by_is (W.Instructs op) e r b in let g = (reads-exactly line ts).1 h.1 in cc (h.2, g, f))
            (known (W.Instructs op) e (λ z. never (cc)))
            (goes_by (W.Instructs op) e ∙ operands-result line op ts f)
        go Walk.wrong f =
            wrong (known (W.Instructs op) e (λ z. never (cc)))
            (λ r b. let h = by_is (W.Instructs op) e r b in let g = (reads-exactly line ts).1 h.1 in never (cc))
            (goes_by (W.Instructs op) e ∙ operands-result line op ts f)

    by_items : word_of (word_at line w) ≡ W.Data → Found line (w ∷ ts)
    by_items e = go (Listed.walk line Listed.item ts) refl
      where
        go : (o : Listed.RowRead) → Listed.walk line Listed.item ts ≡ o → Found line (w ∷ ts)
        go (Listed.reads is) f =
            says (cells is) (items (word_is W.Data e) ((items-exactly line w.next.at).0 f))
            (λ r b. let h = by_is W.Data e r b in let g = (items-exactly line w.next.at).1 h.1 in cc (h.2, g, f))
            (known W.Data e (λ z. never (cc)))
            (goes_by W.Data e ∙ items-result line ts f ∙ cells-result is)
        go Listed.wrong f =
            wrong (known W.Data e (λ z. never (cc)))
            (λ r b. let h = by_is W.Data e r b in let g = (items-exactly line w.next.at).1 h.1 in never (cc))
            (goes_by W.Data e ∙ items-result line ts f)

    by-word : (x : Word) → word_of (word_at line w) ≡ x → Found line (w ∷ ts)
    unfolding judged
    by-word (W.Instructs op) e = by-opcode op e
    by-word W.Org e =
        by_tree W.Org e least_unsigned Org org (λ z. never (cc)) refl (λ t. refl) (λ t s. origin (word_is W.Org e) s) (λ r h. h)
    by-word W.Equ e =
        by_tree W.Equ e least_signed Equ equ (λ z. never (cc)) refl (λ t. refl) (λ t s. equals (word_is W.Equ e) s) (λ r h. h)
    by-word W.Res e =
        by_tree W.Res e least_unsigned Res res (λ z. never (cc)) refl (λ t. refl) (λ t s. reserve (word_is W.Res e) s) (λ r h. h)
    by-word W.Data e = by_items e
    by-word W.End e =
        says end (ends (word_is W.End e)) (λ r b. sym (by_is W.End e r b)) (known W.End e (λ z. never (cc))) (goes_by W.End e)
    by-word W.Unknown e = unknown (here (word_is W.Unknown e)) (by_is W.Unknown e) (goes_by W.Unknown e)

  -- ---- the tokens from a place on

  none_follow : Found line []
  unfolding statement_read judged
  none_follow = says nothing empty (λ r b. only b) (λ u. has_word u refl) refl
    where
      only : {r : Reading} → Body line [] r → nothing ≡ r
      only empty = refl

      has_word : {us : List Token} → UnknownHere line us → length us ≡ 0 → ⊥
      has_word (here s) e = omega arith

  -- "a token there that is no word is 3"
  no_word_first : (w : Token) (us : List Token) → is_word w.kind ≡ false → Found line (w ∷ us)
  unfolding statement_read
  no_word_first w us f =
      wrong (λ u. let g = (unknown-word line u).word in let z : true ≡ false = ap is_word (sym g) ∙ f in never (cc))
      (λ r b. let g = body_word line b in let z : true ≡ false = ap is_word (sym g) ∙ f in never (cc))
      (rw f)

  pub found : (at : ℕ) → Found line (tokens_from line at)
  found at = subst (Found line) (sym (row_unfolds line at)) (go w.kind refl)
    where
      w : Token
      w = token_at line at

      go : (k : Kind) → w.kind ≡ k → Found line (after_kind k w (tokens_from line))
      go K.End e = none_follow
      go K.Stray e = no_word_first w [] (ap is_word e)
      go K.Word e = by-word w e (word_of (word_at line w)) refl
      go (K.Number v r) e = no_word_first w (tokens_from line w.next.at) (ap is_word e)
      go K.Text e = no_word_first w (tokens_from line w.next.at) (ap is_word e)
      go (K.Mark b) e = no_word_first w (tokens_from line w.next.at) (ap is_word e)
