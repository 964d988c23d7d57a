-- An expression is read from the kinds of its tokens alone, so that two lines with the same tokens (tokens' Spacing.antt) have the same.
use Prim.Native.Nat.{ℕ}
use mathlib.Core.Bool.{Bool, not}
use mathlib.Core.List.{List, [], ◌∷◌}
use mathlib.Core.Path.{◌≡◌, refl, ap, ◌∙◌}
use native.Mathlib.Omega.{arith}
use lib.Dec.{T}
use Rattle.tokens.specs.declared.Kind.{Kind}
use Rattle.tokens.specs.declared.Kind.TheVariants as K
use Rattle.tokens.specs.declared.Token.{Token}
use Rattle.tokens.proofs.Spacing.{AlikeRow, over, next}
use Rattle.tokens.proofs.Respacing.{is_stray, NoStray}
use Rattle.expressions.specs.Trees.{Tree, enclosed, literal_of, node_of, enclosed_of}
use Rattle.expressions.specs.Reading.{kind_symbol, Waiting, nothing, waits, Outcome, reads, wrong, joined, Frame, at_operand, shut, at_operator, operand, operator, tree_read, judged, expression_read}
use Rattle.std.proofs.Common.{Ok}
use Rattle.expressions.specs.Worths.{Worth}
use Rattle.expressions.specs.declared.Symbol.{Symbol}
use Rattle.expressions.specs.declared.Symbol.TheVariants.{Number, Sums, Products, Opens, Shuts, Other}

apart : {X : Type 0} → ◌≡◌ {A = ℕ} 0 1 → X
apart z = absurd (omega arith)

-- rows of tokens of the same kinds
pub data SameKinds : List Token → List Token → Type 0 where
  none : SameKinds [] []
  some : {t t' : Token} {ts ts' : List Token} → t.kind ≡ t'.kind → SameKinds ts ts' → SameKinds (t ∷ ts) (t' ∷ ts')

pub alike-kinds : (line line' : List ℕ) {signs : Bool} {before : Kind} {ts ts' : List Token} → AlikeRow line line' signs before ts ts' → SameKinds ts ts'
alike-kinds line line' over = none
alike-kinds line line' (next k m s r) = some refl (alike-kinds line line' r)

abbrev Wait : Type 0
Wait = Waiting Tree literal_of node_of enclosed_of

abbrev Stack : Type 0
Stack = List (Frame Tree literal_of node_of enclosed_of)

abbrev Answer : Type 0
Answer = Outcome Tree literal_of node_of enclosed_of

abbrev operand_t : List Token → Wait → Wait → Stack → Answer
operand_t ts l p k = operand Tree literal_of node_of enclosed_of ts l p k

abbrev operator_t : List Token → Wait → Tree → Stack → Answer
operator_t ts l v k = operator Tree literal_of node_of enclosed_of ts l v k

-- a token of the reader, by its symbol
abbrev OperandAt : Token → List Token → Symbol → Wait → Wait → Stack → Answer
OperandAt t ts y l p k = at_operand Tree literal_of node_of enclosed_of t y (λ l v k. operator_t ts l v k) (λ l p k. operand_t ts l p k) l p k

abbrev OperatorAt : Token → List Token → Symbol → Wait → Tree → Stack → Answer
OperatorAt t ts y l v k = at_operator Tree literal_of node_of enclosed_of t y (λ l v k. operator_t ts l v k) (λ l p k. operand_t ts l p k) l v k

-- what waits by the same operations: a tree leaves the tokens out
abbrev SameWait : Wait → Wait → Type 0
SameWait nothing nothing = Unit {0}
SameWait nothing (waits b u q) = ⊥
SameWait (waits a t o) nothing = ⊥
SameWait (waits a t o) (waits b u q) = (a ≡ b) × (o ≡ q)

abbrev SameStack : Stack → Stack → Type 0
SameStack [] [] = Unit {0}
SameStack [] (g ∷ m) = ⊥
SameStack (f ∷ k) [] = ⊥
SameStack (f ∷ k) (g ∷ m) = SameWait f.sum g.sum × SameWait f.product g.product × SameStack k m

abbrev join_t : Wait → Tree → Tree
join_t l v = joined Tree literal_of node_of enclosed_of l v

same-joined : (l m : Wait) {v w : Tree} → SameWait l m → v ≡ w → join_t l v ≡ join_t m w
same-joined nothing nothing h e = e
same-joined nothing (waits b u q) h e = absurd h
same-joined (waits a t o) nothing h e = absurd h
same-joined (waits a t o) (waits b u q) h e = let f = h.0 in let g = h.1 in cc

-- the reader goes on alike, whether an operand or an operation is next
record Onward (ts ts' : List Token) : Type 0 where
  operands : (l l' p p' : Wait) (k k' : Stack) → SameWait l l' → SameWait p p' → SameStack k k' → operand_t ts l p k ≡ operand_t ts' l' p' k'
  operators : (l l' : Wait) (v v' : Tree) (k k' : Stack) → SameWait l l' → v ≡ v' → SameStack k k' → operator_t ts l v k ≡ operator_t ts' l' v' k'

module _ (t t' : Token) (ts ts' : List Token) (h : Onward ts ts') where
  at-operand : (y : Symbol) (l l' p p' : Wait) (k k' : Stack) → SameWait l l' → SameWait p p' → SameStack k k'
      → OperandAt t ts y l p k ≡ OperandAt t' ts' y l' p' k'
  at-operand (Number n) l l' p p' k k' hl hp hk = h.operators _ _ _ _ k k' hl (same-joined p p' hp refl) hk
  at-operand (Sums o) l l' p p' k k' hl hp hk = refl
  at-operand (Products o) l l' p p' k k' hl hp hk = refl
  at-operand Opens l l' p p' k k' hl hp hk =
      h.operands nothing nothing nothing nothing (record { sum = l; product = p; opening = t } ∷ k) (record { sum = l'; product = p'; opening = t' } ∷ k')
      tt tt (hl, hp, hk)
  at-operand Shuts l l' p p' k k' hl hp hk = refl
  at-operand Other l l' p p' k k' hl hp hk = refl

  at_shut : (l l' : Wait) (v v' : Tree) (k k' : Stack) → SameWait l l' → v ≡ v' → SameStack k k'
      → shut Tree literal_of node_of enclosed_of (λ l v k. operator_t ts l v k) l v k
      ≡ shut Tree literal_of node_of enclosed_of (λ l v k. operator_t ts' l v k) l' v' k'
  at_shut l l' v v' [] [] hl hv hk = refl
  at_shut l l' v v' [] (g ∷ k') hl hv hk = absurd hk
  at_shut l l' v v' (f ∷ k) [] hl hv hk = absurd hk
  at_shut l l' v v' (f ∷ k) (g ∷ k') hl hv hk =
      h.operators _ _ _ _ k k' hk.0 (same-joined f.product g.product hk.1 (ap enclosed (same-joined l l' hl hv))) hk.2

  at-operator : (y : Symbol) (l l' : Wait) (v v' : Tree) (k k' : Stack) → SameWait l l' → v ≡ v' → SameStack k k'
      → OperatorAt t ts y l v k ≡ OperatorAt t' ts' y l' v' k'
  at-operator (Number n) l l' v v' k k' hl hv hk = refl
  at-operator (Sums o) l l' v v' k k' hl hv hk =
      h.operands (waits (join_t l v) t o) (waits (join_t l' v') t' o) nothing nothing k k' (same-joined l l' hl hv, refl) tt hk
  at-operator (Products o) l l' v v' k k' hl hv hk = h.operands l l' (waits v t o) (waits v' t' o) k k' hl (hv, refl) hk
  at-operator Opens l l' v v' k k' hl hv hk = refl
  at-operator Shuts l l' v v' k k' hl hv hk = at_shut l l' v v' k k' hl hv hk
  at-operator Other l l' v v' k k' hl hv hk = refl

onward-end : (l l' : Wait) (v v' : Tree) (k k' : Stack) → SameWait l l' → v ≡ v' → SameStack k k' → operator_t [] l v k ≡ operator_t [] l' v' k'
unfolding operator
onward-end l l' v v' [] [] hl hv hk = ap reads (same-joined l l' hl hv)
onward-end l l' v v' [] (g ∷ k') hl hv hk = absurd hk
onward-end l l' v v' (f ∷ k) [] hl hv hk = absurd hk
onward-end l l' v v' (f ∷ k) (g ∷ k') hl hv hk = refl

onward : {ts ts' : List Token} → SameKinds ts ts' → Onward ts ts'
unfolding operand operator
onward none = record { operands = λ l l' p p' k k' hl hp hk. refl; operators = onward-end }
onward (some {t} {t'} {ts} {ts'} e r) =
    record {
      operands =
          λ l l' p p' k k' hl hp hk. ap (λ (y : Kind). OperandAt t ts (kind_symbol y) l p k) e
          ∙ at-operand t t' ts ts' (onward r) (kind_symbol t'.kind) l l' p p' k k' hl hp hk;
      operators =
          λ l l' v v' k k' hl hv hk. ap (λ (y : Kind). OperatorAt t ts (kind_symbol y) l v k) e
          ∙ at-operator t t' ts ts' (onward r) (kind_symbol t'.kind) l l' v v' k k' hl hv hk;
    }

pub expression-same : {ts ts' : List Token} → SameKinds ts ts' → expression_read ts ≡ expression_read ts'
unfolding expression_read
expression-same r = ap judged ((onward r).operands nothing nothing nothing nothing [] [] tt tt tt)

-- ---- whole tokens

-- what is not stray
not-stray : (k : Kind) → (kind_symbol k ≡ Other → ⊥) → T (not (is_stray k))
not-stray K.Stray n = absurd (n refl)
not-stray _ n = tt

-- the reader reads no stray token, whether an operand or an operation is next
record Whole (ts : List Token) : Type 0 where
  operands : (l p : Wait) (k : Stack) (r : Tree) → operand_t ts l p k ≡ reads r → NoStray ts
  operators : (l : Wait) (v : Tree) (k : Stack) (r : Tree) → operator_t ts l v k ≡ reads r → NoStray ts

unread : {X : Type 0} {r : Tree} → ◌≡◌ {A = Answer} wrong (reads r) → X
unread e = let z : ◌≡◌ {A = ℕ} 0 1 = cc e in absurd (omega arith)

module _ (t : Token) (ts : List Token) (h : Whole ts) where
  operand-whole : (y : Symbol) (l p : Wait) (k : Stack) (r : Tree) → OperandAt t ts y l p k ≡ reads r → (y ≡ Other → ⊥) × NoStray ts
  operand-whole (Number n) l p k r e = (λ q. apart (cc q), h.operators _ _ _ r e)
  operand-whole Opens l p k r e = (λ q. apart (cc q), h.operands _ _ _ r e)
  operand-whole _ l p k r e = unread e

  operator-whole : (y : Symbol) (l : Wait) (v : Tree) (k : Stack) (r : Tree) → OperatorAt t ts y l v k ≡ reads r → (y ≡ Other → ⊥) × NoStray ts
  operator-whole (Number n) l v k r e = unread e
  operator-whole (Sums o) l v k r e = (λ q. apart (cc q), h.operands _ _ _ r e)
  operator-whole (Products o) l v k r e = (λ q. apart (cc q), h.operands _ _ _ r e)
  operator-whole Opens l v k r e = unread e
  operator-whole Shuts l v [] r e = unread e
  operator-whole Shuts l v (f ∷ k) r e = (λ q. apart (cc q), h.operators _ _ _ r e)
  operator-whole Other l v k r e = unread e

whole : (ts : List Token) → Whole ts
unfolding operand operator
whole [] = record { operands = λ l p k r e. tt; operators = λ l v k r e. tt }
whole (t ∷ ts) =
    let h = whole ts in
    record {
      operands = λ l p k r e. let g = operand-whole t ts h (kind_symbol t.kind) l p k r e in (not-stray t.kind g.0, g.1);
      operators = λ l v k r e. let g = operator-whole t ts h (kind_symbol t.kind) l v k r e in (not-stray t.kind g.0, g.1);
    }

-- an expression that is read has whole tokens
pub expression-whole : (ts : List Token) {w : Worth} → expression_read ts ≡ Ok w → NoStray ts
unfolding expression_read
expression-whole ts {w} e = go (tree_read ts) refl e
  where
    go : (r : Answer) → tree_read ts ≡ r → judged r ≡ Ok w → NoStray ts
    go (reads tree) q e = (whole ts).operands nothing nothing [] tree q
    go wrong q e = apart (cc e)
