-- The reader reads what the grammar has, and nothing else: so a row of tokens has one reading at most.
use Prim.Native.Nat.{ℕ}
use Prim.Native.Char.{code}
use mathlib.Core.List.{List, [], ◌∷◌, ◌++◌, append_assoc, append-nil}
use mathlib.Core.Path.{◌≡◌, refl, ap, ◌∙◌}
use native.Mathlib.Omega.{arith}
use Rattle.tokens.specs.Marks.{IsMark}
use Rattle.tokens.specs.declared.Kind.TheVariants as K
use Rattle.tokens.specs.declared.Token.{Token}
use Rattle.numerals.specs.declared.Radix.{Radix}
use Rattle.expressions.specs.Grammar.{Sum, Product, Factor, one_product, sum, one_factor, product, literal, parentheses}
use Rattle.expressions.specs.Operations.{SumMark, ProductMark}
use Rattle.expressions.specs.Reading.{kind_symbol, Waiting, nothing, waits, Outcome, reads, wrong, joined, Frame, at_operand, at_operator, operand, operator}
use Rattle.expressions.specs.declared.Operation.{Operation}
use Rattle.expressions.specs.declared.Symbol.{Symbol}
use Rattle.expressions.specs.declared.Symbol.TheVariants as Y
use Rattle.expressions.proofs.Meanings.{Means, number, sums, products, opening, shutting, means, sum-mark, product-mark, open_mark, shut-mark}
use Rattle.expressions.proofs.Turns.{at_number, at_opens, at_sum, at_product, at_shuts}

module _ (W : Type 0) (of : Token → ℕ → W) (operate : Token → Operation → W → W → W) (enclose : Token → W → W) where
  abbrev Wait : Type 0
  Wait = Waiting W of operate enclose

  abbrev Stack : Type 0
  Stack = List (Frame W of operate enclose)

  abbrev join : Wait → W → W
  join l v = joined W of operate enclose l v

  -- what the reader does with a sum, a product and a factor, whatever follows
  abbrev SumRead : List Token → W → Type 0
  SumRead ts v =
      (l : Wait) × (w : W)
      × ((rest : List Token) (k : Stack) → operand W of operate enclose (ts ++ rest) nothing nothing k ≡ operator W of operate enclose rest l w k)
      × (join l w ≡ v)

  abbrev ProductRead : List Token → W → Type 0
  ProductRead ts v =
      (rest : List Token) (l : Wait) (k : Stack) → operand W of operate enclose (ts ++ rest) l nothing k ≡ operator W of operate enclose rest l v k

  abbrev FactorRead : List Token → W → Type 0
  FactorRead ts v =
      (rest : List Token) (l p : Wait) (k : Stack) → operand W of operate enclose (ts ++ rest) l p k ≡ operator W of operate enclose rest l (join p v) k

  read-sum : (ts us : List Token) (a b : W) (o : Operation) (t : Token) → SumMark t o → SumRead ts a → ProductRead us b → SumRead (ts ++ (t ∷ us)) (operate t o a b)
  read-sum ts us a b o t m h p =
      let l = waits (join h.0 h.1) t o in (
        l,
        b,
        (λ rest k. rw append_assoc (h.2 (t ∷ (us ++ rest)) k ∙ at_sum W of operate enclose t (us ++ rest) o (sum-mark m) h.0 h.1 k ∙ p rest l k)),
        ap (λ (x : W). operate t o x b) h.3,
      )

  read-product : (ts us : List Token) (a b : W) (o : Operation) (t : Token) → ProductMark t o → ProductRead ts a → FactorRead us b → ProductRead (ts ++ (t ∷ us)) (operate t o a b)
  read-product ts us a b o t m p f rest l k =
      rw append_assoc (p (t ∷ (us ++ rest)) l k ∙ at_product W of operate enclose t (us ++ rest) o (product-mark m) l a k ∙ f rest l (waits a t o) k)

  read-literal : (t : Token) (v : ℕ) (k : Radix) → t.kind ≡ K.Number v k → FactorRead (t ∷ []) (of t v)
  read-literal t v k e rest l p q = at_number W of operate enclose t rest v (rw e) l p q

  read-parentheses : (a z : Token) (ts : List Token) (v : W) → IsMark (code "(") a → IsMark (code ")") z → SumRead ts v → FactorRead (a ∷ (ts ++ (z ∷ []))) (enclose a v)
  read-parentheses a z ts v m n h rest l p k =
      rw append_assoc
      (at_opens W of operate enclose a (ts ++ (z ∷ rest)) (open_mark a m) l p k
      ∙ h.2 (z ∷ rest) (record { sum = l; product = p; opening = a } ∷ k)
      ∙ at_shuts W of operate enclose z rest (shut-mark z n) h.0 h.1 (record { sum = l; product = p; opening = a }) k
      ∙ ap (λ (x : W). operator W of operate enclose rest l (join p (enclose a x)) k) h.3)

  sum-read : {ts : List Token} {v : W} → Sum W of operate enclose ts v → SumRead ts v
  sum-read s =
      elim s as (λ ts v s. SumRead ts v) (λ ts v s. ProductRead ts v) (λ ts v s. FactorRead ts v) [
        | one_product {v = v} (p → h) ↦ (nothing, v, (λ rest k. h rest nothing k), refl)
        | sum {ts} {us} {a} {b} {o} t (s → h) m (p → g) ↦ read-sum ts us a b o t m h g
        | one_factor (f → h) ↦ λ rest l k. h rest l nothing k
        | product {ts} {us} {a} {b} {o} t (p → h) m (f → g) ↦ read-product ts us a b o t m h g
        | literal {t} {v} {k} e ↦ read-literal t v k e
        | parentheses {a} {ts} {v} z m (s → h) n ↦ read-parentheses a z ts v m n h
      ]

  pub complete : {ts : List Token} {v : W} → Sum W of operate enclose ts v → operand W of operate enclose ts nothing nothing [] ≡ reads v
  unfolding operator
  complete {ts} s = let h = sum-read s in rw (append-nil ts) at (h.2 [] []) ∙ ap reads h.3

  -- what has been passed, by what waits: a sum and its mark, a product and its mark, the open parentheses
  abbrev SumLeft : List Token → Wait → Type 0
  SumLeft y nothing = y ≡ []
  SumLeft y (waits a t o) = (us : List Token) × (y ≡ us ++ (t ∷ [])) × SumMark t o × Sum W of operate enclose us a

  abbrev ProductLeft : List Token → Wait → Type 0
  ProductLeft z nothing = z ≡ []
  ProductLeft z (waits a t o) = (us : List Token) × (z ≡ us ++ (t ∷ [])) × ProductMark t o × Product W of operate enclose us a

  abbrev Opened : List Token → Stack → Type 0
  Opened x [] = x ≡ []
  Opened x (f ∷ k) =
      (x' y z : List Token) × (x ≡ x' ++ y ++ z ++ (f.opening ∷ [])) × IsMark (code "(") f.opening
      × Opened x' k × SumLeft y f.sum × ProductLeft z f.product

  never : {v : W} → ◌≡◌ {A = Outcome W of operate enclose} wrong (reads v) → ⊥
  never e = let z : ◌≡◌ {A = ℕ} 0 1 = cc in omega arith

  with_factor : (z us : List Token) (p : Wait) (v : W) → ProductLeft z p → Factor W of operate enclose us v → Product W of operate enclose (z ++ us) (join p v)
  with_factor z us nothing v h f = rw h (one_factor f)
  with_factor z us (waits a t o) v h f = rw (h.1, append_assoc) (product t h.3 h.2 f)

  with-product : (y z : List Token) (l : Wait) (v : W) → SumLeft y l → Product W of operate enclose z v → Sum W of operate enclose (y ++ z) (join l v)
  with-product y z nothing v h p = rw h (one_product p)
  with-product y z (waits a t o) v h p = rw (h.1, append_assoc) (sum t h.3 h.2 p)

  -- the whole row is a sum, wherever the reader has come to
  abbrev OperandSound : List Token → Type 0
  OperandSound ts =
      (l p : Wait) (k : Stack) (x y z : List Token) (v : W) → Opened x k → SumLeft y l → ProductLeft z p
      → operand W of operate enclose ts l p k ≡ reads v → Sum W of operate enclose (x ++ y ++ z ++ ts) v

  abbrev OperatorSound : List Token → Type 0
  OperatorSound ts =
      (l : Wait) (w : W) (k : Stack) (x y z : List Token) (v : W) → Opened x k → SumLeft y l → Product W of operate enclose z w
      → operator W of operate enclose ts l w k ≡ reads v → Sum W of operate enclose (x ++ y ++ z ++ ts) v

  module _ (t : Token) (ts : List Token) (f : OperandSound ts) (g : OperatorSound ts) where
    operand-turn : (s : Symbol) → Means t s → (l p : Wait) (k : Stack) (x y z : List Token) (v : W) → Opened x k → SumLeft y l → ProductLeft z p
        → at_operand W of operate enclose t s (λ l v k. operator W of operate enclose ts l v k) (λ l p k. operand W of operate enclose ts l p k) l p k ≡ reads v
        → Sum W of operate enclose (x ++ y ++ z ++ (t ∷ ts)) v
    operand-turn (Y.Number n) (number e) l p k x y z v hx hy hz r =
        let s = g l (join p (of t n)) k x y (z ++ (t ∷ [])) v hx hy (with_factor z (t ∷ []) p (of t n) hz (literal e)) r in
        simp append_assoc (simp append_assoc at s)
    operand-turn (Y.Sums o) m l p k x y z v hx hy hz r = absurd (never r)
    operand-turn (Y.Products o) m l p k x y z v hx hy hz r = absurd (never r)
    operand-turn Y.Opens (opening e) l p k x y z v hx hy hz r =
        let s = f nothing nothing (record { sum = l; product = p; opening = t } ∷ k) (x ++ y ++ z ++ (t ∷ [])) [] [] v (x, y, z, refl, e, hx, hy, hz) refl refl r in
        simp append_assoc (simp append_assoc at s)
    operand-turn Y.Shuts m l p k x y z v hx hy hz r = absurd (never r)
    operand-turn Y.Other m l p k x y z v hx hy hz r = absurd (never r)

    operator-turn : (s : Symbol) → Means t s → (l : Wait) (w : W) (k : Stack) (x y z : List Token) (v : W) → Opened x k → SumLeft y l → Product W of operate enclose z w
        → at_operator W of operate enclose t s (λ l v k. operator W of operate enclose ts l v k) (λ l p k. operand W of operate enclose ts l p k) l w k ≡ reads v
        → Sum W of operate enclose (x ++ y ++ z ++ (t ∷ ts)) v
    operator-turn (Y.Number n) m l w k x y z v hx hy hz r = absurd (never r)
    operator-turn (Y.Sums o) (sums m) l w k x y z v hx hy hz r =
        let s = f (waits (join l w) t o) nothing k x ((y ++ z) ++ (t ∷ [])) [] v hx (y ++ z, refl, m, with-product y z l w hy hz) refl r in
        simp append_assoc (simp append_assoc at s)
    operator-turn (Y.Products o) (products m) l w k x y z v hx hy hz r =
        let s = f l (waits w t o) k x y (z ++ (t ∷ [])) v hx hy (z, refl, m, hz) r in
        simp append_assoc (simp append_assoc at s)
    operator-turn Y.Opens m l w k x y z v hx hy hz r = absurd (never r)
    operator-turn Y.Shuts (shutting m) l w [] x y z v hx hy hz r = absurd (never r)
    operator-turn Y.Shuts (shutting m) l w (q ∷ k) x y z v hx hy hz r =
        let u = q.opening ∷ ((y ++ z) ++ (t ∷ [])) in
        let s =
        g q.sum (join q.product (enclose q.opening (join l w))) k hx.0 hx.1 (hx.2 ++ u) v hx.5 hx.6
        (with_factor hx.2 u q.product (enclose q.opening (join l w)) hx.7 (parentheses t hx.4 (with-product y z l w hy hz) m)) r in
        rw hx.3 (simp append_assoc (simp append_assoc at s))
    operator-turn Y.Other m l w k x y z v hx hy hz r = absurd (never r)

  mutual
    unfolding operand operator

    operand_sound : (ts : List Token) → OperandSound ts
    operand_sound [] l p k x y z v hx hy hz e = absurd (never e)
    operand_sound (t ∷ ts) l p k x y z v hx hy hz e =
        operand-turn t ts
        (λ l p k x y z v hx hy hz e. operand_sound ts l p k x y z v hx hy hz e)
        (λ l w k x y z v hx hy hz e. operator-sound ts l w k x y z v hx hy hz e)
        (kind_symbol t.kind) (means t) l p k x y z v hx hy hz e

    operator-sound : (ts : List Token) → OperatorSound ts
    operator-sound [] l w [] x y z v hx hy hz e =
        let q : join l w ≡ v = cc in
        rw (hx, append-nil, ← q) (with-product y z l w hy hz)
    operator-sound [] l w (f ∷ k) x y z v hx hy hz e = absurd (never e)
    operator-sound (t ∷ ts) l w k x y z v hx hy hz e =
        operator-turn t ts
        (λ l p k x y z v hx hy hz e. operand_sound ts l p k x y z v hx hy hz e)
        (λ l w k x y z v hx hy hz e. operator-sound ts l w k x y z v hx hy hz e)
        (kind_symbol t.kind) (means t) l w k x y z v hx hy hz e

  pub sound : (ts : List Token) (v : W) → operand W of operate enclose ts nothing nothing [] ≡ reads v → Sum W of operate enclose ts v
  sound ts v e = operand_sound ts nothing nothing [] [] [] [] v refl refl refl e

  pub once : {ts : List Token} {v w : W} → Sum W of operate enclose ts v → Sum W of operate enclose ts w → v ≡ w
  once s r = let e = complete s in let f = complete r in cc
