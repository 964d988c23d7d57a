-- A row's height passes a room somewhere exactly where its tree is deeper than the room.
use Prim.Native.Nat.{ℕ, zero, suc, max}
use Prim.Native.Char.{code}
use mathlib.Core.Bool.{Bool, true, false, ◌||◌, or_assoc, or-false}
use mathlib.Core.List.{List, [], ◌∷◌, ◌++◌, append_assoc, append-nil}
use mathlib.Core.Path.{◌≡◌, refl, sym, ap, ◌∙◌}
use native.Mathlib.Omega.{arith}
use lib.Dec.{ltb, leb-suc-suc}
use borrow.Author.Tests.{ltb-true, ltb-false, lt-ltb, le-ltb}
use Rattle.numerals.specs.declared.Radix.{Radix}
use Rattle.tokens.specs.Marks.{IsMark}
use Rattle.tokens.specs.declared.Kind.TheVariants as K
use Rattle.tokens.specs.declared.Token.{Token}
use Rattle.expressions.specs.Grammar.{one_product, sum, one_factor, product, literal as numeral, parentheses}
use Rattle.expressions.specs.Trees.{Tree, literal, node, enclosed, depth, Expression}
use Rattle.expressions.specs.Reading.{kind_symbol}
use Rattle.expressions.specs.Inner.Scanning.{passes}
use Rattle.expressions.specs.declared.Operation.{Operation}
use Rattle.expressions.specs.declared.Symbol.TheVariants as Y
use Rattle.expressions.proofs.Meanings.{sum-mark, product-mark, open_mark, shut-mark}

-- what a token that is no parenthesis leaves, and what parentheses do
module _ (t : Token) (ts : List Token) (d : ℕ) where
  pub pass-number : (v : ℕ) → kind_symbol t.kind ≡ Y.Number v → passes (t ∷ ts) d ≡ passes ts d
  unfolding passes
  pass-number v e = rw e

  pub pass-sum : (o : Operation) → kind_symbol t.kind ≡ Y.Sums o → passes (t ∷ ts) d ≡ passes ts d
  unfolding passes
  pass-sum o e = rw e

  pub pass-product : (o : Operation) → kind_symbol t.kind ≡ Y.Products o → passes (t ∷ ts) d ≡ passes ts d
  unfolding passes
  pass-product o e = rw e

  pub pass_shuts : kind_symbol t.kind ≡ Y.Shuts → passes (t ∷ ts) d ≡ passes ts (suc d)
  unfolding passes
  pass_shuts e = rw e

  pub pass-opens : kind_symbol t.kind ≡ Y.Opens → passes (t ∷ ts) (suc d) ≡ passes ts d
  unfolding passes
  pass-opens e = rw e

pub pass-none : (t : Token) (ts : List Token) → kind_symbol t.kind ≡ Y.Opens → passes (t ∷ ts) 0 ≡ true
unfolding passes
pass-none t ts e = rw e

ltb-max : (d a b : ℕ) → ltb d (max a b) ≡ (ltb d a || ltb d b)
ltb-max d a b = go (ltb d a) (ltb d b) refl refl
  where
    go : (p q : Bool) → ltb d a ≡ p → ltb d b ≡ q → ltb d (max a b) ≡ (p || q)
    go true q e f = lt-ltb d (max a b) (omega (arith, ltb-true d a e))
    go false true e f = lt-ltb d (max a b) (omega (arith, ltb-true d b f))
    go false false e f = le-ltb d (max a b) (omega (arith, ltb-false d a e, ltb-false d b f))

-- what a part's tokens do to the room, whatever follows
abbrev Passes : List Token → Tree → Type 0
Passes ts tree = (rest : List Token) (d : ℕ) → passes (ts ++ rest) d ≡ (ltb d (depth tree) || passes rest d)

pass-node : (ts us : List Token) (a b : Tree) (o : Operation) (t : Token)
    → ((ts : List Token) (d : ℕ) → passes (t ∷ ts) d ≡ passes ts d) → Passes ts a → Passes us b → Passes (ts ++ (t ∷ us)) (node o a b)
unfolding depth
pass-node ts us a b o t m h g rest d =
    rw append_assoc
    (h (t ∷ (us ++ rest)) d
    ∙ ap (λ (q : Bool). ltb d (depth a) || q) (m (us ++ rest) d ∙ g rest d)
    ∙ sym (or_assoc (ltb d (depth a)) (ltb d (depth b)) (passes rest d))
    ∙ ap (λ (q : Bool). q || passes rest d) (sym (ltb-max d (depth a) (depth b))))

pass-literal : (t : Token) (v : ℕ) (k : Radix) → t.kind ≡ K.Number v k → Passes (t ∷ []) (literal v)
unfolding depth
pass-literal t v k e rest d = rw (le-ltb d 0 (omega arith)) (pass-number t rest d v (rw e))

pass-parentheses : (a z : Token) (ts : List Token) (tree : Tree) → IsMark (code "(") a → IsMark (code ")") z → Passes ts tree → Passes (a ∷ (ts ++ (z ∷ []))) (enclosed tree)
unfolding depth
pass-parentheses a z ts tree m n h rest zero =
    rw (append_assoc, pass-none a (ts ++ (z ∷ rest)) (open_mark a m), lt-ltb 0 (suc (depth tree)) (omega arith))
pass-parentheses a z ts tree m n h rest (suc d) =
    rw append_assoc
    (pass-opens a (ts ++ (z ∷ rest)) d (open_mark a m)
    ∙ h (z ∷ rest) d
    ∙ ap (λ (q : Bool). ltb d (depth tree) || q) (pass_shuts z rest d (shut-mark z n))
    ∙ ap (λ (q : Bool). q || passes rest (suc d)) (sym (leb-suc-suc (suc d) (depth tree))))

sum-passes : {ts : List Token} {tree : Tree} → Expression ts tree → Passes ts tree
sum-passes s =
    elim s as (λ ts tree s. Passes ts tree) (λ ts tree p. Passes ts tree) (λ ts tree f. Passes ts tree) [
      | one_product (p → h) ↦ h
      | sum {ts} {us} {a} {b} {o} t (s → h) m (p → g) ↦ pass-node ts us a b o t (λ ts d. pass-sum t ts d o (sum-mark m)) h g
      | one_factor (f → h) ↦ h
      | product {ts} {us} {a} {b} {o} t (p → h) m (f → g) ↦ pass-node ts us a b o t (λ ts d. pass-product t ts d o (product-mark m)) h g
      | numeral {t} {v} {k} e ↦ pass-literal t v k e
      | parentheses {a} {ts} {v} z m (s → h) n ↦ pass-parentheses a z ts v m n h
    ]

pub deeper : {ts : List Token} {tree : Tree} → Expression ts tree → (room : ℕ) → passes ts room ≡ ltb room (depth tree)
unfolding passes
deeper {ts} {tree} s room =
    ap (λ (us : List Token). passes us room) (sym (append-nil ts)) ∙ sum-passes s [] room ∙ or-false (ltb room (depth tree))
