-- What a token is to an expression, as the grammar has it and as the reader has it.
use Prim.Native.Nat.{ℕ}
use Prim.Native.Char.{code}
use mathlib.Core.Bool.{Bool, true, false, cond}
use mathlib.Core.Path.{◌≡◌, refl, ap, ◌∙◌}
use lib.Dec.{eqb, eqb→eq, T}
use Rattle.numerals.specs.declared.Radix.{Radix}
use Rattle.tokens.specs.Marks.{IsMark}
use Rattle.tokens.specs.declared.Kind.{Kind}
use Rattle.tokens.specs.declared.Kind.TheVariants as K
use Rattle.tokens.specs.declared.Token.{Token}
use Rattle.expressions.specs.Operations.{SumMark, ProductMark, plus, minus, times, over, rest}
use Rattle.expressions.specs.Reading.{mark_symbol, kind_symbol}
use Rattle.expressions.specs.declared.Operation.{Operation}
use Rattle.expressions.specs.declared.Symbol.{Symbol}
use Rattle.expressions.specs.declared.Symbol.TheVariants as Y

-- what the grammar knows of a token with a symbol
pub data Means : Token → Symbol → Type 0 where
  number : {t : Token} {v : ℕ} {k : Radix} → t.kind ≡ K.Number v k → Means t (Y.Number v)
  sums : {t : Token} {o : Operation} → SumMark t o → Means t (Y.Sums o)
  products : {t : Token} {o : Operation} → ProductMark t o → Means t (Y.Products o)
  opening : {t : Token} → IsMark (code "(") t → Means t Y.Opens
  shutting : {t : Token} → IsMark (code ")") t → Means t Y.Shuts
  neither : {t : Token} → Means t Y.Other

module _ (t : Token) (b : ℕ) (k : t.kind ≡ K.Mark b) where
  or_else : (c : ℕ) {y z : Symbol} → (IsMark c t → Means t y) → Means t z → Means t (cond (eqb b c) y z)
  or_else c {y} {z} f m = go (eqb b c) (λ e. k ∙ ap K.Mark (eqb→eq b c e))
    where
      go : (q : Bool) → (T q → IsMark c t) → Means t (cond q y z)
      go true g = f (g tt)
      go false g = m

  mark-means : Means t (mark_symbol b)
  unfolding mark_symbol
  mark-means =
      or_else (code "(") opening
      (or_else (code ")") shutting
      (or_else (code "+") (λ e. sums (plus e))
      (or_else (code "-") (λ e. sums (minus e))
      (or_else (code "*") (λ e. products (times e))
      (or_else (code "/") (λ e. products (over e))
      (or_else (code "%") (λ e. products (rest e)) neither))))))

kind-means : (t : Token) (k : Kind) → t.kind ≡ k → Means t (kind_symbol k)
kind-means t (K.Number v k) e = number e
kind-means t (K.Mark b) e = mark-means t b e
kind-means t _ e = neither

pub means : (t : Token) → Means t (kind_symbol t.kind)
means t = kind-means t t.kind refl

-- and back: the symbol of each mark of the grammar
pub sum-mark : {t : Token} {o : Operation} → SumMark t o → kind_symbol t.kind ≡ Y.Sums o
unfolding mark_symbol
sum-mark (plus e) = rw e
sum-mark (minus e) = rw e

pub product-mark : {t : Token} {o : Operation} → ProductMark t o → kind_symbol t.kind ≡ Y.Products o
unfolding mark_symbol
product-mark (times e) = rw e
product-mark (over e) = rw e
product-mark (rest e) = rw e

pub open_mark : (t : Token) → IsMark (code "(") t → kind_symbol t.kind ≡ Y.Opens
unfolding mark_symbol
open_mark t e = rw e

pub shut-mark : (t : Token) → IsMark (code ")") t → kind_symbol t.kind ≡ Y.Shuts
unfolding mark_symbol
shut-mark t e = rw e
