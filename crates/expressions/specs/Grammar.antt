-- Which rows of tokens are an expression, and what each is, over any kind of value W: trees, with places or without, and worths are
-- instances.
use Rattle.std.specs.Prelude.{ℕ, List, [], ◌∷◌, ◌++◌, ◌≡◌}
use Prim.Native.Char.{code}
use Rattle.numerals.specs.declared.Radix.{Radix}
use Rattle.tokens.specs.Marks.{IsMark}
use Rattle.tokens.specs.declared.Kind.TheVariants as K
use Rattle.tokens.specs.declared.Token.{Token}
use Rattle.expressions.specs.declared.Operation.{Operation}
use Rattle.expressions.specs.Operations.{SumMark, ProductMark}

-- what a number, an operation and a pair of parentheses make, with the token that tells their place: the number, the mark, the opening
-- parenthesis
module _ (W : Type 0) (number : Token → ℕ → W) (operate : Token → Operation → W → W → W) (enclose : Token → W → W) where
  mutual
    -- "left to right": a sum's left side is a sum, its right side a product
    pub data Sum : List Token → W → Type 0 where
      one_product : {ts : List Token} {v : W} → Product ts v → Sum ts v
      sum : {ts us : List Token} {a b : W} {o : Operation} (t : Token) → Sum ts a → SumMark t o → Product us b
          → Sum (ts ++ (t ∷ us)) (operate t o a b)

    pub data Product : List Token → W → Type 0 where
      one_factor : {ts : List Token} {v : W} → Factor ts v → Product ts v
      product : {ts us : List Token} {a b : W} {o : Operation} (t : Token) → Product ts a → ProductMark t o → Factor us b
          → Product (ts ++ (t ∷ us)) (operate t o a b)

    -- "an operand is a number or an expression in parentheses"
    pub data Factor : List Token → W → Type 0 where
      literal : {t : Token} {v : ℕ} {k : Radix} → t.kind ≡ K.Number v k → Factor (t ∷ []) (number t v)
      parentheses : {a : Token} {ts : List Token} {v : W} (z : Token) → IsMark (code "(") a → Sum ts v → IsMark (code ")") z
          → Factor (a ∷ (ts ++ (z ∷ []))) (enclose a v)
