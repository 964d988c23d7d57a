-- The five operations and their marks.
use Prim.Native.Char.{code}
use Rattle.tokens.specs.Marks.{IsMark}
use Rattle.tokens.specs.declared.Token.{Token}
use Rattle.expressions.specs.declared.Operation.{Operation}
use Rattle.expressions.specs.declared.Operation.TheVariants.{Plus, Minus, Times, Over, Rest}

-- the marks of sums, and those of products, which bind first
pub data SumMark : Token → Operation → Type 0 where
  plus : {t : Token} → IsMark (code "+") t → SumMark t Plus
  minus : {t : Token} → IsMark (code "-") t → SumMark t Minus

pub data ProductMark : Token → Operation → Type 0 where
  times : {t : Token} → IsMark (code "*") t → ProductMark t Times
  over : {t : Token} → IsMark (code "/") t → ProductMark t Over
  rest : {t : Token} → IsMark (code "%") t → ProductMark t Rest
