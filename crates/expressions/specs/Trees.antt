-- An expression as a tree, and how deep its parentheses are.
use Rattle.std.specs.Prelude.{ℕ, suc, max, List}
use Rattle.tokens.specs.declared.Token.{Token}
use Rattle.expressions.specs.declared.Operation.{Operation}
use Rattle.expressions.specs.Grammar as G

pub data Tree : Type 0 where
  literal : ℕ → Tree
  node : Operation → Tree → Tree → Tree
  enclosed : Tree → Tree

-- a tree without places leaves the tokens out
abbrev pub literal_of : Token → ℕ → Tree
literal_of t v = literal v

abbrev pub node_of : Token → Operation → Tree → Tree → Tree
node_of t o a b = node o a b

abbrev pub enclosed_of : Token → Tree → Tree
enclosed_of t a = enclosed a

-- the reading of a row of tokens
abbrev pub Expression : List Token → Tree → Type 0
Expression ts tree = G.Sum Tree literal_of node_of enclosed_of ts tree

-- how deep its parentheses are
unfoldable pub depth : Tree → ℕ
depth (literal v) = 0
depth (node o a b) = max (depth a) (depth b)
depth (enclosed a) = suc (depth a)
