-- The reading of a row of tokens, as a function; `proofs/Top.antt` shows that it finds exactly the grammar's reading.
use Rattle.std.specs.Prelude.{ℕ, cond, List, [], ◌∷◌, leb, eqb}
use Prim.Native.Char.{code}
use Rattle.tokens.specs.declared.Kind.{Kind}
use Rattle.tokens.specs.declared.Kind.TheVariants as K
use Rattle.tokens.specs.declared.Token.{Token}
use Rattle.codes.specs.Limits.{deepest}
use Rattle.expressions.specs.Trees.{Tree, literal_of, node_of, enclosed_of, depth}
use Rattle.expressions.specs.Worths.{Worth, worth_of, fault_of}
use Rattle.expressions.specs.declared.Operation.{Operation}
use Rattle.expressions.specs.declared.Operation.TheVariants.{Plus, Minus, Times, Over, Rest}
use Rattle.expressions.specs.declared.Symbol.{Symbol}
use Rattle.expressions.specs.declared.Symbol.TheVariants.{Number, Sums, Products, Opens, Shuts, Other}
use Rattle.std.specs.Prelude.{Result, Ok, Err}
use Rattle.expressions.specs.declared.Malformed.{Malformed}
use Rattle.expressions.specs.declared.Malformed.TheVariants.{TooDeep, WrongForm}

-- what a token is to an expression
unfoldable pub mark_symbol : ℕ → Symbol
mark_symbol b =
    cond (eqb b (code "(")) Opens
    (cond (eqb b (code ")")) Shuts
    (cond (eqb b (code "+")) (Sums Plus)
    (cond (eqb b (code "-")) (Sums Minus)
    (cond (eqb b (code "*")) (Products Times)
    (cond (eqb b (code "/")) (Products Over)
    (cond (eqb b (code "%")) (Products Rest) Other))))))

abbrev pub kind_symbol : Kind → Symbol
kind_symbol (K.Number v k) = Number v
kind_symbol (K.Mark b) = mark_symbol b
kind_symbol _ = Other

-- the reader goes through the tokens once, with what waits to the left; over any kind of value, made with the tokens
module _ (W : Type 0) (number : Token → ℕ → W) (operate : Token → Operation → W → W → W) (enclose : Token → W → W) where
  pub data Waiting : Type 0 where
    nothing : Waiting
    waits : W → Token → Operation → Waiting

  pub data Outcome : Type 0 where
    reads : W → Outcome
    wrong : Outcome

  abbrev pub joined : Waiting → W → W
  joined nothing v = v
  joined (waits a t o) v = operate t o a v

  -- what waits outside a parenthesis, and the parenthesis
  pub record Frame : Type 0 where
    pub sum : Waiting
    pub product : Waiting
    pub opening : Token

  -- what is next at an operand's place, with the reader of what follows an operand and that of a further operand
  abbrev pub at_operand : Token → Symbol → (Waiting → W → List Frame → Outcome) → (Waiting → Waiting → List Frame → Outcome) → Waiting → Waiting
      → List Frame → Outcome
  at_operand t (Number n) operators operands l p k = operators l (joined p (number t n)) k
  at_operand t (Sums o) operators operands l p k = wrong
  at_operand t (Products o) operators operands l p k = wrong
  at_operand t Opens operators operands l p k = operands nothing nothing (record { sum = l; product = p; opening = t } ∷ k)
  at_operand t Shuts operators operands l p k = wrong
  at_operand t Other operators operands l p k = wrong

  abbrev pub shut : (Waiting → W → List Frame → Outcome) → Waiting → W → List Frame → Outcome
  shut operators l v [] = wrong
  shut operators l v (f ∷ k) = operators f.sum (joined f.product (enclose f.opening (joined l v))) k

  abbrev pub at_operator : Token → Symbol → (Waiting → W → List Frame → Outcome) → (Waiting → Waiting → List Frame → Outcome) → Waiting → W
      → List Frame → Outcome
  at_operator t (Number n) operators operands l v k = wrong
  at_operator t (Sums o) operators operands l v k = operands (waits (joined l v) t o) nothing k
  at_operator t (Products o) operators operands l v k = operands l (waits v t o) k
  at_operator t Opens operators operands l v k = wrong
  at_operator t Shuts operators operands l v k = shut operators l v k
  at_operator t Other operators operands l v k = wrong

  abbrev pub at_end : Waiting → W → List Frame → Outcome
  at_end l v [] = reads (joined l v)
  at_end l v (f ∷ k) = wrong

  unfoldable mutual
    -- an operand is next
    pub operand : List Token → Waiting → Waiting → List Frame → Outcome
    operand [] l p k = wrong
    operand (t ∷ ts) l p k = at_operand t (kind_symbol t.kind) (λ l v k. operator ts l v k) (λ l p k. operand ts l p k) l p k

    -- an operation, a closing parenthesis or the end is next
    pub operator : List Token → Waiting → W → List Frame → Outcome
    operator [] l v k = at_end l v k
    operator (t ∷ ts) l v k = at_operator t (kind_symbol t.kind) (λ l v k. operator ts l v k) (λ l p k. operand ts l p k) l v k

abbrev pub tree_read : List Token → Outcome Tree literal_of node_of enclosed_of
tree_read ts = operand Tree literal_of node_of enclosed_of ts nothing nothing []

-- form 3, then depth 8, then the worth with its 6 or 7
abbrev pub judged : Outcome Tree literal_of node_of enclosed_of → Result Worth Malformed
judged (reads tree) = cond (leb (depth tree) deepest) (Ok (worth_of tree)) (Err TooDeep)
judged wrong = Err WrongForm

unfoldable pub expression_read : List Token → Result Worth Malformed
expression_read ts = judged (tree_read ts)

-- the paper's number for each answer: 3 form, 8 too deep, 6 or 7 of the worth, 0 for a number
abbrev pub refusal_of : Result Worth Malformed → ℕ
refusal_of (Ok w) = fault_of w
refusal_of (Err TooDeep) = 8
refusal_of (Err WrongForm) = 3
