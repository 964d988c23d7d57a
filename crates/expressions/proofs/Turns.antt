-- One token of the reader, by the token's symbol.
use Prim.Native.Nat.{ℕ}
use mathlib.Core.List.{List, ◌∷◌}
use mathlib.Core.Path.{◌≡◌}
use Rattle.tokens.specs.declared.Token.{Token}
use Rattle.expressions.specs.Reading.{kind_symbol, Waiting, nothing, waits, joined, Frame, operand, operator}
use Rattle.expressions.specs.declared.Operation.{Operation}
use Rattle.expressions.specs.declared.Symbol.TheVariants as Y

module _ (W : Type 0) (number : Token → ℕ → W) (operate : Token → Operation → W → W → W) (enclose : Token → W → W) where
  abbrev Wait : Type 0
  Wait = Waiting W number operate enclose

  abbrev Stack : Type 0
  Stack = List (Frame W number operate enclose)

  abbrev join : Wait → W → W
  join l v = joined W number operate enclose l v

  module _ (t : Token) (ts : List Token) where
    pub at_number : (n : ℕ) → kind_symbol t.kind ≡ Y.Number n → (l p : Wait) (k : Stack)
        → operand W number operate enclose (t ∷ ts) l p k ≡ operator W number operate enclose ts l (join p (number t n)) k
    unfolding operand operator
    at_number n e l p k = rw e

    pub at_opens : kind_symbol t.kind ≡ Y.Opens → (l p : Wait) (k : Stack)
        → operand W number operate enclose (t ∷ ts) l p k ≡ operand W number operate enclose ts nothing nothing (record { sum = l; product = p; opening = t } ∷ k)
    unfolding operand operator
    at_opens e l p k = rw e

    pub at_sum : (o : Operation) → kind_symbol t.kind ≡ Y.Sums o → (l : Wait) (v : W) (k : Stack)
        → operator W number operate enclose (t ∷ ts) l v k ≡ operand W number operate enclose ts (waits (join l v) t o) nothing k
    unfolding operand operator
    at_sum o e l v k = rw e

    pub at_product : (o : Operation) → kind_symbol t.kind ≡ Y.Products o → (l : Wait) (v : W) (k : Stack)
        → operator W number operate enclose (t ∷ ts) l v k ≡ operand W number operate enclose ts l (waits v t o) k
    unfolding operand operator
    at_product o e l v k = rw e

    pub at_shuts : kind_symbol t.kind ≡ Y.Shuts → (l : Wait) (v : W) (f : Frame W number operate enclose) (k : Stack)
        → operator W number operate enclose (t ∷ ts) l v (f ∷ k)
        ≡ operator W number operate enclose ts f.sum (join f.product (enclose f.opening (join l v))) k
    unfolding operand operator
    at_shuts e l v f k = rw e
