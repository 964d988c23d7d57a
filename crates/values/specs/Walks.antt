-- "Operands are parted by commas"; "`DATA` with one or more numbers and strings by commas" (01, "Rules of writing"): the reading of such
-- a list as a walk over its tokens, with one state for each thing that may be next and one step a token. Operands and DATA's items are
-- instances: S is their states, A what they list; `proofs/Top.antt` of `operands` and `items` shows that each follows its rule.
use Rattle.std.specs.Prelude.{List, [], ◌∷◌}
use Rattle.tokens.specs.declared.Token.{Token}

pub data Step (S A : Type 0) : Type 0 where
  to : S → Step S A
  emit : A → Step S A  -- a comma ends one, and the next begins
  halt : Step S A

pub data RowRead (A : Type 0) : Type 0 where
  reads : List A → RowRead A
  wrong : RowRead A

abbrev pub cons : {A : Type 0} → A → RowRead A → RowRead A
cons a (reads xs) = reads (a ∷ xs)
cons a wrong = wrong

-- where a step leads, from the state that one begins in
abbrev pub stepped : {S A : Type 0} → S → Step S A → (S → RowRead A) → RowRead A
stepped begin (to st) r = r st
stepped begin (emit a) r = cons a (r begin)
stepped begin halt r = wrong

module _ {S A : Type 0} (begin : S) (step : S → Token → Step S A) (finish : S → RowRead A) where
  abbrev pub walk : S → List Token → RowRead A
  walk st [] = finish st
  walk st (t ∷ ts) = stepped begin (step st t) (λ next. walk next ts)
