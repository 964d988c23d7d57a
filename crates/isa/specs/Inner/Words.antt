-- An operand's word, and the encoder's words as it hands them back.
use Rattle.std.specs.Prelude.{ℕ, List, [], ◌∷◌, get_or}
use Rattle.isa.specs.Operands.{operand_words}
use Rattle.isa.specs.declared.Operand.{Operand}
use Rattle.isa.specs.declared.Encoded.{Encoded}
use Rattle.std.specs.Prelude.{Option, Some, None}
use Rattle.isa.specs.declared.Encoded.TheVariants.{One, Two, Three}

-- an operand's word, and 0 where there is no operand
abbrev pub word_of : Operand → ℕ
word_of o = get_or (operand_words o) 0 0

-- one, two or three words as the encoder hands them back
abbrev pub handed_back : List ℕ → Option Encoded
handed_back [] = None
handed_back (w ∷ []) = Some (One w)
handed_back (w ∷ a ∷ []) = Some (Two w a)
handed_back (w ∷ a ∷ b ∷ []) = Some (Three w a b)
handed_back (w ∷ a ∷ b ∷ c ∷ ws) = None
