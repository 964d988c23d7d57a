-- Where a blank or a comment does change what a line says, and where it does not, one by one (tokens' Spacing.antt has the laws).
use mathlib.Core.List.{[], ◌∷◌}
use mathlib.Core.Path.{refl}
use Rattle.isa.specs.declared.Opcode.TheVariants as Op
use Rattle.isa.specs.declared.Operand.TheVariants as O
use Rattle.std.proofs.Common.{None}
use Rattle.operands.specs.declared.Given.{Given}
use Rattle.statements.specs.declared.Statement.{Statement}
use Rattle.statements.specs.declared.Statement.TheVariants.{Instruction, Org, Data}
use Rattle.statements.proofs.Computing.{computed_line}
use Rattle.statements.proofs.Examples.{Means, Each, Refuses, Labelled}

abbrev none : Given
none = record { operand = O.Absent; label = None }

abbrev halt : Statement
halt = Instruction Op.HALT none none

pub record SpacingExamples : Type 0 where
  -- a comment after a string that is not closed
  pub unclosed : Refuses 3 ("DATA \"a" ∷ [])
  pub closed_by_a_comment : Means "DATA \"a; \"" (Data 4)
  -- a blank inside a word, a number, a string
  pub whole_word : Means "HALT" halt
  pub parted-word : Refuses 4 ("HA LT" ∷ [])
  pub whole-number : Means "ORG 12" (Org 12)
  pub parted-number : Refuses 3 ("ORG 1 2" ∷ [])
  pub one_character : Means "DATA \"a\"" (Data 2)
  pub two-characters : Means "DATA \"a \"" (Data 3)
  -- a blank between a label and its `:`
  pub label : Labelled 1 "x: HALT" halt
  pub parted-label : Refuses 4 ("x : HALT" ∷ [])
  -- a blank between `-` and a number in DATA, or in an operand
  pub sign : Means "DATA -1" (Data 1)
  pub parted-sign : Refuses 3 ("DATA - 1" ∷ "PUSH #- 1" ∷ [])
  -- none of these changes anything: blanks and comments around tokens, in an expression on both sides of `-` too
  pub in_an_expression : Each (Org 2) ("ORG 5-3" ∷ "ORG 5 -3" ∷ "ORG 5- 3" ∷ " ORG\t5 - 3 ; \"" ∷ "ORG(5)-3;" ∷ [])
  pub in_data : Each (Data 3) ("DATA -1,\"a\"" ∷ "\tDATA  -1 , \"a\" ;;" ∷ [])

pub spacing_examples : SpacingExamples
unfolding computed_line
spacing_examples =
    record {
      unclosed = ((refl, refl), tt);
      closed_by_a_comment = refl;
      whole_word = refl;
      parted-word = ((refl, refl), tt);
      whole-number = refl;
      parted-number = ((refl, refl), tt);
      one_character = refl;
      two-characters = refl;
      label = refl;
      parted-label = ((refl, refl), tt);
      sign = refl;
      parted-sign = ((refl, refl), ((refl, refl), tt));
      in_an_expression = (refl, (refl, (refl, (refl, (refl, tt)))));
      in_data = (refl, (refl, tt));
    }
