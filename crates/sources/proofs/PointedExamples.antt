-- Sources with where their refusals point, computed.
use Prim.Native.Nat.{ℕ}
use Prim.Native.String.{String}
use mathlib.Core.List.{List, [], ◌∷◌}
use mathlib.Core.Path.{◌≡◌, refl}
use Rattle.operands.specs.Places.{start_of, after_comma, after_commas, operand_start_in}
use Rattle.columns.specs.Columns.{column_at, label_column, word_column_in, word_column, mark_before, place_in, column_of, pointed_at, read_again, pointed, name_column, line_after}
use Rattle.sources.specs.Order.{◌on◌}
use Rattle.sources.specs.Inner.Assembling.{refused, second_refused, verdict_of}
use Rattle.sources.specs.Inner.Pointing.{point_of}
use Rattle.sources.proofs.Computing.{computed_source}
use Rattle.sources.proofs.Examples.{source_of}

-- in a memory of M cells: the number, its line and column, and the operand's place
abbrev At : ℕ → List String → ℕ → ℕ → ℕ → ℕ → Type 0
At M ts n k c i = (verdict_of M M (source_of ts) ≡ refused (n on k)) × (point_of M M (source_of ts) ≡ pointed_at c i)

pub record PointedExamples : Type 0 where
  -- "1 and 2 have column 0"
  pub no_memory : At 0 ("FOO" ∷ []) 1 0 0 0
  -- "the label in 9, 10"; each line from its own start
  pub label-again : At 16 ("x:" ∷ " x: FOO" ∷ []) 9 2 2 0
  -- a line's own checks, behind others
  pub word : At 16 ("NOP" ∷ "" ∷ "\tFOO" ∷ []) 4 3 2 0
  pub count : At 16 ("HALT" ∷ " NOP $1" ∷ []) 15 2 2 0
  pub second-kind : At 16 ("x: NOP" ∷ "MOVE #1,#2" ∷ []) 16 2 9 2
  -- "the statement's word in 11, 12 .. and for a result or label address in 6"
  pub past_memory : At 16 ("ORG 16" ∷ "a: NOP" ∷ []) 11 2 4 0
  pub twice : At 16 ("NOP" ∷ "ORG 0" ∷ "a: NOP" ∷ []) 12 3 4 0
  pub reserved_too_far : At 16 ("ORG 65535" ∷ " RES 2" ∷ []) 6 2 2 0
  pub label-address : At 65536 ("ORG 65535" ∷ "NOP" ∷ "x: END" ∷ []) 6 3 4 0
  -- "but column 0 for a label bound at the source's end"
  pub sources_end : At 65536 ("ORG 65535" ∷ "NOP" ∷ "x:" ∷ "" ∷ []) 6 4 0 0
  -- "the label in 9, 10, 13": the one that is refused
  pub no_label : At 16 ("MOVE .A, / zz" ∷ []) 13 1 12 0
  pub indexed : At 16 ("PUSH #zz[.IX]" ∷ []) 13 1 7 0
  pub relative : At 16 ("BR $zz" ∷ []) 13 1 5 0
  pub first_of_two : At 16 ("NOP" ∷ "MOVE #y,/zz" ∷ []) 13 2 7 0
  pub second_of_two : At 16 ("x:" ∷ "MOVE #x,/y" ∷ []) 13 2 10 0
  pub behind_another_line : At 16 ("x: BR /x" ∷ "BR /y" ∷ []) 13 2 5 0
  -- "the operand in 14"
  pub too_far_lem : At 16 ("x: EQU 0-5" ∷ "BR $ x" ∷ []) 14 2 4 0

pub examples : PointedExamples
unfolding computed_source start_of after_comma after_commas operand_start_in column_at label_column word_column_in word_column mark_before place_in column_of
    read_again pointed name_column line_after second_refused point_of
examples =
    record {
      no_memory = (refl, refl);
      label-again = (refl, refl);
      word = (refl, refl);
      count = (refl, refl);
      second-kind = (refl, refl);
      past_memory = (refl, refl);
      twice = (refl, refl);
      reserved_too_far = (refl, refl);
      label-address = (refl, refl);
      sources_end = (refl, refl);
      no_label = (refl, refl);
      indexed = (refl, refl);
      relative = (refl, refl);
      first_of_two = (refl, refl);
      second_of_two = (refl, refl);
      behind_another_line = (refl, refl);
      too_far_lem = (refl, refl);
    }
