-- Lines with what their refusals point at, computed.
use Prim.Native.Nat.{ℕ}
use Prim.Native.String.{String}
use mathlib.Core.Bool.{Bool, true, false}
use mathlib.Core.List.{List, [], ◌∷◌, ◌++◌}
use mathlib.Core.Path.{◌≡◌, refl}
use lib.ListN.{replicate}
use Rattle.numerals.specs.Bytes.{bytes}
use Rattle.tokens.specs.Reading.{line_length, lines_of}
use Rattle.expressions.specs.Places.{strip, evaluate, found_of, fault_in, deep_from, too_deep_in}
use Rattle.operands.specs.Places as Operands
use Rattle.operands.specs.Places.{start_of, after_comma, after_commas, operand_start_in, number_start_in}
use Rattle.items.specs.Places.{digits_out, starts_out, out_from}
use Rattle.statements.proofs.Computing.{computed_line}
use Rattle.faults.specs.Forms.{indexes}
use Rattle.faults.specs.Forms as Forms
use Rattle.faults.specs.Walk.{begin, word_end, number_end, place_from, place}
use Rattle.columns.specs.Columns.{column_at, label_column, word_column_in, word_column, mark_before, place_in, column_of, read_again, pointed, pointed_at, name_column, line_after, line_numbered, next_start, start_after, line_start}
use Rattle.columns.specs.declared.Pointed.{Pointed}

-- a line of these bytes, refused with a number, points at a column, and at an operand's place or 0
abbrev At : List ℕ → ℕ → ℕ → ℕ → Type 0
At line number column operand = pointed line number ≡ pointed_at column operand

abbrev pub Points : String → ℕ → ℕ → Type 0
Points text number column = At (bytes text) number column 0

-- the same of 16
abbrev pub Names : String → ℕ → ℕ → Type 0
Names text column operand = At (bytes text) 16 column operand

-- what pointing stands on, open
unfoldable computed_point : List ℕ → ℕ → Pointed
unfolding computed_line strip evaluate found_of fault_in deep_from too_deep_in
    start_of after_comma after_commas operand_start_in number_start_in Operands.number_out_in digits_out starts_out out_from
    indexes Forms.starts begin word_end number_end place_from place
    column_at label_column word_column_in word_column mark_before place_in column_of read_again pointed
computed_point line number = pointed line number

-- ---- wrong form

pub record WrongForms : Type 0 where
  pub missing : Points "ORG ;c" 3 7
  pub missing_behind_a_comma : Points "DATA 1, ;c" 3 11
  pub missing_behind_blanks : Points "ORG  " 3 6
  pub no_digit : Points "PUSH #- 5" 3 8
  pub mark-elsewhere : Points "DATA 5-3" 3 7
  pub no_hex_digit : Points "DATA 0x,1" 3 8
  pub broken-number : Points "DATA 99999x" 3 11
  pub broken-string : Points "DATA \"\\q\"" 3 8
  pub number-elsewhere : Points "12x: NOP" 3 1
  pub no_register : Points "PUSH #5[.R1]" 3 10
  pub form_before_count : Points "NOP .A,.A,.X" 3 12
  pub no_expression : Points "ORG #5" 3 5
  pub second_colon : Points "a: NOP: HALT" 3 7
  pub stray : At (bytes "NOP" ++ (128 ∷ [])) 3 4 0

forms : WrongForms
unfolding computed_point
forms =
    record {
      missing = refl;
      missing_behind_a_comma = refl;
      missing_behind_blanks = refl;
      no_digit = refl;
      mark-elsewhere = refl;
      no_hex_digit = refl;
      broken-number = refl;
      broken-string = refl;
      number-elsewhere = refl;
      no_register = refl;
      form_before_count = refl;
      no_expression = refl;
      second_colon = refl;
      stray = refl;
    }

-- ---- the other checks

pub record Checks : Type 0 where
  pub unknown-word : At (9 ∷ bytes "FOO") 4 2 0
  pub count : Points " NOP $1" 15 2
  pub count_before_kind : Points "NOP .A,.A" 15 1
  pub first_kind : Names "MOVE $1,#2" 6 1
  pub second-kind : Names "MOVE #1,#2" 9 2
  pub kind_before_range : Names "INC  #70000" 6 1
  pub branch-kind : Names "BZ .R3" 4 1
  pub number : Points "PUSH # 70000" 6 8
  pub number_below_zero : Points "PUSH #-32769" 6 7
  pub first-number : Points "MOVE #70000,/80000" 6 7
  pub first-item : Points "DATA 70000,80000" 6 6
  pub expression-number : Points "RES 65536" 6 5
  pub mark_before_a_number : Points "EQU 65535*65535+70000" 6 10
  pub quotient_before_a_number : Points "EQU 1/0+70000" 7 6
  pub product : Points "EQU 65535*65535" 6 10
  pub quotient : Points "EQU 1/0" 7 6
  pub rest : Points "EQU 5 %  0" 7 7
  pub result : Points "ORG 65535+1" 6 1
  pub reserved-result : Points " RES 0-1" 6 2
  pub level_33 : At (bytes "EQU " ++ (replicate 33 40 ++ (bytes "1" ++ replicate 33 41))) 8 37 0
  pub label-again : Points " x: FOO" 9 2
  pub past_memory : Points "a: NOP" 11 4
  pub claimed-again : Points "a: NOP" 12 4
  pub label_too_long : Points " x: FOO" 10 2
  pub reserved_too_far : Points " RES 2" 6 2
  pub label-address : Points "x: END" 6 4
  -- "column 0 for a label bound at the source's end"
  pub label_at_the_end : Points "x:" 6 0

checks : Checks
unfolding computed_point
checks =
    record {
      unknown-word = refl;
      count = refl;
      count_before_kind = refl;
      first_kind = refl;
      second-kind = refl;
      kind_before_range = refl;
      branch-kind = refl;
      number = refl;
      number_below_zero = refl;
      first-number = refl;
      first-item = refl;
      expression-number = refl;
      mark_before_a_number = refl;
      quotient_before_a_number = refl;
      product = refl;
      quotient = refl;
      rest = refl;
      result = refl;
      reserved-result = refl;
      level_33 = refl;
      label-again = refl;
      past_memory = refl;
      claimed-again = refl;
      label_too_long = refl;
      reserved_too_far = refl;
      label-address = refl;
      label_at_the_end = refl;
    }

-- ---- names in operands

-- a name in an operand of a line that passes, refused with 13 or 14: the first or only one, and the second
abbrev pub NamePoints : String → ℕ → Bool → ℕ → Type 0
NamePoints text number second column = name_column (bytes text) number second ≡ column

pub record OperandNames : Type 0 where
  pub mark_of_a_name : mark_before (bytes "BR $ x") 5 ≡ 3
  pub name : NamePoints "BR $zz" 13 false 5
  pub name_behind_blanks : NamePoints "MOVE .A, / zz" 13 false 12
  pub name_behind_blanks_alone : NamePoints "MOVE .A, / zz" 13 true 12
  pub name_before_an_index : NamePoints "PUSH #zz[.IX]" 13 false 7
  pub first-name : NamePoints "MOVE /yy,/ zz" 13 false 7
  pub second-name : NamePoints "MOVE /yy,/ zz" 13 true 12
  pub operand_of_a_name : NamePoints "BR $ x" 14 false 4
  pub second-operand : NamePoints "MOVE /yy,/ zz" 14 true 10

operand-names : OperandNames
unfolding computed_line column_at mark_before name_column
operand-names =
    record {
      mark_of_a_name = refl;
      name = refl;
      name_behind_blanks = refl;
      name_behind_blanks_alone = refl;
      name_before_an_index = refl;
      first-name = refl;
      second-name = refl;
      operand_of_a_name = refl;
      second-operand = refl;
    }

-- ---- lines

-- two lines, the second without its LF
abbrev pub unended : List ℕ
unended = bytes "HALT" ++ (10 ∷ bytes " x")

pub record SomeLines : Type 0 where
  pub second-line : line_numbered unended 2 ≡ bytes " x"
  pub its-start : line_start unended 2 ≡ 5
  pub no_third_line : line_numbered unended 3 ≡ []
  pub end_of_the_source : line_start unended 3 ≡ 7

some-lines : SomeLines
unfolding line_length lines_of line_after next_start start_after
some-lines =
    record {
      second-line = refl;
      its-start = refl;
      no_third_line = refl;
      end_of_the_source = refl;
    }

-- ---- all

pub record Examples : Type 0 where
  pub forms : WrongForms
  pub checks : Checks
  pub names : OperandNames
  pub lines : SomeLines

pub examples : Examples
examples = record { forms = forms; checks = checks; names = operand-names; lines = some-lines }
