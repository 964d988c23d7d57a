-- Lines that are easily misread, settled one by one by computing them.
use Prim.Native.Nat.{ℕ}
use Prim.Native.String.{String}
use mathlib.Core.List.{List, [], ◌∷◌, ◌++◌}
use mathlib.Core.Path.{◌≡◌, refl}
use lib.ListN.{replicate}
use Rattle.codes.specs.Registers.{A}
use Rattle.numerals.specs.Bytes.{bytes}
use Rattle.isa.specs.declared.Opcode.TheVariants as Op
use Rattle.isa.specs.declared.Operand.{Operand}
use Rattle.isa.specs.declared.Operand.TheVariants as O
use Rattle.std.proofs.Common.{Option, Some, None, Result, Ok, Err}
use Rattle.statements.specs.declared.Failure.{Failure}
use Rattle.values.specs.declared.Name.{Name}
use Rattle.operands.specs.declared.Given.{Given}
use Rattle.statements.specs.Judging.{refusal_of, claim_of}
use Rattle.statements.specs.Reading.{line_read}
use Rattle.statements.specs.declared.Statement.{Statement}
use Rattle.statements.specs.declared.Statement.TheVariants.{Nothing, Instruction, Org, Equ, Res, Data, End}
use Rattle.statements.proofs.Computing.{computed_line}

-- a line of these bytes passes its own checks
abbrev Line : List ℕ → Option Name → Statement → Type 0
Line s l st = line_read s ≡ record { label = l; statement = Ok st }

-- a line without a label says this
abbrev pub Means : String → Statement → Type 0
Means text st = Line (bytes text) None st

-- each of these lines says this
abbrev pub Each : Statement → List String → Type 0
Each st [] = Unit {0}
Each st (text ∷ texts) = Means text st × Each st texts

-- a line of these bytes, without a label, is refused with this number
abbrev pub Refused : ℕ → List ℕ → Type 0
Refused n s = ((line_read s).label ≡ None) × (refusal_of (line_read s).statement ≡ n)

-- so is each of these lines
abbrev pub Refuses : ℕ → List String → Type 0
Refuses n [] = Unit {0}
Refuses n (text ∷ texts) = Refused n (bytes text) × Refuses n texts

-- a line's first bytes, so many, are its label
abbrev label_of : ℕ → Option Name
label_of n = Some (record { start = 0; end = n })

-- a line says this behind a label, or is refused with this number all the same
abbrev pub Labelled : ℕ → String → Statement → Type 0
Labelled n text st = Line (bytes text) (label_of n) st

abbrev pub RefusedBehind : ℕ → String → ℕ → Type 0
RefusedBehind n text number = ((line_read (bytes text)).label ≡ label_of n) × (refusal_of (line_read (bytes text)).statement ≡ number)

-- each of these lines claims so many cells
abbrev claimed : Result Statement Failure → ℕ
claimed (Ok st) = claim_of st
claimed (Err f) = 0

abbrev pub Claims : ℕ → List String → Type 0
Claims n [] = Unit {0}
Claims n (text ∷ texts) = (claimed (line_read (bytes text)).statement ≡ n) × Claims n texts

-- a text in so many parentheses
abbrev deep_org : ℕ → String → List ℕ
deep_org n text = bytes "ORG" ++ (replicate n 40 ++ (bytes text ++ replicate n 41))

abbrev plain : Operand → Given
plain o = record { operand = o; label = None }

abbrev nop : Statement
nop = Instruction Op.NOP (plain O.Absent) (plain O.Absent)

pub record Examples : Type 0 where
  pub nothing_said : Each Nothing ("" ∷ "  " ∷ "; FOO" ∷ [])
  -- "a word directly followed by `:`"
  pub colon_parted_4 : Refuses 4 ("foo :" ∷ [])
  pub colon_parted_3 : Refuses 3 ("NOP :" ∷ [])
  pub colon_parted_end : Means "END :" End
  -- "one per line"
  pub second-label : RefusedBehind 1 "a: b: NOP" 4
  pub second_colon : RefusedBehind 1 "a: NOP: HALT" 3
  pub only_colons : RefusedBehind 1 "a::" 3
  pub label_then_end : Labelled 1 "x: END: junk" End
  pub no_blank_owed : Labelled 1 "x:NOP" nop
  -- blanks may stand before it
  pub label_after_blanks : Line (bytes " \tx: NOP") (Some (record { start = 2; end = 3 })) nop
  pub no-word : Refuses 3 (": NOP" ∷ "5" ∷ "\"a\"" ∷ ".A" ∷ [])
  -- "END is a word like any other"
  pub end_as_label : Labelled 3 "END:" Nothing
  pub end_as_operand : Means "BR /END" (Instruction Op.BR (record { operand = O.Memory 0; label = Some (record { start = 4; end = 7 }) }) (plain O.Absent))
  pub end_ignores : Line (bytes "END, \"" ++ (1 ∷ [])) None End
  pub any_case : Means "eNd" End
  -- a stray byte is form, and the word comes before it
  pub stray_after_a_word : Refused 3 (bytes "NOP" ++ (128 ∷ []))
  pub stray_after_unknown : Refused 4 (bytes "FOO" ++ (128 ∷ []))
  pub stray-first : Refused 3 (128 ∷ bytes "NOP")
  pub stray_before_a_colon : Refused 4 (120 ∷ 128 ∷ bytes ": NOP")
  pub CR_is_a_blank : Refused 3 (bytes "NOP" ++ (13 ∷ bytes "FOO"))
  pub longest-runs : Refuses 4 ("ENDX" ∷ "ORG5" ∷ "B0 /1" ∷ [])
  pub wrong-forms : Refuses 3 ("EQU -5" ∷ "ORG" ∷ "ORG 1,2" ∷ "ORG #5" ∷ "ORG x" ∷ "DATA" ∷ "DATA 1," ∷ "DATA 5-3" ∷ "PUSH 5" ∷ "PUSH #5[.R1]" ∷ "PUSH #- 5" ∷ "NOP .A,.A,.X" ∷ "MOVE #1," ∷ "MOVE #1 .A" ∷ [])
  pub origin : Means "ORG(5)" (Org 5)
  pub least-origin : Means "ORG 0" (Org 0)
  pub most-origin : Means "ORG 65535" (Org 65535)
  pub one-string : Means "DATA\"a\"" (Data 2)
  pub one_number : Means "DATA-5" (Data 1)
  pub no_blanks : Means "MOVE#1,.A" (Instruction Op.MOVE (plain (O.Immediate 1)) (plain (O.Register A)))
  pub a_hex_pattern : Means "BR $0x8000" (Instruction Op.BR (plain (O.Relative 32768)) (plain O.Absent))
  -- results
  pub a_difference : Means "EQU 5 -3" (Equ 2)
  pub below-zero : Means "EQU 0-5" (Equ 65531)
  pub least-equ : Means "EQU 0-32768" (Equ 32768)
  pub most-equ : Means "EQU 65535" (Equ 65535)
  pub none-reserved : Means "RES 0" (Res 0)
  pub most-reserved : Means "RES 65535" (Res 65535)
  pub out_of_range : Refuses 6 ("EQU 0-32769" ∷ "EQU 65536" ∷ "EQU 65535+1" ∷ "ORG 0-1" ∷ "RES 65536" ∷ "RES 0-1" ∷ "BR $32768" ∷ "PUSH #65536" ∷ "DATA 1,-32769" ∷ [])
  -- "6 or 7 in order of evaluation (left, right, operation)"
  pub by_zero : Refuses 7 ("EQU 1/0" ∷ "RES 5%0" ∷ "EQU 1/0+65536" ∷ "EQU 0*(1/0)" ∷ [])
  pub before_the_zero : Refuses 6 ("EQU 65536/0" ∷ "EQU 1/65536" ∷ "EQU 65535*65535/0" ∷ [])
  -- the kind comes before the size
  pub wrong-count : Refuses 15 ("MOVE .A,.A,.A" ∷ "NOP .A" ∷ "HALT /70000" ∷ "INC" ∷ "BR $1,$2" ∷ [])
  pub wrong-kind : Refuses 16 ("INC $3" ∷ "INC $40000" ∷ "BR #3[.SP]" ∷ "BZ .R3" ∷ "MOVE #1,#2" ∷ [])
  -- form, then depth, then values
  pub deepest-origin : Line (deep_org 32 "5") None (Org 5)
  pub too_deep : Refused 8 (deep_org 33 "1/0")
  pub form-first : Refused 3 (deep_org 33 "x")
  -- "RES must claim its cells" (02, K2); `RES 0` has none
  pub claim_none : Claims 0 ("" ∷ "x:" ∷ "ORG 5" ∷ "EQU 5" ∷ "RES 0" ∷ "END" ∷ [])
  pub claim_one : Claims 1 ("HALT" ∷ "DATA 7" ∷ "DATA \"\"" ∷ "RES 1" ∷ [])
  pub claim_two : Claims 2 ("BR /x" ∷ "PUSH #-1" ∷ "DATA 7,8" ∷ "RES 5-3" ∷ [])
  pub claim_three : Claims 3 ("MOVE #x,.A" ∷ "DATA \"a\",-1" ∷ "x: RES 3" ∷ [])
  pub claim_most : Claims 65535 ("RES 65535" ∷ [])

pub examples : Examples
unfolding computed_line
examples =
    record {
      nothing_said = (refl, (refl, (refl, tt)));
      colon_parted_4 = ((refl, refl), tt);
      colon_parted_3 = ((refl, refl), tt);
      colon_parted_end = refl;
      second-label = (refl, refl);
      second_colon = (refl, refl);
      only_colons = (refl, refl);
      label_then_end = refl;
      no_blank_owed = refl;
      label_after_blanks = refl;
      no-word = ((refl, refl), ((refl, refl), ((refl, refl), ((refl, refl), tt))));
      end_as_label = refl;
      end_as_operand = refl;
      end_ignores = refl;
      any_case = refl;
      stray_after_a_word = (refl, refl);
      stray_after_unknown = (refl, refl);
      stray-first = (refl, refl);
      stray_before_a_colon = (refl, refl);
      CR_is_a_blank = (refl, refl);
      longest-runs = ((refl, refl), ((refl, refl), ((refl, refl), tt)));
      wrong-forms = ((refl, refl), ((refl, refl), ((refl, refl), ((refl, refl), ((refl, refl), ((refl, refl), ((refl, refl), ((refl, refl), ((refl, refl), ((refl, refl), ((refl, refl), ((refl, refl), ((refl, refl), ((refl, refl), tt))))))))))))));
      origin = refl;
      least-origin = refl;
      most-origin = refl;
      one-string = refl;
      one_number = refl;
      no_blanks = refl;
      a_hex_pattern = refl;
      a_difference = refl;
      below-zero = refl;
      least-equ = refl;
      most-equ = refl;
      none-reserved = refl;
      most-reserved = refl;
      out_of_range = ((refl, refl), ((refl, refl), ((refl, refl), ((refl, refl), ((refl, refl), ((refl, refl), ((refl, refl), ((refl, refl), ((refl, refl), tt)))))))));
      by_zero = ((refl, refl), ((refl, refl), ((refl, refl), ((refl, refl), tt))));
      before_the_zero = ((refl, refl), ((refl, refl), ((refl, refl), tt)));
      wrong-count = ((refl, refl), ((refl, refl), ((refl, refl), ((refl, refl), ((refl, refl), tt)))));
      wrong-kind = ((refl, refl), ((refl, refl), ((refl, refl), ((refl, refl), ((refl, refl), tt)))));
      deepest-origin = refl;
      too_deep = (refl, refl);
      form-first = (refl, refl);
      claim_none = (refl, (refl, (refl, (refl, (refl, (refl, tt))))));
      claim_one = (refl, (refl, (refl, (refl, tt))));
      claim_two = (refl, (refl, (refl, (refl, tt))));
      claim_three = (refl, (refl, (refl, tt)));
      claim_most = (refl, tt);
    }
