-- Sources that are easily misread, settled one by one by computing them; with `Top` each says so of the rules themselves.
use Prim.Native.Nat.{ℕ}
use Prim.Native.String.{String}
use mathlib.Core.List.{List, [], ◌∷◌, ◌++◌}
use mathlib.Core.Path.{◌≡◌, refl}
use lib.ListN.{replicate}
use Rattle.numerals.specs.Bytes.{bytes}
use Rattle.codes.specs.Marks.{code_mark, data_mark, reserved_mark}
use Rattle.sources.specs.Order.{◌on◌}
use Rattle.sources.specs.Image.{cells_marked}
use Rattle.sources.specs.Inner.Assembling.{passes, verdict_of, Assembled, accepted, refuses, assemble_of}
use Rattle.sources.proofs.Computing.{computed_source}

-- the texts as lines, each with its LF
abbrev pub source_of : List String → List ℕ
source_of [] = []
source_of (t ∷ ts) = bytes t ++ (10 ∷ source_of ts)

abbrev Refuses : List String → ℕ → ℕ → Type 0
Refuses ts n k = assemble_of 16 16 (source_of ts) ≡ refuses (n on k)

-- a source whose lines all pass
abbrev Passes : List String → Type 0
Passes ts = verdict_of 16 16 (source_of ts) ≡ passes

-- the same of the largest memory
abbrev RefusesAtMost : List String → ℕ → ℕ → Type 0
RefusesAtMost ts n k = assemble_of 65536 65536 (source_of ts) ≡ refuses (n on k)

abbrev PassesAtMost : List String → Type 0
PassesAtMost ts = verdict_of 65536 65536 (source_of ts) ≡ passes

-- the memory that an accepted source leaves
abbrev cells_left : Assembled → List ℕ
cells_left (accepted memory marks) = memory
cells_left (refuses why) = []

-- a source leaves these words in a memory of M cells
abbrev Leaves : ℕ → List String → List ℕ → Type 0
Leaves M ts words = cells_left (assemble_of M M (source_of ts)) ≡ words

-- the map that an accepted source leaves
abbrev marks_left : Assembled → List ℕ
marks_left (accepted memory marks) = marks
marks_left (refuses why) = []

-- so many cells of code, of data, and reserved ones
abbrev Counts : List String → ℕ → ℕ → ℕ → Type 0
Counts ts code given reserved =
    let marks = marks_left (assemble_of 16 16 (source_of ts)) in
    (cells_marked code_mark marks ≡ code) × (cells_marked data_mark marks ≡ given) × (cells_marked reserved_mark marks ≡ reserved)

-- a line, below one with the label `a`: refused with this number where it has no label, for its label where it has `a` again
abbrev Again : ℕ → String → Type 0
Again n t = Refuses ("a:" ∷ t ∷ []) n 2 × (assemble_of 16 16 (bytes "a:" ++ (10 ∷ bytes "a: " ++ bytes t)) ≡ refuses (9 on 2))

abbrev long : List ℕ
long = replicate 65 120

pub record Examples : Type 0 where
  -- "The printed image"
  pub printed : assemble_of 16 16 (source_of ("ORG 2" ∷ "x: EQU 5" ∷ "MOVE #x,.A" ∷ "HALT" ∷ "DATA \"a\",-1" ∷ []))
      ≡ accepted (0 ∷ 0 ∷ 138 ∷ 5 ∷ 10 ∷ 64 ∷ 97 ∷ 0 ∷ 65535 ∷ 0 ∷ 0 ∷ 0 ∷ 0 ∷ 0 ∷ 0 ∷ 0 ∷ [])
      (0 ∷ 0 ∷ 1 ∷ 1 ∷ 1 ∷ 1 ∷ 2 ∷ 2 ∷ 2 ∷ 0 ∷ 0 ∷ 0 ∷ 0 ∷ 0 ∷ 0 ∷ 0 ∷ [])
  pub empty-source : assemble_of 1 1 [] ≡ accepted (0 ∷ []) (0 ∷ [])
  -- "line by line": what fails on an earlier line, whatever it is, comes before what fails on a later one
  pub form_line_first : Refuses (")" ∷ "FOO" ∷ []) 3 1
  pub label_line_first : Refuses ("a:" ∷ "a:" ∷ "FOO" ∷ []) 9 2
  pub cell_line_first : Refuses ("DATA 1" ∷ "ORG 0" ∷ "DATA 2" ∷ "FOO" ∷ []) 12 3
  -- lines without a statement count; CR is a blank
  pub comment_counts : Refuses ("; c" ∷ "\t" ∷ "FOO" ∷ []) 4 3
  pub comment_counts_13 : Refuses ("" ∷ "; x:" ∷ "BR /x" ∷ []) 13 3
  pub CR_blank : Leaves 2 ("NOP\r" ∷ "\rHALT ; c\r" ∷ []) (0 ∷ 64 ∷ [])
  pub CR_ends_no_line : Refuses ("NOP\rFOO" ∷ []) 3 1
  -- "label 10, 9; word 4; form 3; 5; 8; 6 or 7 ..; then the statement's result and label addresses ..; 11; 12": 9 before all that follow it
  pub again_before_4 : Again 4 "FOO"
  pub again_before_3 : Again 3 ")"
  pub again_before_15 : Again 15 "HALT #1"
  pub again_before_16 : Again 16 "MOVE $1,#2"
  pub again_before_8 : Again 8 "ORG (((((((((((((((((((((((((((((((((1)))))))))))))))))))))))))))))))))"
  pub again_before_6 : Again 6 "DATA 65536"
  pub again_before_7 : Again 7 "ORG 1/0"
  pub again_before_result : Again 6 "ORG 0-1"
  pub again_before_address : RefusesAtMost ("a: NOP" ∷ "ORG 65535" ∷ "RES 1" ∷ "a: NOP" ∷ []) 9 4
  pub again_before_11 : Again 11 "DATA \"more than 16 cells\""
  pub again_before_12 : Refuses ("a: NOP" ∷ "ORG 0" ∷ "a: NOP" ∷ []) 9 3
  pub again-bound : Refuses ("a: EQU 5" ∷ "a: EQU 5" ∷ []) 9 2
  -- label addresses before 11; on the binding statement's line, whichever line has the label
  pub address_6 : RefusesAtMost ("ORG 65535" ∷ "RES 1" ∷ "x: NOP" ∷ []) 6 3
  pub past_11 : RefusesAtMost ("ORG 65535" ∷ "RES 1" ∷ "NOP" ∷ []) 11 3
  pub binding_line : RefusesAtMost ("ORG 65535" ∷ "RES 1" ∷ "x:" ∷ "NOP" ∷ []) 6 4
  pub data_6 : RefusesAtMost ("ORG 65535" ∷ "RES 1" ∷ "x: DATA 1" ∷ []) 6 3
  pub reserve_6 : RefusesAtMost ("ORG 65535" ∷ "RES 1" ∷ "x: RES 0" ∷ []) 6 3
  pub value_before_6 : RefusesAtMost ("ORG 65535" ∷ "RES 1" ∷ "x: RES 1/0" ∷ []) 7 3
  -- "or the last line for labels bound at the source's end, judged after every line and before 13", blank lines counted
  pub last_line : RefusesAtMost ("ORG 65535" ∷ "RES 1" ∷ "x:" ∷ "" ∷ []) 6 4
  pub after_every_line : RefusesAtMost ("ORG 65535" ∷ "RES 1" ∷ "x:" ∷ "FOO" ∷ []) 4 4
  pub before_13 : RefusesAtMost ("BR /y" ∷ "ORG 65535" ∷ "RES 1" ∷ "x:" ∷ []) 6 4
  -- "Only if no line fails: 13 and 14 together, by line"; labels below END do not exist
  pub word_before_13 : Refuses ("BR /x" ∷ "FOO" ∷ []) 4 2
  pub past_before_13 : Refuses ("BR /x" ∷ "ORG 16" ∷ "NOP" ∷ []) 11 3
  pub twice_before_14 : Refuses ("BR $x" ∷ "x: EQU 65535" ∷ "ORG 0" ∷ "NOP" ∷ []) 12 4
  pub below_end : Refuses ("BR /x" ∷ "END" ∷ "x:" ∷ []) 13 1
  pub plain-number : Refuses ("x: EQU 0-5" ∷ "BR $x" ∷ []) 14 2
  pub far_on : Passes ("x: EQU 32769" ∷ "BR $x" ∷ [])
  pub too_far_on : Refuses ("x: EQU 32770" ∷ "BR $x" ∷ []) 14 2
  pub other_case : Refuses ("x: NOP" ∷ "BR /X" ∷ []) 13 2
  pub second-operand : Refuses ("x:" ∷ "MOVE #x,/y" ∷ []) 13 2
  pub by_line : Refuses ("BR $z" ∷ "z: EQU 65535" ∷ "BR /y" ∷ []) 14 1
  pub by_line_13 : Refuses ("BR /y" ∷ "BR $z" ∷ "z: EQU 65535" ∷ []) 13 1
  -- "EQU gives its value; an instruction, DATA or RES its start; ORG lets it wait on; END or the source's end gives the current address"
  pub equ-value : Leaves 2 ("x: EQU 0-5" ∷ "PUSH #x" ∷ []) (200 ∷ 65531 ∷ [])
  pub instruction-start : Leaves 4 ("NOP" ∷ "x: PUSH #x" ∷ "HALT" ∷ []) (0 ∷ 200 ∷ 1 ∷ 64 ∷ [])
  pub data_start : Leaves 4 ("NOP" ∷ "x: DATA 7" ∷ "PUSH #x" ∷ []) (0 ∷ 7 ∷ 200 ∷ 1 ∷ [])
  pub reserve-start : Leaves 5 ("ORG 1" ∷ "x: RES 2" ∷ "PUSH #x" ∷ []) (0 ∷ 0 ∷ 0 ∷ 200 ∷ 1 ∷ [])
  pub waits_on : Leaves 11 ("x: ORG 9" ∷ "PUSH #x" ∷ []) (0 ∷ 0 ∷ 0 ∷ 0 ∷ 0 ∷ 0 ∷ 0 ∷ 0 ∷ 0 ∷ 200 ∷ 9 ∷ [])
  pub end_binds : Leaves 2 ("BR /x" ∷ "x: END" ∷ "FOO" ∷ []) (1176 ∷ 2 ∷ [])
  pub source_end_binds : Leaves 2 ("PUSH #x" ∷ "x:" ∷ []) (200 ∷ 2 ∷ [])
  -- "All waiting labels are bound at once", over lines without a statement and over ORG; and once only
  pub at_once : Leaves 4 ("a:" ∷ "b: EQU 5" ∷ "PUSH #a" ∷ "PUSH #b" ∷ []) (200 ∷ 5 ∷ 200 ∷ 5 ∷ [])
  pub at_once_start : Leaves 5 ("NOP" ∷ "a:" ∷ "b: PUSH #a" ∷ "PUSH #b" ∷ []) (0 ∷ 200 ∷ 1 ∷ 200 ∷ 1 ∷ [])
  pub at_once_end : Leaves 4 ("PUSH #a" ∷ "PUSH #b" ∷ "a: ORG 9" ∷ "b: END" ∷ []) (200 ∷ 9 ∷ 200 ∷ 9 ∷ [])
  pub at_once_source_end : Leaves 4 ("PUSH #a" ∷ "PUSH #b" ∷ "a: ORG 9" ∷ "b:" ∷ []) (200 ∷ 9 ∷ 200 ∷ 9 ∷ [])
  pub over_comments : Leaves 2 ("a: ; c" ∷ "; c" ∷ "" ∷ "EQU 5" ∷ "PUSH #a" ∷ []) (200 ∷ 5 ∷ [])
  pub bound-once : PassesAtMost ("x: NOP" ∷ "ORG 65535" ∷ "RES 1" ∷ [])
  -- a label in every kind of operand, forward and backward, two in one instruction; `$label` counts from the address after it
  pub kinds : Leaves 12 ("x: MOVE #x,/y" ∷ "MOVE #y[.IX],#x[.SP]" ∷ "BR $x" ∷ "y: CALL $y" ∷ "DATA 7" ∷ [])
      (139 ∷ 0 ∷ 8 ∷ 175 ∷ 8 ∷ 0 ∷ 1208 ∷ 65528 ∷ 2040 ∷ 65534 ∷ 7 ∷ 0 ∷ [])
  pub second-alone : Leaves 3 ("x: EQU 9" ∷ "MOVE .A,/x" ∷ []) (147 ∷ 10 ∷ 9 ∷ [])
  -- "a label in an indexed operand, is a bit pattern"
  pub patterns : Leaves 6 ("x: EQU 40000" ∷ "PUSH #x[.IX]" ∷ "PUSH #x[.IY]" ∷ "PUSH #x[.SP]" ∷ []) (232 ∷ 40000 ∷ 240 ∷ 40000 ∷ 248 ∷ 40000 ∷ [])
  -- blocks that touch, and one that overlaps by a cell; "11; 12"
  pub touch : Passes ("ORG 2" ∷ "DATA 1,2" ∷ "ORG 0" ∷ "DATA 3,4" ∷ [])
  pub overlap : Refuses ("ORG 2" ∷ "DATA 1,2" ∷ "ORG 0" ∷ "DATA 3,4,5" ∷ []) 12 4
  pub twice : Refuses ("DATA 1" ∷ "ORG 0" ∷ "DATA 2" ∷ []) 12 3
  pub past_before_twice : assemble_of 2 2 (source_of ("DATA 1" ∷ "ORG 0" ∷ "DATA 1,2,3" ∷ [])) ≡ refuses (11 on 3)
  -- "an address above 65,536 after it is 6" (01), before 11; "11 and 12 now cover reserved cells" (02, K2)
  pub reserves-too-far : Refuses ("ORG 65535" ∷ "RES 2" ∷ []) 6 2
  pub reserves_past : Refuses ("ORG 65535" ∷ "RES 1" ∷ []) 11 2
  pub reserves_all : Passes ("RES 16" ∷ [])
  pub reserves_one_more : Refuses ("RES 17" ∷ []) 11 1
  pub reserved-taken : Refuses ("RES 4" ∷ "ORG 0" ∷ "DATA 1" ∷ []) 12 3
  pub reserved_taken_last : Refuses ("RES 4" ∷ "ORG 3" ∷ "NOP" ∷ []) 12 3
  pub reserved_not_taken : Passes ("RES 4" ∷ "ORG 4" ∷ "NOP" ∷ [])
  pub reserves_claimed : Refuses ("DATA 1" ∷ "ORG 0" ∷ "RES 1" ∷ []) 12 3
  pub reserves_reserved : Refuses ("RES 4" ∷ "ORG 3" ∷ "RES 1" ∷ []) 12 3
  pub reserves_past_before_12 : assemble_of 4 4 (source_of ("NOP" ∷ "ORG 0" ∷ "RES 5" ∷ [])) ≡ refuses (11 on 3)
  -- `RES 0` has no cell, so it is never 11 or 12; "ORG .. alone never give[s] 11" (01)
  pub none_over_claimed : Passes ("NOP" ∷ "ORG 0" ∷ "RES 0" ∷ [])
  pub none-past : Passes ("ORG 60000" ∷ "RES 0" ∷ [])
  pub org-past : Passes ("ORG 60000" ∷ [])
  -- "marked 3 in the map, holding 0", "acceptance returns their number as a third count" (02, K2)
  pub reserved-held : assemble_of 5 5 (source_of ("HALT" ∷ "RES 2" ∷ "DATA 5" ∷ [])) ≡ accepted (64 ∷ 0 ∷ 0 ∷ 5 ∷ 0 ∷ []) (1 ∷ 3 ∷ 3 ∷ 2 ∷ 0 ∷ [])
  pub reserved-counted : Counts ("HALT" ∷ "RES 2" ∷ "DATA 5" ∷ []) 1 1 2
  pub side_by_side : Counts ("RES 2" ∷ "RES 3" ∷ []) 0 0 5
  -- nothing is bound to 65,536
  pub not-bound : PassesAtMost ("ORG 65535" ∷ "RES 1" ∷ "x: ORG 0" ∷ "HALT" ∷ [])
  pub equ_binds : PassesAtMost ("ORG 65535" ∷ "RES 1" ∷ "x: EQU 4" ∷ [])
  pub none-reserved : PassesAtMost ("ORG 65535" ∷ "RES 1" ∷ "RES 0" ∷ [])
  pub org-there : PassesAtMost ("ORG 65535" ∷ "RES 1" ∷ "ORG 1" ∷ "HALT" ∷ [])
  pub end-there : PassesAtMost ("ORG 65535" ∷ "RES 1" ∷ "END" ∷ [])
  pub end_binds_6 : RefusesAtMost ("ORG 65535" ∷ "RES 1" ∷ "x: END" ∷ "" ∷ []) 6 3
  pub size_before_13 : Refuses ("MOVE #x,/70000" ∷ []) 6 1
  -- a name of 65 bytes
  pub long-label : assemble_of 16 16 (long ++ bytes ": NOP") ≡ refuses (10 on 1)
  pub long_label_first : assemble_of 16 16 (long ++ bytes ": FOO") ≡ refuses (10 on 1)
  pub long-word : assemble_of 16 16 long ≡ refuses (4 on 1)
  pub long-name : assemble_of 16 16 (bytes "BR /" ++ long) ≡ refuses (13 on 1)
  pub bad-loan : assemble_of 2 3 (source_of ("FOO" ∷ [])) ≡ refuses (1 on 0)

pub examples : Examples
unfolding computed_source cells_marked
examples =
    record {
      printed = refl;
      empty-source = refl;
      form_line_first = refl;
      label_line_first = refl;
      cell_line_first = refl;
      comment_counts = refl;
      comment_counts_13 = refl;
      CR_blank = refl;
      CR_ends_no_line = refl;
      again_before_4 = (refl, refl);
      again_before_3 = (refl, refl);
      again_before_15 = (refl, refl);
      again_before_16 = (refl, refl);
      again_before_8 = (refl, refl);
      again_before_6 = (refl, refl);
      again_before_7 = (refl, refl);
      again_before_result = (refl, refl);
      again_before_address = refl;
      again_before_11 = (refl, refl);
      again_before_12 = refl;
      again-bound = refl;
      address_6 = refl;
      past_11 = refl;
      binding_line = refl;
      data_6 = refl;
      reserve_6 = refl;
      value_before_6 = refl;
      last_line = refl;
      after_every_line = refl;
      before_13 = refl;
      word_before_13 = refl;
      past_before_13 = refl;
      twice_before_14 = refl;
      below_end = refl;
      plain-number = refl;
      far_on = refl;
      too_far_on = refl;
      other_case = refl;
      second-operand = refl;
      by_line = refl;
      by_line_13 = refl;
      equ-value = refl;
      instruction-start = refl;
      data_start = refl;
      reserve-start = refl;
      waits_on = refl;
      end_binds = refl;
      source_end_binds = refl;
      at_once = refl;
      at_once_start = refl;
      at_once_end = refl;
      at_once_source_end = refl;
      over_comments = refl;
      bound-once = refl;
      kinds = refl;
      second-alone = refl;
      patterns = refl;
      touch = refl;
      overlap = refl;
      twice = refl;
      past_before_twice = refl;
      reserves-too-far = refl;
      reserves_past = refl;
      reserves_all = refl;
      reserves_one_more = refl;
      reserved-taken = refl;
      reserved_taken_last = refl;
      reserved_not_taken = refl;
      reserves_claimed = refl;
      reserves_reserved = refl;
      reserves_past_before_12 = refl;
      none_over_claimed = refl;
      none-past = refl;
      org-past = refl;
      reserved-held = refl;
      reserved-counted = (refl, refl, refl);
      side_by_side = (refl, refl, refl);
      not-bound = refl;
      equ_binds = refl;
      none-reserved = refl;
      org-there = refl;
      end-there = refl;
      end_binds_6 = refl;
      size_before_13 = refl;
      long-label = refl;
      long_label_first = refl;
      long-word = refl;
      long-name = refl;
      bad-loan = refl;
    }
