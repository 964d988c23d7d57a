-- Worked examples (02, K1 and K2; their readings, row by row; the cases that are easily got wrong), each settled by computing it.
use Prim.Native.Nat.{ℕ}
use Prim.Native.String.{String}
use mathlib.Core.List.{List, [], ◌∷◌, ◌++◌}
use mathlib.Core.Path.{◌≡◌, refl}
use lib.ListN.{length, take, replicate}
use Rattle.numerals.specs.Bytes.{bytes, LF}
use Rattle.numerals.specs.Writing.{decimal, decimal_before}
use Rattle.isa.specs.Opcodes.{table, opcodes, opcode_of}
use Rattle.isa.specs.Operands.{operand_of}
use Rattle.isa.specs.Decoding.{first_word_read, modes_allowed, size_in, instruction_in, read_unless, decode_word, decode_of}
use Rattle.names.specs.Names.{registers}
use Rattle.image.specs.Printing.{known_marks, good_loan}
use Rattle.listing.specs.Pieces.{text_of}
use Rattle.listing.specs.Lines.{text_of_lines}
use Rattle.listing.specs.Listing.{reserved_lines, Leaves}
use Rattle.listing.specs.Inner.Walk.{runs_from, parts_from, run_lines, lines_from, list_of}

-- what is left, by refusal, address, text's length and room
abbrev left : ℕ → ℕ → ℕ → List ℕ → Leaves
left refusal address n room = record { refusal = refusal; address = address; text = n; room = room }

abbrev text : List String → List ℕ
text [] = []
text (t ∷ ts) = bytes t ++ (LF ∷ text ts)

-- a row at M 16: all further cells are free and 0
abbrev row : List ℕ → List ℕ
row xs = take 16 (xs ++ replicate 16 0)

-- these cells, with these marks, are listed as these lines, in a room that is one byte longer
abbrev Lists : List ℕ → List ℕ → List String → Type 0
Lists memory marks ts = list_of memory marks (replicate (length (text ts)) 7 ++ (9 ∷ [])) ≡ left 0 0 (length (text ts)) (text ts ++ (9 ∷ []))

-- or refused, with an address, in a room of so many bytes
abbrev Refuses : List ℕ → List ℕ → ℕ → ℕ → ℕ → Type 0
Refuses memory marks n number address = list_of memory marks (replicate n 7) ≡ left number address 0 (replicate n 7)

-- "For document 01's image"
abbrev memory : List ℕ
memory = row (0 ∷ 0 ∷ 138 ∷ 5 ∷ 10 ∷ 64 ∷ 97 ∷ 0 ∷ 65535 ∷ [])

abbrev marks : List ℕ
marks = row (0 ∷ 0 ∷ 1 ∷ 1 ∷ 1 ∷ 1 ∷ 2 ∷ 2 ∷ 2 ∷ [])

abbrev lines : List String
lines = "ORG 2" ∷ "MOVE #5,.A" ∷ "HALT" ∷ "DATA 97" ∷ "DATA 0" ∷ "DATA 65535" ∷ "END" ∷ []

-- marks of code
abbrev code : ℕ → List ℕ
code n = replicate n 1

pub record Examples : Type 0 where
  -- the paper's listing is 52 bytes: room 52 lists, 51 is 3; the room behind the text is as it was
  pub worked : list_of memory marks (replicate 52 7) ≡ left 0 0 52 (text lines)
  pub one-short : Refuses memory marks 51 3 0
  pub larger : list_of memory marks (replicate 54 7) ≡ left 0 0 52 (text lines ++ (7 ∷ 7 ∷ []))
  -- What is a run?
  pub runs : Lists (row (64 ∷ 7 ∷ 0 ∷ 8 ∷ [])) (row (1 ∷ 2 ∷ 0 ∷ 2 ∷ [])) ("HALT" ∷ "DATA 7" ∷ "ORG 3" ∷ "DATA 8" ∷ "END" ∷ [])
  pub code_behind_data : Lists (row (7 ∷ 64 ∷ [])) (row (2 ∷ 1 ∷ [])) ("DATA 7" ∷ "HALT" ∷ "END" ∷ [])
  pub first_at_2 : Lists (row (0 ∷ 0 ∷ 64 ∷ [])) (row (0 ∷ 0 ∷ 1 ∷ [])) ("ORG 2" ∷ "HALT" ∷ "END" ∷ [])
  pub last-cell : Lists (replicate 15 0 ++ (5 ∷ [])) (replicate 15 0 ++ (2 ∷ [])) ("ORG 15" ∷ "DATA 5" ∷ "END" ∷ [])
  pub behind_a_gap : Lists (row (64 ∷ 0 ∷ 64 ∷ [])) (row (1 ∷ 0 ∷ 1 ∷ [])) ("HALT" ∷ "ORG 2" ∷ "HALT" ∷ "END" ∷ [])
  -- No claimed cell?
  pub nothing : Lists (row (5 ∷ 6 ∷ [])) (row []) ("END" ∷ [])
  -- "decode within itself"?
  pub in_another_run : Refuses (row (200 ∷ 5 ∷ [])) (row (1 ∷ 2 ∷ [])) 60 2 0
  pub in_a_free_cell : Refuses (row (200 ∷ 5 ∷ [])) (row (1 ∷ [])) 60 2 0
  pub past_memory : Refuses (64 ∷ 200 ∷ []) (1 ∷ 1 ∷ []) 60 2 1
  -- Which address has 2?
  pub first_word : Refuses (row (64 ∷ 138 ∷ 5 ∷ 16 ∷ [])) (row (1 ∷ 1 ∷ 1 ∷ 1 ∷ [])) 60 2 1
  pub lowest : Refuses (row (64 ∷ 1 ∷ 5 ∷ 1 ∷ [])) (row (1 ∷ 1 ∷ 2 ∷ 1 ∷ [])) 60 2 1
  pub in_a_later_run : Refuses (row (64 ∷ 5 ∷ 0 ∷ 2496 ∷ [])) (row (1 ∷ 2 ∷ 0 ∷ 1 ∷ [])) 60 2 3
  -- The exact text?
  pub indexed : Lists (row (170 ∷ 65535 ∷ 1 ∷ [])) (row (1 ∷ 1 ∷ 1 ∷ [])) ("MOVE #-1[.IX],.R1" ∷ "END" ∷ [])
  -- Which numbers are signed?
  pub relative : Lists (row (1208 ∷ 65533 ∷ [])) (row (1 ∷ 1 ∷ [])) ("BR $-3" ∷ "END" ∷ [])
  pub immediate : Lists (row (200 ∷ 65535 ∷ [])) (row (1 ∷ 1 ∷ [])) ("PUSH #65535" ∷ "END" ∷ [])
  pub address : Lists (row (216 ∷ 65506 ∷ [])) (row (1 ∷ 1 ∷ [])) ("PUSH /65506" ∷ "END" ∷ [])
  pub lowest-signed : Lists (row (170 ∷ 32768 ∷ 1 ∷ [])) (row (1 ∷ 1 ∷ 1 ∷ [])) ("MOVE #-32768[.IX],.R1" ∷ "END" ∷ [])
  pub data_unsigned : Lists (row (32768 ∷ 65535 ∷ [])) (row (2 ∷ 2 ∷ [])) ("DATA 32768" ∷ "DATA 65535" ∷ "END" ∷ [])
  -- What is looked at?
  pub unseen : Lists (row (64 ∷ 9 ∷ [])) (row (1 ∷ [])) ("HALT" ∷ "END" ∷ [])
  -- 2 or 3 first? 1 before both
  pub before-room : Refuses (row (1 ∷ [])) (row (1 ∷ [])) 0 2 0
  pub no_room : Refuses (row (64 ∷ [])) (row (1 ∷ [])) 0 3 0
  pub mark_4 : Refuses (1 ∷ 64 ∷ []) (1 ∷ 4 ∷ []) 0 1 0
  pub long-map : Refuses (1 ∷ []) (1 ∷ 1 ∷ []) 60 1 0
  pub short-map : Refuses (1 ∷ 1 ∷ []) (1 ∷ []) 60 1 0
  pub no_cell : Refuses [] [] 60 1 0
  -- Reserved cells (02, K2): one run, one `RES n`, whatever they hold; ORG as before any run
  pub reserved : Lists (row (7 ∷ [])) (row (3 ∷ [])) ("RES 1" ∷ "END" ∷ [])
  pub side_by_side : Lists (row []) (row (3 ∷ 3 ∷ 3 ∷ 3 ∷ 3 ∷ [])) ("RES 5" ∷ "END" ∷ [])
  pub reserved_3 : Lists (row (0 ∷ 7 ∷ 64 ∷ [])) (row (3 ∷ 3 ∷ 3 ∷ [])) ("RES 3" ∷ "END" ∷ [])
  pub behind-code : Lists (row (64 ∷ 0 ∷ 0 ∷ 5 ∷ [])) (row (1 ∷ 3 ∷ 3 ∷ 2 ∷ [])) ("HALT" ∷ "RES 2" ∷ "DATA 5" ∷ "END" ∷ [])
  pub reserved_behind_a_gap : Lists (row (64 ∷ [])) (row (1 ∷ 0 ∷ 3 ∷ 3 ∷ [])) ("HALT" ∷ "ORG 2" ∷ "RES 2" ∷ "END" ∷ [])
  pub apart : Lists (row []) (row (3 ∷ 0 ∷ 3 ∷ [])) ("RES 1" ∷ "ORG 2" ∷ "RES 1" ∷ "END" ∷ [])
  pub last-reserved : Lists (row []) (replicate 15 0 ++ (3 ∷ [])) ("ORG 15" ∷ "RES 1" ∷ "END" ∷ [])
  pub in_a_reserved_cell : Refuses (row (200 ∷ 5 ∷ [])) (row (1 ∷ 3 ∷ [])) 60 2 0
  pub reserved_then_undecoded : Refuses (row (0 ∷ 1 ∷ [])) (row (3 ∷ 1 ∷ [])) 0 2 1
  pub reserved-room : Refuses (row []) (row (3 ∷ [])) 9 3 0
  -- each register, and each kind of operand
  pub registers_0 : Lists (208 ∷ 0 ∷ 208 ∷ 1 ∷ 208 ∷ 2 ∷ 208 ∷ 3 ∷ []) (code 8)
      ("PUSH .R0" ∷ "PUSH .R1" ∷ "PUSH .R2" ∷ "PUSH .R3" ∷ "END" ∷ [])
  pub registers_4 : Lists (208 ∷ 4 ∷ 208 ∷ 5 ∷ 208 ∷ 6 ∷ 208 ∷ 7 ∷ []) (code 8)
      ("PUSH .R4" ∷ "PUSH .R5" ∷ "PUSH .R6" ∷ "PUSH .R7" ∷ "END" ∷ [])
  pub registers_8 : Lists (208 ∷ 8 ∷ 208 ∷ 9 ∷ 208 ∷ 10 ∷ 208 ∷ 11 ∷ []) (code 8)
      ("PUSH .R8" ∷ "PUSH .R9" ∷ "PUSH .A" ∷ "PUSH .SR" ∷ "END" ∷ [])
  pub registers_12 : Lists (208 ∷ 12 ∷ 208 ∷ 13 ∷ 208 ∷ 14 ∷ 208 ∷ 15 ∷ []) (code 8)
      ("PUSH .IX" ∷ "PUSH .IY" ∷ "PUSH .SP" ∷ "PUSH .PC" ∷ "END" ∷ [])
  pub kinds : Lists (200 ∷ 5 ∷ 208 ∷ 10 ∷ 216 ∷ 5 ∷ 224 ∷ 9 ∷ []) (code 8)
      ("PUSH #5" ∷ "PUSH .A" ∷ "PUSH /5" ∷ "PUSH [.R9]" ∷ "END" ∷ [])
  pub displaced : Lists (232 ∷ 5 ∷ 240 ∷ 65535 ∷ 248 ∷ 32767 ∷ 1208 ∷ 32768 ∷ []) (code 8)
      ("PUSH #5[.IX]" ∷ "PUSH #-1[.IY]" ∷ "PUSH #32767[.SP]" ∷ "BR $-32768" ∷ "END" ∷ [])

pub examples : Examples
unfolding decimal decimal_before table opcodes opcode_of operand_of first_word_read modes_allowed size_in instruction_in read_unless decode_word decode_of registers known_marks good_loan text_of text_of_lines runs_from parts_from reserved_lines run_lines lines_from list_of
examples = record {
  worked = refl;
  one-short = refl;
  larger = refl;
  runs = refl;
  code_behind_data = refl;
  first_at_2 = refl;
  last-cell = refl;
  behind_a_gap = refl;
  nothing = refl;
  in_another_run = refl;
  in_a_free_cell = refl;
  past_memory = refl;
  first_word = refl;
  lowest = refl;
  in_a_later_run = refl;
  indexed = refl;
  relative = refl;
  immediate = refl;
  address = refl;
  lowest-signed = refl;
  data_unsigned = refl;
  unseen = refl;
  before-room = refl;
  no_room = refl;
  mark_4 = refl;
  long-map = refl;
  short-map = refl;
  no_cell = refl;
  reserved = refl;
  side_by_side = refl;
  reserved_3 = refl;
  behind-code = refl;
  reserved_behind_a_gap = refl;
  apart = refl;
  last-reserved = refl;
  in_a_reserved_cell = refl;
  reserved_then_undecoded = refl;
  reserved-room = refl;
  registers_0 = refl;
  registers_4 = refl;
  registers_8 = refl;
  registers_12 = refl;
  kinds = refl;
  displaced = refl;
}
