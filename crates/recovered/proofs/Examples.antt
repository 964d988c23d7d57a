-- Document 01's image and reserved cells, listed and assembled again; and a free and a reserved cell that do not hold 0, which no listing
-- brings back.
use Prim.Native.Nat.{ℕ, zero, suc, ◌<◌}
use Prim.Native.String.{String}
use mathlib.Core.Bool.{Bool, true, ◌&&◌}
use mathlib.Core.List.{List, [], ◌∷◌, ◌++◌}
use mathlib.Core.Path.{◌≡◌, refl, ap}
use native.Mathlib.Omega.{arith}
use lib.Dec.{ltb}
use lib.ListN.{get_or, replicate}
use borrow.Author.Tests.{ltb-true}
use Rattle.numerals.specs.Bytes.{bytes, LF}
use Rattle.numerals.specs.Writing.{decimal, decimal_before}
use Rattle.isa.specs.Opcodes.{table, opcodes, opcode_of}
use Rattle.isa.specs.Operands.{operand_of}
use Rattle.isa.specs.Decoding.{modes_allowed, first_word_read, size_in, instruction_in, read_unless, decode_word, decode_of}
use Rattle.names.specs.Names.{registers}
use Rattle.image.specs.Printing.{known_marks, good_loan}
use Rattle.image.proofs.Texts.{both_true}
use Rattle.sources.specs.Image.{Accepted}
use Rattle.sources.proofs.Top as sources
use Rattle.listing.specs.Pieces.{text_of}
use Rattle.listing.specs.Lines.{text_of_lines}
use Rattle.listing.specs.Listing.{reserved_lines, given, Replies}
use Rattle.listing.specs.Inner.Walk.{runs_from, parts_from, run_lines, lines_from, list_of}
use Rattle.listing.proofs.Cleared.{cleared}
use Rattle.listing.proofs.Exactly.{exactly}
use Rattle.recovered.proofs.Back.{cleared-back}

abbrev text : List String → List ℕ
text [] = []
text (t ∷ ts) = bytes t ++ (LF ∷ text ts)

unfoldable all_cells : List ℕ → Bool
all_cells [] = true
all_cells (x ∷ xs) = ltb x 65536 && all_cells xs

cells_by : (xs : List ℕ) → all_cells xs ≡ true → (a : ℕ) → get_or xs a 0 < 65536
unfolding all_cells
cells_by [] e a = omega arith
cells_by (x ∷ xs) e zero = ltb-true x 65536 (both_true (ltb x 65536) (all_cells xs) e).0
cells_by (x ∷ xs) e (suc a) = cells_by xs (both_true (ltb x 65536) (all_cells xs) e).1 a

-- ---- document 01's image

abbrev pub printed : List ℕ
printed = 0 ∷ 0 ∷ 138 ∷ 5 ∷ 10 ∷ 64 ∷ 97 ∷ 0 ∷ 65535 ∷ 0 ∷ 0 ∷ 0 ∷ 0 ∷ 0 ∷ 0 ∷ 0 ∷ []

abbrev pub printed_map : List ℕ
printed_map = 0 ∷ 0 ∷ 1 ∷ 1 ∷ 1 ∷ 1 ∷ 2 ∷ 2 ∷ 2 ∷ 0 ∷ 0 ∷ 0 ∷ 0 ∷ 0 ∷ 0 ∷ 0 ∷ []

abbrev pub printed_text : List ℕ
printed_text = text ("ORG 2" ∷ "MOVE #5,.A" ∷ "HALT" ∷ "DATA 97" ∷ "DATA 0" ∷ "DATA 65535" ∷ "END" ∷ [])

-- its listing has 52 bytes
abbrev pub room : List ℕ
room = replicate 52 0

pub printed-gives : Replies printed printed_map room (given printed_text room)
unfolding decimal decimal_before table opcodes opcode_of operand_of modes_allowed size_in instruction_in read_unless decode_word first_word_read decode_of registers text_of text_of_lines runs_from parts_from run_lines lines_from known_marks good_loan list_of
printed-gives = (exactly printed printed_map room (given printed_text room)).0 refl

-- and comes back
pub printed-back : Accepted 16 16 printed_text printed printed_map
unfolding all_cells cleared
printed-back = cleared-back printed-gives (cells_by printed refl)

-- ---- reserved cells

abbrev pub reserved : List ℕ
reserved = 0 ∷ 0 ∷ []

abbrev pub reserved_map : List ℕ
reserved_map = 3 ∷ 3 ∷ []

abbrev pub reserved_text : List ℕ
reserved_text = text ("RES 2" ∷ "END" ∷ [])

pub reserved-gives : Replies reserved reserved_map room (given reserved_text room)
unfolding decimal decimal_before reserved_lines text_of text_of_lines runs_from run_lines lines_from known_marks good_loan list_of
reserved-gives = (exactly reserved reserved_map room (given reserved_text room)).0 refl

pub reserved-back : Accepted 2 2 reserved_text reserved reserved_map
unfolding all_cells cleared
reserved-back = cleared-back reserved-gives (cells_by reserved refl)

-- ---- the proviso is not idle

abbrev pub unclean : List ℕ
unclean = 64 ∷ 9 ∷ []

abbrev pub unclean_map : List ℕ
unclean_map = 1 ∷ 0 ∷ []

abbrev pub unclean_text : List ℕ
unclean_text = text ("HALT" ∷ "END" ∷ [])

pub unclean-gives : Replies unclean unclean_map room (given unclean_text room)
unfolding decimal decimal_before table opcodes opcode_of operand_of modes_allowed size_in instruction_in read_unless decode_word first_word_read decode_of registers text_of text_of_lines runs_from parts_from run_lines lines_from known_marks good_loan list_of
unclean-gives = (exactly unclean unclean_map room (given unclean_text room)).0 refl

pub unclean_stays_away : Accepted 2 2 unclean_text unclean unclean_map → ⊥
unfolding all_cells cleared
unclean_stays_away a =
    let b : Accepted 2 2 unclean_text (64 ∷ 0 ∷ []) unclean_map = cleared-back unclean-gives (cells_by unclean refl) in
    let e : unclean ≡ 64 ∷ 0 ∷ [] = (sources.one_image_only 2 2 unclean_text a b).0 in
    omega (arith, ap (λ (m : List ℕ). get_or m 1 0) e)

-- a reserved cell that was written
abbrev pub written : List ℕ
written = 7 ∷ []

abbrev pub written_map : List ℕ
written_map = 3 ∷ []

abbrev pub written_text : List ℕ
written_text = text ("RES 1" ∷ "END" ∷ [])

pub written-gives : Replies written written_map room (given written_text room)
unfolding decimal decimal_before reserved_lines text_of text_of_lines runs_from run_lines lines_from known_marks good_loan list_of
written-gives = (exactly written written_map room (given written_text room)).0 refl

pub written_stays_away : Accepted 1 1 written_text written written_map → ⊥
unfolding all_cells cleared
written_stays_away a =
    let b : Accepted 1 1 written_text (0 ∷ []) written_map = cleared-back written-gives (cells_by written refl) in
    let e : written ≡ 0 ∷ [] = (sources.one_image_only 1 1 written_text a b).0 in
    omega (arith, ap (λ (m : List ℕ). get_or m 0 0) e)
