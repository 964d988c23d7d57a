-- Worked examples (01, "The printed image"; the readings of the cases that are easy to misread).
use Prim.Native.Nat.{ℕ}
use mathlib.Core.Path.{◌≡◌, refl}
use mathlib.Core.List.{List, [], ◌∷◌, ◌++◌}
use lib.ListN.{replicate}
use Rattle.numerals.specs.Bytes.{bytes}
use Rattle.numerals.specs.Writing.{decimal_before, decimal}
use Rattle.texts.specs.Lines.{text_of}
use Rattle.image.specs.Image.{cell_line, cell_lines, claimed, image_text}
use Rattle.image.specs.Printing.{Leaves, known_marks, good_loan, printed}

-- what is left, by refusal, text's length and room
abbrev left : ℕ → ℕ → List ℕ → Leaves
left refusal n room = record { refusal = refusal; text = n; room = room }

-- document 01's image, at M 16
abbrev memory : List ℕ
memory = 0 ∷ 0 ∷ 138 ∷ 5 ∷ 10 ∷ 64 ∷ 97 ∷ 0 ∷ 65535 ∷ replicate 7 0

abbrev marks : List ℕ
marks = 0 ∷ 0 ∷ 1 ∷ 1 ∷ 1 ∷ 1 ∷ 2 ∷ 2 ∷ 2 ∷ replicate 7 0

abbrev text : List ℕ
text =
    bytes "version=1\nsize=16\nclaimed=7\ncell=2,code,138\ncell=3,code,5\ncell=4,code,10\n"
    ++ bytes "cell=5,code,64\ncell=6,data,97\ncell=7,data,0\ncell=8,data,65535\n"

-- a free cell of any value, at M 1
abbrev nothing : List ℕ
nothing = bytes "version=1\nsize=1\nclaimed=0\n"

-- a reserved cell of any value, at M 1
abbrev reserved : List ℕ
reserved = bytes "version=1\nsize=1\nclaimed=1\ncell=0,reserved,0\n"

pub record Examples : Type 0 where
  pub document_01 : image_text memory marks ≡ text
  pub into_its_room : printed memory marks (replicate 135 7) ≡ left 0 135 text
  -- the room behind the text is as it was
  pub into_a_larger_room : printed memory marks (replicate 137 7) ≡ left 0 135 (text ++ (7 ∷ 7 ∷ []))
  -- "a free cell's value is never printed"
  pub nothing-claimed : printed (5 ∷ []) (0 ∷ []) (replicate 27 7) ≡ left 0 27 nothing
  -- "2 room short", by one byte: nothing is written
  pub one-short : printed (5 ∷ []) (0 ∷ []) (replicate 26 7) ≡ left 2 0 (replicate 26 7)
  pub no_room : printed (5 ∷ []) (0 ∷ []) [] ≡ left 2 0 []
  -- a reserved cell "printed as `cell=ADDR,reserved,0`" (02, K2), whatever it holds
  pub one-reserved : printed (7 ∷ []) (3 ∷ []) (replicate 45 7) ≡ left 0 45 reserved
  pub one_reserved_short : printed (7 ∷ []) (3 ∷ []) (replicate 44 7) ≡ left 2 0 (replicate 44 7)
  -- "1 bad lengths or a mark above 2" (01), now above 3, before 2
  pub no_cell : printed [] [] (7 ∷ []) ≡ left 1 0 (7 ∷ [])
  pub short-map : printed (5 ∷ 5 ∷ []) (0 ∷ []) [] ≡ left 1 0 []
  pub long-map : printed (5 ∷ []) (0 ∷ 0 ∷ []) [] ≡ left 1 0 []
  pub mark_4 : printed (5 ∷ 6 ∷ []) (0 ∷ 4 ∷ []) (replicate 60 7) ≡ left 1 0 (replicate 60 7)
  pub mark_4_without_room : printed (5 ∷ []) (4 ∷ []) [] ≡ left 1 0 []

pub examples : Examples
unfolding decimal_before decimal cell_line cell_lines claimed text_of known_marks good_loan printed
examples =
    record {
      document_01 = refl;
      into_its_room = refl;
      into_a_larger_room = refl;
      nothing-claimed = refl;
      one-short = refl;
      no_room = refl;
      one-reserved = refl;
      one_reserved_short = refl;
      no_cell = refl;
      short-map = refl;
      long-map = refl;
      mark_4 = refl;
      mark_4_without_room = refl;
    }
