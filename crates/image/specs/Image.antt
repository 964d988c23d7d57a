-- The text of an image (01, "The printed image"; 02, K2), line by line.
use Rattle.std.specs.Prelude.{ℕ, suc, ◌+◌, cond, List, [], ◌∷◌, ◌++◌, eqb, length, get_or}
use Rattle.codes.specs.Marks.{free, code_mark, reserved_mark}
use Rattle.numerals.specs.Bytes.{bytes}
use Rattle.numerals.specs.Writing.{decimal}
use Rattle.texts.specs.Lines.{text_of}

-- how a claimed cell's mark is printed
abbrev pub kind : ℕ → List ℕ
kind mark = cond (eqb mark reserved_mark) (bytes "reserved") (cond (eqb mark code_mark) (bytes "code") (bytes "data"))

-- and its value: a reserved cell is "printed as `cell=ADDR,reserved,0`" (02, K2), whatever it holds
abbrev pub shown : ℕ → ℕ → ℕ
shown mark value = cond (eqb mark reserved_mark) 0 value

-- `cell=2,code,138`: address, kind and value
unfoldable pub cell_line : ℕ → ℕ → ℕ → List ℕ
cell_line at mark value = bytes "cell=" ++ (decimal at ++ (bytes "," ++ (kind mark ++ (bytes "," ++ decimal (shown mark value)))))

-- the lines of the claimed cells of a memory, ascending, by the marks from an address on
unfoldable pub cell_lines : List ℕ → ℕ → List ℕ → List (List ℕ)
cell_lines memory at [] = []
cell_lines memory at (mark ∷ marks) =
    cond (eqb mark free) (cell_lines memory (at + 1) marks) (cell_line at mark (get_or memory at 0) ∷ cell_lines memory (at + 1) marks)

-- how many cells are claimed
unfoldable pub claimed : List ℕ → ℕ
claimed [] = 0
claimed (mark ∷ marks) = cond (eqb mark free) (claimed marks) (suc (claimed marks))

-- the lines before the cells
abbrev pub head_lines : ℕ → ℕ → List (List ℕ)
head_lines size number = bytes "version=1" ∷ (bytes "size=" ++ decimal size) ∷ (bytes "claimed=" ++ decimal number) ∷ []

abbrev pub image_lines : List ℕ → List ℕ → List (List ℕ)
image_lines memory marks = head_lines (length memory) (claimed marks) ++ cell_lines memory 0 marks

-- the text of an image
abbrev pub image_text : List ℕ → List ℕ → List ℕ
image_text memory marks = text_of (image_lines memory marks)
