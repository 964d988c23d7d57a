-- What the inner functions that measure and write the text promise one another.
use Rattle.std.specs.Prelude.{ℕ, cond, List, [], ◌∷◌, ◌++◌, eqb}
use Rattle.numerals.specs.Bytes.{LF, bytes}
use Rattle.numerals.specs.Writing.{decimal}
use Rattle.codes.specs.Marks.{free}
use Rattle.texts.specs.Lines.{text_of}
use Rattle.image.specs.Image.{kind, shown, cell_line, cell_lines}

-- a cell's line with its LF, and nothing for a free cell
unfoldable pub piece : ℕ → ℕ → ℕ → List ℕ
piece at mark value = cond (eqb mark free) [] (cell_line at mark value ++ (LF ∷ []))

-- what stands behind the address in a cell's line
unfoldable pub kind_and_value : ℕ → ℕ → List ℕ
kind_and_value mark value = bytes "," ++ (kind mark ++ (bytes "," ++ decimal (shown mark value)))

-- the text of a memory's claimed cells
abbrev pub cells_text : List ℕ → List ℕ → List ℕ
cells_text memory marks = text_of (cell_lines memory 0 marks)
