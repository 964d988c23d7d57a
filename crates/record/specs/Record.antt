-- The text of a record, line by line: a name, `=` and an unsigned decimal.
use Rattle.std.specs.Prelude.{ℕ, List, [], ◌∷◌, ◌++◌, get_or}
use Prim.Native.String.{String}
use Rattle.numerals.specs.Bytes.{bytes}
use Rattle.numerals.specs.Writing.{decimal}
use Rattle.texts.specs.Lines.{text_of}
use Rattle.codes.specs.Registers.{A, SR, IX, IY, SP, PC}

-- `A=7`: a name with its `=`, and a number
abbrev pub line : String → ℕ → List ℕ
line name n = bytes name ++ decimal n

-- a register's line, by its code
abbrev pub register_line : String → List ℕ → ℕ → List ℕ
register_line name r code = line name (get_or r code 0)

-- the stop, how many steps completed, and the accumulator
abbrev pub end_lines : ℕ → ℕ → ℕ → List (List ℕ)
end_lines stop steps a = line "stop=" stop ∷ line "steps=" steps ∷ line "A=" a ∷ []

-- the other registers, by their codes
abbrev pub low_lines : List ℕ → List (List ℕ)
low_lines r = register_line "R0=" r 0 ∷ register_line "R1=" r 1 ∷ register_line "R2=" r 2 ∷ register_line "R3=" r 3 ∷ register_line "R4=" r 4 ∷ []

abbrev pub high_lines : List ℕ → List (List ℕ)
high_lines r = register_line "R5=" r 5 ∷ register_line "R6=" r 6 ∷ register_line "R7=" r 7 ∷ register_line "R8=" r 8 ∷ register_line "R9=" r 9 ∷ []

abbrev pub special_lines : List ℕ → List (List ℕ)
special_lines r =
    register_line "SR=" r SR ∷ register_line "IX=" r IX ∷ register_line "IY=" r IY ∷ register_line "SP=" r SP ∷ register_line "PC=" r PC ∷ []

-- how many bytes were taken of the input, and written to the output
abbrev pub position_lines : ℕ → ℕ → List (List ℕ)
position_lines taken written = line "taken=" taken ∷ line "written=" written ∷ []

abbrev pub record_lines : ℕ → ℕ → List ℕ → ℕ → ℕ → List (List ℕ)
record_lines stop steps r taken written =
    end_lines stop steps (get_or r A 0) ++ (low_lines r ++ (high_lines r ++ (special_lines r ++ position_lines taken written)))

-- the text of a record
abbrev pub record_text : ℕ → ℕ → List ℕ → ℕ → ℕ → List ℕ
record_text stop steps r taken written = text_of (record_lines stop steps r taken written)
