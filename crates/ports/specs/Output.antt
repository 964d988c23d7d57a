-- What is written to the output (01: "WRINT writes signed decimal. WRCHAR and WRSTR write low bytes; WRSTR ends before the
-- first cell that is 0."; "output room short" is 9, "a string passing M is 5 and comes before 9").
use Rattle.std.specs.Prelude.{ℕ, ◌+◌, ◌%◌, Bool, cond, List, [], ◌∷◌, map, leb, length, drop, Ok, Err}
use Rattle.numerals.specs.Writing.{signed_decimal}
use Rattle.ports.specs.Overwriting.{overwrite}
use Rattle.ports.specs.Searching.{up_to, meets}
use Rattle.codes.specs.Stops.{memory_end, output_short}
use Rattle.ports.specs.Input.{Passed, passed}

-- a text written at the position, if there is room for all of it
unfoldable pub text_put : List ℕ → ℕ → List ℕ → Passed
text_put out at text =
    cond (leb (at + length text) (length out)) (passed (Ok (at + length text)) (overwrite out at text)) (passed (Err output_short) out)

abbrev pub low_byte : ℕ → ℕ
low_byte x = x % 256

-- WRCHAR
unfoldable pub byte_put : List ℕ → ℕ → ℕ → Passed
byte_put out at x = text_put out at (low_byte x ∷ [])

-- WRINT
unfoldable pub number_put : List ℕ → ℕ → ℕ → Passed
number_put out at x = text_put out at (signed_decimal x)

-- the cells before the first that is 0, and whether there is one
abbrev pub string_of : List ℕ → List ℕ
string_of cells = up_to 0 cells

abbrev pub ends_in_zero : List ℕ → Bool
ends_in_zero cells = meets 0 cells

-- WRSTR, from a cell on
unfoldable pub string_put : List ℕ → ℕ → List ℕ → ℕ → Passed
string_put out at m from =
    cond (ends_in_zero (drop from m)) (text_put out at (map low_byte (string_of (drop from m)))) (passed (Err memory_end) out)
