-- The code's stages: those of Walk.antt without the bytes of a word, which stand in the line.
use Rattle.std.specs.Prelude.{ℕ, List}
use Rattle.faults.specs.Walk.{Lex, between, word, zero, decimal, prefixed, hexadecimal, quoted, escaped}
use Rattle.faults.specs.declared.Stage.{Stage}
use Rattle.faults.specs.declared.Stage.TheVariants as G
use Rattle.faults.specs.declared.State.{State}
use Rattle.faults.specs.declared.State.TheVariants.{Expression}

-- a stage, where the word is this if it is in one
abbrev pub spelt : Stage → List ℕ → Lex
spelt (G.Between st) w = between st
spelt (G.Word st) w = word st w
spelt (G.Zero st) w = zero st
spelt (G.Decimal st) w = decimal st
spelt (G.Prefixed st) w = prefixed st
spelt (G.Hexadecimal st) w = hexadecimal st
spelt (G.Quoted st) w = quoted st
spelt (G.Escaped st) w = escaped st

-- how many parentheses are open
abbrev pub opens : State → ℕ
opens (Expression q h) = h
opens _ = 0

abbrev pub opens_in : Lex → ℕ
opens_in (between st) = opens st
opens_in (word st w) = opens st
opens_in (zero st) = opens st
opens_in (decimal st) = opens st
opens_in (prefixed st) = opens st
opens_in (hexadecimal st) = opens st
opens_in (quoted st) = opens st
opens_in (escaped st) = opens st
