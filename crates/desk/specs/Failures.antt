-- What is told of a failure of the system, in the system's words.
use Rattle.std.specs.Prelude.{ℕ, List, [], ◌∷◌, ◌++◌}
use Rattle.numerals.specs.Bytes.{bytes}
use Rattle.texts.specs.Lines.{text_of}

-- `WHAT: WHY`
abbrev pub failure_text : List ℕ → List ℕ → List ℕ
failure_text what why = text_of ((what ++ bytes ": " ++ why) ∷ [])
