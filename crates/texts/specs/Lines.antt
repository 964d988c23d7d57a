-- Lines of text, as an image and a record are printed: "one line each" (01, "The printed image").
use Rattle.std.specs.Prelude.{ℕ, List, [], ◌∷◌, ◌++◌}
use Rattle.numerals.specs.Bytes.{LF}

-- an LF after every line, the last too
unfoldable pub text_of : List (List ℕ) → List ℕ
text_of [] = []
text_of (line ∷ lines) = line ++ (LF ∷ text_of lines)
