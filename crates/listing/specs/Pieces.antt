-- A line as it is written: words, decimals, marks and spaces, one after another (02, K1: "one instruction a line, .. decimals").
use Rattle.std.specs.Prelude.{ℕ, List, [], ◌∷◌, ◌++◌}
use Prim.Native.Char.{code}
use Rattle.numerals.specs.Writing.{decimal}

pub data Piece : Type 0 where
  word : List ℕ → Piece
  number : ℕ → Piece
  mark : ℕ → Piece
  space : Piece

abbrev pub piece_text : Piece → List ℕ
piece_text (word w) = w
piece_text (number n) = decimal n
piece_text (mark b) = b ∷ []
piece_text space = code " " ∷ []

unfoldable pub text_of : List Piece → List ℕ
text_of [] = []
text_of (p ∷ ps) = piece_text p ++ text_of ps
