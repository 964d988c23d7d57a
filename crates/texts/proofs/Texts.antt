-- Laws of lines.
use mathlib.Core.Path.{◌≡◌, refl, sym}
use mathlib.Core.List.{List, [], ◌∷◌, ◌++◌, append_assoc}
use Prim.Native.Nat.{ℕ}
use Rattle.numerals.specs.Bytes.{LF}
use Rattle.texts.specs.Lines.{text_of}

-- some lines and others after them
pub text_append : (a b : List (List ℕ)) → text_of (a ++ b) ≡ text_of a ++ text_of b
unfolding text_of
text_append [] b = refl
text_append (l ∷ a) b = rw (text_append a b) (sym (append_assoc l (LF ∷ text_of a) (text_of b)))
