-- How the code finds a name: the bytes of a word as one number, that number's place among others, and what stands at a place.
use Rattle.std.specs.Prelude.{ℕ, suc, ◌+◌, ◌*◌, cond, List, [], ◌∷◌, map, ltb, eqb, length, get_or}
use Rattle.numerals.specs.Bytes.{between}
use Rattle.names.specs.Names.{capital, Entry, statement_words}
use Rattle.names.specs.declared.Word.{Word}
use Rattle.names.specs.declared.Word.TheVariants.{Org, Equ, Res, Data, End, Unknown}

-- bytes as the digits of one number, the first the least
unfoldable pub pack : List ℕ → ℕ
pack [] = 0
pack (b ∷ bs) = pack bs * 256 + b

-- the digit of a word's byte: its capital; 1, which is in no name, for 0 and for what is above 127, which are in none either
unfoldable pub digit : ℕ → ℕ
digit b = cond (between 1 127 b) (capital b) 1

-- the number of a word; 0, which no name has, where it is longer than any of them
unfoldable pub number_of : List ℕ → ℕ
number_of w = cond (ltb 6 (length w)) 0 (pack (map digit w))

-- a number's place in a list, or the list's length
unfoldable pub place_of : ℕ → List ℕ → ℕ
place_of n [] = 0
place_of n (m ∷ ms) = cond (eqb m n) 0 (suc (place_of n ms))

-- the word at a place of `statementWords`
unfoldable pub word_at : ℕ → Word
word_at k = get_or (map (λ (e : Entry). e.word) statement_words) k Unknown

-- the directives follow the opcodes there
unfoldable pub directives : List Word
directives = Org ∷ Equ ∷ Res ∷ Data ∷ End ∷ []

unfoldable pub directive_at : ℕ → Word
directive_at k = get_or directives k Unknown
