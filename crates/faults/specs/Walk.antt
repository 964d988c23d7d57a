-- The walk over a line's bytes: the state of Forms.antt between tokens, and inside a word, a number or a string what has begun there.
use Rattle.std.specs.Prelude.{ℕ, ◌+◌, Bool, true, false, cond, ◌||◌, ◌&&◌, List, [], ◌∷◌, ◌++◌, eqb, ltb, length}
use Prim.Native.Char.{code}
use Rattle.numerals.specs.Bytes.{is_digit, is_word_byte, rank}
use Rattle.numerals.specs.declared.Radix.{Radix}
use Rattle.numerals.specs.declared.Radix.TheVariants.{Decimal, Hexadecimal}
use Rattle.tokens.specs.Bytes.{is_blank, is_mark, is_quote, is_semicolon}
use Rattle.tokens.specs.Strings.{backslash, is_plain}
use Rattle.faults.specs.declared.State.{State}
use Rattle.faults.specs.declared.State.TheVariants.{Start, Body, Ended, Dead}
use Rattle.faults.specs.Forms.{word_step, number_step, text_step, mark_step, blank_step, final, lives, is_start, is_ended}

-- where the walk is among the bytes, and the state that what has begun there began in
pub data Lex : Type 0 where
  between : State → Lex
  word : State → List ℕ → Lex  -- in a word, its bytes so far
  zero decimal prefixed hexadecimal : State → Lex  -- behind a number's first `0`, in decimal digits, behind `0x`, in hexadecimal digits
  quoted escaped : State → Lex  -- in a string, behind a backslash

-- a number's first digit
abbrev pub first_digit : State → ℕ → Lex
first_digit st b = cond (eqb b (code "0")) (zero st) (decimal st)

-- a byte between tokens: "A comment runs from `;`, outside a string, to the line's end"; "Elsewhere only blanks and 32..126 occur"
unfoldable pub begin : State → ℕ → Lex
begin st b =
    cond (is_ended st) (between Ended)
    (cond (is_blank b) (between (blank_step st))
    (cond (is_digit b) (first_digit st b)
    (cond (is_word_byte b) (word st (b ∷ []))
    (cond (is_quote b) (quoted st)
    (cond (is_semicolon b) (between (cond (final st) Ended Dead))
    (cond (is_mark b) (between (mark_step st b)) (between Dead)))))))

-- the byte behind a word: "if a word directly followed by `:`, is its label"
unfoldable pub word_end : State → List ℕ → ℕ → Lex
word_end st w b = cond (is_start st && eqb b (code ":")) (between Body) (begin (word_step st w) b)

-- the byte behind a number: "No letter, digit or `_` follows directly"
unfoldable pub number_end : State → Radix → ℕ → Lex
number_end st k b = cond (ltb (rank b) 17) (between Dead) (begin (number_step st k) b)

-- a byte: "longest run of letters, digits, `_`, not begun by a digit"; "decimal digits, ..; or `0x` (small x) and one or more hex digits of
-- either case"; "Strings hold 32..126 except `"`; a backslash only as `\n`"
abbrev pub step : Lex → ℕ → Lex
step (between st) b = begin st b
step (word st w) b = cond (ltb (rank b) 17) (word st (w ++ (b ∷ []))) (word_end st w b)
step (zero st) b = cond (ltb (rank b) 10) (decimal st) (cond (eqb b (code "x")) (prefixed st) (number_end st Decimal b))
step (decimal st) b = cond (ltb (rank b) 10) (decimal st) (number_end st Decimal b)
step (prefixed st) b = cond (ltb (rank b) 16) (hexadecimal st) (between Dead)
step (hexadecimal st) b = cond (ltb (rank b) 16) (hexadecimal st) (number_end st Hexadecimal b)
step (quoted st) b = cond (is_quote b) (between (text_step st)) (cond (eqb b backslash) (escaped st) (cond (is_plain b) (quoted st) (between Dead)))
step (escaped st) b = cond (eqb b (code "n")) (quoted st) (between Dead)

-- whether something goes on from here, a word taken to be whole
abbrev pub live : Lex → Bool
live (between st) = lives st
live (word st w) = is_start st || lives (word_step st w)
live (zero st) = lives (number_step st Decimal)
live (decimal st) = lives (number_step st Decimal)
live (prefixed st) = lives (number_step st Hexadecimal)
live (hexadecimal st) = lives (number_step st Hexadecimal)
live (quoted st) = lives (text_step st)
live (escaped st) = lives (text_step st)

-- whether the line may end here
abbrev pub accepts : Lex → Bool
accepts (between st) = final st
accepts (word st w) = final (word_step st w)
accepts (zero st) = final (number_step st Decimal)
accepts (decimal st) = final (number_step st Decimal)
accepts (hexadecimal st) = final (number_step st Hexadecimal)
accepts _ = false

unfoldable pub run : Lex → List ℕ → Lex
run x [] = x
run x (b ∷ s) = run (step x b) s

abbrev pub first : Lex
first = between Start

-- ---- the place

abbrev pub in_word : Lex → Bool
in_word (word st w) = true
in_word _ = false

-- a byte goes on the word that the walk is in
abbrev pub grows : Lex → ℕ → Bool
grows x b = in_word x && ltb (rank b) 17

-- the walk goes on: a word may still grow
abbrev pub goes : Lex → Bool
goes x = in_word x || live x

-- the fault's place, from so many bytes along the line on, where the word that the walk is in began; `long` is the line's length. A dead word
-- is a fault where it began, any other byte where it stands, and what is missing at the line's end, a comment before it or not.
module _ (long : ℕ) where
  unfoldable pub place_from : Lex → ℕ → ℕ → List ℕ → ℕ
  place_from x began at [] = cond (live x) long began
  place_from x began at (b ∷ s) =
      cond (grows x b) (place_from (step x b) began (at + 1) s)
      (cond (live x)
      (cond (goes (step x b)) (place_from (step x b) at (at + 1) s)
      (cond (is_semicolon b && live (step x (code " "))) long at))
      began)

unfoldable pub place : List ℕ → ℕ
place line = place_from (length line) first 0 0 line
