-- The lines of a source, the token at a place and the row from a place on, as functions; `proofs/Top.antt` shows that a source has
-- exactly these lines and a line exactly this row.
use Rattle.std.specs.Prelude.{ℕ, zero, suc, ◌+◌, ◌-◌, Bool, cond, List, [], ◌∷◌, leb, eqb, length, get_or, drop}
use Prim.Native.Char.{code}
use Rattle.numerals.specs.Bytes.{LF, is_digit, is_word_byte, any_word_byte}
use Rattle.numerals.specs.Reading.{run, unsigned_at}
use Rattle.std.specs.Prelude.{Option, Some, None}
use Rattle.numerals.specs.declared.Read.{Read}
use Rattle.numerals.specs.declared.Numeral.{Numeral}
use Rattle.tokens.specs.Bytes.{is_blank, is_mark, is_quote, is_semicolon}
use Rattle.tokens.specs.Strings.{backslash, is_plain}
use Rattle.tokens.specs.Rows.{token}
use Rattle.tokens.specs.declared.Character.{Character}
use Rattle.tokens.specs.declared.Character.TheVariants.{Stands, Closed, Broken}
use Rattle.tokens.specs.declared.Kind.{Kind}
use Rattle.tokens.specs.declared.Kind.TheVariants.{End, Stray, Word, Number, Text, Mark}
use Rattle.tokens.specs.declared.Token.{Token}

-- ---- lines

-- the line that a text begins with, up to its LF or the text's end
unfoldable pub line_length : List ℕ → ℕ
line_length [] = 0
line_length (b ∷ bs) = cond (eqb b LF) 0 (suc (line_length bs))

-- a byte before the first of some lines
abbrev pub before : ℕ → List (List ℕ) → List (List ℕ)
before b [] = (b ∷ []) ∷ []
before b (line ∷ lines) = (b ∷ line) ∷ lines

-- the lines of a source
unfoldable pub lines_of : List ℕ → List (List ℕ)
lines_of [] = []
lines_of (b ∷ bs) = cond (eqb b LF) ([] ∷ lines_of bs) (before b (lines_of bs))

-- ---- tokens

-- how many blanks a text begins with
unfoldable pub blanks : List ℕ → ℕ
blanks [] = 0
blanks (b ∷ bs) = cond (is_blank b) (suc (blanks bs)) 0

-- what stands at a place inside a string
unfoldable pub character_at : List ℕ → ℕ → Character
character_at s at =
    cond (is_quote (get_or s at 0)) (Closed (record { at = at + 1 }))
    (cond (eqb (get_or s at 0) backslash) (cond (eqb (get_or s (at + 1) 0) (code "n")) (Stands 10 (record { at = at + 2 })) Broken)
    (cond (is_plain (get_or s at 0)) (Stands (get_or s at 0) (record { at = at + 1 })) Broken))

-- how many bytes up to a string's closing quote, it included; none where the string is broken
pub data Closing : Type 0 where
  after : ℕ → Closing
  never : Closing

abbrev pub further : ℕ → Closing → Closing
further n (after k) = after (n + k)
further n never = never

unfoldable mutual
  pub closing : List ℕ → Closing
  closing [] = never
  closing (b ∷ s) = cond (is_quote b) (after 1) (cond (eqb b backslash) (further 1 (escaped s)) (cond (is_plain b) (further 1 (closing s)) never))

  pub escaped : List ℕ → Closing
  escaped [] = never
  escaped (b ∷ s) = cond (eqb b (code "n")) (further 1 (closing s)) never

abbrev pub string_token : Closing → ℕ → Bool → Token
string_token (after n) at d = token Text at d (at + 1 + n)
string_token never at d = token Stray at d at

abbrev pub number_token : Option (Read Numeral) → ℕ → Bool → Token
number_token (Some r) at d = token (Number r.value.magnitude r.value.radix) at d r.next.at
number_token None at d = token Stray at d at

-- the token that begins at a place where no blank stands; `End` at the line's end and at a comment
unfoldable pub token_here : List ℕ → ℕ → Bool → Token
token_here s at d =
    cond (leb (length s) at) (token End at d at)
    (cond (is_digit (get_or s at 0)) (number_token (unsigned_at s at) at d)
    (cond (is_word_byte (get_or s at 0)) (token Word at d (at + run any_word_byte (drop at s)))
    (cond (is_quote (get_or s at 0)) (string_token (closing (drop (at + 1) s)) at d)
    (cond (is_semicolon (get_or s at 0)) (token End at d at)
    (cond (is_mark (get_or s at 0)) (token (Mark (get_or s at 0)) at d (at + 1))
    (token Stray at d at))))))

-- the first token from a place on
unfoldable pub token_at : List ℕ → ℕ → Token
token_at s from = token_here s (from + blanks (drop from s)) (eqb (blanks (drop from s)) 0)

-- the row that a token begins, with `rest` for the row from a place on
abbrev pub after_kind : Kind → Token → (ℕ → List Token) → List Token
after_kind End t rest = []
after_kind Stray t rest = t ∷ []
after_kind Word t rest = t ∷ rest t.next.at
after_kind (Number v k) t rest = t ∷ rest t.next.at
after_kind Text t rest = t ∷ rest t.next.at
after_kind (Mark b) t rest = t ∷ rest t.next.at

-- each token takes a byte at least, so that there are no more tokens than bytes
unfoldable pub tokens_within : ℕ → List ℕ → ℕ → List Token
tokens_within zero s at = []
tokens_within (suc n) s at = after_kind (token_at s at).kind (token_at s at) (λ next. tokens_within n s next)

unfoldable pub tokens_from : List ℕ → ℕ → List Token
tokens_from s at = tokens_within (length s - at) s at
