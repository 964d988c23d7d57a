-- What this crate promises, beyond the equations at its functions: what those equations' right sides mean.
use Prim.Native.Nat.{ℕ, ◌+◌, ◌≤◌, ◌<◌}
use mathlib.Core.Bool.{Bool, true}
use mathlib.Core.List.{List, [], ◌∷◌, ◌++◌}
use mathlib.Core.Path.{◌≡◌, refl, sym, ap, subst, ◌∙◌}
use lib.Dec.{T}
use lib.ListN.{length, take, drop}
use Rattle.numerals.specs.Bytes.{any_word_byte}
use Rattle.numerals.specs.Digits.{all_below}
use Rattle.numerals.specs.declared.Cursor.{Cursor}
use Rattle.tokens.specs.Lines.{Lines}
use Rattle.tokens.specs.Words.{Word}
use Rattle.tokens.specs.Strings.{Characters}
use Rattle.tokens.specs.Rows.{Row, RowOf}
use Rattle.tokens.specs.Reading.{character_at, token_at, after_kind, tokens_from, line_length, lines_of}
use Rattle.tokens.specs.Commas.{follows_of}
use Rattle.tokens.specs.declared.Follows.TheVariants.{Comma}
use Rattle.tokens.specs.declared.Token.{Token}
use Rattle.tokens.proofs.LinesOf as LinesOf
use Rattle.tokens.proofs.Words as Words
use Rattle.tokens.proofs.Quoted as Quoted
use Rattle.tokens.proofs.Quoted.{Inside, ReadAt}
use Rattle.tokens.proofs.Places as Places
use Rattle.tokens.proofs.Places.{Placed, InOrder, Within}
use Rattle.tokens.proofs.Parted as Parted
use Rattle.tokens.proofs.Meanings as Meanings
use Rattle.tokens.proofs.Meanings.{Means}
use Rattle.tokens.proofs.Rows as Rows
use Rattle.tokens.proofs.EveryRow as EveryRow
use Rattle.tokens.proofs.Examples as Examples
use Rattle.tokens.proofs.Examples.{Examples}

-- ---- lines

-- "Lines end at LF": every source has lines, and no other list of them.
pub source_lines : (s : List ℕ) → Lines s (lines_of s)
source_lines = LinesOf.lines-sound

pub one_list : {s : List ℕ} {ls ls' : List (List ℕ)} → Lines s ls → Lines s ls' → ls ≡ ls'
one_list = LinesOf.lines-once

-- What `line_end` hands back is where the first of the lines from a place on ends, within the source.
pub line-end : (s : List ℕ) (from : ℕ) {r : ℕ} {l : List ℕ} {ls : List (List ℕ)} → r ≡ from + line_length (drop from s)
    → Lines (drop from s) (l ∷ ls)
    → r ≡ from + length l
line-end s from e lines = e ∙ ap (λ (n : ℕ). from + n) (LinesOf.first-length lines)

pub line-within : (l : List ℕ) → line_length l ≤ length l
line-within = LinesOf.line-within

-- The next line begins after that end's LF; "an LF that ends the source begins no further line".
pub next-line : (s : List ℕ) (at : ℕ) → at < length s
    → lines_of (drop at s) ≡ take (line_length (drop at s)) (drop at s) ∷ lines_of (drop (at + line_length (drop at s) + 1) s)
next-line = LinesOf.lines_from

pub no_more_lines : (s : List ℕ) (at : ℕ) → length s ≤ at → lines_of (drop at s) ≡ []
no_more_lines = LinesOf.lines-over

-- ---- rows

-- "Tokens are words, numbers, strings and single marks; blanks may stand between them, never inside one": every line has a row
-- of tokens, and no other.
pub line_row : (line : List ℕ) → RowOf line (tokens_from line 0)
line_row = EveryRow.line_row

pub one-row : {line : List ℕ} {ts ts' : List Token} → RowOf line ts → RowOf line ts' → ts ≡ ts'
one-row = Rows.row-once

-- The same from any place of the line on, whether a blank stands right before it or not.
pub row_from : (line : List ℕ) (at : ℕ) → Row at true (drop at line) (tokens_from line at)
row_from = EveryRow.row_here

pub one_row_from : {at : ℕ} {d : Bool} {l : List ℕ} {ts ts' : List Token} → Row at d l ts → Row at d l ts' → ts ≡ ts'
one_row_from = Rows.row-once

-- The row from a place on is the token that `next_token` hands back there, and the row from that token's cursor on; a stray token
-- ends it, and so does the line's end.
pub row_goes_on : (s : List ℕ) (at : ℕ) → tokens_from s at ≡ after_kind (token_at s at).kind (token_at s at) (tokens_from s)
row_goes_on = Places.row_unfolds

-- What the token that `next_token` hands back says of the line, by its kind: "Reading a word gives the word and the position after it".
pub token-means : (s : List ℕ) (from : ℕ) → Means s (token_at s from).kind (token_at s from).start (token_at s from).next.at
token-means = Meanings.token-means

-- It starts and ends within the line, takes a byte at least unless it is stray or the end, and follows directly where it starts
-- at the cursor.
pub token_placed : (s : List ℕ) (from : ℕ) → Placed (length s) from (token_at s from)
token_placed = Places.token_placed

-- A row's tokens come in order and do not overlap.
pub row_ordered : {line : List ℕ} {ts : List Token} → RowOf line ts → InOrder (length line) 0 ts
row_ordered {line} r = subst (InOrder (length line) 0) (one-row (line_row line) r) (Places.row_ordered line 0)

-- Each of them stands within the line, so each word's place does and has a byte at least; and so it is for a part of a row.
pub row_within : {line : List ℕ} {ts : List Token} → RowOf line ts → Within (length line) ts
row_within {line} r = subst (Within (length line)) (one-row (line_row line) r) (Places.row_within line 0)

pub row_within_from : (line : List ℕ) (at : ℕ) → Within (length line) (tokens_from line at)
row_within_from = Places.row_within

pub parts_within : (n : ℕ) (us vs : List Token) → Within n (us ++ vs) → Within n us × Within n vs
parts_within = Places.parts_within

-- The comma that `follows` hands back takes a byte of the line.
pub comma-moves : (s : List ℕ) (at : ℕ) {c : Cursor} → follows_of (token_at s at) ≡ Comma c → (at < c.at) × (c.at ≤ length s)
comma-moves = Parted.comma-moves

-- ---- words

-- "Word: longest run of letters, digits, `_`": no run of these at the text's head is longer, and a text begins with one word at most.
pub word-longest : {text w rest : List ℕ} → Word text w rest → (v l : List ℕ) → text ≡ v ++ l → T (all_below any_word_byte v)
    → length v ≤ length w
word-longest = Words.word-longest

pub one_word : {text w rest w' rest' : List ℕ} → Word text w rest → Word text w' rest' → (w ≡ w') × (rest ≡ rest')
one_word = Words.word-once

-- ---- strings

-- "A string takes a cell a character": a string has one reading at most, so that its characters are determined.
pub one-string : {l cs rest cs' rest' : List ℕ} → Characters l cs rest → Characters l cs' rest' → (cs ≡ cs') × (rest ≡ rest')
one-string = Quoted.characters-once

-- What `character` hands back inside a string says what the string's characters begin with, and the other way round.
pub character_means : (s : List ℕ) (i : ℕ) → Inside s i (character_at s i)
character_means = Quoted.character_means

pub character_read : (s : List ℕ) (i : ℕ) {cs rest : List ℕ} → Characters (drop i s) cs rest → ReadAt s i cs rest
character_read s i r = Quoted.characters-read s i r refl

-- ---- examples, and one reply

-- Lines that are easily misread.
pub examples : Examples
examples = Examples.examples

-- Every promise of this crate is an equation with its meaning: two replies that meet it coincide.
pub coincide : {A : Type 0} {meaning r r' : A} → r ≡ meaning → r' ≡ meaning → r ≡ r'
coincide p q = p ∙ sym q
