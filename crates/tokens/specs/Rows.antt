-- A line's tokens (01, "Rules of writing": "Tokens are words, numbers, strings and single marks; blanks may stand between
-- them, never inside one"). Each knows its place in the line and whether it follows the one before directly. What begins no
-- token, or a token that is broken, is a token of its own, which ends the row and which no statement has.
use Rattle.std.specs.Prelude.{ℕ, ◌+◌, Bool, true, false, List, [], ◌∷◌, ◌≡◌, T, length}
use Prim.Native.Char.{code}
use Rattle.numerals.specs.Bytes.{is_digit}
use Rattle.numerals.specs.Numbers.{Unsigned, cut}
use Rattle.numerals.specs.declared.Radix.{Radix}
use Rattle.tokens.specs.Bytes.{is_blank, is_mark, is_stray}
use Rattle.tokens.specs.Words.{Word}
use Rattle.tokens.specs.Strings.{Characters}
use Rattle.tokens.specs.declared.Kind.{Kind}
use Rattle.tokens.specs.declared.Kind.TheVariants as K
use Rattle.tokens.specs.declared.Token.{Token}

-- a token of a kind, from a place to the place after it, directly after the one before or not
abbrev pub token : Kind → ℕ → Bool → ℕ → Token
token kind at directly end = record { kind = kind; start = at; directly = directly; next = record { at = end } }

-- what begins no token, or a token that is broken
pub data Broken : List ℕ → Type 0 where
  byte : {b : ℕ} {s : List ℕ} → T (is_stray b) → Broken (b ∷ s)
  number : {b : ℕ} {s : List ℕ} → T (is_digit b) → ((k : Radix) (v : ℕ) (rest : List ℕ) → Unsigned (b ∷ s) k v rest → ⊥) → Broken (b ∷ s)
  string : {s : List ℕ} → ((cs rest : List ℕ) → Characters s cs rest → ⊥) → Broken (code "\"" ∷ s)

-- the tokens of a line's bytes from a place on; `directly` where no blank stands right before
pub data Row : ℕ → Bool → List ℕ → List Token → Type 0 where
  ended : {at : ℕ} {d : Bool} → Row at d [] []
  comment : {at : ℕ} {d : Bool} {s : List ℕ} → Row at d (code ";" ∷ s) []
  blank : {at b : ℕ} {d : Bool} {s : List ℕ} {ts : List Token} → T (is_blank b) → Row (at + 1) false s ts → Row at d (b ∷ s) ts
  mark : {at b : ℕ} {d : Bool} {s : List ℕ} {ts : List Token} → T (is_mark b) → Row (at + 1) true s ts
      → Row at d (b ∷ s) (token (K.Mark b) at d (at + 1) ∷ ts)
  word : {at : ℕ} {d : Bool} {s w rest : List ℕ} {ts : List Token} → Word s w rest → Row (at + length w) true rest ts
      → Row at d s (token K.Word at d (at + length w) ∷ ts)
  number : {at v : ℕ} {d : Bool} {k : Radix} {s rest : List ℕ} {ts : List Token} (n : ℕ) → Unsigned s k v rest → length s ≡ n + length rest
      → Row (at + n) true rest ts → Row at d s (token (K.Number (cut v) k) at d (at + n) ∷ ts)
  string : {at : ℕ} {d : Bool} {s cs rest : List ℕ} {ts : List Token} (n : ℕ) → Characters s cs rest → length s ≡ n + length rest
      → Row (at + 1 + n) true rest ts → Row at d (code "\"" ∷ s) (token K.Text at d (at + 1 + n) ∷ ts)
  broken : {at : ℕ} {d : Bool} {s : List ℕ} → Broken s → Row at d s (token K.Stray at d at ∷ [])

-- a line's row
abbrev pub RowOf : List ℕ → List Token → Type 0
RowOf line ts = Row 0 true line ts
