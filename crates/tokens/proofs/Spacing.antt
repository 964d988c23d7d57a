-- Lines with the same tokens, whatever blanks and comments stand between and after them (01, "Rules of writing": "Tokens are words,
-- numbers, strings and single marks; blanks may stand between them, never inside one"; "A comment runs from `;`, outside a string, to the
-- line's end").
--
-- What is true: a comment added where a line's last token is whole, and blanks added before, after and between tokens, leave the tokens,
-- and so everything that is read from them. Two places are exceptions, where a rule says "directly": a label's `:`, and a decimal
-- number after `-` in DATA or an operand (in an expression a `-` is the operation, whatever stands between).
--
-- What is false: a comment after a string that is not closed (`DATA "a` is refused, `DATA "a; "` has a string of three characters); a
-- blank inside a token (`HALT` and `HA Lt`, `"a"` and `"a "`); a blank between a label and its `:` (`x: HALT` and `x : HALT`); a blank
-- between `-` and a number in DATA or an operand (`DATA -1` and `DATA - 1`).
use Prim.Native.Nat.{ℕ, ◌+◌, ◌≤◌, ◌<◌}
use Prim.Native.Char.{code}
use mathlib.Core.Bool.{Bool, true, false, ◌&&◌}
use mathlib.Core.List.{List, [], ◌∷◌, ◌++◌}
use mathlib.Core.Path.{◌≡◌, refl, sym, ap, ◌∙◌}
use native.Mathlib.Omega.{arith}
use lib.Dec.{eqb, T}
use lib.ListN.{length, take, drop, length-append, length-drop}
use lib.Seq.{slice, drop-drop, drop_at, take-add, take-append_seam, drop-append_seam, length-take-le}
use Rattle.numerals.specs.Bytes.{any_word_byte}
use Rattle.numerals.specs.Digits.{all_below, ends_word}
use Rattle.numerals.specs.Numbers.{Unsigned, cut}
use Rattle.numerals.specs.declared.Radix.{Radix}
use Rattle.numerals.specs.declared.Radix.TheVariants.{Decimal, Hexadecimal}
use Rattle.tokens.specs.Bytes.{is_blank, is_mark}
use Rattle.tokens.specs.Words.{begins_word}
use Rattle.tokens.specs.Strings.{Characters}
use Rattle.tokens.specs.Rows.{token, Broken, Row, RowOf}
use Rattle.tokens.specs.Rows as R
use Rattle.tokens.specs.declared.Kind.{Kind}
use Rattle.tokens.specs.declared.Kind.TheVariants.{End, Stray, Word, Number, Text, Mark}
use Rattle.tokens.specs.declared.Token.{Token}
use Rattle.tokens.proofs.Quoted.{byte_of}

-- ---- where a rule says "directly"

abbrev pub is_minus : Kind → Bool
is_minus End = false
is_minus Stray = false
is_minus Word = false
is_minus (Number v k) = false
is_minus Text = false
is_minus (Mark b) = eqb b (code "-")

abbrev pub is_word : Kind → Bool
is_word End = false
is_word Stray = false
is_word Word = true
is_word (Number v k) = false
is_word Text = false
is_word (Mark b) = false

abbrev pub is_decimal : Radix → Bool
is_decimal Decimal = true
is_decimal Hexadecimal = false

-- whether a rule may ask if a token of the second kind follows one of the first directly: "a word directly followed by `:`", "decimal
-- digits, optionally with `-` directly before", the latter where a `-` may be a number's sign
abbrev pub matters : Bool → Kind → Kind → Bool
matters signs before End = false
matters signs before Stray = false
matters signs before Word = false
matters signs before (Number v k) = is_decimal k && (signs && is_minus before)
matters signs before Text = false
matters signs before (Mark b) = is_word before && eqb b (code ":")

abbrev pub AsDirectly : Bool → Kind → Kind → Bool → Bool → Type 0
AsDirectly signs before k d d' = T (matters signs before k) → d ≡ d'

-- ---- rows

module _ (line line' : List ℕ) where
  -- words have the same bytes, strings the same characters; a number's worth and radix and a mark's byte are in their kinds
  abbrev pub SameBytes : Kind → ℕ → ℕ → ℕ → ℕ → Type 0
  SameBytes End at end at' end' = Unit {0}
  SameBytes Stray at end at' end' = Unit {0}
  SameBytes Word at end at' end' = slice at end line ≡ slice at' end' line'
  SameBytes (Number v k) at end at' end' = Unit {0}
  SameBytes Text at end at' end' =
      (cs : List ℕ) × Characters (drop (at + 1) line) cs (drop end line) × Characters (drop (at' + 1) line') cs (drop end' line')
  SameBytes (Mark b) at end at' end' = Unit {0}

  -- tokens of two lines, after one of a kind: the same in number and kind, each with the same bytes, and as directly where that matters
  pub data AlikeRow (signs : Bool) : Kind → List Token → List Token → Type 0 where
    over : {before : Kind} → AlikeRow signs before [] []
    next : {before : Kind} {at end at' end' : ℕ} {d d' : Bool} {ts ts' : List Token} (k : Kind) → AsDirectly signs before k d d'
        → SameBytes k at end at' end'
        → AlikeRow signs k ts ts'
        → AlikeRow signs before (token k at d end ∷ ts) (token k at' d' end' ∷ ts')

-- two lines with rows that are alike; no token stands before the first
pub record Alike (signs : Bool) (line line' : List ℕ) : Type 0 where
  pub row : List Token
  pub row' : List Token
  pub has : RowOf line row
  pub has' : RowOf line' row'
  pub alike : AlikeRow line line' signs End row row'

-- ---- the same in bytes, without rows

-- blanks, then nothing or a comment
pub data Over : List ℕ → Type 0 where
  ended : Over []
  comment : {s : List ℕ} → Over (code ";" ∷ s)
  blank : {b : ℕ} {s : List ℕ} → T (is_blank b) → Over s → Over (b ∷ s)

-- Two texts with the same tokens, after one of a kind; with whether what stands before each is no blank. A blank of either is passed over,
-- a token is the same in both, and where no token is left anything may follow that is blanks and a comment.
pub data Respaced (signs : Bool) : Kind → Bool → Bool → List ℕ → List ℕ → Type 0 where
  over : {before : Kind} {d d' : Bool} {s s' : List ℕ} → Over s → Over s' → Respaced signs before d d' s s'
  blank : {before : Kind} {b : ℕ} {d d' : Bool} {s s' : List ℕ} → T (is_blank b) → Respaced signs before false d' s s'
      → Respaced signs before d d' (b ∷ s) s'
  blank' : {before : Kind} {b : ℕ} {d d' : Bool} {s s' : List ℕ} → T (is_blank b) → Respaced signs before d false s s'
      → Respaced signs before d d' s (b ∷ s')
  mark : {before : Kind} {b : ℕ} {d d' : Bool} {s s' : List ℕ} → T (is_mark b) → AsDirectly signs before (Mark b) d d'
      → Respaced signs (Mark b) true true s s'
      → Respaced signs before d d' (b ∷ s) (b ∷ s')
  word : {before : Kind} {d d' : Bool} {s s' : List ℕ} (w : List ℕ) → T (begins_word w) → T (all_below any_word_byte w) → T (ends_word s)
      → T (ends_word s')
      → Respaced signs Word true true s s'
      → Respaced signs before d d' (w ++ s) (w ++ s')
  number : {before : Kind} {v : ℕ} {d d' : Bool} {s s' : List ℕ} (w : List ℕ) (k : Radix) → Unsigned (w ++ s) k v s → Unsigned (w ++ s') k v s'
      → AsDirectly signs before (Number (cut v) k) d d'
      → Respaced signs (Number (cut v) k) true true s s'
      → Respaced signs before d d' (w ++ s) (w ++ s')
  string : {before : Kind} {d d' : Bool} {s s' cs : List ℕ} (w : List ℕ) → Characters (w ++ s) cs s → Characters (w ++ s') cs s'
      → Respaced signs Text true true s s'
      → Respaced signs before d d' (code "\"" ∷ w ++ s) (code "\"" ∷ w ++ s')
  broken : {before : Kind} {d d' : Bool} {s s' : List ℕ} → Broken s → Broken s' → Respaced signs before d d' s s'

-- ---- such texts have rows that are alike

-- no token is left there
pub over-row : {s : List ℕ} (at : ℕ) (d : Bool) → Over s → Row at d s []
over-row at d ended = R.ended
over-row at d comment = R.comment
over-row at d (blank t o) = R.blank t (over-row (at + 1) false o)

-- the bytes of a line from a place on, up to where what follows them begins
pub sliced : (line w rest : List ℕ) (at : ℕ) → 0 < length w → drop at line ≡ w ++ rest → slice at (at + length w) line ≡ w
sliced line w rest at some e =
    let n : length (w ++ rest) ≡ length w + length rest = length-append w rest in
    let l : at ≤ length line = omega (arith, length-drop at line, ap length e, n) in
    ap (drop at) (take-add at (length w) line) ∙ drop_at (take at line) (take (length w) (drop at line)) at (length-take-le at line l)
    ∙ ap (take (length w)) e ∙ take-append_seam w rest

-- what follows them
pub follows : (line w rest : List ℕ) (at : ℕ) → drop at line ≡ w ++ rest → drop (at + length w) line ≡ rest
follows line w rest at e = sym (drop-drop (length w) at line) ∙ ap (drop (length w)) e ∙ drop-append_seam w rest

pub begins-some : (w : List ℕ) → T (begins_word w) → 0 < length w
begins-some [] t = absurd t
begins-some (b ∷ w) t = omega arith

-- two rows from places on that are alike
record Rows (signs : Bool) (line line' : List ℕ) (before : Kind) (at at' : ℕ) (d d' : Bool) (s s' : List ℕ) : Type 0 where
  ts : List Token
  ts' : List Token
  has : Row at d s ts
  has' : Row at' d' s' ts'
  alike : AlikeRow line line' signs before ts ts'

module _ (signs : Bool) (line line' : List ℕ) where
  rows_alike : {before : Kind} {d d' : Bool} {s s' : List ℕ} → Respaced signs before d d' s s' → (at at' : ℕ) → drop at line ≡ s
      → drop at' line' ≡ s'
      → Rows signs line line' before at at' d d' s s'
  rows_alike {d = d} {d'} (over o o') at at' e e' =
      record { ts = []; ts' = []; has = over-row at d o; has' = over-row at' d' o'; alike = over }
  rows_alike (blank t r) at at' e e' =
      let h = rows_alike r (at + 1) at' (byte_of line at e).1 e' in
      record { ts = h.ts; ts' = h.ts'; has = R.blank t h.has; has' = h.has'; alike = h.alike }
  rows_alike (blank' t r) at at' e e' =
      let h = rows_alike r at (at' + 1) e (byte_of line' at' e').1 in
      record { ts = h.ts; ts' = h.ts'; has = h.has; has' = R.blank t h.has'; alike = h.alike }
  rows_alike {d = d} {d'} (mark {b = b} t m r) at at' e e' =
      let h = rows_alike r (at + 1) (at' + 1) (byte_of line at e).1 (byte_of line' at' e').1 in
      record {
        ts = token (Mark b) at d (at + 1) ∷ h.ts;
        ts' = token (Mark b) at' d' (at' + 1) ∷ h.ts';
        has = R.mark t h.has;
        has' = R.mark t h.has';
        alike = next (Mark b) m tt h.alike;
      }
  rows_alike {d = d} {d'} (word {s = s} {s'} w b a n n' r) at at' e e' =
      let h = rows_alike r (at + length w) (at' + length w) (follows line w s at e) (follows line' w s' at' e') in
      let i = begins-some w b in
      record {
        ts = token Word at d (at + length w) ∷ h.ts;
        ts' = token Word at' d' (at' + length w) ∷ h.ts';
        has = R.word {w = w} (record { split = refl; begins = b; all = a; longest = n }) h.has;
        has' = R.word {w = w} (record { split = refl; begins = b; all = a; longest = n' }) h.has';
        alike = next Word (λ t. absurd t) (sliced line w s at i e ∙ sym (sliced line' w s' at' i e')) h.alike;
      }
  rows_alike {d = d} {d'} (number {v = v} {s = s} {s'} w k u u' m r) at at' e e' =
      let h = rows_alike r (at + length w) (at' + length w) (follows line w s at e) (follows line' w s' at' e') in
      record {
        ts = token (Number (cut v) k) at d (at + length w) ∷ h.ts;
        ts' = token (Number (cut v) k) at' d' (at' + length w) ∷ h.ts';
        has = R.number (length w) u (length-append w s) h.has;
        has' = R.number (length w) u' (length-append w s') h.has';
        alike = next (Number (cut v) k) m tt h.alike;
      }
  rows_alike {d = d} {d'} (string {s = s} {s'} {cs} w c c' r) at at' e e' =
      let f = (byte_of line at e).1 in
      let f' = (byte_of line' at' e').1 in
      let g = follows line w s (at + 1) f in
      let g' = follows line' w s' (at' + 1) f' in
      let h = rows_alike r (at + 1 + length w) (at' + 1 + length w) g g' in
      let i : Characters (drop (at + 1) line) cs (drop (at + 1 + length w) line) = rw (f, g) c in
      let i' : Characters (drop (at' + 1) line') cs (drop (at' + 1 + length w) line') = rw (f', g') c' in
      record {
        ts = token Text at d (at + 1 + length w) ∷ h.ts;
        ts' = token Text at' d' (at' + 1 + length w) ∷ h.ts';
        has = R.string (length w) c (length-append w s) h.has;
        has' = R.string (length w) c' (length-append w s') h.has';
        alike = next Text (λ t. absurd t) (cs, i, i') h.alike;
      }
  rows_alike {d = d} {d'} (broken b b') at at' e e' =
      record {
        ts = token Stray at d at ∷ [];
        ts' = token Stray at' d' at' ∷ [];
        has = R.broken b;
        has' = R.broken b';
        alike = next Stray (λ t. absurd t) tt over;
      }

-- lines that differ in blanks and comments alone are alike
pub respaced_alike : {signs : Bool} {line line' : List ℕ} → Respaced signs End true true line line' → Alike signs line line'
respaced_alike {signs} {line} {line'} r =
    let h = rows_alike signs line line' r 0 0 refl refl in
    record { row = h.ts; row' = h.ts'; has = h.has; has' = h.has'; alike = h.alike }
