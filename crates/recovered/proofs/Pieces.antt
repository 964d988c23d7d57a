-- What is written piece by piece is read token by token: the row of a line's text.
use Prim.Native.Nat.{ℕ, suc, ◌+◌, ◌≤◌}
use Prim.Native.Char.{code}
use mathlib.Core.Bool.{Bool, true, false, not}
use mathlib.Core.List.{List, [], ◌∷◌, ◌++◌, append_assoc}
use mathlib.Core.Path.{◌≡◌, refl, sym, ap, subst, ◌∙◌}
use native.Mathlib.Omega.{arith}
use lib.Dec.{T}
use lib.Ieee.Bits.{is_true}
use lib.ListN.{length, drop, length-append}
use lib.Seq.{slice}
use Rattle.numerals.specs.Bytes.{rank, any_word_byte}
use Rattle.numerals.specs.Digits.{all_below, ends_word}
use Rattle.numerals.specs.Writing.{decimal}
use Rattle.numerals.specs.declared.Radix.TheVariants.{Decimal}
use Rattle.numerals.proofs.RoundTrips.{decimal-reads}
use Rattle.numerals.proofs.Top.{exact}
use Rattle.tokens.specs.Bytes.{is_mark, is_blank}
use Rattle.tokens.specs.Rows as Rows
use Rattle.tokens.specs.Rows.{token, Row, ended, blank}
use Rattle.tokens.specs.Words.{begins_word}
use Rattle.tokens.specs.declared.Kind.TheVariants as K
use Rattle.tokens.specs.declared.Token.{Token}
use Rattle.tokens.proofs.Classes.{word_ranks, mark-alone}
use Rattle.tokens.proofs.Spacing.{sliced, follows, begins-some}
use Rattle.listing.specs.Pieces.{Piece, word, number, mark, space, piece_text, text_of}
use Rattle.listing.proofs.Texts.{text_append}

-- the tokens of pieces from a place on
unfoldable pub row_from : ℕ → Bool → List Piece → List Token
row_from at d [] = []
row_from at d (word w ∷ ps) = token K.Word at d (at + length w) ∷ row_from (at + length w) true ps
row_from at d (number n ∷ ps) = token (K.Number n Decimal) at d (at + length (decimal n)) ∷ row_from (at + length (decimal n)) true ps
row_from at d (mark b ∷ ps) = token (K.Mark b) at d (at + 1) ∷ row_from (at + 1) true ps
row_from at d (space ∷ ps) = row_from (at + 1) false ps

-- no word or number follows directly
abbrev pub parted : List Piece → Bool
parted [] = true
parted (word w ∷ ps) = false
parted (number n ∷ ps) = false
parted (mark b ∷ ps) = true
parted (space ∷ ps) = true

-- each piece is what it says, and words and numbers are parted
unfoldable pub Fine : List Piece → Type 0
Fine [] = Unit {0}
Fine (word w ∷ ps) = T (begins_word w) × T (all_below any_word_byte w) × T (parted ps) × Fine ps
Fine (number n ∷ ps) = (n ≤ 65536) × T (parted ps) × Fine ps
Fine (mark b ∷ ps) = T (is_mark b) × Fine ps
Fine (space ∷ ps) = Fine ps

-- a test that passes, as a fact
pub T_of : {b : Bool} → b ≡ true → T b
T_of e = subst T (sym e) tt

-- what is parted ends a word
ends-parted : (ps : List Piece) → Fine ps → T (parted ps) → T (ends_word (text_of ps))
unfolding text_of Fine rank
ends-parted [] f t = tt
ends-parted (word w ∷ ps) f t = absurd t
ends-parted (number n ∷ ps) f t = absurd t
ends-parted (mark b ∷ ps) f t =
    let e = (mark-alone b (is_true _ f.0)).word in
    subst (λ (x : Bool). T (not x)) (sym e ∙ word_ranks b) tt
ends-parted (space ∷ ps) f t = T_of refl

-- the row of a written line
pub row_of : (ps : List Piece) (at : ℕ) (d : Bool) → Fine ps → Row at d (text_of ps) (row_from at d ps)
unfolding text_of Fine row_from is_blank
row_of [] at d f = ended
row_of (word w ∷ ps) at d (b, a, t, f) =
    Rows.word {w = w} (record { split = refl; begins = b; all = a; longest = ends-parted ps f t }) (row_of ps (at + length w) true f)
row_of (number n ∷ ps) at d (h, t, f) =
    let u = decimal-reads n (text_of ps) (omega arith) (ends-parted ps f t) in
    subst (λ (v : ℕ). Row at d (decimal n ++ text_of ps) (token (K.Number v Decimal) at d (at + length (decimal n)) ∷ row_from (at + length (decimal n)) true ps))
    (exact n h)
    (Rows.number (length (decimal n)) u (length-append (decimal n) (text_of ps)) (row_of ps (at + length (decimal n)) true f))
row_of (mark b ∷ ps) at d (m, f) = Rows.mark m (row_of ps (at + 1) true f)
row_of (space ∷ ps) at d f = blank {b = code " "} (T_of refl) (row_of ps (at + 1) false f)

-- ---- pieces side by side

-- whether a token after pieces follows directly
unfoldable pub behind : Bool → List Piece → Bool
behind d [] = d
behind d (word w ∷ ps) = behind true ps
behind d (number n ∷ ps) = behind true ps
behind d (mark b ∷ ps) = behind true ps
behind d (space ∷ ps) = behind false ps

-- the row of pieces side by side is the rows side by side
pub row_append : (ps qs : List Piece) (at : ℕ) (d : Bool)
    → row_from at d (ps ++ qs) ≡ row_from at d ps ++ row_from (at + length (text_of ps)) (behind d ps) qs
unfolding row_from text_of behind
row_append [] qs at d = ap (λ (n : ℕ). row_from n d qs) (omega arith)
row_append (word w ∷ ps) qs at d =
    let e : at + length w + length (text_of ps) ≡ at + length (w ++ text_of ps) = omega (arith, length-append w (text_of ps)) in
    ap (λ (l : List Token). token K.Word at d (at + length w) ∷ l)
    (row_append ps qs (at + length w) true
    ∙ ap (λ (n : ℕ). row_from (at + length w) true ps ++ row_from n (behind true ps) qs) e)
row_append (number x ∷ ps) qs at d =
    let e : at + length (decimal x) + length (text_of ps) ≡ at + length (decimal x ++ text_of ps) = omega (arith, length-append (decimal x) (text_of ps)) in
    ap (λ (l : List Token). token (K.Number x Decimal) at d (at + length (decimal x)) ∷ l)
    (row_append ps qs (at + length (decimal x)) true
    ∙ ap (λ (n : ℕ). row_from (at + length (decimal x)) true ps ++ row_from n (behind true ps) qs) e)
row_append (mark b ∷ ps) qs at d =
    let e : at + 1 + length (text_of ps) ≡ at + suc (length (text_of ps)) = omega arith in
    ap (λ (l : List Token). token (K.Mark b) at d (at + 1) ∷ l)
    (row_append ps qs (at + 1) true ∙ ap (λ (n : ℕ). row_from (at + 1) true ps ++ row_from n (behind true ps) qs) e)
row_append (space ∷ ps) qs at d =
    let e : at + 1 + length (text_of ps) ≡ at + suc (length (text_of ps)) = omega arith in
    row_append ps qs (at + 1) false ∙ ap (λ (n : ℕ). row_from (at + 1) false ps ++ row_from n (behind false ps) qs) e

-- ---- pieces where they stand

-- pieces stand at a place of the line, and the rest of the line behind them
pub record Stand (line : List ℕ) (at : ℕ) (ps : List Piece) (rest : List ℕ) : Type 0 where
  pub there : drop at line ≡ text_of ps ++ rest

-- behind the first of them, behind some of them, and the first some
pub next-piece : {line rest : List ℕ} {at : ℕ} {p : Piece} {ps : List Piece} → Stand line at (p ∷ ps) rest
    → Stand line (at + length (piece_text p)) ps rest
unfolding text_of
next-piece {line} {rest} {at} {p} {ps} s =
    record { there = follows line (piece_text p) (text_of ps ++ rest) at (s.there ∙ append_assoc (piece_text p) (text_of ps) rest) }

pub next_pieces : {line rest : List ℕ} {at : ℕ} (ps qs : List Piece) → Stand line at (ps ++ qs) rest → Stand line (at + length (text_of ps)) qs rest
next_pieces {line} {rest} {at} ps qs s = record {
  there =
      follows line (text_of ps) (text_of qs ++ rest) at
      (s.there ∙ ap (λ (l : List ℕ). l ++ rest) (text_append ps qs) ∙ append_assoc (text_of ps) (text_of qs) rest);
}

pub first_pieces : {line rest : List ℕ} {at : ℕ} (ps qs : List Piece) → Stand line at (ps ++ qs) rest → Stand line at ps (text_of qs ++ rest)
first_pieces {line} {rest} {at} ps qs s =
    record { there = s.there ∙ ap (λ (l : List ℕ). l ++ rest) (text_append ps qs) ∙ append_assoc (text_of ps) (text_of qs) rest }

-- the bytes of a word that stands there are its own
pub word-there : {line rest : List ℕ} {at : ℕ} {w : List ℕ} {ps : List Piece} → T (begins_word w) → Stand line at (word w ∷ ps) rest
    → slice at (at + length w) line ≡ w
unfolding text_of
word-there {line} {rest} {at} {w} {ps} b s = sliced line w (text_of ps ++ rest) at (begins-some w b) (s.there ∙ append_assoc w (text_of ps) rest)
