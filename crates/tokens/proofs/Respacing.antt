-- A comment, or blanks, added to a line, in bytes: where the line keeps its tokens (Spacing.antt, which also says where it does not).
use Prim.Native.Nat.{ℕ, ◌≤◌, ◌<◌}
use Prim.Native.Char.{code}
use mathlib.Core.Bool.{Bool, true, false, not, ◌&&◌, ◌||◌, false≢true}
use mathlib.Core.List.{List, [], ◌∷◌, ◌++◌, append_assoc, append-nil}
use mathlib.Core.Path.{◌≡◌, refl, sym, ap, ◌∙◌}
use native.Mathlib.Omega.{arith}
use lib.Dec.{T, ltb}
use lib.Ieee.Bits.{is_true}
use lib.Ieee.Fits.{and_l, and_r}
use lib.ListN.{length}
use borrow.Author.Tests.{lt-ltb, ltb-true}
use Rattle.numerals.specs.Bytes.{is_word_byte, rank}
use Rattle.numerals.specs.Digits.{all_below, ends_word}
use Rattle.numerals.specs.Numbers.{base, prefix, Unsigned, cut}
use Rattle.numerals.specs.declared.Radix.{Radix}
use Rattle.numerals.specs.declared.Radix.TheVariants.{Decimal, Hexadecimal}
use Rattle.tokens.specs.Bytes.{is_blank}
use Rattle.tokens.specs.Strings.{backslash, Characters, closed, plain, newline}
use Rattle.tokens.specs.Rows.{Row, RowOf}
use Rattle.tokens.specs.Rows as R
use Rattle.tokens.specs.Reading.{tokens_from}
use Rattle.tokens.specs.declared.Kind.{Kind}
use Rattle.tokens.specs.declared.Kind.TheVariants.{End, Stray, Word, Number, Text, Mark}
use Rattle.tokens.specs.declared.Token.{Token}
use Rattle.tokens.proofs.Classes.{word_ranks, word_no_blank}
use Rattle.tokens.proofs.EveryRow.{line_row}
use Rattle.tokens.proofs.Spacing.{AsDirectly, matters, Alike, Over, ended, comment, begins-some, Respaced, respaced_alike}
use Rattle.tokens.proofs.Spacing as S

-- ---- what the laws below ask

abbrev pub is_stray : Kind → Bool
is_stray End = false
is_stray Stray = true
is_stray Word = false
is_stray (Number v k) = false
is_stray Text = false
is_stray (Mark b) = false

-- a row of whole tokens: nothing in the line begins no token, or a token that is broken
abbrev pub NoStray : List Token → Type 0
NoStray [] = Unit {0}
NoStray (t ∷ ts) = T (not (is_stray t.kind)) × NoStray ts

-- the kind of the last of some tokens, after one of a kind
abbrev pub last_kind : Kind → List Token → Kind
last_kind before [] = before
last_kind before (t ∷ ts) = last_kind t.kind ts

-- the last byte of one text and the first of another are not both bytes of words, so that the two parts make no longer word
abbrev pub apart : List ℕ → List ℕ → Bool
apart [] s = true
apart (b ∷ []) s = ends_word (b ∷ []) || ends_word s
apart (b ∷ c ∷ p) s = apart (c ∷ p) s

abbrev pub AllBlank : List ℕ → Type 0
AllBlank [] = Unit {0}
AllBlank (b ∷ bs) = T (is_blank b) × AllBlank bs

-- ---- bytes of words at the seam

or_right : (a : Bool) → T (a || true)
or_right true = tt
or_right false = tt

apart_none : (p : List ℕ) → T (apart p [])
apart_none [] = tt
apart_none (b ∷ []) = or_right (ends_word (b ∷ []))
apart_none (b ∷ c ∷ p) = apart_none (c ∷ p)

apart-free : (p s : List ℕ) → T (ends_word s) → T (apart p s)
apart-free [] s t = tt
apart-free (b ∷ []) s t = rw (is_true (ends_word s) t) (or_right (ends_word (b ∷ [])))
apart-free (b ∷ c ∷ p) s t = apart-free (c ∷ p) s t

apart-tail : (b : ℕ) (p s : List ℕ) → T (apart (b ∷ p) s) → T (apart p s)
apart-tail b [] s t = tt
apart-tail b (c ∷ p) s t = t

apart-back : (w p s : List ℕ) → T (apart (w ++ p) s) → T (apart p s)
apart-back [] p s t = t
apart-back (b ∷ w) p s t = apart-back w p s (apart-tail b (w ++ p) s t)

below_more : (k : ℕ) (w : List ℕ) → k ≤ 17 → T (all_below k w) → T (all_below 17 w)
below_more k [] l t = tt
below_more k (b ∷ w) l t =
    let h : rank b < k = ltb-true (rank b) k (is_true (ltb (rank b) k) (and_l (ltb (rank b) k) (all_below k w) t)) in
    rw (lt-ltb (rank b) 17 (omega arith)) (below_more k w l (and_r (ltb (rank b) k) (all_below k w) t))

-- what stands after bytes of words begins with none, also once a text is added
seam : (w rest s : List ℕ) → 0 < length w → T (all_below 17 w) → T (ends_word rest) → T (apart (w ++ rest) s) → T (ends_word (rest ++ s))
seam w (c ∷ rest) s l a e t = e
seam [] [] s l a e t = absurd (omega arith)
seam (b ∷ []) [] s l a e t =
    rw (is_true (ltb (rank b) 17) (and_l (ltb (rank b) 17) true a)) at t
seam (b ∷ c ∷ w) [] s l a e t = seam (c ∷ w) [] s (omega arith) (and_r (ltb (rank b) 17) (all_below 17 (c ∷ w)) a) e t

-- a blank is no byte of a word, nor is `;`
blank-ends : (b : ℕ) (s : List ℕ) → T (is_blank b) → T (ends_word (b ∷ s))
blank-ends b s t = go (is_word_byte b) refl
  where
    go : (y : Bool) → is_word_byte b ≡ y → T (ends_word (b ∷ s))
    go true e = absurd (false≢true (sym (word_no_blank b e) ∙ is_true (is_blank b) t))
    go false e = rw (sym (word_ranks b) ∙ e) tt

pub over-ends : {s : List ℕ} → Over s → T (ends_word s)
unfolding rank
over-ends ended = tt
over-ends comment = tt
over-ends (S.blank {b} {s} t o) = blank-ends b s t

-- ---- strings

-- the bytes of a string, and what follows them
record Split (s cs rest : List ℕ) : Type 0 where
  bytes : List ℕ
  split : s ≡ bytes ++ rest
  whole : (r : List ℕ) → Characters (bytes ++ r) cs r

string-split : {s cs rest : List ℕ} → Characters s cs rest → Split s cs rest
string-split (closed {rest}) = record { bytes = code "\"" ∷ []; split = refl; whole = λ r. closed }
string-split (plain {b} t c) =
    let h = string-split c in
    record { bytes = b ∷ h.bytes; split = ap (λ (l : List ℕ). b ∷ l) h.split; whole = λ r. plain t (h.whole r) }
string-split (newline c) =
    let h = string-split c in
    record {
      bytes = backslash ∷ code "n" ∷ h.bytes;
      split = ap (λ (l : List ℕ). backslash ∷ code "n" ∷ l) h.split;
      whole = λ r. newline (h.whole r);
    }

-- ---- numbers

base-low : (k : Radix) → base k ≤ 17
base-low Decimal = omega arith
base-low Hexadecimal = omega arith

module _ {s rest : List ℕ} {k : Radix} {v : ℕ} (u : Unsigned s k v rest) where
  -- the bytes of a number, and what follows them
  abbrev number-bytes : List ℕ
  number-bytes = prefix k ++ u.digits

  number-split : s ≡ number-bytes ++ rest
  number-split = u.split ∙ sym (append_assoc (prefix k) u.digits rest)

  number-whole : (r : List ℕ) → T (ends_word r) → Unsigned (number-bytes ++ r) k v r
  number-whole r t =
      record { digits = u.digits; split = append_assoc (prefix k) u.digits r; are-digits = u.are-digits; ends = t; worth_is = u.worth_is }

  number-seam : (t : List ℕ) → T (apart s t) → T (ends_word (rest ++ t))
  number-seam t a =
      seam u.digits rest t u.are-digits.some (below_more (base k) u.digits (base-low k) u.are-digits.all) u.ends
      (apart-back (prefix k) (u.digits ++ rest) t (rw u.split at a))

-- ---- a line and itself

module _ (signs : Bool) where
  -- where a row's first token, after one of a kind, is as directly behind it as it should be
  abbrev pub Agree : Kind → Bool → Bool → List Token → Type 0
  Agree before d d' [] = Unit {0}
  Agree before d d' (t ∷ ts) = AsDirectly signs before t.kind d d'

  agree_same : (before : Kind) (d : Bool) (ts : List Token) → Agree before d d ts
  agree_same before d [] = tt
  agree_same before d (t ∷ ts) = λ m. refl

  -- a text has the same tokens as itself, whether a blank stands before it or not
  same_row : {at : ℕ} {c : Bool} {s : List ℕ} {ts : List Token} → Row at c s ts → (before : Kind) (d d' : Bool) → Agree before d d' ts
      → Respaced signs before d d' s s
  same_row R.ended before d d' m = S.over ended ended
  same_row R.comment before d d' m = S.over comment comment
  same_row (R.blank {ts = ts} t r) before d d' m = S.blank t (S.blank' t (same_row r before false false (agree_same before false ts)))
  same_row (R.mark {b = b} {ts = ts} t r) before d d' m = S.mark t m (same_row r (Mark b) true true (agree_same (Mark b) true ts))
  same_row (R.word {w = w} {rest} {ts} k r) before d d' m =
      rw k.split (S.word w k.begins k.all k.longest k.longest (same_row r Word true true (agree_same Word true ts)))
  same_row (R.number {v = v} {k = k} {rest = rest} {ts} n u q r) before d d' m =
      let w = number-whole u rest u.ends in
      rw (number-split u) (S.number (number-bytes u) k w w m (same_row r (Number (cut v) k) true true (agree_same (Number (cut v) k) true ts)))
  same_row (R.string {rest = rest} {ts} n c q r) before d d' m =
      let h = string-split c in
      rw h.split (S.string h.bytes (h.whole rest) (h.whole rest) (same_row r Text true true (agree_same Text true ts)))
  same_row (R.broken b) before d d' m = S.broken b b

  -- ---- the same text before two

  after-row : {at : ℕ} {d : Bool} {p : List ℕ} {ps : List Token} → Row at d p ps → NoStray ps → (before : Kind) (s s' : List ℕ) → T (apart p s)
      → T (apart p s')
      → ((e : Bool) → Respaced signs (last_kind before ps) e e s s')
      → Respaced signs before d d (p ++ s) (p ++ s')
  after-row {d = d} R.ended n before s s' a a' h = h d
  after-row R.comment n before s s' a a' h = S.over comment comment
  after-row (R.blank {b = b} {s = p} t r) n before s s' a a' h =
      S.blank t (S.blank' t (after-row r n before s s' (apart-tail b p s a) (apart-tail b p s' a') h))
  after-row (R.mark {b = b} {s = p} t r) n before s s' a a' h =
      S.mark t (λ m. refl) (after-row r n.1 (Mark b) s s' (apart-tail b p s a) (apart-tail b p s' a') h)
  after-row (R.word {d = d} {s = p} {w} {rest} k r) n before s s' a a' h =
      let i = rw k.split at a in
      let i' = rw k.split at a' in
      let l = begins-some w k.begins in
      rw (k.split, append_assoc w rest s, append_assoc w rest s')
      (S.word w k.begins k.all (seam w rest s l k.all k.longest i) (seam w rest s' l k.all k.longest i')
      (after-row r n.1 Word s s' (apart-back w rest s i) (apart-back w rest s' i') h))
  after-row (R.number {v = v} {d} {k} {s = p} {rest} m u q r) n before s s' a a' h =
      let w = number-bytes u in
      let i = rw (number-split u) at a in
      let i' = rw (number-split u) at a' in
      rw (number-split u, append_assoc w rest s, append_assoc w rest s')
      (S.number w k (number-whole u (rest ++ s) (number-seam u s a)) (number-whole u (rest ++ s') (number-seam u s' a')) (λ x. refl)
      (after-row r n.1 (Number (cut v) k) s s' (apart-back w rest s i) (apart-back w rest s' i') h))
  after-row (R.string {d = d} {s = p} {rest = rest} m c q r) n before s s' a a' h =
      let g = string-split c in
      let w = g.bytes in
      let i = apart-back w rest s (rw g.split at (apart-tail (code "\"") p s a)) in
      let i' = apart-back w rest s' (rw g.split at (apart-tail (code "\"") p s' a')) in
      rw (g.split, append_assoc w rest s, append_assoc w rest s')
      (S.string w (g.whole (rest ++ s)) (g.whole (rest ++ s')) (after-row r n.1 Text s s' i i' h))
  after-row (R.broken b) n before s s' a a' h = absurd n.0

-- ---- what may be added to a line

blanks-add : (signs : Bool) (before : Kind) (d : Bool) (bs : List ℕ) {s s' : List ℕ} → AllBlank bs → Respaced signs before d false s s'
    → Respaced signs before d false s (bs ++ s')
blanks-add signs before d [] t r = r
blanks-add signs before d (b ∷ bs) t r = S.blank' t.0 (blanks-add signs before d bs t.1 r)

-- no rule asks whether a row's first token follows one of a kind directly
abbrev pub Loose : Bool → Kind → List Token → Type 0
Loose signs before [] = Unit {0}
Loose signs before (t ∷ ts) = T (not (matters signs before t.kind))

loose_agrees : (signs : Bool) (before : Kind) (ts : List Token) → Loose signs before ts → (d d' : Bool) → Agree signs before d d' ts
loose_agrees signs before [] l d d' = tt
loose_agrees signs before (t ∷ ts) l d d' = λ m. go (matters signs before t.kind) l m
  where
    go : (y : Bool) → T (not y) → T y → d ≡ d'
    go true l m = absurd l
    go false l m = absurd m

-- nothing follows the line's start directly
first_loose : (signs : Bool) (ts : List Token) → Loose signs End ts
first_loose signs [] = tt
first_loose signs (t ∷ ts) = go t.kind
  where
    pick : (a b : Bool) → T (not (a && (b && false)))
    pick true true = tt
    pick true false = tt
    pick false b = tt

    go : (k : Kind) → T (not (matters signs End k))
    go End = tt
    go Stray = tt
    go Word = tt
    go (Number v k) = pick (S.is_decimal k) signs
    go Text = tt
    go (Mark b) = tt

-- Each line has its own tokens.
pub line-itself : (signs : Bool) (line : List ℕ) → Alike signs line line
line-itself signs line = respaced_alike (same_row signs (line_row line) End true true (agree_same signs End true (tokens_from line 0)))

-- A comment at the end of a line of whole tokens, blanks before it or not, and blanks there alone.
pub comment-added : (signs : Bool) {line : List ℕ} {ts : List Token} (tail : List ℕ) → RowOf line ts → NoStray ts → Over tail
    → Alike signs line (line ++ tail)
comment-added signs {line} tail r n o =
    respaced_alike
    (rw (append-nil line) at
    (after-row signs r n End [] tail (apart_none line) (apart-free line tail (over-ends o)) (λ e. S.over ended o)))

-- Blanks at the start of any line.
pub blanks-first : (signs : Bool) (line bs : List ℕ) → AllBlank bs → Alike signs line (bs ++ line)
blanks-first signs line [] t = line-itself signs line
blanks-first signs line (b ∷ bs) t =
    respaced_alike
    (S.blank' t.0
    (blanks-add signs End true bs t.1
    (same_row signs (line_row line) End true false (loose_agrees signs End (tokens_from line 0) (first_loose signs (tokens_from line 0)) true false))))

-- Blanks where a blank stands already, after whole tokens: between two of them that do not follow directly, or after the last.
pub blanks_widened : (signs : Bool) {p : List ℕ} {ps : List Token} (c : ℕ) (bs s : List ℕ) → RowOf p ps → NoStray ps → T (is_blank c) → AllBlank bs
    → Alike signs (p ++ (c ∷ s)) (p ++ (c ∷ bs ++ s))
blanks_widened signs {p} {ps} c bs s r n t ts =
    respaced_alike
    (after-row signs r n End (c ∷ s) (c ∷ bs ++ s) (apart-free p (c ∷ s) (blank-ends c s t)) (apart-free p (c ∷ bs ++ s) (blank-ends c (bs ++ s) t))
    (λ e. S.blank t (S.blank' t
    (blanks-add signs (last_kind End ps) false bs ts
    (same_row signs (line_row s) (last_kind End ps) false false (agree_same signs (last_kind End ps) false (tokens_from s 0)))))))

-- Blanks between two tokens that follow directly, where no rule asks for that: no `:` after a word, and no decimal number after a `-` that
-- may be its sign.
pub blanks-between : (signs : Bool) {at : ℕ} {p s : List ℕ} {ps ss : List Token} (bs : List ℕ) → RowOf p ps → NoStray ps → T (apart p s)
    → Row at true s ss
    → Loose signs (last_kind End ps) ss
    → AllBlank bs
    → Alike signs (p ++ s) (p ++ (bs ++ s))
blanks-between signs {p = p} {s} [] r n a q l t = line-itself signs (p ++ s)
blanks-between signs {p = p} {s} {ps} {ss} (b ∷ bs) r n a q l t =
    respaced_alike
    (after-row signs r n End s (b ∷ bs ++ s) a (apart-free p (b ∷ bs ++ s) (blank-ends b (bs ++ s) t.0))
    (λ e. S.blank' t.0
    (blanks-add signs (last_kind End ps) e bs t.1
    (same_row signs q (last_kind End ps) e false (loose_agrees signs (last_kind End ps) ss l e false)))))
