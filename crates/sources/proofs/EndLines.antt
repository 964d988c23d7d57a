-- "All bytes after END as a statement's word are ignored": a line that says END says so still, with the same label, once a comment or blanks
-- are added at its end; even if its last token is broken, and so may come to be another.
use Prim.Native.Nat.{ℕ, ◌+◌, ◌≤◌}
use mathlib.Core.Bool.{Bool, true, false, not, false≢true}
use mathlib.Core.List.{List, [], ◌∷◌, ◌++◌, append_assoc}
use mathlib.Core.Path.{◌≡◌, refl, sym, ap, subst, ◌∙◌}
use native.Mathlib.Omega.{arith}
use lib.Dec.{T}
use lib.Ieee.Bits.{is_true}
use lib.ListN.{length, drop, replicate, length-append, length-replicate}
use lib.Seq.{slice, drop_at, take-append-le}
use Rattle.numerals.specs.Bytes.{is_digit, is_word_byte}
use Rattle.numerals.specs.Digits.{ends_word}
use Rattle.numerals.specs.Numbers.{prefix, Unsigned}
use Rattle.numerals.specs.declared.Radix.{Radix}
use Rattle.tokens.specs.Bytes.{is_blank, is_mark}
use Rattle.tokens.specs.Bytes as B
use Rattle.tokens.specs.Strings.{Characters, closed, plain, newline}
use Rattle.tokens.specs.Rows.{Broken, Row}
use Rattle.tokens.specs.Rows as R
use Rattle.tokens.specs.declared.Kind.{Kind}
use Rattle.tokens.specs.declared.Kind.TheVariants as K
use Rattle.tokens.specs.declared.Token.{Token}
use Rattle.tokens.proofs.Classes.{word_no_blank, high_no_blank, mark-alone, stray-alone}
use Rattle.tokens.proofs.EveryRow.{row-found}
use Rattle.tokens.proofs.Places.{EndsAt, Within}
use Rattle.tokens.proofs.Rows.{row_from}
use Rattle.tokens.proofs.Top.{row_within}
use Rattle.tokens.proofs.Spacing.{Over, over-row}
use Rattle.tokens.proofs.Respacing.{over-ends}
use Rattle.names.specs.Names.{word_of}
use Rattle.names.specs.declared.Word.TheVariants as W
use Rattle.std.proofs.Common.{Option, Some, None}
use Rattle.values.specs.declared.Name.{Name}
use Rattle.values.proofs.Spacing.{AlikeLabel, absent, named}
use Rattle.statements.specs.Statements.{end, Label, label, StatementWord, Body, ends, LineText, labelled, unlabelled, Says}
use Rattle.statements.proofs.Labelling.{never}
use Rattle.statements.proofs.Spacing.{ReadAlike, end_read}

-- ---- what a row becomes

abbrev is_mark_kind : Kind → Bool
is_mark_kind K.End = false
is_mark_kind K.Stray = false
is_mark_kind K.Word = false
is_mark_kind (K.Number v k) = false
is_mark_kind K.Text = false
is_mark_kind (K.Mark b) = true

-- no mark is first
abbrev NoMark : List Token → Type 0
NoMark [] = Unit {0}
NoMark (t ∷ ts) = T (not (is_mark_kind t.kind))

-- the tokens of a line, and of the line with something at its end: the same up to a stray one, in whose place no mark comes
data Grown : List Token → List Token → Type 0 where
  over : Grown [] []
  next : {t : Token} {ts ts' : List Token} → Grown ts ts' → Grown (t ∷ ts) (t ∷ ts')
  stray : {t : Token} {ts' : List Token} → t.kind ≡ K.Stray → NoMark ts' → Grown (t ∷ []) ts'

-- ---- bytes

ends_more : (rest tail : List ℕ) → T (ends_word rest) → T (ends_word tail) → T (ends_word (rest ++ tail))
ends_more [] tail t u = u
ends_more (b ∷ rest) tail t u = t

row_exists : (at : ℕ) (d : Bool) (l : List ℕ) → (ts : List Token) × Row at d l ts
row_exists at d l =
    let e : drop at (replicate at 0 ++ l) ≡ l = drop_at (replicate at 0) l at (length-replicate at 0) in
    (row_from (replicate at 0 ++ l) at d, subst (λ (x : List ℕ). Row at d x (row_from (replicate at 0 ++ l) at d)) e (row-found (replicate at 0 ++ l) at d))

-- a row that begins with a byte that is no mark and no blank begins with no mark
no_mark_first : {at : ℕ} {d : Bool} {l : List ℕ} {ts : List Token} → Row at d l ts → (b : ℕ) (s : List ℕ) → l ≡ b ∷ s → is_mark b ≡ false
    → is_blank b ≡ false
    → NoMark ts
no_mark_first R.ended b s e m k = tt
no_mark_first R.comment b s e m k = tt
no_mark_first (R.blank {b = c} t r) b s e m k =
    let f : c ≡ b = cc e in
    absurd (false≢true (sym k ∙ sym (ap is_blank f) ∙ is_true (is_blank c) t))
no_mark_first (R.mark {b = c} t r) b s e m k =
    let f : c ≡ b = cc e in
    absurd (false≢true (sym m ∙ sym (ap is_mark f) ∙ is_true (is_mark c) t))
no_mark_first (R.word w r) b s e m k = tt
no_mark_first (R.number n u q r) b s e m k = tt
no_mark_first (R.string n c q r) b s e m k = tt
no_mark_first (R.broken x) b s e m k = tt

word_no_mark : (b : ℕ) → is_word_byte b ≡ true → is_mark b ≡ false
word_no_mark b w = go (is_mark b) refl
  where
    go : (y : Bool) → is_mark b ≡ y → y ≡ false
    go true e = absurd (false≢true (sym (mark-alone b e).word ∙ w))
    go false e = refl

quote_no_mark : is_mark 34 ≡ false
unfolding is_mark is_blank
quote_no_mark = refl

broken-first : {at : ℕ} {d : Bool} {s : List ℕ} {ts : List Token} (tail : List ℕ) → Broken s → Row at d (s ++ tail) ts → NoMark ts
broken-first tail (R.byte {b} {s} t) r =
    let h = stray-alone b (is_true (B.is_stray b) t) in
    no_mark_first r b (s ++ tail) refl h.no_mark h.alone.blank
broken-first tail (R.number {b} {s} t n) r =
    let w : is_word_byte b ≡ true = rw (is_true (is_digit b) t) in
    no_mark_first r b (s ++ tail) refl (word_no_mark b w) (word_no_blank b w)
broken-first tail (R.string {s} n) r = no_mark_first r 34 (s ++ tail) refl quote_no_mark (high_no_blank 34 (omega arith))

string-more : {s cs rest : List ℕ} (tail : List ℕ) → Characters s cs rest → Characters (s ++ tail) cs (rest ++ tail)
string-more tail closed = closed
string-more tail (plain t c) = plain t (string-more tail c)
string-more tail (newline c) = newline (string-more tail c)

number_more : {s rest : List ℕ} {k : Radix} {v : ℕ} (tail : List ℕ) → T (ends_word tail) → Unsigned s k v rest → Unsigned (s ++ tail) k v (rest ++ tail)
number_more {rest = rest} {k} tail t u =
    record {
      digits = u.digits;
      split =
          ap (λ (l : List ℕ). l ++ tail) u.split ∙ append_assoc (prefix k) (u.digits ++ rest) tail
          ∙ ap (λ (l : List ℕ). prefix k ++ l) (append_assoc u.digits rest tail);
      are-digits = u.are-digits;
      ends = ends_more rest tail u.ends t;
      worth_is = u.worth_is;
    }

longer : (s rest tail : List ℕ) (n : ℕ) → length s ≡ n + length rest → length (s ++ tail) ≡ n + length (rest ++ tail)
longer s rest tail n e = omega (arith, e, length-append s tail, length-append rest tail)

-- ---- the row of a line with a comment or blanks at its end

module _ (tail : List ℕ) (o : Over tail) where
  grown : {at : ℕ} {d : Bool} {s : List ℕ} {ts : List Token} → Row at d s ts → (ts' : List Token) × Row at d (s ++ tail) ts' × Grown ts ts'
  grown {at} {d} R.ended = ([], over-row at d o, over)
  grown R.comment = ([], R.comment, over)
  grown (R.blank t r) = let h = grown r in (h.0, R.blank t h.1, h.2)
  grown (R.mark t r) = let h = grown r in (_, R.mark t h.1, next h.2)
  grown (R.word {w = w} {rest} k r) =
      let h = grown r in
      let e = ap (λ (l : List ℕ). l ++ tail) k.split ∙ append_assoc w rest tail in
      (_, R.word {w = w} (record { split = e; begins = k.begins; all = k.all; longest = ends_more rest tail k.longest (over-ends o) }) h.1, next h.2)
  grown (R.number {s = s} {rest} n u q r) =
      let h = grown r in
      (_, R.number n (number_more tail (over-ends o) u) (longer s rest tail n q) h.1, next h.2)
  grown (R.string {s = s} {rest = rest} n c q r) =
      let h = grown r in
      (_, R.string n (string-more tail c) (longer s rest tail n q) h.1, next h.2)
  grown {at} {d} (R.broken {s = s} b) = let h = row_exists at d (s ++ tail) in (h.0, h.1, stray refl (broken-first tail b h.1))

-- ---- END

slice-more : (s tail : List ℕ) (f t : ℕ) → t ≤ length s → slice f t (s ++ tail) ≡ slice f t s
slice-more s tail f t l = ap (drop f) (take-append-le t s tail l)

word-within : (n : ℕ) (t : Token) → t.kind ≡ K.Word → EndsAt t.kind n t.start t.next.at → t.next.at ≤ n
word-within n t e h = (subst (λ (k : Kind). EndsAt k n t.start t.next.at) e h).1

-- no label comes up where there was none
still-none : (w : Token) {us us' : List Token} → ((n : Name) (vs : List Token) → Label (w ∷ us) n vs → ⊥) → Grown us us' → {n : Name} {vs : List Token}
    → Label (w ∷ us') n vs
    → ⊥
still-none w none over {n = n} {vs = vs} h = elim h [ ]
still-none w none (next g) (label k m d) = none _ _ (label k m d)
still-none w none (stray q f) (label {c = c} k m d) = subst (λ (x : Kind). T (not (is_mark_kind x))) m f

module _ (b tail : List ℕ) where
  end-word : {t : Token} → StatementWord b t W.End → t.next.at ≤ length b → StatementWord (b ++ tail) t W.End
  end-word {t} h l = record { word = h.word; means = ap word_of (slice-more b tail t.start t.next.at l) ∙ h.means }

  -- what an END line with a label becomes, and one without
  labelled-grown : {ts us ts' : List Token} {n : Name} → Label ts n us → Body b us end → Within (length b) ts → Grown ts ts'
      → LineText (b ++ tail) ts' (Some n) end × (n.end ≤ length b)
  labelled-grown (label {w} {c} k m d) (ends {w = e} h) i (next (next (next g))) =
      (labelled (label k m d) (ends (end-word h (word-within (length b) e h.word i.1.1.0))), word-within (length b) w k i.0)
  labelled-grown (label {w} {c} k m d) (ends {w = e} h) i (next (next (stray q f))) = never (cc (h.word, q))

  unlabelled-grown : {ts ts' : List Token} → ((n : Name) (us : List Token) → Label ts n us → ⊥) → Body b ts end → Within (length b) ts → Grown ts ts'
      → LineText (b ++ tail) ts' None end
  unlabelled-grown none (ends {w = e} h) i (next g) =
      unlabelled (λ n vs l. still-none e none g l) (ends (end-word h (word-within (length b) e h.word i.0)))
  unlabelled-grown none (ends h) i (stray q f) = never (cc (h.word, q))

  says-grown : {ts ts' : List Token} {l : Option Name} → LineText b ts l end → Within (length b) ts → Grown ts ts'
      → LineText (b ++ tail) ts' l end × AlikeLabel b (b ++ tail) l l
  says-grown (labelled {n = n} a h) i g =
      let r = labelled-grown a h i g in
      (r.0, named (sym (slice-more b tail n.start n.end r.1)))
  says-grown (unlabelled none h) i g = (unlabelled-grown none h i g, absent)

-- a line that says END reads alike with a comment or blanks at its end
pub end-comment : {b : List ℕ} {l : Option Name} (tail : List ℕ) → Says b l end → Over tail → ReadAlike b (b ++ tail)
end-comment {b} {l} tail h o =
    let g = grown tail o h.row in
    let r = says-grown b tail h.text (row_within h.row) g.2 in
    end_read h (record { tokens = g.0; row = g.1; text = r.0 }) r.1
