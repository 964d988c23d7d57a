-- A line has no other row than the one that the reader gives.
use Prim.Native.Nat.{ℕ, suc, ◌+◌, ◌-◌, ◌≤◌, ◌<◌}
use mathlib.Core.Bool.{Bool, true, false, false≢true, ◌&&◌, and-true, and-false}
use mathlib.Core.List.{List, ◌∷◌, ◌++◌, append_assoc}
use mathlib.Core.Path.{◌≡◌, refl, sym, ap, subst, ◌∙◌}
use native.Mathlib.Decide.{dec_lt}
use native.Mathlib.Nat.{add-zero}
use native.Mathlib.Omega.{arith}
use lib.Dec.{eqb, eqb-suc-zero}
use lib.Ieee.Bits.{is_true}
use lib.ListN.{length, get_or, drop, replicate, length-append, length-drop, length-replicate}
use lib.Seq.{drop-drop, drop_at, drop-append_seam}
use borrow.Author.Tests.{ne_eqb, ltb-false}
use Rattle.numerals.specs.Bytes.{is_digit, is_word_byte, rank}
use Rattle.numerals.specs.Numbers.{prefix, Unsigned, cut}
use Rattle.numerals.specs.Reading.{run, radix_at, unsigned_at}
use Rattle.std.proofs.Common.{Option, Some, None}
use Rattle.numerals.specs.declared.Read.{Read}
use Rattle.numerals.specs.declared.Numeral.{Numeral}
use Rattle.numerals.specs.declared.Radix.{Radix}
use Rattle.numerals.specs.declared.Radix.TheVariants.{Decimal}
use Rattle.numerals.proofs.Numbers.{unsigned_sound, unsigned_complete}
use Rattle.numerals.proofs.Radixes.{begins}
use Rattle.numerals.proofs.Readers.{digits-none, unsigned_is}
use Rattle.numerals.proofs.Runs.{run-stop, run_end}
use Rattle.tokens.specs.Bytes.{is_blank, is_mark, is_stray}
use Rattle.tokens.specs.Rows.{token, Broken, Row, ended, comment, blank, mark, word, broken}
use Rattle.tokens.specs.Rows as R
use Rattle.tokens.specs.Reading.{blanks, Closing, after, never, closing, number_token, string_token, token_here, token_at, after_kind, tokens_from}
use Rattle.tokens.specs.declared.Kind.TheVariants.{End, Stray, Word, Number, Text, Mark}
use Rattle.tokens.specs.declared.Token.{Token}
use Rattle.tokens.proofs.Classes.{inside, digit_ranks, word_no_blank, high_no_blank, mark-alone, stray-alone}
use Rattle.tokens.proofs.Blanks.{blanks-more, blanks-stop, blanks-none}
use Rattle.tokens.proofs.Words.{word-run, word-begins}
use Rattle.tokens.proofs.Quoted.{characters-close, Closes, closing-sound, byte_of}
use Rattle.tokens.proofs.Here.{here_end, here-number, here-word, here-string, here-comment, here-mark, here-stray}
use Rattle.tokens.proofs.Places.{row_unfolds}

-- the first token from a place on, and the row that it begins, where the place itself follows what stands before it directly, or not
abbrev pub token_from : List ℕ → ℕ → Bool → Token
token_from s at d = token_here s (at + blanks (drop at s)) (d && eqb (blanks (drop at s)) 0)

abbrev pub row_of : Token → List ℕ → List Token
row_of t s = after_kind t.kind t (tokens_from s)

abbrev pub row_from : List ℕ → ℕ → Bool → List Token
row_from s at d = row_of (token_from s at d) s

pub row_directly : (s : List ℕ) (at : ℕ) → tokens_from s at ≡ row_from s at true
unfolding token_at
row_directly s at = row_unfolds s at

-- where no digit stands no number is found, whatever its radix: each prefix begins with a digit
no_digit_absent : (s : List ℕ) (at : ℕ) → is_digit (get_or s at 0) ≡ false → unsigned_at s at ≡ None
unfolding radix_at
no_digit_absent s at e =
    let h : 10 ≤ rank (get_or s at 0) = ltb-false (rank (get_or s at 0)) 10 (sym (digit_ranks (get_or s at 0)) ∙ e) in
    let n : run 10 (drop at s) ≡ 0 = elim (dec_lt at (length s)) [ yes l ↦ run-stop 10 s at l h | no l ↦ run_end 10 s at (omega arith) ] in
    let k : radix_at s at ≡ Decimal = rw (ne_eqb (get_or s at 0) 48 (λ f. false≢true (sym e ∙ ap is_digit f))) in
    unsigned_is s at k ∙ rw (add-zero at) (digits-none false Decimal s at refl refl (omega arith))

-- so a number begins with one
first-digit : (s : List ℕ) (at : ℕ) {k : Radix} {v : ℕ} {rest : List ℕ} → Unsigned (drop at s) k v rest → is_digit (get_or s at 0) ≡ true
first-digit s at u = go (is_digit (get_or s at 0)) refl
  where
    go : (t : Bool) → is_digit (get_or s at 0) ≡ t → t ≡ true
    go true e = refl
    go false e = let z : ◌≡◌ {A = ℕ} 0 1 = cc (unsigned_complete s at u, no_digit_absent s at e) in absurd (omega arith)

-- what follows a number's bytes
number-follows : {k : Radix} {v : ℕ} {l rest : List ℕ} (n : ℕ) → Unsigned l k v rest → length l ≡ n + length rest → drop n l ≡ rest
number-follows {k} {l = l} {rest} n u h =
    let e : l ≡ (prefix k ++ u.digits) ++ rest = u.split ∙ sym (append_assoc (prefix k) u.digits rest) in
    rw e (drop_at (prefix k ++ u.digits) rest n (omega (arith, ap length e, length-append (prefix k ++ u.digits) rest)))

module _ (s : List ℕ) where
  begun : (at : ℕ) (d : Bool) (t : Token) → blanks (drop at s) ≡ 0 → token_here s at d ≡ t → row_from s at d ≡ row_of t s
  begun at d t z e = let f : token_from s at d ≡ t = rw (z, add-zero at, and-true d) e in ap (λ (x : Token). row_of x s) f

  over-blank : (at : ℕ) (d : Bool) → blanks (drop at s) ≡ suc (blanks (drop (at + 1) s)) → token_from s at d ≡ token_from s (at + 1) false
  over-blank at d e =
      let k = blanks (drop (at + 1) s) in
      let n : at + suc k ≡ at + 1 + k = omega arith in
      rw (e, n, eqb-suc-zero k, and-false d)

  -- the byte at a place, and what follows it
  module _ (at : ℕ) {b : ℕ} {l : List ℕ} (e : drop at s ≡ b ∷ l) where
    within : at < length s
    within = omega (arith, length-drop at s, ap length e)

    byte_is : get_or s at 0 ≡ b
    byte_is = (byte_of s at e).0

    none_before : is_blank b ≡ false → blanks (drop at s) ≡ 0
    none_before h = blanks-stop s at within (rw byte_is h)

  -- where nothing that begins with a token's byte is whole
  broken-here : (at : ℕ) (d : Bool) {l : List ℕ} → Broken l → drop at s ≡ l
      → (blanks (drop at s) ≡ 0) × (token_here s at d ≡ token Stray at d at)
  broken-here at d (R.byte {b} t) e =
      let h = stray-alone b (is_true (is_stray b) t) in
      let a = h.alone in
      let f = byte_is at e in
      (none_before at e a.blank, here-stray s at d (within at e) (rw f a.word) (rw f a.quote) (rw f a.semicolon) (rw f h.no_mark))
  broken-here at d (R.number {b} {s = l} t n) e =
      let g = is_true (is_digit b) t in
      let w : is_word_byte b ≡ true = rw g in
      (none_before at e (word_no_blank b w), here-number s at d (within at e) (rw (byte_is at e) g) ∙ go (unsigned_at s at) refl)
    where
      go : (r : Option (Read Numeral)) → unsigned_at s at ≡ r → number_token r at d ≡ token Stray at d at
      go (Some r) f = let u = unsigned_sound s at f in absurd (n r.value.radix u.worth_is (drop r.next.at s) (rw e at u.reads.1))
      go None f = refl
  broken-here at d (R.string {s = l} n) e = (
    none_before at e (high_no_blank 34 (omega arith)),
    here-string s at d (within at e) (rw (byte_is at e)) (rw (byte_is at e)) ∙ rw (byte_of s at e).1 (go (closing l) refl),
  )
    where
      go : (c : Closing) → closing l ≡ c → string_token c at d ≡ token Stray at d at
      go (after k) f = let c : Closes l (after k) = subst (Closes l) f (closing-sound l) in absurd (n c.0 (drop k l) c.1)
      go never f = refl

  pub row-complete : {at : ℕ} {d : Bool} {l : List ℕ} {ts : List Token} → Row at d l ts → drop at s ≡ l → row_from s at d ≡ ts
  row-complete (ended {at} {d}) e =
      let h : length s ≤ at = omega (arith, length-drop at s, ap length e) in
      begun at d (token End at d at) (blanks-none s at h) (here_end s at d h)
  row-complete (comment {at} {d} {s = l}) e =
      begun at d (token End at d at) (none_before at e (high_no_blank 59 (omega arith)))
      (here-comment s at d (within at e) (rw (byte_is at e)) (rw (byte_is at e)) (rw (byte_is at e)))
  row-complete (blank {at} {b} {d} {s = l} {ts} t r) e =
      let m = blanks-more s at (within at e) (rw (byte_is at e) (is_true (is_blank b) t)) in
      ap (λ (x : Token). row_of x s) (over-blank at d m) ∙ row-complete r (byte_of s at e).1
  row-complete (mark {at} {b} {d} {s = l} {ts} t r) e =
      let g = is_true (is_mark b) t in
      let h = mark-alone b g in
      let f = byte_is at e in
      begun at d (token (Mark b) at d (at + 1)) (none_before at e h.blank)
      (here-mark s at d (within at e) (rw f h.word) (rw f h.quote) (rw f h.semicolon) (rw f g) ∙ rw f)
      ∙ ap (λ (x : List Token). token (Mark b) at d (at + 1) ∷ x) (row_directly s (at + 1) ∙ row-complete r (byte_of s at e).1)
  row-complete (word {at} {d} {s = l} {w} {rest} {ts} k r) e =
      let h = word-begins k in
      let f = e ∙ h.split in
      let n : run 17 (drop at s) ≡ length w = rw e (word-run k) in
      let g : drop (at + length w) s ≡ rest = sym (drop-drop (length w) at s) ∙ rw (e, k.split) (drop-append_seam w rest) in
      begun at d (token Word at d (at + length w)) (none_before at f (word_no_blank h.byte h.word))
      (here-word s at d (within at f) (rw (byte_is at f) h.no_digit) (rw (byte_is at f) h.word) ∙ rw n)
      ∙ ap (λ (x : List Token). token Word at d (at + length w) ∷ x) (row_directly s (at + length w) ∙ row-complete r g)
  row-complete (R.number {at} {v} {d} {k} {s = l} {rest} {ts} n u q r) e =
      let u' : Unsigned (drop at s) k v rest = rw e u in
      let g = first-digit s at u' in
      let f = begins s at (get_or s at 0) (omega (arith, inside 48 57 (get_or s at 0) g)) refl in
      let m : length s - length rest ≡ at + n = omega (arith, within at f, length-drop at s, ap length e) in
      let o : drop (at + n) s ≡ rest = sym (drop-drop n at s) ∙ rw e (number-follows n u q) in
      begun at d (token (Number (cut v) k) at d (at + n)) (none_before at f (word_no_blank (get_or s at 0) (rw g)))
      (here-number s at d (within at f) g ∙ ap (λ (x : Option (Read Numeral)). number_token x at d) (unsigned_complete s at u')
      ∙ ap (λ (p : ℕ). token (Number (cut v) k) at d p) m)
      ∙ ap (λ (x : List Token). token (Number (cut v) k) at d (at + n) ∷ x) (row_directly s (at + n) ∙ row-complete r o)
  row-complete (R.string {at} {d} {s = l} {cs} {rest} {ts} n k q r) e =
      let h = characters-close k in
      let f = (byte_of s at e).1 in
      let m : h.bytes ≡ n = omega (arith, h.lengths) in
      let g : drop (at + 1 + n) s ≡ rest = sym (drop-drop n (at + 1) s) ∙ rw (f, ← m) h.follows in
      begun at d (token Text at d (at + 1 + n)) (none_before at e (high_no_blank 34 (omega arith)))
      (here-string s at d (within at e) (rw (byte_is at e)) (rw (byte_is at e)) ∙ rw (f, h.closes, m))
      ∙ ap (λ (x : List Token). token Text at d (at + 1 + n) ∷ x) (row_directly s (at + 1 + n) ∙ row-complete r g)
  row-complete (broken {at} {d} k) e = let h = broken-here at d k e in begun at d (token Stray at d at) h.0 h.1

-- so no line has two rows, from whichever place on
pub row-once : {at : ℕ} {d : Bool} {l : List ℕ} {ts ts' : List Token} → Row at d l ts → Row at d l ts' → ts ≡ ts'
row-once {at} {l = l} r q =
    let e : drop at (replicate at 0 ++ l) ≡ l = drop_at (replicate at 0) l at (length-replicate at 0) in
    sym (row-complete (replicate at 0 ++ l) r e) ∙ row-complete (replicate at 0 ++ l) q e
