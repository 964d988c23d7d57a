-- The walk accepts exactly the lines of right form.
use Prim.Native.Nat.{ℕ, ◌+◌, ◌≤◌, ◌<◌}
use Prim.Native.Char.{code}
use mathlib.Core.Bool.{Bool, true, false, cond, ◌&&◌, and-false}
use mathlib.Core.List.{List, [], ◌∷◌, ◌++◌, append_assoc}
use mathlib.Core.Logic.{◌↔◌}
use mathlib.Core.Path.{◌≡◌, refl, sym, ap, subst, ◌∙◌}
use native.Mathlib.Omega.{arith}
use lib.Dec.{eqb, ltb, T}
use lib.Ieee.Bits.{is_true}
use lib.Ieee.Fits.{and_l}
use lib.ListN.{length, take, drop, length-drop, length-append}
use lib.Seq.{slice, drop-drop, drop_at, take-add, length-take-le, take-append_seam, drop-append_seam}
use borrow.Author.Tests.{eqb-true, ne_eqb}
use Rattle.numerals.specs.Bytes.{is_digit, is_word_byte, rank}
use Rattle.numerals.specs.Digits.{all_below, ends_word}
use Rattle.numerals.specs.Numbers.{prefix, cut, Unsigned}
use Rattle.numerals.specs.declared.Radix.{Radix}
use Rattle.numerals.specs.declared.Radix.TheVariants.{Decimal, Hexadecimal}
use Rattle.tokens.specs.Bytes.{is_blank, is_mark, is_stray}
use Rattle.tokens.specs.Words.{Word}
use Rattle.tokens.specs.Rows.{token, Broken, Row, ended, comment, blank, mark, word, broken}
use Rattle.tokens.specs.Rows as R
use Rattle.tokens.specs.Reading.{tokens_from}
use Rattle.tokens.specs.declared.Kind.TheVariants as K
use Rattle.tokens.specs.declared.Token.{Token}
use Rattle.tokens.proofs.Top.{line_row, row_from, one_row_from}
use Rattle.tokens.proofs.Words.{word-begins}
use Rattle.tokens.proofs.Quoted.{byte_of, characters-close}
use Rattle.names.specs.Names.{word_of, register_code}
use Rattle.names.specs.declared.Word.TheVariants as W
use Rattle.names.specs.declared.Word as N
use Rattle.codes.specs.Registers.{IX, IY, SP, is_register}
use Rattle.expressions.specs.Inner.Scanning.{scan_step}
use Rattle.expressions.specs.Reading.{mark_symbol}
use Rattle.std.proofs.Common.{Option, Some, None}
use Rattle.expressions.specs.declared.Scan.{Scan}
use Rattle.operands.specs.Operands.{word_at}
use Rattle.items.proofs.Readings.{in_line}
use Rattle.statements.specs.Reading.{after_label}
use Rattle.statements.specs.Reading as S
use Rattle.statements.proofs.Labelling.{never}
use Rattle.faults.specs.Faults.{Right}
use Rattle.faults.specs.declared.State.{State}
use Rattle.faults.specs.declared.State.TheVariants.{Start, Body, Field, Operand, Value, Digits, AfterHash, IndexDot, IndexName, RegisterName, IndirectDot, IndirectName, Closing, Done, Expression, Item, ItemDigits, ItemDone, Ended, Dead}
use Rattle.faults.specs.Forms.{put, scanned, enter, indexes, starts, word_step, number_step, text_step, mark_step, blank_step, final, is_start, is_ended}
use Rattle.faults.specs.Forms as F
use Rattle.faults.specs.Walk.{Lex, between, word_end, accepts, run, first}
use Rattle.faults.specs.Walk as L
use Rattle.faults.proofs.Tokens.{blank_if, token_step, finishes, skip, dead_never, ended_always, line-sound, line-complete}
use Rattle.faults.proofs.Gone.{blanked, ended_is, ended-run, gone-accepts}
use Rattle.faults.proofs.Lexing.{begin-blank, begin-mark, begin-stray, begin-quote, begin-comment, ends-rank, word-whole, word-leaves, number_read, number-back, string-read, string-back}

-- ---- no token leads to the line's start

cond-not : (y : Bool) (a b : State) → is_start a ≡ false → is_start b ≡ false → is_start (cond y a b) ≡ false
cond-not true a b p q = p
cond-not false a b p q = q

enter-not : (x : N.Word) → is_start (enter x) ≡ false
enter-not (W.Instructs op) = refl
enter-not _ = refl

put-not : (i : Bool) → is_start (put i) ≡ false
put-not true = refl
put-not false = refl

scanned-not : (x : Option Scan) → is_start (scanned x) ≡ false
scanned-not (Some g) = refl
scanned-not None = refl

indexes-not : (r : ℕ) → is_start (indexes r) ≡ false
unfolding indexes
indexes-not r = cond-not (eqb r IX) _ _ refl (cond-not (eqb r IY) _ _ refl (cond-not (eqb r SP) _ _ refl refl))

starts-not : (b : ℕ) → is_start (starts b) ≡ false
unfolding starts
starts-not b =
    cond-not (eqb b (code "#")) _ _ refl
    (cond-not (eqb b (code ".")) _ _ refl
    (cond-not (eqb b (code "/")) _ _ refl (cond-not (eqb b (code "[")) _ _ refl (cond-not (eqb b (code "$")) _ _ refl refl))))

word-not : (st : State) (w : List ℕ) → is_start (word_step st w) ≡ false
word-not Start w = enter-not (word_of w)
word-not Body w = enter-not (word_of w)
word-not (Value i) w = put-not i
word-not IndexName w = indexes-not (register_code w)
word-not RegisterName w = cond-not (is_register (register_code w)) _ _ refl refl
word-not IndirectName w = cond-not (is_register (register_code w)) _ _ refl refl
word-not _ w = refl

decimal-not : (k : Radix) (st : State) → is_start st ≡ false → is_start (F.decimal k st) ≡ false
decimal-not Decimal st e = e
decimal-not Hexadecimal st e = refl

number-not : (st : State) (k : Radix) → is_start (number_step st k) ≡ false
number-not (Value i) k = put-not i
number-not (Digits i) k = decimal-not k (put i) (put-not i)
number-not (Expression q h) k = cond-not q _ _ refl refl
number-not ItemDigits k = decimal-not k ItemDone refl
number-not _ k = refl

text-not : (st : State) → is_start (text_step st) ≡ false
text-not Start = refl
text-not _ = refl

mark-not : (st : State) (b : ℕ) → is_start (mark_step st b) ≡ false
mark-not Field b = starts-not b
mark-not Operand b = starts-not b
mark-not (Value i) b = cond-not (eqb b (code "-")) _ _ refl refl
mark-not AfterHash b = cond-not (eqb b (code "[")) _ _ refl (cond-not (eqb b (code ",")) _ _ refl refl)
mark-not IndexDot b = cond-not (eqb b (code ".")) _ _ refl refl
mark-not IndirectDot b = cond-not (eqb b (code ".")) _ _ refl refl
mark-not Closing b = cond-not (eqb b (code "]")) _ _ refl refl
mark-not Done b = cond-not (eqb b (code ",")) _ _ refl refl
mark-not (Expression q h) b = scanned-not (scan_step (mark_symbol b) q h)
mark-not Item b = cond-not (eqb b (code "-")) _ _ refl refl
mark-not ItemDone b = cond-not (eqb b (code ",")) _ _ refl refl
mark-not _ b = refl

-- ---- blanks before a token

module _ (d : Bool) (st : State) where
  if_final : final (blank_if d st) ≡ final st
  if_final = go d
    where
      go : (d : Bool) → final (blank_if d st) ≡ final st
      go true = refl
      go false = (blanked st).final-same

  if_ended : is_ended st ≡ false → is_ended (blank_if d st) ≡ false
  if_ended e = go d
    where
      go : (d : Bool) → is_ended (blank_if d st) ≡ false
      go true = e
      go false = (blanked st).ended_same ∙ e

  if_start : is_start st ≡ false → is_start (blank_if d st) ≡ false
  if_start e = go d
    where
      go : (d : Bool) → is_start (blank_if d st) ≡ false
      go true = e
      go false = (blanked st).start-same ∙ e

  if_again : blank_step (blank_if d st) ≡ blank_step st
  if_again = go d
    where
      go : (d : Bool) → blank_step (blank_if d st) ≡ blank_step st
      go true = refl
      go false = (blanked st).again

comment-run : (y : Bool) (s : List ℕ) → accepts (run (between (cond y Ended Dead)) s) ≡ y
comment-run true s = ap accepts (ended-run s)
comment-run false s = gone-accepts (between Dead) s refl

-- what follows a number's bytes
number-follows : {k : Radix} {v : ℕ} {l rest : List ℕ} (n : ℕ) → Unsigned l k v rest → length l ≡ n + length rest → drop n l ≡ rest
number-follows {k} {l = l} {rest} n u h =
    let e : l ≡ (prefix k ++ u.digits) ++ rest = u.split ∙ sym (append_assoc (prefix k) u.digits rest) in
    rw e (drop_at (prefix k ++ u.digits) rest n (omega (arith, ap length e, length-append (prefix k ++ u.digits) rest)))

-- the bytes of a word that stands at a place
word-there : (line : List ℕ) (at : ℕ) {s w rest : List ℕ} → Word s w rest → drop at line ≡ s → slice at (at + length w) line ≡ w
word-there line at {s} {w} {rest} r e =
    let h = word-begins r in
    let f = e ∙ r.split in
    let l : at ≤ length line = omega (arith, length-drop at line, ap length (e ∙ h.split)) in
    ap (drop at) (take-add at (length w) line)
    ∙ drop_at (take at line) (take (length w) (drop at line)) at (length-take-le at line l)
    ∙ ap (take (length w)) f ∙ take-append_seam w rest

module _ (line : List ℕ) where
  unless-ended : (d : Bool) (s : List ℕ) (ts : List Token) (st : State)
      → (is_ended st ≡ false → accepts (run (between (blank_if d st)) s) ≡ finishes line st ts)
      → accepts (run (between (blank_if d st)) s) ≡ finishes line st ts
  unless-ended d s ts st f = go (is_ended st) refl
    where
      go : (y : Bool) → is_ended st ≡ y → accepts (run (between (blank_if d st)) s) ≡ finishes line st ts
      go true e = rw (ended_is st e, skip d Ended refl) (ap accepts (ended-run s) ∙ sym (ended_always line ts))
      go false e = f e

  broken-refused : {s : List ℕ} (st : State) → is_ended st ≡ false → Broken s → accepts (run (between st) s) ≡ false
  unfolding run
  broken-refused st n (R.byte {b} {s} t) =
      ap (λ (y : Lex). accepts (run y s)) (begin-stray st b n (is_true (is_stray b) t)) ∙ gone-accepts (between Dead) s refl
  broken-refused st n (R.number {b} {s} t no_number) = go (accepts (run (between st) (b ∷ s))) refl
    where
      go : (y : Bool) → accepts (run (between st) (b ∷ s)) ≡ y → y ≡ false
      go true e = let h = number-back st n b s (is_true (is_digit b) t) e in absurd (no_number h.0 h.1 h.2 h.3)
      go false e = refl
  broken-refused st n (R.string {s} no_string) = ap (λ (y : Lex). accepts (run y s)) (begin-quote st n) ∙ go (accepts (run (L.quoted st) s)) refl
    where
      go : (y : Bool) → accepts (run (L.quoted st) s) ≡ y → y ≡ false
      go true e = let h = string-back st s e in absurd (no_string h.0 h.1 h.2)
      go false e = refl

  row-finishes : {at : ℕ} {d : Bool} {s : List ℕ} {ts : List Token} → Row at d s ts → drop at line ≡ s → (st : State) → is_start st ≡ false
      → accepts (run (between (blank_if d st)) s) ≡ finishes line st ts
  unfolding run finishes
  row-finishes (ended {at} {d}) e st i = if_final d st
  row-finishes (comment {at} {d} {s}) e st i =
      unless-ended d (code ";" ∷ s) [] st
      (λ n. ap (λ (y : Lex). accepts (run y s)) (begin-comment (blank_if d st) (if_ended d st n)) ∙ comment-run (final (blank_if d st)) s ∙ if_final d st)
  row-finishes (blank {at} {b} {d} {s} {ts} t r) e st i =
      unless-ended d (b ∷ s) ts st
      (λ n. ap (λ (y : Lex). accepts (run y s)) (begin-blank (blank_if d st) b (if_ended d st n) (is_true (is_blank b) t) ∙ ap between (if_again d st))
      ∙ row-finishes r (byte_of line at e).1 st i)
  row-finishes (mark {at} {b} {d} {s} {ts} t r) e st i =
      unless-ended d (b ∷ s) (token (K.Mark b) at d (at + 1) ∷ ts) st
      (λ n. ap (λ (y : Lex). accepts (run y s)) (begin-mark (blank_if d st) b (if_ended d st n) (is_true (is_mark b) t))
      ∙ row-finishes r (byte_of line at e).1 (mark_step (blank_if d st) b) (mark-not (blank_if d st) b))
  row-finishes (word {at} {d} {s} {w} {rest} {ts} k r) e st i =
      unless-ended d s (token K.Word at d (at + length w) ∷ ts) st
      (λ n. ap accepts (word-whole (blank_if d st) (if_ended d st n) k) ∙ word-leaves (blank_if d st) w rest (if_start d st i) k.longest
      ∙ row-finishes r (follows k) (word_step (blank_if d st) w) (word-not (blank_if d st) w)
      ∙ ap (λ (v : List ℕ). finishes line (word_step (blank_if d st) v) ts) (sym (word-there line at k e)))
    where
      follows : Word s w rest → drop (at + length w) line ≡ rest
      follows k = sym (drop-drop (length w) at line) ∙ rw (e, k.split) (drop-append_seam w rest)
  row-finishes (R.number {at} {v} {d} {k} {s} {rest} {ts} n u q r) e st i =
      unless-ended d s (token (K.Number (cut v) k) at d (at + n) ∷ ts) st
      (λ m. number_read (blank_if d st) (if_ended d st m) u
      ∙ row-finishes r (sym (drop-drop n at line) ∙ rw e (number-follows n u q)) (number_step (blank_if d st) k) (number-not (blank_if d st) k))
  row-finishes (R.string {at} {d} {s} {cs} {rest} {ts} n k q r) e st i =
      unless-ended d (code "\"" ∷ s) (token K.Text at d (at + 1 + n) ∷ ts) st
      (λ m. ap (λ (y : Lex). accepts (run y s)) (begin-quote (blank_if d st) (if_ended d st m)) ∙ ap accepts (string-read (blank_if d st) k)
      ∙ row-finishes r follows (text_step (blank_if d st)) (text-not (blank_if d st)))
    where
      follows : drop (at + 1 + n) line ≡ rest
      follows =
          let h = characters-close k in
          let m : h.bytes ≡ n = omega (arith, h.lengths) in
          sym (drop-drop n (at + 1) line) ∙ rw ((byte_of line at e).1, ← m) h.follows
  row-finishes (broken {at} {d} {s} k) e st i =
      unless-ended d s (token K.Stray at d at ∷ []) st
      (λ n. broken-refused (blank_if d st) (if_ended d st n) k ∙ rw (if_ended d st n))

-- ---- the label

abbrev colon_first : List ℕ → Bool
colon_first [] = false
colon_first (b ∷ s) = eqb b (code ":")

abbrev colon_token : List Token → Bool
colon_token [] = false
colon_token (c ∷ ts) = S.is_colon c.kind && c.directly

no_colon : (f : ℕ → Bool) (b : ℕ) → f b ≡ true → f (code ":") ≡ false → eqb b (code ":") ≡ false
no_colon f b e g = ne_eqb b (code ":") (λ h. let z : true ≡ false = sym e ∙ ap f h ∙ g in never (cc))

number_colon : {s : List ℕ} {k : Radix} {v : ℕ} {rest : List ℕ} → Unsigned s k v rest → colon_first s ≡ false
unfolding rank
number_colon {k = Decimal} {rest = rest} u = ap colon_first u.split ∙ go u.digits u.are-digits.some u.are-digits.all
  where
    go : (ds : List ℕ) → 0 < length ds → T (all_below 10 ds) → colon_first (ds ++ rest) ≡ false
    go [] l t = absurd (omega arith)
    go (d ∷ ds) l t = no_colon (λ b. ltb (rank b) 10) d (is_true (ltb (rank d) 10) (and_l (ltb (rank d) 10) (all_below 10 ds) t)) refl
number_colon {k = Hexadecimal} u = ap colon_first u.split

broken_colon : {s : List ℕ} → Broken s → colon_first s ≡ false
unfolding is_stray is_blank
broken_colon (R.byte {b} t) = no_colon is_stray b (is_true (is_stray b) t) refl
broken_colon (R.number {b} t n) = no_colon is_digit b (is_true (is_digit b) t) refl
broken_colon (R.string n) = refl

colon_row : {at : ℕ} {d : Bool} {s : List ℕ} {ts : List Token} → Row at d s ts → colon_token ts ≡ (d && colon_first s)
unfolding is_blank
colon_row (ended {at} {d}) = sym (and-false d)
colon_row (comment {at} {d}) = sym (and-false d)
colon_row (blank {at} {b} {d} t r) = colon_row r ∙ sym (ap (λ (y : Bool). d && y) (no_colon is_blank b (is_true (is_blank b) t) refl) ∙ and-false d)
colon_row (mark {at} {b} {d} t r) = swap (eqb b (code ":")) d
  where
    swap : (x y : Bool) → (x && y) ≡ (y && x)
    swap true true = refl
    swap true false = refl
    swap false true = refl
    swap false false = refl
colon_row (word {at} {d} k r) =
    let h = word-begins k in
    sym (ap (λ (l : List ℕ). d && colon_first l) h.split ∙ ap (λ (y : Bool). d && y) (no_colon is_word_byte h.byte h.word refl) ∙ and-false d)
colon_row (R.number {at} {v} {d} n u q r) = sym (ap (λ (y : Bool). d && y) (number_colon u) ∙ and-false d)
colon_row (R.string {at} {d} n k q r) = sym (and-false d)
colon_row (broken {at} {d} k) = sym (ap (λ (y : Bool). d && y) (broken_colon k) ∙ and-false d)

label-first : (t : Token) (ts : List Token) → S.labelled (t ∷ ts) ≡ (S.is_word t.kind && colon_token ts)
label-first t [] = sym (and-false (S.is_word t.kind))
label-first t (c ∷ ts) = refl

label-none : (t : Token) (ts : List Token) → (S.is_word t.kind && colon_token ts) ≡ false → after_label (t ∷ ts) ≡ t ∷ ts
unfolding after_label
label-none t ts e = rw (label-first t ts ∙ e)

start-leaves : (w rest : List ℕ) → colon_first rest ≡ false → T (ends_word rest)
    → accepts (run (L.word Start w) rest) ≡ accepts (run (between (word_step Start w)) rest)
unfolding run word_end
start-leaves w [] i t = refl
start-leaves w (c ∷ rest) i t = rw (ends-rank c rest t, i)

start_colon : (w : List ℕ) (c : ℕ) (rest : List ℕ) → eqb c (code ":") ≡ true → run (L.word Start w) (c ∷ rest) ≡ run (between Body) rest
unfolding run word_end rank
start_colon w c rest e = rw (eqb-true c (code ":") e)

colon_mark : (c : ℕ) → eqb c (code ":") ≡ true → T (is_mark c)
unfolding is_mark is_blank
colon_mark c e = rw (eqb-true c (code ":") e) tt

module _ (line : List ℕ) where
  -- behind a label
  behind-label : (t : Token) (at c : ℕ) (rest : List ℕ) {ts : List Token} → t.kind ≡ K.Word → eqb c (code ":") ≡ true → drop at line ≡ c ∷ rest
      → Row at true (c ∷ rest) ts → accepts (run (between Body) rest) ≡ finishes line Body (after_label (t ∷ ts))
  unfolding after_label
  behind-label t at c rest {ts} k e f r =
      let us = tokens_from line (at + 1) in
      let g = (byte_of line at f).1 in
      let q : Row (at + 1) true rest us = subst (λ (l : List ℕ). Row (at + 1) true l us) g (row_from line (at + 1)) in
      let h : token (K.Mark c) at true (at + 1) ∷ us ≡ ts = one_row_from (mark (colon_mark c e) q) r in
      row-finishes line q g Body refl ∙ ap (finishes line Body) (shown us) ∙ ap (λ (l : List Token). finishes line Body (after_label (t ∷ l))) h
    where
      shown : (us : List Token) → us ≡ after_label (t ∷ token (K.Mark c) at true (at + 1) ∷ us)
      shown us = rw (k, e)

  dead_here : (d : Bool) (t : Token) (ts : List Token) → S.is_word t.kind ≡ false → t.directly ≡ d
      → token_step line Body t.kind t ≡ Dead → finishes line Body (after_label (t ∷ ts)) ≡ false
  unfolding finishes
  dead_here d t ts e f g =
      ap (finishes line Body) (label-none t ts (ap (λ (y : Bool). y && colon_token ts) e))
      ∙ ap (λ (st : State). finishes line (token_step line st t.kind t) ts) (skip t.directly Body refl)
      ∙ ap (λ (st : State). finishes line st ts) g ∙ dead_never line ts

  line-finishes : {at : ℕ} {d : Bool} {s : List ℕ} {ts : List Token} → Row at d s ts → drop at line ≡ s
      → accepts (run (between Start) s) ≡ finishes line Body (after_label ts)
  unfolding run finishes after_label
  line-finishes ended e = refl
  line-finishes (comment {at} {d} {s}) e = ap (λ (y : Lex). accepts (run y s)) (begin-comment Start refl) ∙ comment-run true s
  line-finishes (blank {at} {b} {d} {s} t r) e =
      ap (λ (y : Lex). accepts (run y s)) (begin-blank Start b refl (is_true (is_blank b) t)) ∙ line-finishes r (byte_of line at e).1
  line-finishes (mark {at} {b} {d} {s} {ts} t r) e =
      ap (λ (y : Lex). accepts (run y s)) (begin-mark Start b refl (is_true (is_mark b) t)) ∙ gone-accepts (between Dead) s refl
      ∙ sym (dead_here d (token (K.Mark b) at d (at + 1)) ts refl refl refl)
  line-finishes (word {at} {d} {s} {w} {rest} {ts} k r) e = ap accepts (word-whole Start refl k) ∙ go (colon_first rest) refl
    where
      t : Token
      t = token K.Word at d (at + length w)

      follows : drop (at + length w) line ≡ rest
      follows = sym (drop-drop (length w) at line) ∙ rw (e, k.split) (drop-append_seam w rest)

      coloned : (rest : List ℕ) → colon_first rest ≡ true → drop (at + length w) line ≡ rest → Row (at + length w) true rest ts
          → accepts (run (L.word Start w) rest) ≡ finishes line Body (after_label (t ∷ ts))
      coloned [] p f q = never (cc)
      coloned (c ∷ rest) p f q = ap accepts (start_colon w c rest p) ∙ behind-label t (at + length w) c rest refl p f q

      go : (y : Bool) → colon_first rest ≡ y → accepts (run (L.word Start w) rest) ≡ finishes line Body (after_label (t ∷ ts))
      go true p = coloned rest p follows r
      go false p =
          start-leaves w rest p k.longest ∙ row-finishes line r follows (word_step Body w) (word-not Body w)
          ∙ ap (λ (v : List ℕ). finishes line (word_step Body v) ts) (sym (word-there line at k e))
          ∙ sym (ap (finishes line Body) (label-none t ts (colon_row r ∙ p))
          ∙ ap (λ (st : State). finishes line (word_step st (word_at line t)) ts) (skip d Body refl))
  line-finishes (R.number {at} {v} {d} {k} {s} {rest} {ts} n u q r) e =
      number_read Start refl u ∙ gone-accepts (between Dead) rest refl
      ∙ sym (dead_here d (token (K.Number (cut v) k) at d (at + n)) ts refl refl refl)
  line-finishes (R.string {at} {d} {s} {cs} {rest} {ts} n k q r) e =
      ap (λ (y : Lex). accepts (run y s)) (begin-quote Start refl) ∙ ap accepts (string-read Start k) ∙ gone-accepts (between Dead) rest refl
      ∙ sym (dead_here d (token K.Text at d (at + 1 + n)) ts refl refl refl)
  line-finishes (broken {at} {d} {s} k) e = broken-refused line Start refl k ∙ sym (dead_here d (token K.Stray at d at) [] refl refl refl)

-- A line is of right form exactly where the walk accepts it.
pub right-exactly : (line : List ℕ) → Right line ↔ (accepts (run first line) ≡ true)
right-exactly line = (
  λ h. line-finishes line h.2.row refl ∙ line-complete line h.2.text,
  λ e. let r = line_row line in
      let t = line-sound line (tokens_from line 0) (in_line line 0) (sym (line-finishes line r refl) ∙ e) in
      (t.0, t.1, record { tokens = tokens_from line 0; row = r; text = t.2 }),
)
