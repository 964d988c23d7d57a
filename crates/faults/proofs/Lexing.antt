-- The bytes of a word, a number or a string move the state as the token does, and a broken one is accepted nowhere.
use Prim.Native.Nat.{ℕ, ◌<◌}
use Prim.Native.Char.{code}
use mathlib.Core.Bool.{Bool, true, false, cond, not}
use mathlib.Core.List.{List, [], ◌∷◌, ◌++◌, append_assoc, append-nil}
use mathlib.Core.Path.{◌≡◌, refl, sym, ap, subst, ◌∙◌}
use native.Mathlib.Omega.{arith}
use lib.Dec.{eqb, ltb, T}
use lib.Ieee.Bits.{is_true}
use lib.Ieee.Fits.{and_l, and_r}
use lib.ListN.{length}
use borrow.Author.Tests.{not-true, ltb-true, ltb-false, le-ltb, eqb-true}
use Rattle.numerals.specs.Bytes.{is_digit, is_word_byte, rank}
use Rattle.numerals.specs.Digits.{all_below, ends_word, worth}
use Rattle.numerals.specs.Numbers.{base, Unsigned}
use Rattle.numerals.specs.declared.Radix.{Radix}
use Rattle.numerals.specs.declared.Radix.TheVariants.{Decimal, Hexadecimal}
use Rattle.numerals.proofs.Radixes.{base-small}
use Rattle.tokens.specs.Bytes.{is_blank, is_mark, is_stray, is_quote}
use Rattle.tokens.specs.Strings.{backslash, is_plain, Characters, closed, plain, newline}
use Rattle.tokens.specs.Words.{Word}
use Rattle.tokens.proofs.Classes.{digit_ranks, is_digit_lem, no_word_no_digit, word_no_blank, mark-alone, stray-alone}
use Rattle.tokens.proofs.Quoted.{plain_is}
use Rattle.statements.proofs.Labelling.{never}
use Rattle.faults.specs.declared.State.{State}
use Rattle.faults.specs.declared.State.TheVariants.{Ended, Dead}
use Rattle.faults.specs.Forms.{word_step, number_step, text_step, mark_step, blank_step, final, is_start, is_ended}
use Rattle.faults.specs.Walk.{Lex, between, word, zero, decimal, prefixed, hexadecimal, quoted, escaped, begin, word_end, number_end, step, accepts, run}
use Rattle.faults.proofs.Gone.{gone-accepts}

-- ---- one byte between tokens

module _ (st : State) (b : ℕ) (n : is_ended st ≡ false) where
  pub begin-blank : is_blank b ≡ true → begin st b ≡ between (blank_step st)
  unfolding begin
  begin-blank e = rw (n, e)

  pub begin-mark : is_mark b ≡ true → begin st b ≡ between (mark_step st b)
  unfolding begin
  begin-mark e = let h = mark-alone b e in let d = no_word_no_digit b h.word in rw (n, h.blank, h.word, d, h.quote, h.semicolon, e)

  pub begin-stray : is_stray b ≡ true → begin st b ≡ between Dead
  unfolding begin
  begin-stray e =
      let h = stray-alone b e in
      let a = h.alone in
      let d = no_word_no_digit b a.word in
      rw (n, a.blank, a.word, d, a.quote, a.semicolon, h.no_mark)

  pub begin-word : is_word_byte b ≡ true → is_digit b ≡ false → begin st b ≡ word st (b ∷ [])
  unfolding begin
  begin-word e d = rw (n, word_no_blank b e, e, d)

  pub begin-digit : is_digit b ≡ true → begin st b ≡ cond (eqb b (code "0")) (zero st) (decimal st)
  unfolding begin
  begin-digit e = let w : is_word_byte b ≡ true = rw e in rw (n, word_no_blank b w, e)

pub begin-quote : (st : State) → is_ended st ≡ false → begin st (code "\"") ≡ quoted st
unfolding begin is_blank
begin-quote st n = rw n

pub begin-comment : (st : State) → is_ended st ≡ false → begin st (code ";") ≡ between (cond (final st) Ended Dead)
unfolding begin is_blank
begin-comment st n = rw n

-- the byte behind a word or a number
pub ends-rank : (b : ℕ) (rest : List ℕ) → T (ends_word (b ∷ rest)) → ltb (rank b) 17 ≡ false
ends-rank b rest t = not-true (ltb (rank b) 17) (is_true (not (ltb (rank b) 17)) t)

pub rank-ends : (b : ℕ) (rest : List ℕ) → ltb (rank b) 17 ≡ false → T (ends_word (b ∷ rest))
rank-ends b rest e = rw e tt

-- ---- words

pub word-grows : (st : State) (v w rest : List ℕ) → T (all_below 17 w) → run (word st v) (w ++ rest) ≡ run (word st (v ++ w)) rest
unfolding run
word-grows st v [] rest t = rw (append-nil v)
word-grows st v (b ∷ w) rest t =
    let e = is_true (ltb (rank b) 17) (and_l (ltb (rank b) 17) (all_below 17 w) t) in
    ap (λ (y : Bool). run (cond y (word st (v ++ (b ∷ []))) (word_end st v b)) (w ++ rest)) e
    ∙ word-grows st (v ++ (b ∷ [])) w rest (and_r (ltb (rank b) 17) (all_below 17 w) t)
    ∙ ap (λ (l : List ℕ). run (word st l) rest) (append_assoc v (b ∷ []) w)

pub word-leaves : (st : State) (w rest : List ℕ) → is_start st ≡ false → T (ends_word rest)
    → accepts (run (word st w) rest) ≡ accepts (run (between (word_step st w)) rest)
unfolding run word_end
word-leaves st w [] i t = refl
word-leaves st w (c ∷ rest) i t = rw (ends-rank c rest t, i)

-- a word is read in one piece
pub word-whole : (st : State) {s w rest : List ℕ} → is_ended st ≡ false → Word s w rest → run (between st) s ≡ run (word st w) rest
unfolding run
word-whole st {w = []} n r = absurd r.begins
word-whole st {w = b ∷ w} {rest} n r =
    let e = is_true (is_word_byte b) (and_l (is_word_byte b) (not (is_digit b)) r.begins) in
    let d = not-true (is_digit b) (is_true (not (is_digit b)) (and_r (is_word_byte b) (not (is_digit b)) r.begins)) in
    ap (run (between st)) r.split ∙ ap (λ (y : Lex). run y (w ++ rest)) (begin-word st b n e d)
    ∙ word-grows st (b ∷ []) w rest (and_r (ltb (rank b) 17) (all_below 17 w) r.all)

-- ---- numbers

-- digits of a radix, and what follows them
record Tail (k : Radix) (s : List ℕ) : Type 0 where
  ds : List ℕ
  rest : List ℕ
  split : s ≡ ds ++ rest
  all : T (all_below (base k) ds)
  ends : T (ends_word rest)

module _ (st : State) (k : Radix) (x : Lex) (goes : (b : ℕ) → step x b ≡ cond (ltb (rank b) (base k)) x (number_end st k b))
    (takes : accepts x ≡ final (number_step st k)) where
  digits-run : (ds rest : List ℕ) → T (all_below (base k) ds) → run x (ds ++ rest) ≡ run x rest
  unfolding run
  digits-run [] rest t = refl
  digits-run (d ∷ ds) rest t =
      let e = is_true (ltb (rank d) (base k)) (and_l (ltb (rank d) (base k)) (all_below (base k) ds) t) in
      ap (λ (y : Lex). run y (ds ++ rest)) (goes d) ∙ ap (λ (y : Bool). run (cond y x (number_end st k d)) (ds ++ rest)) e
      ∙ digits-run ds rest (and_r (ltb (rank d) (base k)) (all_below (base k) ds) t)

  below-not : (c : ℕ) → ltb (rank c) 17 ≡ false → ltb (rank c) (base k) ≡ false
  below-not c e = le-ltb (rank c) (base k) (omega (arith, ltb-false (rank c) 17 e, base-small k))

  number-leaves : (rest : List ℕ) → T (ends_word rest) → accepts (run x rest) ≡ accepts (run (between (number_step st k)) rest)
  unfolding run number_end
  number-leaves [] t = takes
  number-leaves (c ∷ rest) t = let e = ends-rank c rest t in rw (goes c, below-not c e, e)

  digits-back : (s : List ℕ) → accepts (run x s) ≡ true → Tail k s
  unfolding run number_end
  digits-back [] e = record { ds = []; rest = []; split = refl; all = tt; ends = tt }
  digits-back (b ∷ s) e = go (ltb (rank b) (base k)) (ltb (rank b) 17) refl refl (rw (goes b) at e) (digits-back s)
    where
      go : (y z : Bool) → ltb (rank b) (base k) ≡ y → ltb (rank b) 17 ≡ z
          → accepts (run (cond y x (cond z (between Dead) (begin (number_step st k) b))) s) ≡ true → (accepts (run x s) ≡ true → Tail k s)
          → Tail k (b ∷ s)
      go true z p q f ih =
          let h = ih f in
          record { ds = b ∷ h.ds; rest = h.rest; split = ap (λ (l : List ℕ). b ∷ l) h.split; all = rw p h.all; ends = h.ends }
      go false true p q f ih = let g : false ≡ true = sym (gone-accepts (between Dead) s refl) ∙ f in never (cc)
      go false false p q f ih = record { ds = []; rest = b ∷ s; split = refl; all = tt; ends = rank-ends b s q }

x_ranks : (c : ℕ) → eqb c (code "x") ≡ true → true ≡ ltb (rank c) 17
unfolding rank
x_ranks c p = rw (eqb-true c (code "x") p)

module _ (st : State) (n : is_ended st ≡ false) where
  zero-leaves : (rest : List ℕ) → T (ends_word rest) → accepts (run (zero st) rest) ≡ accepts (run (between (number_step st Decimal)) rest)
  unfolding run number_end
  zero-leaves [] t = refl
  zero-leaves (c ∷ rest) t =
      let e = ends-rank c rest t in
      let f = le-ltb (rank c) 10 (omega (arith, ltb-false (rank c) 17 e)) in
      rw (f, no_x (eqb c (code "x")) refl e, e)
    where
      no_x : (y : Bool) → eqb c (code "x") ≡ y → ltb (rank c) 17 ≡ false → y ≡ false
      no_x true p e = let z : true ≡ false = x_ranks c p ∙ e in never (cc)
      no_x false p e = refl

  decimal-read : (ds rest : List ℕ) → T (all_below 10 ds) → T (ends_word rest)
      → accepts (run (decimal st) (ds ++ rest)) ≡ accepts (run (between (number_step st Decimal)) rest)
  decimal-read ds rest t u =
      ap accepts (digits-run st Decimal (decimal st) (λ b. refl) refl ds rest t) ∙ number-leaves st Decimal (decimal st) (λ b. refl) refl rest u

  hexadecimal-read : (ds rest : List ℕ) → T (all_below 16 ds) → T (ends_word rest)
      → accepts (run (hexadecimal st) (ds ++ rest)) ≡ accepts (run (between (number_step st Hexadecimal)) rest)
  hexadecimal-read ds rest t u =
      ap accepts (digits-run st Hexadecimal (hexadecimal st) (λ b. refl) refl ds rest t)
      ∙ number-leaves st Hexadecimal (hexadecimal st) (λ b. refl) refl rest u

  -- behind a first digit
  digit-read : (b : ℕ) (ds rest : List ℕ) → is_digit b ≡ true → T (all_below 10 ds) → T (ends_word rest)
      → accepts (run (begin st b) (ds ++ rest)) ≡ accepts (run (between (number_step st Decimal)) rest)
  unfolding run
  digit-read b ds rest g t u =
      ap (λ (y : Lex). accepts (run y (ds ++ rest))) (begin-digit st b n g) ∙ go (eqb b (code "0")) ds t
    where
      go : (y : Bool) (ds : List ℕ) → T (all_below 10 ds)
          → accepts (run (cond y (zero st) (decimal st)) (ds ++ rest)) ≡ accepts (run (between (number_step st Decimal)) rest)
      go true [] t = zero-leaves rest u
      go true (d ∷ ds) t =
          let e = is_true (ltb (rank d) 10) (and_l (ltb (rank d) 10) (all_below 10 ds) t) in
          ap (λ (y : Bool). accepts (run (cond y (decimal st) (cond (eqb d (code "x")) (prefixed st) (number_end st Decimal d))) (ds ++ rest))) e
          ∙ decimal-read ds rest (and_r (ltb (rank d) 10) (all_below 10 ds) t) u
      go false ds t = decimal-read ds rest t u

  prefix-read : (ds rest : List ℕ) → 0 < length ds → T (all_below 16 ds) → T (ends_word rest)
      → accepts (run (prefixed st) (ds ++ rest)) ≡ accepts (run (between (number_step st Hexadecimal)) rest)
  unfolding run
  prefix-read [] rest l t u = absurd (omega arith)
  prefix-read (d ∷ ds) rest l t u =
      let e = is_true (ltb (rank d) 16) (and_l (ltb (rank d) 16) (all_below 16 ds) t) in
      ap (λ (y : Bool). accepts (run (cond y (hexadecimal st) (between Dead)) (ds ++ rest))) e
      ∙ hexadecimal-read ds rest (and_r (ltb (rank d) 16) (all_below 16 ds) t) u

  -- behind `0x`
  zero_x : (s : List ℕ) → run (between st) (code "0" ∷ code "x" ∷ s) ≡ run (prefixed st) s
  unfolding run rank
  zero_x s = ap (λ (y : Lex). run y (code "x" ∷ s)) (begin-digit st (code "0") n refl)

  pub number_read : {s : List ℕ} {k : Radix} {v : ℕ} {rest : List ℕ} → Unsigned s k v rest
      → accepts (run (between st) s) ≡ accepts (run (between (number_step st k)) rest)
  unfolding run
  number_read {s} {k = Decimal} {rest = rest} u = ap (λ (l : List ℕ). accepts (run (between st) l)) u.split ∙ go u.digits u.are-digits.some u.are-digits.all
    where
      go : (ds : List ℕ) → 0 < length ds → T (all_below 10 ds) → accepts (run (between st) (ds ++ rest)) ≡ accepts (run (between (number_step st Decimal)) rest)
      go [] l t = absurd (omega arith)
      go (d ∷ ds) l t =
          let e = is_true (ltb (rank d) 10) (and_l (ltb (rank d) 10) (all_below 10 ds) t) in
          digit-read d ds rest (is_digit_lem d (ltb-true (rank d) 10 e)) (and_r (ltb (rank d) 10) (all_below 10 ds) t) u.ends
  number_read {s} {k = Hexadecimal} {rest = rest} u =
      ap (λ (l : List ℕ). accepts (run (between st) l)) u.split ∙ ap accepts (zero_x (u.digits ++ rest))
      ∙ prefix-read u.digits rest u.are-digits.some u.are-digits.all u.ends

  -- ---- what is accepted is a number

  abbrev ANumber : List ℕ → Type 0
  ANumber s = (k : Radix) × (v : ℕ) × (rest : List ℕ) × Unsigned s k v rest

  decimal-number : (b : ℕ) (s : List ℕ) → ltb (rank b) 10 ≡ true → accepts (run (decimal st) s) ≡ true → ANumber (b ∷ s)
  decimal-number b s p e =
      let h = digits-back st Decimal (decimal st) (λ b. refl) refl s e in (
        Decimal,
        worth 10 (b ∷ h.ds),
        h.rest,
        record {
          digits = b ∷ h.ds;
          split = ap (λ (l : List ℕ). b ∷ l) h.split;
          are-digits = record { some = omega arith; all = rw p h.all };
          ends = h.ends;
          worth_is = refl;
        },
      )

  prefix-number : (s : List ℕ) → accepts (run (prefixed st) s) ≡ true → ANumber (code "0" ∷ code "x" ∷ s)
  unfolding run
  prefix-number [] e = never (cc)
  prefix-number (d ∷ s) e = go (ltb (rank d) 16) refl e
    where
      go : (y : Bool) → ltb (rank d) 16 ≡ y → accepts (run (cond y (hexadecimal st) (between Dead)) s) ≡ true → ANumber (code "0" ∷ code "x" ∷ d ∷ s)
      go true p f =
          let h = digits-back st Hexadecimal (hexadecimal st) (λ b. refl) refl s f in (
            Hexadecimal,
            worth 16 (d ∷ h.ds),
            h.rest,
            record {
              digits = d ∷ h.ds;
              split = ap (λ (l : List ℕ). code "0" ∷ code "x" ∷ d ∷ l) h.split;
              are-digits = record { some = omega arith; all = rw p h.all };
              ends = h.ends;
              worth_is = refl;
            },
          )
      go false p f = let g : false ≡ true = sym (gone-accepts (between Dead) s refl) ∙ f in never (cc)

  zero_number : (s : List ℕ) → accepts (run (zero st) s) ≡ true → ANumber (code "0" ∷ s)
  unfolding run number_end rank
  zero_number [] e = (
    Decimal,
    worth 10 (code "0" ∷ []),
    [],
    record {
      digits = code "0" ∷ [];
      split = refl;
      are-digits = record { some = omega arith; all = tt };
      ends = tt;
      worth_is = refl;
    },
  )
  zero_number (c ∷ s) e = go (ltb (rank c) 10) (eqb c (code "x")) (ltb (rank c) 17) refl refl refl e
    where
      go : (y x z : Bool) → ltb (rank c) 10 ≡ y → eqb c (code "x") ≡ x → ltb (rank c) 17 ≡ z
          → accepts (run (cond y (decimal st) (cond x (prefixed st) (cond z (between Dead) (begin (number_step st Decimal) c)))) s) ≡ true
          → ANumber (code "0" ∷ c ∷ s)
      go true x z p q r f =
          let h = digits-back st Decimal (decimal st) (λ b. refl) refl s f in (
            Decimal,
            worth 10 (code "0" ∷ c ∷ h.ds),
            h.rest,
            record {
              digits = code "0" ∷ c ∷ h.ds;
              split = ap (λ (l : List ℕ). code "0" ∷ c ∷ l) h.split;
              are-digits = record { some = omega arith; all = rw p h.all };
              ends = h.ends;
              worth_is = refl;
            },
          )
      go false true z p q r f = subst (λ (b : ℕ). ANumber (code "0" ∷ b ∷ s)) (sym (eqb-true c (code "x") q)) (prefix-number s f)
      go false false true p q r f = let g : false ≡ true = sym (gone-accepts (between Dead) s refl) ∙ f in never (cc)
      go false false false p q r f = (
        Decimal,
        worth 10 (code "0" ∷ []),
        c ∷ s,
        record {
          digits = code "0" ∷ [];
          split = refl;
          are-digits = record { some = omega arith; all = tt };
          ends = rank-ends c s r;
          worth_is = refl;
        },
      )

  pub number-back : (b : ℕ) (s : List ℕ) → is_digit b ≡ true → accepts (run (between st) (b ∷ s)) ≡ true → ANumber (b ∷ s)
  unfolding run
  number-back b s g e = go (eqb b (code "0")) refl (ap (λ (y : Lex). accepts (run y s)) (sym (begin-digit st b n g)) ∙ e)
    where
      go : (y : Bool) → eqb b (code "0") ≡ y → accepts (run (cond y (zero st) (decimal st)) s) ≡ true → ANumber (b ∷ s)
      go true p f = subst (λ (c : ℕ). ANumber (c ∷ s)) (sym (eqb-true b (code "0") p)) (zero_number s f)
      go false p f = decimal-number b s (sym (digit_ranks b) ∙ g) f

-- ---- strings

module _ (st : State) where
  pub string-read : {s cs rest : List ℕ} → Characters s cs rest → run (quoted st) s ≡ run (between (text_step st)) rest
  unfolding run
  string-read closed = refl
  string-read (plain {b} {s} t c) =
      let p = plain_is b (is_true (is_plain b) t) in
      ap (λ (y : Lex). run y s) (stays b p.quote p.backslash-not (is_true (is_plain b) t)) ∙ string-read c
    where
      stays : (b : ℕ) → is_quote b ≡ false → eqb b backslash ≡ false → is_plain b ≡ true → step (quoted st) b ≡ quoted st
      stays b e f g = rw (g, e, f)
  string-read (newline c) = string-read c

  abbrev AString : List ℕ → Type 0
  AString s = (cs : List ℕ) × (rest : List ℕ) × Characters s cs rest

  quoted-back : (b : ℕ) (s : List ℕ) (q k p : Bool) → is_quote b ≡ q → eqb b backslash ≡ k → is_plain b ≡ p
      → accepts (run (cond q (between (text_step st)) (cond k (escaped st) (cond p (quoted st) (between Dead)))) s) ≡ true
      → (accepts (run (quoted st) s) ≡ true → AString s) → (accepts (run (escaped st) s) ≡ true → AString (backslash ∷ s)) → AString (b ∷ s)
  quoted-back b s true k p x y z e f g = subst (λ (c : ℕ). AString (c ∷ s)) (sym (eqb-true b (code "\"") x)) ([], s, closed)
  quoted-back b s false true p x y z e f g = subst (λ (c : ℕ). AString (c ∷ s)) (sym (eqb-true b backslash y)) (g e)
  quoted-back b s false false true x y z e f g = let h = f e in (b ∷ h.0, h.1, plain {b = b} (rw z tt) h.2)
  quoted-back b s false false false x y z e f g = let h : false ≡ true = sym (gone-accepts (between Dead) s refl) ∙ e in never (cc)

  newline-back : (b : ℕ) (s : List ℕ) (y : Bool) → eqb b (code "n") ≡ y → accepts (run (cond y (quoted st) (between Dead)) s) ≡ true
      → (accepts (run (quoted st) s) ≡ true → AString s) → AString (backslash ∷ b ∷ s)
  newline-back b s true x e f =
      let h = f e in subst (λ (c : ℕ). AString (backslash ∷ c ∷ s)) (sym (eqb-true b (code "n") x)) (10 ∷ h.0, h.1, newline h.2)
  newline-back b s false x e f = let h : false ≡ true = sym (gone-accepts (between Dead) s refl) ∙ e in never (cc)

  mutual
    unfolding run

    pub string-back : (s : List ℕ) → accepts (run (quoted st) s) ≡ true → AString s
    string-back [] e = never (cc)
    string-back (b ∷ s) e = quoted-back b s (is_quote b) (eqb b backslash) (is_plain b) refl refl refl e (λ f. string-back s f) (λ f. escaped-back s f)

    escaped-back : (s : List ℕ) → accepts (run (escaped st) s) ≡ true → AString (backslash ∷ s)
    escaped-back [] e = never (cc)
    escaped-back (b ∷ s) e = newline-back b s (eqb b (code "n")) refl e (λ f. string-back s f)
