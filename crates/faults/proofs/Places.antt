-- The walk stops exactly at the fault: each line of wrong form has one, and the walk finds it.
use Prim.Native.Nat.{ℕ, suc, ◌+◌, ◌≤◌}
use Prim.Native.Char.{code}
use mathlib.Core.Bool.{Bool, true, false, cond, not, ◌&&◌, ◌||◌, and-eq-true_iff}
use mathlib.Core.List.{List, [], ◌∷◌, ◌++◌, append_assoc, append-nil}
use mathlib.Core.Logic.{◌⊎◌, inl, inr}
use mathlib.Core.Path.{◌≡◌, refl, sym, ap, subst, ◌∙◌}
use native.Mathlib.Decide.{dec_lt}
use native.Mathlib.Omega.{arith}
use native.Mathlib.Nat.{add-zero}
use lib.Dec.{eqb, ltb, T}
use lib.Ieee.Bits.{is_true}
use lib.Ieee.Fits.{and_l, and_r}
use lib.ListN.{length, length-append}
use borrow.Author.Tests.{eqb-true, ne_eqb, not-true}
use Rattle.numerals.specs.Bytes.{is_digit, is_word_byte, rank}
use Rattle.numerals.specs.Digits.{all_below, ends_word}
use Rattle.numerals.specs.declared.Radix.{Radix}
use Rattle.numerals.specs.declared.Radix.TheVariants.{Decimal, Hexadecimal}
use Rattle.numerals.specs.Bytes.{LF}
use Rattle.tokens.specs.Lines.{no_lf}
use Rattle.tokens.specs.Bytes.{is_blank, is_mark, is_quote, is_semicolon}
use Rattle.tokens.specs.Strings.{backslash, is_plain}
use Rattle.tokens.specs.Words.{Word, begins_word}
use Rattle.tokens.proofs.Classes.{word_ranks, low_no_word, high_no_word, is_inside}
use Rattle.tokens.proofs.Quoted.{plain_is}
use Rattle.statements.proofs.Labelling.{never}
use Rattle.faults.specs.Faults.{Right, Ending, word, number, other, goes_on, ending_from, ending, Parted, Piece, whole, byte, CanGoOn, Stops, Comment, Fault, stands, lacks, lacks-before}
use Rattle.faults.specs.declared.State.{State}
use Rattle.faults.specs.declared.State.TheVariants.{Body, Ended, Dead}
use Rattle.faults.specs.Forms.{word_step, number_step, text_step, mark_step, blank_step, final, lives, is_start, is_ended}
use Rattle.faults.specs.Walk.{Lex, between, decimal, prefixed, hexadecimal, quoted, escaped, begin, word_end, number_end, step, live, run, first, in_word, grows, goes, place_from, place}
use Rattle.faults.specs.Walk as L
use Rattle.faults.proofs.Gone.{gone, gone-run, gone-live, dead_gone, is_not, or_not, ended_is, run_append}
use Rattle.faults.proofs.Lexing.{begin-word, rank-ends, ends-rank, word-grows}
use Rattle.faults.proofs.GoesOn.{Fine, Agree, agrees, fine-whole, goes-exactly}

-- ---- one byte of the walk

module _ (long : ℕ) (x : Lex) (began at b : ℕ) (s : List ℕ) where
  pub place-grows : grows x b ≡ true → place_from long x began at (b ∷ s) ≡ place_from long (step x b) began (at + 1) s
  unfolding place_from
  place-grows e = rw e

  pub place_dead : grows x b ≡ false → live x ≡ false → place_from long x began at (b ∷ s) ≡ began
  unfolding place_from
  place_dead e l = rw (e, l)

  pub place_on : grows x b ≡ false → live x ≡ true → goes (step x b) ≡ true
      → place_from long x began at (b ∷ s) ≡ place_from long (step x b) at (at + 1) s
  unfolding place_from
  place_on e l g = rw (e, l, g)

  pub place-stops : grows x b ≡ false → live x ≡ true → goes (step x b) ≡ false
      → place_from long x began at (b ∷ s) ≡ cond (is_semicolon b && live (step x (code " "))) long at
  unfolding place_from
  place-stops e l g = rw (e, l, g)

-- ---- where words begin

dead_gone_here : (x : Lex) → in_word x ≡ false → live x ≡ false → gone x ≡ true
dead_gone_here (L.word st w) e l = never (cc)
dead_gone_here _ e l = is_not l

-- a word begins with this byte
record Begins (st : State) (b : ℕ) : Type 0 where
  open_here : is_ended st ≡ false
  letter : is_word_byte b ≡ true
  no_digit : is_digit b ≡ false

begins : (st : State) (b : ℕ) → in_word (begin st b) ≡ true → Begins st b
unfolding begin
begins st b e = go (is_ended st) (is_blank b) (is_digit b) (eqb b (code "0")) (is_word_byte b) (is_quote b) (is_semicolon b) (is_mark b) refl refl refl e
  where
    go : (n k d z w q c m : Bool) → is_ended st ≡ n → is_digit b ≡ d → is_word_byte b ≡ w
        → in_word (cond n (between Ended) (cond k (between (blank_step st)) (cond d (cond z (L.zero st) (decimal st)) (cond w (L.word st (b ∷ []))
        (cond q (quoted st) (cond c (between (cond (final st) Ended Dead)) (cond m (between (mark_step st b)) (between Dead)))))))) ≡ true
        → Begins st b
    go true k d z w q c m x y v e = never (cc)
    go false true d z w q c m x y v e = never (cc)
    go false false true true w q c m x y v e = never (cc)
    go false false true false w q c m x y v e = never (cc)
    go false false false z true q c m x y v e = record { open_here = x; letter = v; no_digit = y }
    go false false false z false true c m x y v e = never (cc)
    go false false false z false false true m x y v e = never (cc)
    go false false false z false false false true x y v e = never (cc)
    go false false false z false false false false x y v e = never (cc)

-- what the walk is in where a word begins
record Spells (x : Lex) (b : ℕ) (e : Ending) : Type 0 where
  st : State
  at_state : x ≡ between st
  here : Begins st b
  apart : e ≡ other

rank-letter : (b : ℕ) → is_word_byte b ≡ true → ltb (rank b) 17 ≡ true
rank-letter b e = sym (word_ranks b) ∙ e

no_letter : {X : Type 0} (b : ℕ) → is_word_byte b ≡ true → ltb (rank b) 17 ≡ false → X
no_letter b e f = let z : true ≡ false = sym (rank-letter b e) ∙ f in never (cc)

cond-never : (y : Bool) (a b : Lex) → in_word a ≡ false → (in_word b ≡ true → ⊥) → in_word (cond y a b) ≡ true → ⊥
cond-never true a b p q e = let z : true ≡ false = sym e ∙ p in never (cc)
cond-never false a b p q e = q e

number-never : (st : State) (k : Radix) (b : ℕ) → in_word (number_end st k b) ≡ true → ⊥
unfolding number_end
number-never st k b = go (ltb (rank b) 17) refl
  where
    go : (y : Bool) → ltb (rank b) 17 ≡ y → in_word (cond y (between Dead) (begin (number_step st k) b)) ≡ true → ⊥
    go true e f = never (cc)
    go false e f = no_letter b (begins (number_step st k) b f).letter e

spells : (x : Lex) (b : ℕ) (e : Ending) → Fine x e → grows x b ≡ false → in_word (step x b) ≡ true → Spells x b e
unfolding word_end
spells (between st) b e (inl n) g f = let h = begins st b f in let z : true ≡ false = sym n ∙ h.open_here in never (cc)
spells (between st) b e (inr o) g f = record { st = st; at_state = refl; here = begins st b f; apart = o }
spells (L.word st w) b e o g f = absurd (go (ltb (rank b) 17) (is_start st && eqb b (code ":")) g f)
  where
    go : (y z : Bool) → y ≡ false → in_word (cond y (L.word st (w ++ (b ∷ []))) (cond z (between Body) (begin (word_step st w) b))) ≡ true → ⊥
    go true z p f = never (cc)
    go false true p f = never (cc)
    go false false p f = no_letter b (begins (word_step st w) b f).letter g
spells (L.zero st) b e o g f =
    absurd (cond-never (ltb (rank b) 10) (decimal st) _ refl (cond-never (eqb b (code "x")) (prefixed st) _ refl (number-never st Decimal b)) f)
spells (decimal st) b e o g f = absurd (cond-never (ltb (rank b) 10) (decimal st) _ refl (number-never st Decimal b) f)
spells (prefixed st) b e o g f = absurd (cond-never (ltb (rank b) 16) (hexadecimal st) _ refl (λ z. never (cc)) f)
spells (hexadecimal st) b e o g f = absurd (cond-never (ltb (rank b) 16) (hexadecimal st) _ refl (number-never st Hexadecimal b) f)
spells (quoted st) b e o g f =
    absurd (cond-never (is_quote b) (between (text_step st)) _ refl
    (cond-never (eqb b backslash) (escaped st) _ refl (cond-never (is_plain b) (quoted st) _ refl (λ z. never (cc)))) f)
spells (escaped st) b e o g f = absurd (cond-never (eqb b (code "n")) (quoted st) _ refl (λ z. never (cc)) f)

-- ---- the walk passes what can go on

module _ (long : ℕ) where
  pass : (s rest : List ℕ) (x : Lex) (began at : ℕ) → live (run x s) ≡ true
      → (n : ℕ) × (place_from long x began at (s ++ rest) ≡ place_from long (run x s) n (at + length s) rest)
  unfolding run
  pass [] rest x began at l = (began, ap (λ (k : ℕ). place_from long x began k rest) (sym (add-zero at)))
  pass (b ∷ s) rest x began at l = go (grows x b) (live x) (goes (step x b)) refl refl refl (λ n. pass s rest (step x b) n (at + 1) l)
    where
      moved : (n : ℕ) → place_from long (run (step x b) s) n (at + 1 + length s) rest ≡ place_from long (run (step x b) s) n (at + suc (length s)) rest
      moved n = let e : at + 1 + length s ≡ at + suc (length s) = omega arith in ap (λ (k : ℕ). place_from long (run (step x b) s) n k rest) e

      go : (y z v : Bool) → grows x b ≡ y → live x ≡ z → goes (step x b) ≡ v
          → ((n : ℕ) → (m : ℕ) × (place_from long (step x b) n (at + 1) (s ++ rest) ≡ place_from long (run (step x b) s) m (at + 1 + length s) rest))
          → (m : ℕ) × (place_from long x began at (b ∷ (s ++ rest)) ≡ place_from long (run (step x b) s) m (at + suc (length s)) rest)
      go true z v e f g ih = let h = ih began in (h.0, place-grows long x began at b (s ++ rest) e ∙ h.1 ∙ moved h.0)
      go false false v e f g ih =
          let w : true ≡ false = sym l ∙ gone-live (run (step x b) s) (gone-run (step x b) s (dead_gone x b f e)) in
          never (cc)
      go false true true e f g ih = let h = ih at in (h.0, place_on long x began at b (s ++ rest) e f g ∙ h.1 ∙ moved h.0)
      go false true false e f g ih =
          let o = or_not (in_word (step x b)) (live (step x b)) g in
          let w : true ≡ false = sym l ∙ gone-live (run (step x b) s) (gone-run (step x b) s (dead_gone_here (step x b) o.0 o.1)) in
          never (cc)

fine-here : (s : List ℕ) → live (run first s) ≡ true → Fine (run first s) (ending s)
fine-here s l = go (agrees s)
  where
    go : Agree (run first s) (ending s) → Fine (run first s) (ending s)
    go (inl g) = let z : true ≡ false = sym l ∙ gone-live (run first s) g in never (cc)
    go (inr f) = f

stops_dead : (s : List ℕ) → Stops s → live (run first s) ≡ false
stops_dead s n = go (live (run first s)) refl
  where
    go : (y : Bool) → live (run first s) ≡ y → y ≡ false
    go true e = absurd (n ((goes-exactly s).1 e))
    go false e = refl

dead_stops : (s : List ℕ) → live (run first s) ≡ false → Stops s
dead_stops s e c = let z : true ≡ false = sym ((goes-exactly s).0 c) ∙ e in never (cc)

-- ---- inside a string, and behind END, a word's bytes change nothing

letter-clash : {X : Type 0} (b : ℕ) → is_word_byte b ≡ true → is_word_byte b ≡ false → X
letter-clash b e f = let z : true ≡ false = sym e ∙ f in never (cc)

word-plain : (b : ℕ) → is_word_byte b ≡ true → is_plain b ≡ true
word-plain b e =
    let h : 48 ≤ b = elim (dec_lt b 48) [ yes l ↦ letter-clash b e (low_no_word b l) | no l ↦ omega arith ] in
    let k : b ≤ 126 = elim (dec_lt 126 b) [ yes l ↦ letter-clash b e (high_no_word b l) | no l ↦ omega arith ] in
    let q : is_quote b ≡ false = ne_eqb b 34 (λ f. omega arith) in
    let n : eqb b backslash ≡ false = ne_eqb b backslash (λ f. let z : true ≡ false = sym e ∙ ap is_word_byte f in never (cc)) in
    rw (is_inside 32 126 b (omega arith) k, q, n)

plain-stays : (st : State) (b : ℕ) → is_word_byte b ≡ true → step (quoted st) b ≡ quoted st
plain-stays st b e =
    let p = word-plain b e in
    let h = plain_is b p in
    go (is_quote b) (eqb b backslash) (is_plain b) h.quote h.backslash-not p
  where
    go : (q k p : Bool) → q ≡ false → k ≡ false → p ≡ true
        → cond q (between (text_step st)) (cond k (escaped st) (cond p (quoted st) (between Dead))) ≡ quoted st
    go true k p x y z = never (cc)
    go false true p x y z = never (cc)
    go false false true x y z = refl
    go false false false x y z = never (cc)

-- a word's bytes leave it as it is
Safe : Lex → Type 0
Safe x = (b : ℕ) → is_word_byte b ≡ true → step x b ≡ x

ended-safe : Safe (between Ended)
unfolding Safe begin
ended-safe b e = refl

quoted-safe : (st : State) → Safe (quoted st)
unfolding Safe
quoted-safe st b e = plain-stays st b e

safe-run : (x : Lex) (w : List ℕ) → Safe x → T (all_below 17 w) → run x w ≡ x
unfolding Safe run
safe-run x [] f t = refl
safe-run x (b ∷ w) f t =
    let e = is_true (ltb (rank b) 17) (and_l (ltb (rank b) 17) (all_below 17 w) t) in
    ap (λ (y : Lex). run y w) (f b (word_ranks b ∙ e)) ∙ safe-run x w f (and_r (ltb (rank b) 17) (all_below 17 w) t)

ending-clash : {X : Type 0} {e f : Ending} → e ≡ f → e ≡ other → (f ≡ other → ⊥) → X
ending-clash p q n = absurd (n (sym p ∙ q))

-- behind a letter that begins no word the walk is gone, or nothing changes up to the run's end
after-letter : (x : Lex) (b : ℕ) (e : Ending) → Fine x e → e ≡ other → is_word_byte b ≡ true → is_digit b ≡ false → in_word (step x b) ≡ false
    → (gone (step x b) ≡ true) ⊎ Safe (step x b)
unfolding begin
after-letter (between st) b e (inl n) o w d i = rw (ended_is st n) (inr ended-safe)
after-letter (between st) b e (inr f) o w d i = go (is_ended st) refl
  where
    go : (y : Bool) → is_ended st ≡ y → (gone (step (between st) b) ≡ true) ⊎ Safe (step (between st) b)
    go true n = rw (ended_is st n) (inr ended-safe)
    go false n = let z : true ≡ false = ap in_word (sym (begin-word st b n w d)) ∙ i in never (cc)
after-letter (quoted st) b e f o w d i = rw (plain-stays st b w) (inr (quoted-safe st))
after-letter (escaped st) b e f o w d i = go (eqb b (code "n"))
  where
    go : (y : Bool) → (gone (cond y (quoted st) (between Dead)) ≡ true) ⊎ Safe (cond y (quoted st) (between Dead))
    go true = inr (quoted-safe st)
    go false = inl refl
after-letter _ b e f o w d i = ending-clash f o (λ z. never (cc))

-- ---- the walk over a word

grown : (st : State) (v w : List ℕ) → T (all_below 17 w) → run (L.word st v) w ≡ L.word st (v ++ w)
unfolding run
grown st v w t = ap (run (L.word st v)) (sym (append-nil w)) ∙ word-grows st v w [] t

module _ (long : ℕ) where
  over_word : (st : State) (v w rest : List ℕ) (began at : ℕ) → T (all_below 17 w) → T (ends_word rest) → live (L.word st (v ++ w)) ≡ false
      → place_from long (L.word st v) began at (w ++ rest) ≡ began
  unfolding place_from
  over_word st v [] [] began at t u l = rw (append-nil v) at (ap (λ (y : Bool). cond y long began) l)
  over_word st v [] (c ∷ rest) began at t u l =
      place_dead long (L.word st v) began at c rest (ends-rank c rest u) (ap (λ (w : List ℕ). live (L.word st w)) (sym (append-nil v)) ∙ l)
  over_word st v (b ∷ w) rest began at t u l =
      let e = is_true (ltb (rank b) 17) (and_l (ltb (rank b) 17) (all_below 17 w) t) in
      place-grows long (L.word st v) began at b (w ++ rest) e
      ∙ ap (λ (y : Bool). place_from long (cond y (L.word st (v ++ (b ∷ []))) (word_end st v b)) began (at + 1) (w ++ rest)) e
      ∙ over_word st (v ++ (b ∷ [])) w rest began (at + 1) (and_r (ltb (rank b) 17) (all_below 17 w) t) u
      (ap (λ (w : List ℕ). live (L.word st w)) (append_assoc v (b ∷ []) w) ∙ l)

-- ---- a fault is where the walk stops

-- the walk's test for a comment where something is missing
abbrev remark : List ℕ → ℕ → Bool
remark s b = is_semicolon b && live (step (run first s) (code " "))

byte-run : (s : List ℕ) (b : ℕ) → run first (s ++ (b ∷ [])) ≡ step (run first s) b
unfolding run
byte-run s b = run_append first s (b ∷ [])

remark_is : (s : List ℕ) (b : ℕ) → remark s b ≡ true → Comment s (b ∷ [])
remark_is s b e =
    let h = (and-eq-true_iff (is_semicolon b) (live (step (run first s) (code " ")))).0 e in
    record {
      semicolon = ap (λ (c : ℕ). c ∷ []) (eqb-true b (code ";") h.0);
      blank = (goes-exactly (s ++ (code " " ∷ []))).1 (ap live (byte-run s (code " ")) ∙ h.1);
    }

remark-not : (s : List ℕ) (b : ℕ) → (Comment s (b ∷ []) → ⊥) → remark s b ≡ false
remark-not s b n = go (remark s b) refl
  where
    go : (y : Bool) → remark s b ≡ y → y ≡ false
    go true e = absurd (n (remark_is s b e))
    go false e = refl

begins-word : (b : ℕ) (rest : List ℕ) → is_word_byte b ≡ true → is_digit b ≡ false → begins_word (b ∷ rest) ≡ true
begins-word b rest e d = let h : not (is_digit b) ≡ true = rw d in (and-eq-true_iff (is_word_byte b) (not (is_digit b))).1 (e, h)

letter_no_semicolon : (b : ℕ) (z : Bool) → is_word_byte b ≡ true → (is_semicolon b && z) ≡ false
letter_no_semicolon b z e =
    ap (λ (y : Bool). y && z) (ne_eqb b (code ";") (λ f. let z : true ≡ false = sym e ∙ ap is_word_byte f in never (cc)))

module _ (long : ℕ) (s : List ℕ) (l : live (run first s) ≡ true) (began at : ℕ) where
  abbrev x : Lex
  x = run first s

  -- at a single byte
  at_byte : (b : ℕ) (rest : List ℕ) → (ending s ≡ other → begins_word (b ∷ rest) ≡ false) → Parted s (b ∷ rest) → Stops (s ++ (b ∷ []))
      → place_from long x began at (b ∷ rest) ≡ cond (remark s b) long at
  at_byte b rest h p n =
      let f = fine-here s l in
      let g = fine-whole x (ending s) b rest f p in
      let d : live (step x b) ≡ false = ap live (sym (byte-run s b)) ∙ stops_dead (s ++ (b ∷ [])) n in
      place-stops long x began at b rest g l (ap (λ (y : Bool). y || live (step x b)) (no-word f g (in_word (step x b)) refl) ∙ d)
    where
      no-word : Fine x (ending s) → grows x b ≡ false → (y : Bool) → in_word (step x b) ≡ y → y ≡ false
      no-word f g true e =
          let k = spells x b (ending s) f g e in
          let z : true ≡ false = sym (begins-word b rest k.here.letter k.here.no_digit) ∙ h k.apart in
          never (cc)
      no-word f g false e = refl

  -- at a whole word
  at_word : (b : ℕ) (w rest : List ℕ) → ending s ≡ other → is_word_byte b ≡ true → is_digit b ≡ false → T (all_below 17 w) → T (ends_word rest)
      → Stops (s ++ (b ∷ w)) → place_from long x began at (b ∷ (w ++ rest)) ≡ at
  unfolding run
  at_word b w rest o e d t u n = go (goes (step x b)) refl
    where
      f : Fine x (ending s)
      f = fine-here s l

      g : grows x b ≡ false
      g = fine-whole x (ending s) b (w ++ rest) f (λ k. ending-clash k o (λ z. never (cc)))

      ends : live (run (step x b) w) ≡ false
      ends = ap live (sym (run_append first s (b ∷ w))) ∙ stops_dead (s ++ (b ∷ w)) n

      spelt : in_word (step x b) ≡ true → place_from long (step x b) at (at + 1) (w ++ rest) ≡ at
      spelt i =
          let k = spells x b (ending s) f g i in
          let q : step x b ≡ L.word k.st (b ∷ []) = ap (λ (y : Lex). step y b) k.at_state ∙ begin-word k.st b k.here.open_here e d in
          let m : live (L.word k.st (b ∷ w)) ≡ false = ap live (sym (ap (λ (y : Lex). run y w) q ∙ grown k.st (b ∷ []) w t)) ∙ ends in
          ap (λ (y : Lex). place_from long y at (at + 1) (w ++ rest)) q ∙ over_word long k.st (b ∷ []) w rest at (at + 1) t u m

      safe : live (step x b) ≡ true → (gone (step x b) ≡ true) ⊎ Safe (step x b) → ⊥
      safe k (inl y) = let z : true ≡ false = sym k ∙ gone-live (step x b) y in never (cc)
      safe k (inr y) = let z : true ≡ false = sym k ∙ ap live (sym (safe-run (step x b) w y t)) ∙ ends in never (cc)

      split : (i k : Bool) → in_word (step x b) ≡ i → live (step x b) ≡ k → (i || k) ≡ true → place_from long (step x b) at (at + 1) (w ++ rest) ≡ at
      split true k p q r = spelt p
      split false true p q r = absurd (safe q (after-letter x b (ending s) f o e d p))
      split false false p q r = never (cc)

      go : (y : Bool) → goes (step x b) ≡ y → place_from long x began at (b ∷ (w ++ rest)) ≡ at
      go true y = place_on long x began at b (w ++ rest) g l y ∙ split (in_word (step x b)) (live (step x b)) refl refl y
      go false y =
          place-stops long x began at b (w ++ rest) g l y
          ∙ ap (λ (z : Bool). cond z long at) (letter_no_semicolon b (live (step x (code " "))) e)

  at_piece : {u rest : List ℕ} → Piece s u rest → Parted s (u ++ rest) → Stops (s ++ u) → (Comment s u → ⊥)
      → place_from long x began at (u ++ rest) ≡ at
  at_piece (byte {rest = rest} b h) p n c = at_byte b rest h p n ∙ ap (λ (y : Bool). cond y long at) (remark-not s b c)
  at_piece (whole {w = w} {rest} o k) p n c = go w k n
    where
      go : (w : List ℕ) → Word (w ++ rest) w rest → Stops (s ++ w) → place_from long x began at (w ++ rest) ≡ at
      go [] k n = absurd k.begins
      go (b ∷ w) k n =
          at_word b w rest o (is_true (is_word_byte b) (and_l (is_word_byte b) (not (is_digit b)) k.begins))
          (not-true (is_digit b) (is_true (not (is_digit b)) (and_r (is_word_byte b) (not (is_digit b)) k.begins)))
          (and_r (ltb (rank b) 17) (all_below 17 w) k.all) k.longest n

passed : (long : ℕ) (s rest : List ℕ) → live (run first s) ≡ true
    → (n : ℕ) × (place_from long first 0 0 (s ++ rest) ≡ place_from long (run first s) n (length s) rest)
passed long s rest l =
    let h = pass long s rest first 0 0 l in
    let e : 0 + length s ≡ length s = omega arith in
    (h.0, h.1 ∙ ap (λ (k : ℕ). place_from long (run first s) h.0 k rest) e)

-- A line's fault is where the walk stops.
pub located : {line : List ℕ} {p : ℕ} → Fault line p → place line ≡ p
unfolding place place_from rank
located (stands {s} {u} {rest} piece p c n k) =
    let l = (goes-exactly s).0 c in
    let h = passed (length (s ++ (u ++ rest))) s (u ++ rest) l in
    h.1 ∙ at_piece (length (s ++ (u ++ rest))) s l h.0 (length s) piece p n k
located (lacks {s} c n) =
    let l = (goes-exactly s).0 c in
    let h = passed (length s) s [] l in
    ap (place_from (length s) first 0 0) (sym (append-nil s)) ∙ h.1 ∙ ap (λ (y : Bool). cond y (length s) h.0) l
located (lacks-before {s} {u} rest c n k) =
    let l = (goes-exactly s).0 c in
    let long = length (s ++ (u ++ rest)) in
    let h = passed long s (u ++ rest) l in
    h.1 ∙ ap (λ (v : List ℕ). place_from long (run first s) h.0 (length s) (v ++ rest)) k.semicolon
    ∙ at_byte long s l h.0 (length s) (code ";") rest (λ e. refl) (λ e. tt) (subst (λ (v : List ℕ). Stops (s ++ v)) k.semicolon n)
    ∙ ap (λ (y : Bool). cond y long (length s)) (ap live (sym (byte-run s (code " "))) ∙ (goes-exactly (s ++ (code " " ∷ []))).0 k.blank)

-- ---- and a line of wrong form has one

-- the walk spells a word that began at a place
record Spelling (s : List ℕ) (x : Lex) (began : ℕ) : Type 0 where
  front : List ℕ
  v : List ℕ
  st : State
  split : s ≡ front ++ v
  spelt : x ≡ L.word st v
  before : run first front ≡ between st
  alive : lives st ≡ true
  apart : ending front ≡ other
  begins_so : T (begins_word v)
  all : T (all_below 17 v)
  began_is : began ≡ length front

Carries : List ℕ → Lex → ℕ → Type 0
Carries s x began = ((in_word x ≡ false) × (live x ≡ true)) ⊎ Spelling s x began

ending-word : {X : Type 0} {e f : Ending} → e ≡ f → e ≡ word → (f ≡ word → ⊥) → X
ending-word p q n = absurd (n (sym p ∙ q))

-- a whole word that may not stand
word_fault : (s rest : List ℕ) (began : ℕ) → Spelling s (run first s) began → live (run first s) ≡ false → T (ends_word rest) → Fault (s ++ rest) began
word_fault s rest began k d u =
    let f : Fault (k.front ++ (k.v ++ rest)) (length k.front) =
    stands (whole k.apart (record { split = refl; begins = k.begins_so; all = k.all; longest = u }))
    (λ e. ending-word k.apart e (λ z. never (cc)))
    ((goes-exactly k.front).1 (ap live k.before ∙ k.alive))
    (dead_stops (k.front ++ k.v) (ap (λ (l : List ℕ). live (run first l)) (sym k.split) ∙ d))
    (λ c. subst (λ (l : List ℕ). T (begins_word l)) c.semicolon k.begins_so) in
    let e : k.front ++ (k.v ++ rest) ≡ s ++ rest = sym (append_assoc k.front k.v rest) ∙ ap (λ (l : List ℕ). l ++ rest) (sym k.split) in
    subst (λ (n : ℕ). Fault (s ++ rest) n) (sym k.began_is) (subst (λ (l : List ℕ). Fault l (length k.front)) e f)

all_more : (v : List ℕ) (b : ℕ) → T (all_below 17 v) → ltb (rank b) 17 ≡ true → T (all_below 17 (v ++ (b ∷ [])))
all_more [] b t e = rw e tt
all_more (c ∷ v) b t e =
    let f = is_true (ltb (rank c) 17) (and_l (ltb (rank c) 17) (all_below 17 v) t) in
    rw f (all_more v b (and_r (ltb (rank c) 17) (all_below 17 v) t) e)

begins-more : (v : List ℕ) (b : ℕ) → T (begins_word v) → T (begins_word (v ++ (b ∷ [])))
begins-more [] b t = absurd t
begins-more (c ∷ v) b t = t

spells_on : (s : List ℕ) (b began : ℕ) → Spelling s (run first s) began → ltb (rank b) 17 ≡ true
    → Spelling (s ++ (b ∷ [])) (run first (s ++ (b ∷ []))) began
spells_on s b began k e =
    record {
      front = k.front;
      v = k.v ++ (b ∷ []);
      st = k.st;
      split = ap (λ (l : List ℕ). l ++ (b ∷ [])) k.split ∙ append_assoc k.front k.v (b ∷ []);
      spelt =
          byte-run s b ∙ ap (λ (x : Lex). step x b) k.spelt
          ∙ ap (λ (y : Bool). cond y (L.word k.st (k.v ++ (b ∷ []))) (word_end k.st k.v b)) e;
      before = k.before;
      alive = k.alive;
      apart = k.apart;
      begins_so = begins-more k.v b k.begins_so;
      all = all_more k.v b k.all e;
      began_is = k.began_is;
    }

-- the longest run of a word's bytes
record Span (s : List ℕ) : Type 0 where
  w : List ℕ
  rest : List ℕ
  split : s ≡ w ++ rest
  all : T (all_below 17 w)
  ends : T (ends_word rest)

span : (s : List ℕ) → Span s
span [] = record { w = []; rest = []; split = refl; all = tt; ends = tt }
span (b ∷ s) = go (ltb (rank b) 17) refl (span s)
  where
    go : (y : Bool) → ltb (rank b) 17 ≡ y → Span s → Span (b ∷ s)
    go true e h = record { w = b ∷ h.w; rest = h.rest; split = ap (λ (l : List ℕ). b ∷ l) h.split; all = rw e h.all; ends = h.ends }
    go false e h = record { w = []; rest = b ∷ s; split = refl; all = tt; ends = rank-ends b s e }

-- a byte that stops the walk inside no word
stop-parted : (x : Lex) (e : Ending) (b : ℕ) (rest : List ℕ) → Fine x e → live x ≡ true → grows x b ≡ false → goes (step x b) ≡ false → e ≡ word
    → ltb (rank b) 17 ≡ false
unfolding begin
stop-parted (between st) e b rest (inl n) l g d w =
    let z : true ≡ false = ap (λ (s : State). goes (begin s b)) (sym (ended_is st n)) ∙ d in never (cc)
stop-parted (between st) e b rest (inr f) l g d w = ending-word f w (λ z. never (cc))
stop-parted (L.word st v) e b rest f l g d w = g
stop-parted (L.zero st) e b rest f l g d w = ending-word f w (λ z. never (cc))
stop-parted (decimal st) e b rest f l g d w = ending-word f w (λ z. never (cc))
stop-parted (prefixed st) e b rest f l g d w = ending-word f w (λ z. never (cc))
stop-parted (hexadecimal st) e b rest f l g d w = ending-word f w (λ z. never (cc))
stop-parted (quoted st) e b rest f l g d w = go (ltb (rank b) 17) refl
  where
    go : (y : Bool) → ltb (rank b) 17 ≡ y → y ≡ false
    go true q = let z : true ≡ false = sym l ∙ ap goes (sym (plain-stays st b (word_ranks b ∙ q))) ∙ d in never (cc)
    go false q = refl
stop-parted (escaped st) e b rest f l g d w = ending-word f w (λ z. never (cc))

module _ (s : List ℕ) (b : ℕ) (rest : List ℕ) (l : live (run first s) ≡ true) (g : grows (run first s) b ≡ false)
    (d : goes (step (run first s) b) ≡ false) (c : remark s b ≡ false) where
  gone-now : gone (step (run first s) b) ≡ true
  gone-now = let o = or_not (in_word (step (run first s) b)) (live (step (run first s) b)) d in dead_gone_here (step (run first s) b) o.0 o.1

  all-stop : (w : List ℕ) → Stops (s ++ (b ∷ w))
  unfolding run
  all-stop w =
      dead_stops (s ++ (b ∷ w))
      (ap live (run_append first s (b ∷ w)) ∙ gone-live (run (step (run first s) b) w) (gone-run (step (run first s) b) w gone-now))

  at_the_byte : (ending s ≡ other → begins_word (b ∷ rest) ≡ false) → Fault (s ++ (b ∷ rest)) (length s)
  at_the_byte h =
      stands (byte b h) (λ w. rank-ends b rest (stop-parted (run first s) (ending s) b rest (fine-here s l) l g d w)) ((goes-exactly s).1 l) (all-stop [])
      (λ k. let e : b ≡ code ";" = cc k.semicolon in
      let f = ap live (sym (byte-run s (code " "))) ∙ (goes-exactly (s ++ (code " " ∷ []))).0 k.blank in
      let q : is_semicolon b ≡ true = rw e in
      let z : true ≡ false = sym ((and-eq-true_iff (is_semicolon b) (live (step (run first s) (code " ")))).1 (q, f)) ∙ c in
      never (cc))

  at_the_word : ending s ≡ other → begins_word (b ∷ rest) ≡ true → Fault (s ++ (b ∷ rest)) (length s)
  at_the_word o e =
      let h = span rest in
      let k = (and-eq-true_iff (is_word_byte b) (not (is_digit b))).0 e in
      let t : T (begins_word (b ∷ h.w)) = rw e tt in
      let a : T (all_below 17 (b ∷ h.w)) = rw (rank-letter b k.0) h.all in
      let f : Fault (s ++ ((b ∷ h.w) ++ h.rest)) (length s) =
      stands (whole o (record { split = refl; begins = t; all = a; longest = h.ends })) (λ w. ending-word o w (λ z. never (cc)))
      ((goes-exactly s).1 l) (all-stop h.w)
      (λ m. let q : b ≡ code ";" = cc m.semicolon in letter-clash b k.0 (ap is_word_byte q)) in
      subst (λ (r : List ℕ). Fault (s ++ (b ∷ r)) (length s)) (sym h.split) f

  at_either : Fault (s ++ (b ∷ rest)) (length s)
  at_either = go (begins_word (b ∷ rest)) refl (ending s) refl
    where
      go : (y : Bool) → begins_word (b ∷ rest) ≡ y → (e : Ending) → ending s ≡ e → Fault (s ++ (b ∷ rest)) (length s)
      go false p e q = at_the_byte (λ o. p)
      go true p other q = at_the_word q p
      go true p word q = at_the_byte (λ o. ending-clash q o (λ z. never (cc)))
      go true p number q = at_the_byte (λ o. ending-clash q o (λ z. never (cc)))

-- one byte on
module _ (s : List ℕ) (b : ℕ) (rest : List ℕ) (began : ℕ) where
  moved_on : Fault ((s ++ (b ∷ [])) ++ rest)
      (place_from (length ((s ++ (b ∷ [])) ++ rest)) (run first (s ++ (b ∷ []))) began (length (s ++ (b ∷ []))) rest)
      → Fault (s ++ (b ∷ rest)) (place_from (length (s ++ (b ∷ rest))) (step (run first s) b) began (length s + 1) rest)
  moved_on f =
      let n : length (s ++ (b ∷ [])) ≡ length s + 1 = length-append s (b ∷ []) in
      subst (λ (x : Lex). Fault (s ++ (b ∷ rest)) (place_from (length (s ++ (b ∷ rest))) x began (length s + 1) rest)) (byte-run s b)
      (subst (λ (k : ℕ). Fault (s ++ (b ∷ rest)) (place_from (length (s ++ (b ∷ rest))) (run first (s ++ (b ∷ []))) began k rest)) n
      (subst (λ (m : List ℕ). Fault m (place_from (length m) (run first (s ++ (b ∷ []))) began (length (s ++ (b ∷ []))) rest)) (append_assoc s (b ∷ []) rest) f))

found : (rest s : List ℕ) (began : ℕ) → Carries s (run first s) began → (Right (s ++ rest) → ⊥)
    → Fault (s ++ rest) (place_from (length (s ++ rest)) (run first s) began (length s) rest)
unfolding place_from Carries
found [] s began k n = go (live (run first s)) refl k
  where
    go : (y : Bool) → live (run first s) ≡ y → Carries s (run first s) began → Fault (s ++ []) (cond (live (run first s)) (length (s ++ [])) began)
    go true e k =
        subst (λ (z : Bool). Fault (s ++ []) (cond z (length (s ++ [])) began)) (sym e)
        (subst (λ (m : List ℕ). Fault m (length m)) (sym (append-nil s))
        (lacks ((goes-exactly s).1 e) (λ r. n (subst Right (sym (append-nil s)) r))))
    go false e (inl h) = let z : true ≡ false = sym h.1 ∙ e in never (cc)
    go false e (inr h) = subst (λ (z : Bool). Fault (s ++ []) (cond z (length (s ++ [])) began)) (sym e) (word_fault s [] began h e tt)
found (b ∷ rest) s began k n =
    go (grows (run first s) b) (live (run first s)) (goes (step (run first s) b)) refl refl refl k
    (λ m c. moved_on s b rest m (found rest (s ++ (b ∷ [])) m c (λ r. n (subst Right (append_assoc s (b ∷ []) rest) r))))
  where
    x : Lex
    x = run first s

    long : ℕ
    long = length (s ++ (b ∷ rest))

    On : ℕ → Type 0
    On m = Fault (s ++ (b ∷ rest)) (place_from long (step x b) m (length s + 1) rest)

    Goal : Type 0
    Goal = Fault (s ++ (b ∷ rest)) (place_from long x began (length s) (b ∷ rest))

    is_at : (p : ℕ) → place_from long x began (length s) (b ∷ rest) ≡ p → Fault (s ++ (b ∷ rest)) p → Goal
    is_at p e f = subst (λ (q : ℕ). Fault (s ++ (b ∷ rest)) q) (sym e) f

    on : (y z : Bool) → in_word (step x b) ≡ y → live (step x b) ≡ z → (y || z) ≡ true → live x ≡ true → grows x b ≡ false
        → Carries (s ++ (b ∷ [])) (run first (s ++ (b ∷ []))) (length s)
    on true z p q r l g =
        let h = spells x b (ending s) (fine-here s l) g p in
        let w : step x b ≡ L.word h.st (b ∷ []) =
        ap (λ (y : Lex). step y b) h.at_state ∙ begin-word h.st b h.here.open_here h.here.letter h.here.no_digit in
        inr (record {
          front = s;
          v = b ∷ [];
          st = h.st;
          split = refl;
          spelt = byte-run s b ∙ w;
          before = h.at_state;
          alive = ap live (sym h.at_state) ∙ l;
          apart = h.apart;
          begins_so = rw (begins-word b [] h.here.letter h.here.no_digit) tt;
          all = rw (rank-letter b h.here.letter) tt;
          began_is = refl;
        })
    on false true p q r l g = inl (ap in_word (byte-run s b) ∙ p, ap live (byte-run s b) ∙ q)
    on false false p q r l g = never (cc)

    stopped : (y : Bool) → remark s b ≡ y → live x ≡ true → grows x b ≡ false → goes (step x b) ≡ false → Fault (s ++ (b ∷ rest)) (cond y long (length s))
    stopped true e l g d = lacks-before rest ((goes-exactly s).1 l) (all_stop_here l g d) (remark_is s b e)
      where
        all_stop_here : live x ≡ true → grows x b ≡ false → goes (step x b) ≡ false → Stops (s ++ (b ∷ []))
        all_stop_here l g d = dead_stops (s ++ (b ∷ [])) (ap live (byte-run s b) ∙ (or_not (in_word (step x b)) (live (step x b)) d).1)
    stopped false e l g d = at_either s b rest l g d e

    go : (y z v : Bool) → grows x b ≡ y → live x ≡ z → goes (step x b) ≡ v → Carries s x began
        → ((m : ℕ) → Carries (s ++ (b ∷ [])) (run first (s ++ (b ∷ []))) m → On m) → Goal
    go true z v e l d (inl h) ih = let w : true ≡ false = sym e ∙ ap (λ (i : Bool). i && ltb (rank b) 17) h.0 in never (cc)
    go true z v e l d (inr h) ih =
        is_at (place_from long (step x b) began (length s + 1) rest) (place-grows long x began (length s) b rest e)
        (ih began (inr (spells_on s b began h ((and-eq-true_iff (in_word x) (ltb (rank b) 17)).0 e).1)))
    go false false v e l d (inl h) ih = let w : true ≡ false = sym h.1 ∙ l in never (cc)
    go false false v e l d (inr h) ih =
        is_at began (place_dead long x began (length s) b rest e l)
        (word_fault s (b ∷ rest) began h l (rank-ends b rest (ap (λ (y : Lex). in_word y && ltb (rank b) 17) (sym h.spelt) ∙ e)))
    go false true true e l d k ih =
        is_at (place_from long (step x b) (length s) (length s + 1) rest) (place_on long x began (length s) b rest e l d)
        (ih (length s) (on (in_word (step x b)) (live (step x b)) refl refl d l e))
    go false true false e l d k ih =
        is_at (cond (remark s b) long (length s)) (place-stops long x began (length s) b rest e l d) (stopped (remark s b) refl l e d)

-- Every line of wrong form has a fault, where the walk stops.
pub has_fault : (line : List ℕ) → (Right line → ⊥) → Fault line (place line)
unfolding place run Carries
has_fault line n = found line [] 0 (inl (refl, refl)) n

-- ---- a line of right form has none

ending-more : (s : List ℕ) (e : Ending) (b : ℕ) → ending_from e (s ++ (b ∷ [])) ≡ cond (is_word_byte b) (goes_on (ending_from e s) b) other
unfolding ending_from
ending-more [] e b = refl
ending-more (c ∷ s) e b = ending-more s (cond (is_word_byte c) (goes_on e c) other) b

rest-line : (s rest : List ℕ) → T (no_lf (s ++ rest)) → T (no_lf rest)
rest-line [] rest t = t
rest-line (b ∷ s) rest t = rest-line s rest (and_r (not (eqb b LF)) (no_lf (s ++ rest)) t)

-- no word is open behind a single byte
byte-parted : (s : List ℕ) (b : ℕ) (rest : List ℕ) → Parted s (b ∷ rest) → (ending s ≡ other → begins_word (b ∷ rest) ≡ false)
    → ending (s ++ (b ∷ [])) ≡ word → ⊥
byte-parted s b rest p h e = go (is_word_byte b) (is_digit b) (ending s) refl refl refl (sym (ending-more s other b) ∙ e)
  where
    go : (w d : Bool) (k : Ending) → is_word_byte b ≡ w → is_digit b ≡ d → ending s ≡ k → cond w (goes_on (ending s) b) other ≡ word → ⊥
    go false d k x y z f = never (cc)
    go true d word x y z f = no_letter b x (ends-rank b rest (p z))
    go true d number x y z f = let q : number ≡ word = ap (λ (i : Ending). goes_on i b) (sym z) ∙ f in never (cc)
    go true true other x y z f =
        let q : number ≡ word = sym (ap (λ (i : Ending). goes_on i b) z ∙ ap (λ (i : Bool). cond i number word) y) ∙ f in never (cc)
    go true false other x y z f = let q : true ≡ false = sym (begins-word b rest x y) ∙ h z in never (cc)

piece-parted : {s u rest : List ℕ} → Piece s u rest → Parted s (u ++ rest) → Parted (s ++ u) rest
piece-parted (whole o k) p e = k.longest
piece-parted (byte {s = s} {rest = rest} b h) p e = absurd (byte-parted s b rest p h e)

behind-piece : (s u rest : List ℕ) → T (no_lf (s ++ (u ++ rest))) → Right (s ++ (u ++ rest)) → Parted (s ++ u) rest → CanGoOn (s ++ u)
behind-piece s u rest t r p =
    record {
      rest = rest;
      one_line = rest-line u rest (rest-line s (u ++ rest) t);
      parted = p;
      right = subst Right (sym (append_assoc s u rest)) r;
    }

pub right-none : {line : List ℕ} {p : ℕ} → T (no_lf line) → Right line → Fault line p → ⊥
right-none t r (stands {s} {u} {rest} piece p c n k) = n (behind-piece s u rest t r (piece-parted piece p))
right-none t r (lacks c n) = n r
right-none t r (lacks-before {s} {u} rest c n k) =
    n (behind-piece s u rest t r (λ e. absurd (semicolon-parted (subst (λ (v : List ℕ). ending (s ++ v) ≡ word) k.semicolon e))))
  where
    semicolon-parted : ending (s ++ (code ";" ∷ [])) ≡ word → ⊥
    semicolon-parted e = let q : other ≡ word = sym (ending-more s other (code ";")) ∙ e in never (cc)
