-- What can go on: exactly the texts after which the walk is live. From every live state a text is shown that ends the line.
use Prim.Native.Nat.{ℕ, zero, suc, ◌-◌, ◌≤◌}
use Prim.Native.Char.{code}
use mathlib.Core.Bool.{Bool, true, false, cond, ◌&&◌, ◌||◌}
use mathlib.Core.List.{List, [], ◌∷◌, ◌++◌}
use mathlib.Core.Logic.{◌↔◌, ◌⊎◌, inl, inr}
use mathlib.Core.Path.{◌≡◌, refl, sym, ap, subst, ◌∙◌}
use native.Mathlib.Omega.{arith}
use lib.Dec.{eqb, eqb-suc-zero, ltb, T}
use borrow.Author.Tests.{eqb-true, ltb-true, lt-ltb}
use Rattle.numerals.specs.Bytes.{bytes, is_digit, is_word_byte, rank}
use Rattle.numerals.specs.Digits.{ends_word}
use Rattle.numerals.specs.declared.Radix.{Radix}
use Rattle.numerals.specs.declared.Radix.TheVariants.{Decimal, Hexadecimal}
use Rattle.tokens.specs.Lines.{no_lf}
use Rattle.tokens.specs.Bytes.{is_blank, is_mark, is_quote, is_semicolon}
use Rattle.tokens.specs.Strings.{backslash, is_plain}
use Rattle.tokens.proofs.Classes.{word_ranks, no_word_no_digit, word_no_blank}
use Rattle.names.specs.Names.{word_of, register_code, registers, place_in, is_named, capital}
use Rattle.names.specs.declared.Word.TheVariants as W
use Rattle.names.specs.declared.Word as N
use Rattle.codes.specs.Registers.{IX, IY, SP, is_register}
use Rattle.expressions.specs.Reading.{mark_symbol}
use Rattle.statements.proofs.Labelling.{never}
use Rattle.faults.specs.Faults.{Ending, word, number, other, goes_on, ending_from, ending, CanGoOn}
use Rattle.faults.specs.declared.State.{State}
use Rattle.faults.specs.declared.State.TheVariants.{Start, Body, Operand, Value, Digits, IndexDot, IndexName, RegisterName, IndirectDot, IndirectName, Closing, Expression, Item, ItemDigits, ItemDone, Ended, Dead}
use Rattle.faults.specs.Forms.{put, enter, indexes, starts, word_step, number_step, text_step, mark_step, blank_step, final, lives, is_start, is_ended}
use Rattle.faults.specs.Forms as F
use Rattle.faults.specs.Walk.{Lex, between, decimal, prefixed, hexadecimal, quoted, escaped, begin, word_end, number_end, step, live, accepts, run, first, in_word}
use Rattle.faults.specs.Walk as L
use Rattle.faults.proofs.Gone.{gone, gone-step, gone-live, gone-accepts, dead_accepts, dead_gone, ended_is, run_append}
use Rattle.faults.proofs.Lexing.{begin-blank, ends-rank}
use Rattle.faults.proofs.Readings.{right-exactly}

-- ---- the walk is in a word exactly where the text ends in one, unless all is gone

abbrev pub Fine : Lex → Ending → Type 0
Fine (between st) e = (is_ended st ≡ true) ⊎ (e ≡ other)
Fine (L.word st w) e = e ≡ word
Fine (quoted st) e = Unit {0}
Fine (escaped st) e = e ≡ other
Fine _ e = e ≡ number

abbrev pub Agree : Lex → Ending → Type 0
Agree x e = (gone x ≡ true) ⊎ Fine x e

abbrev after : Ending → ℕ → Ending
after e b = cond (is_word_byte b) (goes_on e b) other

cond_agree : (y : Bool) (a b : Lex) (e : Ending) → Agree a e → Agree b e → Agree (cond y a b) e
cond_agree true a b e p q = p
cond_agree false a b e p q = q

-- a byte of no word
outside : (st : State) (b : ℕ) → is_word_byte b ≡ false → Agree (begin st b) other
unfolding begin is_blank
outside st b w = subst (λ (x : Lex). Agree x other) (sym (shape w (no_word_no_digit b w)))
    (cond_agree (is_ended st) _ _ other (inr (inl refl))
    (cond_agree (is_blank b) _ _ other (inr (inr refl))
    (cond_agree (is_quote b) _ _ other (inr tt)
    (cond_agree (is_semicolon b) _ _ other (inr (inr refl)) (cond_agree (is_mark b) _ _ other (inr (inr refl)) (inl refl))))))
  where
    shape : is_word_byte b ≡ false → is_digit b ≡ false → begin st b ≡ cond (is_ended st) (between Ended)
        (cond (is_blank b) (between (blank_step st))
        (cond (is_quote b) (quoted st)
        (cond (is_semicolon b) (between (cond (final st) Ended Dead))
        (cond (is_mark b) (between (mark_step st b)) (between Dead)))))
    shape w d = rw (w, d)

-- a byte of a word, where none is open
inside : (st : State) (b : ℕ) → is_word_byte b ≡ true → Agree (begin st b) (cond (is_digit b) number word)
unfolding begin
inside st b w = subst (λ (x : Lex). Agree x (cond (is_digit b) number word)) (sym (shape w (word_no_blank b w))) (go (is_ended st) (is_digit b) (eqb b (code "0")))
  where
    shape : is_word_byte b ≡ true → is_blank b ≡ false → begin st b ≡ cond (is_ended st) (between Ended)
        (cond (is_digit b) (cond (eqb b (code "0")) (L.zero st) (decimal st)) (L.word st (b ∷ [])))
    shape w k = rw (w, k)

    go : (n d z : Bool) → Agree (cond n (between Ended) (cond d (cond z (L.zero st) (decimal st)) (L.word st (b ∷ [])))) (cond d number word)
    go true d z = inr (inl refl)
    go false true true = inr refl
    go false true false = inr refl
    go false false z = inr refl

between_agree : (st : State) (b : ℕ) → Agree (begin st b) (after other b)
between_agree st b = go (is_word_byte b) refl
  where
    go : (w : Bool) → is_word_byte b ≡ w → Agree (begin st b) (cond w (goes_on other b) other)
    go true e = inside st b e
    go false e = outside st b e

is-word-byte : (b : ℕ) (y : Bool) → ltb (rank b) 17 ≡ y → is_word_byte b ≡ y
is-word-byte b y e = word_ranks b ∙ e

low_word_byte : (b k : ℕ) → k ≤ 17 → ltb (rank b) k ≡ true → is_word_byte b ≡ true
low_word_byte b k l e = is-word-byte b true (lt-ltb (rank b) 17 (omega (arith, ltb-true (rank b) k e)))

stays-number : (b : ℕ) → is_word_byte b ≡ true → after number b ≡ number
stays-number b e = ap (λ (y : Bool). cond y number other) e

number_agree : (st : State) (k : Radix) (b : ℕ) → Agree (number_end st k b) (after number b)
unfolding number_end
number_agree st k b = go (ltb (rank b) 17) refl
  where
    go : (y : Bool) → ltb (rank b) 17 ≡ y → Agree (cond y (between Dead) (begin (number_step st k) b)) (after number b)
    go true e = inl refl
    go false e =
        subst (λ (z : Ending). Agree (begin (number_step st k) b) z) (sym (ap (λ (y : Bool). cond y number other) (is-word-byte b false e)))
        (outside (number_step st k) b (is-word-byte b false e))

-- digits stay in the number
digits_agree : (b k : ℕ) (x y : Lex) → k ≤ 17 → ((e : Ending) → e ≡ number → Agree x e) → Agree y (after number b)
    → Agree (cond (ltb (rank b) k) x y) (after number b)
digits_agree b k x y l f h = go (ltb (rank b) k) refl
  where
    go : (z : Bool) → ltb (rank b) k ≡ z → Agree (cond z x y) (after number b)
    go true e = f (after number b) (stays-number b (low_word_byte b k l e))
    go false e = h

fine-step : (x : Lex) (b : ℕ) (e : Ending) → Fine x e → Agree (step x b) (after e b)
unfolding begin word_end
fine-step (between st) b e (inl n) = rw (ended_is st n) (inr (inl refl))
fine-step (between st) b e (inr o) = subst (λ (z : Ending). Agree (begin st b) (after z b)) (sym o) (between_agree st b)
fine-step (L.word st w) b e f = subst (λ (z : Ending). Agree (step (L.word st w) b) (after z b)) (sym f) (go (ltb (rank b) 17) refl)
  where
    go : (y : Bool) → ltb (rank b) 17 ≡ y → Agree (cond y (L.word st (w ++ (b ∷ []))) (word_end st w b)) (after word b)
    go true q = inr (ap (λ (y : Bool). cond y word other) (is-word-byte b true q))
    go false q =
        subst (λ (z : Ending). Agree (word_end st w b) z) (sym (ap (λ (y : Bool). cond y word other) (is-word-byte b false q)))
        (cond_agree (is_start st && eqb b (code ":")) (between Body) (begin (word_step st w) b) other (inr (inr refl))
        (outside (word_step st w) b (is-word-byte b false q)))
fine-step (L.zero st) b e f = subst (λ (z : Ending). Agree (step (L.zero st) b) (after z b)) (sym f)
    (digits_agree b 10 (decimal st) _ (omega arith) (λ e q. inr q) (go (eqb b (code "x")) refl))
  where
    go : (y : Bool) → eqb b (code "x") ≡ y → Agree (cond y (prefixed st) (number_end st Decimal b)) (after number b)
    go true q = inr (ap (after number) (eqb-true b (code "x") q))
    go false q = number_agree st Decimal b
fine-step (decimal st) b e f = subst (λ (z : Ending). Agree (step (decimal st) b) (after z b)) (sym f)
    (digits_agree b 10 (decimal st) _ (omega arith) (λ e q. inr q) (number_agree st Decimal b))
fine-step (prefixed st) b e f = subst (λ (z : Ending). Agree (step (prefixed st) b) (after z b)) (sym f)
    (digits_agree b 16 (hexadecimal st) _ (omega arith) (λ e q. inr q) (inl refl))
fine-step (hexadecimal st) b e f = subst (λ (z : Ending). Agree (step (hexadecimal st) b) (after z b)) (sym f)
    (digits_agree b 16 (hexadecimal st) _ (omega arith) (λ e q. inr q) (number_agree st Hexadecimal b))
fine-step (quoted st) b e f = go (is_quote b) (eqb b backslash) (is_plain b) refl refl
  where
    go : (q k p : Bool) → is_quote b ≡ q → eqb b backslash ≡ k
        → Agree (cond q (between (text_step st)) (cond k (escaped st) (cond p (quoted st) (between Dead)))) (after e b)
    go true k p x y = inr (inr (ap (after e) (eqb-true b (code "\"") x)))
    go false true p x y = inr (ap (after e) (eqb-true b backslash y))
    go false false true x y = inr tt
    go false false false x y = inl refl
fine-step (escaped st) b e f = cond_agree (eqb b (code "n")) (quoted st) (between Dead) (after e b) (inr tt) (inl refl)

agree_run : (x : Lex) (s : List ℕ) (e : Ending) → Agree x e → Agree (run x s) (ending_from e s)
unfolding run ending_from
agree_run x [] e a = a
agree_run x (b ∷ s) e (inl g) = agree_run (step x b) s (after e b) (inl (gone-step x b g))
agree_run x (b ∷ s) e (inr f) = agree_run (step x b) s (after e b) (fine-step x b e f)

pub agrees : (s : List ℕ) → Agree (run first s) (ending s)
agrees s = agree_run first s other (inr (inr refl))

-- ---- what goes on is live

pub fine-whole : (x : Lex) (e : Ending) (b : ℕ) (rest : List ℕ) → Fine x e → (e ≡ word → T (ends_word (b ∷ rest))) → (in_word x && ltb (rank b) 17) ≡ false
fine-whole (L.word st w) e b rest f h = ends-rank b rest (h f)
fine-whole _ e b rest f h = refl

-- where the walk is not live, no whole continuation is accepted
pub never-accepted : (x : Lex) (e : Ending) (rest : List ℕ) → Agree x e → live x ≡ false → (e ≡ word → T (ends_word rest))
    → accepts (run x rest) ≡ false
unfolding run
never-accepted x e rest (inl g) l h = gone-accepts x rest g
never-accepted x e [] (inr f) l h = dead_accepts x l
never-accepted x e (b ∷ rest) (inr f) l h = gone-accepts (step x b) rest (dead_gone x b l (fine-whole x e b rest f h))

goes-live : {s : List ℕ} → CanGoOn s → live (run first s) ≡ true
goes-live {s} c = go (live (run first s)) refl
  where
    go : (y : Bool) → live (run first s) ≡ y → y ≡ true
    go true e = refl
    go false e =
        let f = (right-exactly (s ++ c.rest)).0 c.right in
        let z : true ≡ false = sym f ∙ ap accepts (run_append first s c.rest) ∙ never-accepted (run first s) (ending s) c.rest (agrees s) e c.parted in
        never (cc)

-- ---- and from what is live a line of right form is reached

closers : ℕ → List ℕ
closers zero = []
closers (suc h) = code ")" ∷ closers h

abbrev finish_state : State → List ℕ
finish_state Operand = bytes ".A"
finish_state (Value i) = bytes "0"
finish_state (Digits i) = bytes "0"
finish_state IndexDot = bytes ".IX]"
finish_state IndexName = bytes "IX]"
finish_state RegisterName = bytes "A"
finish_state IndirectDot = bytes ".A]"
finish_state IndirectName = bytes "A]"
finish_state Closing = bytes "]"
finish_state (Expression true h) = code "0" ∷ code " " ∷ closers h
finish_state (Expression false h) = closers h
finish_state Item = bytes "0"
finish_state ItemDigits = bytes "0"
finish_state _ = []

shut : (h : ℕ) → begin (Expression false (suc h)) (code ")") ≡ between (Expression false h)
unfolding begin is_blank is_mark mark_symbol
shut h = let e : suc h - 1 ≡ h = omega arith in rw (eqb-suc-zero h, e)

close-all : (h : ℕ) → accepts (run (between (Expression false h)) (closers h)) ≡ true
unfolding run closers
close-all zero = refl
close-all (suc h) = ap (λ (x : Lex). accepts (run x (closers h))) (shut h) ∙ close-all h

put-final : (i : Bool) → final (put i) ≡ true
put-final true = refl
put-final false = refl

finish-state : (st : State) → lives st ≡ true → accepts (run (between st) (finish_state st)) ≡ true
unfolding run begin word_end number_end is_blank is_mark rank starts indexes register_code place_in registers is_named capital
finish-state (Value i) e = put-final i
finish-state (Digits i) e = put-final i
finish-state (Expression true h) e = close-all h
finish-state (Expression false h) e = close-all h
finish-state Dead e = never (cc)
finish-state _ e = refl

-- no blank changes what follows a word or a number
cond_same : (y : Bool) (a b : State) → blank_step a ≡ a → blank_step b ≡ b → blank_step (cond y a b) ≡ cond y a b
cond_same true a b p q = p
cond_same false a b p q = q

enter-same : (x : N.Word) → blank_step (enter x) ≡ enter x
enter-same (W.Instructs op) = refl
enter-same _ = refl

put_same : (i : Bool) → blank_step (put i) ≡ put i
put_same true = refl
put_same false = refl

indexes-same : (r : ℕ) → blank_step (indexes r) ≡ indexes r
unfolding indexes
indexes-same r = cond_same (eqb r IX) _ _ refl (cond_same (eqb r IY) _ _ refl (cond_same (eqb r SP) _ _ refl refl))

decimal-same : (k : Radix) (st : State) → blank_step st ≡ st → blank_step (F.decimal k st) ≡ F.decimal k st
decimal-same Decimal st e = e
decimal-same Hexadecimal st e = refl

word_same : (st : State) (w : List ℕ) → blank_step (word_step st w) ≡ word_step st w
word_same Start w = enter-same (word_of w)
word_same Body w = enter-same (word_of w)
word_same (Value i) w = put_same i
word_same IndexName w = indexes-same (register_code w)
word_same RegisterName w = cond_same (is_register (register_code w)) _ _ refl refl
word_same IndirectName w = cond_same (is_register (register_code w)) _ _ refl refl
word_same _ w = refl

number_same : (st : State) (k : Radix) → blank_step (number_step st k) ≡ number_step st k
number_same (Value i) k = put_same i
number_same (Digits i) k = decimal-same k (put i) (put_same i)
number_same (Expression q h) k = cond_same q _ _ refl refl
number_same ItemDigits k = decimal-same k ItemDone refl
number_same _ k = refl

after-blank : (st : State) → lives st ≡ true → blank_step st ≡ st → accepts (run (begin st (code " ")) (finish_state st)) ≡ true
unfolding run begin is_blank
after-blank st l e = go (is_ended st) refl
  where
    go : (y : Bool) → is_ended st ≡ y → accepts (run (begin st (code " ")) (finish_state st)) ≡ true
    go true n = rw (ended_is st n)
    go false n =
        ap (λ (x : Lex). accepts (run x (finish_state st))) (begin-blank st (code " ") n refl ∙ ap between e) ∙ finish-state st l

-- a text that ends the line
finish : Lex → List ℕ
finish (between st) = finish_state st
finish (L.word st w) = cond (is_start st) (code ":" ∷ []) (code " " ∷ finish_state (word_step st w))
finish (L.zero st) = code " " ∷ finish_state (number_step st Decimal)
finish (decimal st) = code " " ∷ finish_state (number_step st Decimal)
finish (prefixed st) = code "0" ∷ code " " ∷ finish_state (number_step st Hexadecimal)
finish (hexadecimal st) = code " " ∷ finish_state (number_step st Hexadecimal)
finish (quoted st) = code "\"" ∷ finish_state (text_step st)
finish (escaped st) = code "n" ∷ code "\"" ∷ finish_state (text_step st)

finish-accepts : (x : Lex) → live x ≡ true → accepts (run x (finish x)) ≡ true
unfolding run finish word_end number_end rank
finish-accepts (between st) l = finish-state st l
finish-accepts (L.word st w) l = go (is_start st) refl l
  where
    go : (y : Bool) → is_start st ≡ y → (y || lives (word_step st w)) ≡ true
        → accepts (run (L.word st w) (cond y (code ":" ∷ []) (code " " ∷ finish_state (word_step st w)))) ≡ true
    go true e l = rw e
    go false e l =
        ap (λ (y : Bool). accepts (run (cond (y && false) (between Body) (begin (word_step st w) (code " "))) (finish_state (word_step st w)))) e
        ∙ after-blank (word_step st w) l (word_same st w)
finish-accepts (L.zero st) l = after-blank (number_step st Decimal) l (number_same st Decimal)
finish-accepts (decimal st) l = after-blank (number_step st Decimal) l (number_same st Decimal)
finish-accepts (prefixed st) l = after-blank (number_step st Hexadecimal) l (number_same st Hexadecimal)
finish-accepts (hexadecimal st) l = after-blank (number_step st Hexadecimal) l (number_same st Hexadecimal)
finish-accepts (quoted st) l = finish-state (text_step st) l
finish-accepts (escaped st) l = finish-state (text_step st) l

clash : {X : Type 0} {e : Ending} {f : Ending} → e ≡ f → e ≡ word → (f ≡ word → ⊥) → X
clash p q n = absurd (n (sym p ∙ q))

finish-parted : (x : Lex) (e : Ending) → Fine x e → e ≡ word → T (ends_word (finish x))
unfolding finish rank
finish-parted (between st) e (inl n) w = rw (ended_is st n) tt
finish-parted (between st) e (inr f) w = clash f w (λ z. never (cc))
finish-parted (L.word st v) e f w = go (is_start st)
  where
    go : (y : Bool) → T (ends_word (cond y (code ":" ∷ []) (code " " ∷ finish_state (word_step st v))))
    go true = tt
    go false = tt
finish-parted (prefixed st) e f w = clash f w (λ z. never (cc))
finish-parted (escaped st) e f w = clash f w (λ z. never (cc))
finish-parted _ e f w = tt

one_line_closers : (h : ℕ) → T (no_lf (closers h))
unfolding closers
one_line_closers zero = tt
one_line_closers (suc h) = one_line_closers h

one_line_state : (st : State) → T (no_lf (finish_state st))
one_line_state (Expression true h) = one_line_closers h
one_line_state (Expression false h) = one_line_closers h
one_line_state _ = tt

one_line : (x : Lex) → T (no_lf (finish x))
unfolding finish
one_line (between st) = one_line_state st
one_line (L.word st w) = go (is_start st)
  where
    go : (y : Bool) → T (no_lf (cond y (code ":" ∷ []) (code " " ∷ finish_state (word_step st w))))
    go true = tt
    go false = one_line_state (word_step st w)
one_line (L.zero st) = one_line_state (number_step st Decimal)
one_line (decimal st) = one_line_state (number_step st Decimal)
one_line (prefixed st) = one_line_state (number_step st Hexadecimal)
one_line (hexadecimal st) = one_line_state (number_step st Hexadecimal)
one_line (quoted st) = one_line_state (text_step st)
one_line (escaped st) = one_line_state (text_step st)

live-goes : (s : List ℕ) → live (run first s) ≡ true → CanGoOn s
live-goes s l = go (agrees s)
  where
    x : Lex
    x = run first s

    go : Agree x (ending s) → CanGoOn s
    go (inl g) = let z : true ≡ false = sym l ∙ gone-live x g in never (cc)
    go (inr f) =
        record {
          rest = finish x;
          one_line = one_line x;
          parted = finish-parted x (ending s) f;
          right = (right-exactly (s ++ finish x)).1 (ap accepts (run_append first s (finish x)) ∙ finish-accepts x l);
        }

-- A text can go on to a line of right form exactly where the walk over it is live.
pub goes-exactly : (s : List ℕ) → CanGoOn s ↔ (live (run first s) ≡ true)
goes-exactly s = (goes-live, live-goes s)
