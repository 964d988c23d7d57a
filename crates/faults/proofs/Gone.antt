-- Laws of the states and of single bytes: what is gone stays gone, and no line ends there.
use Prim.Native.Nat.{ℕ}
use Prim.Native.Char.{code}
use mathlib.Core.Bool.{Bool, true, false, cond, not, ◌&&◌, ◌||◌}
use mathlib.Core.List.{List, [], ◌∷◌, ◌++◌}
use mathlib.Core.Path.{◌≡◌, refl}
use lib.Dec.{eqb, ltb}
use Rattle.numerals.specs.Bytes.{is_digit, is_word_byte, rank}
use Rattle.numerals.specs.declared.Radix.{Radix}
use Rattle.numerals.specs.declared.Radix.TheVariants.{Decimal, Hexadecimal}
use Rattle.tokens.specs.Bytes.{is_blank, is_mark, is_quote, is_semicolon}
use Rattle.tokens.specs.Strings.{backslash, is_plain}
use Rattle.statements.proofs.Labelling.{never}
use Rattle.faults.specs.declared.State.{State}
use Rattle.faults.specs.declared.State.TheVariants.{Start, Value, Expression, Item, Ended, Dead}
use Rattle.faults.specs.Forms.{word_step, number_step, text_step, blank_step, final, lives, is_start, is_ended}
use Rattle.faults.specs.Walk.{Lex, between, word, zero, decimal, prefixed, hexadecimal, quoted, escaped, begin, word_end, number_end, step, live, accepts, run, in_word}

-- ---- states

pub lives-not : (st : State) → lives st ≡ false → st ≡ Dead
lives-not Dead e = refl
lives-not _ e = never (cc)

pub ended_is : (st : State) → is_ended st ≡ true → st ≡ Ended
ended_is Ended e = refl
ended_is _ e = never (cc)

-- what a blank leaves as it was
pub record Blanked (st : State) : Type 0 where
  pub again : blank_step (blank_step st) ≡ blank_step st
  pub final-same : final (blank_step st) ≡ final st
  pub ended_same : is_ended (blank_step st) ≡ is_ended st
  pub start-same : is_start (blank_step st) ≡ is_start st

pub blanked : (st : State) → Blanked st
blanked Start = record { again = refl; final-same = refl; ended_same = refl; start-same = refl }
blanked _ = record { again = refl; final-same = refl; ended_same = refl; start-same = refl }

-- where no decimal number goes on no hexadecimal one does
pub hex_not : (st : State) → lives (number_step st Decimal) ≡ false → lives (number_step st Hexadecimal) ≡ false
hex_not (Value i) e = e
hex_not (Expression q h) e = e
hex_not Item e = e
hex_not Ended e = e
hex_not _ e = refl

-- ---- what is gone

-- nothing goes on from here, however long a word grows
abbrev pub gone : Lex → Bool
gone (between st) = not (lives st)
gone (word st w) = not (lives st)
gone (zero st) = not (lives (number_step st Decimal))
gone (decimal st) = not (lives (number_step st Decimal))
gone (prefixed st) = not (lives (number_step st Hexadecimal))
gone (hexadecimal st) = not (lives (number_step st Hexadecimal))
gone (quoted st) = not (lives (text_step st))
gone (escaped st) = not (lives (text_step st))

pub not-not : (y : Bool) → not y ≡ true → y ≡ false
not-not true e = never (cc)
not-not false e = refl

pub is_not : {y : Bool} → y ≡ false → not y ≡ true
is_not e = rw e

cond-gone : (y : Bool) (a b : Lex) → gone a ≡ true → gone b ≡ true → gone (cond y a b) ≡ true
cond-gone true a b p q = p
cond-gone false a b p q = q

begin_dead : (b : ℕ) → gone (begin Dead b) ≡ true
unfolding begin
begin_dead b =
    cond-gone (is_blank b) _ _ refl
    (cond-gone (is_digit b) _ _ (cond-gone (eqb b (code "0")) _ _ refl refl)
    (cond-gone (is_word_byte b) _ _ refl (cond-gone (is_quote b) _ _ refl (cond-gone (is_semicolon b) _ _ refl (cond-gone (is_mark b) _ _ refl refl)))))

begin-gone : (st : State) (b : ℕ) → lives st ≡ false → gone (begin st b) ≡ true
begin-gone st b e = rw (lives-not st e) (begin_dead b)

number-gone : (st : State) (k : Radix) (b : ℕ) → lives (number_step st k) ≡ false → gone (number_end st k b) ≡ true
unfolding number_end
number-gone st k b e = cond-gone (ltb (rank b) 17) _ _ refl (begin-gone (number_step st k) b e)

pub gone-step : (x : Lex) (b : ℕ) → gone x ≡ true → gone (step x b) ≡ true
unfolding word_end
gone-step (between st) b e = begin-gone st b (not-not _ e)
gone-step (word st w) b e = rw (lives-not st (not-not _ e)) (cond-gone (ltb (rank b) 17) _ _ refl (begin_dead b))
gone-step (zero st) b e =
    cond-gone (ltb (rank b) 10) _ _ e
    (cond-gone (eqb b (code "x")) _ _ (is_not (hex_not st (not-not _ e))) (number-gone st Decimal b (not-not _ e)))
gone-step (decimal st) b e = cond-gone (ltb (rank b) 10) _ _ e (number-gone st Decimal b (not-not _ e))
gone-step (prefixed st) b e = cond-gone (ltb (rank b) 16) _ _ e refl
gone-step (hexadecimal st) b e = cond-gone (ltb (rank b) 16) _ _ e (number-gone st Hexadecimal b (not-not _ e))
gone-step (quoted st) b e = cond-gone (is_quote b) _ _ e (cond-gone (eqb b backslash) _ _ e (cond-gone (is_plain b) _ _ e refl))
gone-step (escaped st) b e = cond-gone (eqb b (code "n")) _ _ e refl

pub gone-run : (x : Lex) (s : List ℕ) → gone x ≡ true → gone (run x s) ≡ true
unfolding run
gone-run x [] e = e
gone-run x (b ∷ s) e = gone-run (step x b) s (gone-step x b e)

final-not : (st : State) → lives st ≡ false → final st ≡ false
final-not st e = rw (lives-not st e)

pub gone-live : (x : Lex) → gone x ≡ true → live x ≡ false
gone-live (word st w) e = rw (lives-not st (not-not _ e))
gone-live _ e = not-not _ e

pub or_not : (y z : Bool) → (y || z) ≡ false → (y ≡ false) × (z ≡ false)
or_not true z e = never (cc)
or_not false z e = (refl, e)

-- where nothing goes on no line ends
pub dead_accepts : (x : Lex) → live x ≡ false → accepts x ≡ false
dead_accepts (between st) e = final-not st e
dead_accepts (word st w) e = final-not (word_step st w) (or_not (is_start st) (lives (word_step st w)) e).1
dead_accepts (zero st) e = final-not (number_step st Decimal) e
dead_accepts (decimal st) e = final-not (number_step st Decimal) e
dead_accepts (prefixed st) e = refl
dead_accepts (hexadecimal st) e = final-not (number_step st Hexadecimal) e
dead_accepts (quoted st) e = refl
dead_accepts (escaped st) e = refl

pub gone-accepts : (x : Lex) (s : List ℕ) → gone x ≡ true → accepts (run x s) ≡ false
gone-accepts x s e = dead_accepts (run x s) (gone-live (run x s) (gone-run x s e))

-- with the byte behind a whole word that no line has there, all is gone
pub dead_gone : (x : Lex) (b : ℕ) → live x ≡ false → (in_word x && ltb (rank b) 17) ≡ false → gone (step x b) ≡ true
unfolding word_end
dead_gone (between st) b e f = gone-step (between st) b (is_not e)
dead_gone (word st w) b e f =
    let h = or_not (is_start st) (lives (word_step st w)) e in
    rw (f, h.0) (begin-gone (word_step st w) b h.1)
dead_gone (zero st) b e f = gone-step (zero st) b (is_not e)
dead_gone (decimal st) b e f = gone-step (decimal st) b (is_not e)
dead_gone (prefixed st) b e f = gone-step (prefixed st) b (is_not e)
dead_gone (hexadecimal st) b e f = gone-step (hexadecimal st) b (is_not e)
dead_gone (quoted st) b e f = gone-step (quoted st) b (is_not e)
dead_gone (escaped st) b e f = gone-step (escaped st) b (is_not e)

pub ended-run : (s : List ℕ) → run (between Ended) s ≡ between Ended
unfolding run begin
ended-run [] = refl
ended-run (b ∷ s) = ended-run s

pub run_append : (x : Lex) (s u : List ℕ) → run x (s ++ u) ≡ run (run x s) u
unfolding run
run_append x [] u = refl
run_append x (b ∷ s) u = run_append (step x b) s u
