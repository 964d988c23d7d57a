-- A byte's tests in the code, each with where it leads.
use Prim.Native.Nat.{ℕ, ◌≤◌, ◌<◌}
use Prim.Native.Char.{code}
use mathlib.Core.Bool.{Bool, true, false, cond, ◌&&◌, and-false}
use mathlib.Core.List.{List, [], ◌∷◌}
use mathlib.Core.Path.{◌≡◌, ap, ◌∙◌}
use native.Mathlib.Omega.{arith}
use mathlib.Core.Logic.{◌⊎◌, inl, inr}
use lib.ListN.{length}
use borrow.Author.Tests.{eq-eqb, ne_eqb}
use Rattle.numerals.specs.Bytes.{rank}
use Rattle.numerals.specs.declared.Radix.{Radix}
use Rattle.tokens.specs.Bytes.{is_blank, is_mark}
use Rattle.tokens.proofs.Classes.{is_word_lem, no-word, is_digit_lem, no_digit, no_word_no_digit}
use Rattle.faults.specs.declared.Stage.{Stage}
use Rattle.faults.specs.declared.State.{State}
use Rattle.faults.specs.declared.State.TheVariants.{Ended, Dead}
use Rattle.faults.specs.Forms.{word_step, number_step, final, is_start, is_ended}
use Rattle.faults.specs.Walk.{between, word, quoted, first_digit, begin, word_end, step, live}
use Rattle.faults.specs.Inner.Stages.{opens}
use Rattle.faults.specs.Inner.Turns.{lex_at, stops_at}
use Rattle.faults.proofs.Lexing.{begin-digit, begin-word}
use Rattle.faults.proofs.Lexing as Lexing
use Rattle.faults.proofs.Opening.{word-opens, number-opens}

pub cond_is : {A : Type 0} (a z : A) {y : Bool} → y ≡ true → cond y a z ≡ a
cond_is a z e = rw e

pub cond-not : {A : Type 0} (a z : A) {y : Bool} → y ≡ false → cond y a z ≡ z
cond-not a z e = rw e

-- ---- between tokens

module _ (st : State) (b : ℕ) where
  pub begin-ended : is_ended st ≡ true → begin st b ≡ between Ended
  unfolding begin
  begin-ended e = rw e

  module _ (n : is_ended st ≡ false) where
    pub begin-first : rank b < 10 → begin st b ≡ first_digit st b
    begin-first r = begin-digit st b n (is_digit_lem b r)

    pub begin-letter : 10 ≤ rank b → rank b < 17 → begin st b ≡ word st (b ∷ [])
    begin-letter d r = begin-word st b n (is_word_lem b r) (no_digit b d)

    pub begin-quote : b ≡ code "\"" → begin st b ≡ quoted st
    begin-quote e = ap (begin st) e ∙ Lexing.begin-quote st n

    pub begin-comment : b ≡ code ";" → begin st b ≡ between (cond (final st) Ended Dead)
    begin-comment e = ap (begin st) e ∙ Lexing.begin-comment st n

    pub begin-none : is_blank b ≡ false → 17 ≤ rank b → (b ≡ code "\"" → ⊥) → (b ≡ code ";" → ⊥) → is_mark b ≡ false → begin st b ≡ between Dead
    unfolding begin
    begin-none k r q c m = let w = no-word b r in rw (n, k, w, no_word_no_digit b w, ne_eqb b (code "\"") q, ne_eqb b (code ";") c, m)

-- ---- behind a word or a number

module _ (st : State) (w : List ℕ) (b : ℕ) where
  module _ {then : State} (e : then ≡ word_step st w) where
    pub word_open : opens then < 18446744073709551615
    word_open = omega (arith, ap opens e, word-opens st w 0)

    -- the word is no label
    pub word-off : ((is_start st ≡ true) × (b ≡ code ":" → ⊥)) ⊎ (is_start st ≡ false) → begin then b ≡ word_end st w b
    unfolding word_end
    word-off (inl p) = ap (λ (s : State). begin s b) e ∙ rw (ne_eqb b (code ":") p.1, and-false (is_start st))
    word-off (inr n) = ap (λ (s : State). begin s b) e ∙ rw n

module _ (st : State) (k : Radix) (b : ℕ) where
  module _ {then : State} (e : then ≡ number_step st k) where
    pub number_open : opens st < 18446744073709551615 → opens then < 18446744073709551615
    number_open o = omega (arith, ap opens e, number-opens st k)

-- ---- where the walk stops

module _ (line : List ℕ) (x : Stage) (began at b : ℕ) where
  pub stops-comment : {y : Bool} → b ≡ code ";" → live (step (lex_at line x began at) (code " ")) ≡ y → stops_at line x began at b ≡ cond y (length line) at
  stops-comment e l = ap (λ (z : Bool). cond (z && live (step (lex_at line x began at) (code " "))) (length line) at) (eq-eqb b (code ";") e) ∙ ap (λ (z : Bool). cond z (length line) at) l
