-- One byte of the code's walk: where the word stands in the line, and what a turn leaves as it is.
use Prim.Native.Nat.{ℕ, ◌+◌, ◌≤◌, ◌<◌}
use Prim.Native.Char.{code}
use mathlib.Core.Bool.{Bool, true, false, cond, ◌&&◌, ◌||◌, and-false}
use mathlib.Core.List.{List, [], ◌∷◌, ◌++◌}
use mathlib.Core.Path.{◌≡◌, refl, sym, ap, ◌∙◌}
use native.Mathlib.Omega.{arith}
use native.Mathlib.Numerals.{add-one}
use lib.Dec.{ltb}
use lib.ListN.{length, get_or, take, drop, drop_of_length-le}
use lib.Seq.{slice, slice_empty, drop-cons, take-suc, drop-append-le, length-take-le}
use Rattle.numerals.specs.Bytes.{rank}
use Rattle.tokens.specs.Bytes.{is_blank}
use Rattle.statements.proofs.Labelling.{never}
use Rattle.numerals.specs.declared.Radix.TheVariants.{Decimal, Hexadecimal}
use Rattle.faults.specs.Forms.{word_step, number_step, blank_step, is_start, is_ended}
use Rattle.faults.specs.Walk.{Lex, between, word, zero, decimal, prefixed, hexadecimal, quoted, escaped, begin, word_end, number_end, step, live, in_word, grows, goes, place_from, place}
use Rattle.faults.specs.Inner.Stages.{spelt, opens_in}
use Rattle.faults.specs.Inner.Turns.{lex_at, place_at, stops_at, Turned}
use Rattle.faults.specs.declared.State.{State}
use Rattle.faults.specs.declared.State.TheVariants.{Start, Body, Ended}
use Rattle.faults.specs.declared.Stage.{Stage}
use Rattle.faults.specs.declared.Stage.TheVariants as G
use Rattle.std.proofs.Common.{Ok, Err}
use Rattle.faults.proofs.Opening.{step-opens}
use Rattle.faults.proofs.Places.{place-grows, place_dead, place_on, place-stops}

-- ---- what does not depend on the word

pub same_word : (x : Stage) (v w : List ℕ) → in_word (spelt x v) ≡ in_word (spelt x w)
same_word (G.Word st) v w = refl
same_word _ v w = refl

pub same-goes : (x : Stage) (v w : List ℕ) → goes (spelt x v) ≡ goes (spelt x w)
same-goes (G.Word st) v w = refl
same-goes _ v w = refl

same-opens : (x : Stage) (v w : List ℕ) → opens_in (spelt x v) ≡ opens_in (spelt x w)
same-opens (G.Word st) v w = refl
same-opens _ v w = refl

-- a word with a byte more
longer : (x : Stage) (w : List ℕ) (b : ℕ) → grows (spelt x w) b ≡ true → step (spelt x w) b ≡ spelt x (w ++ (b ∷ []))
longer (G.Word st) w b e = ap (λ (y : Bool). cond y (word st (w ++ (b ∷ []))) (word_end st w b)) e
longer _ w b e = never (cc)

-- ---- a blank begins no word

blank-begins : (st : State) → in_word (begin st (code " ")) ≡ false
unfolding begin is_blank
blank-begins st = go (is_ended st)
  where
    go : (y : Bool) → in_word (cond y (between Ended) (between (blank_step st))) ≡ false
    go true = refl
    go false = refl

no-word : (x : Lex) → in_word (step x (code " ")) ≡ false
unfolding word_end number_end rank
no-word (between st) = blank-begins st
no-word (word st w) =
    ap (λ (y : Bool). in_word (cond y (between Body) (begin (word_step st w) (code " ")))) (and-false (is_start st)) ∙ blank-begins (word_step st w)
no-word (zero st) = blank-begins (number_step st Decimal)
no-word (decimal st) = blank-begins (number_step st Decimal)
no-word (prefixed st) = refl
no-word (hexadecimal st) = blank-begins (number_step st Hexadecimal)
no-word (quoted st) = refl
no-word (escaped st) = refl

-- a blank goes on no word
pub blank-parts : (x : Lex) → grows x (code " ") ≡ false
unfolding rank
blank-parts x = and-false (in_word x)

-- so where a blank leads goes on exactly where it is live
pub blank-live : (x : Lex) (y : Stage) → spelt y (code " " ∷ []) ≡ step x (code " ") → goes (spelt y []) ≡ live (step x (code " "))
blank-live x y e =
    same-goes y [] (code " " ∷ []) ∙ ap goes e ∙ ap (λ (z : Bool). z || live (step x (code " "))) (no-word x)

-- ---- the word in the line

slice-more : (line : List ℕ) (began at : ℕ) → began ≤ at → at < length line → slice began (at + 1) line ≡ slice began at line ++ (get_or line at 0 ∷ [])
slice-more line began at l h =
    rw (add-one)
    (ap (drop began) (take-suc line at 0 h)
    ∙ drop-append-le began (take at line) (get_or line at 0 ∷ []) (omega (arith, length-take-le at line (omega arith))))

slice-one : (line : List ℕ) (at : ℕ) → at < length line → slice at (at + 1) line ≡ get_or line at 0 ∷ []
slice-one line at h = slice-more line at at (omega arith) h ∙ ap (λ (l : List ℕ). l ++ (get_or line at 0 ∷ [])) (slice_empty at line)

-- ---- a turn

module _ (line : List ℕ) (x : Stage) (began at : ℕ) (h : at < length line) where
  abbrev b : ℕ
  b = get_or line at 0

  abbrev here : Lex
  here = lex_at line x began at

  at_byte : place_at line x began at ≡ place_from (length line) here began at (b ∷ drop (at + 1) line)
  at_byte = rw (add-one) (ap (place_from (length line) here began at) (drop-cons line at 0 h))

  pub grows-here : {y : Bool} → grows (spelt x []) b ≡ y → grows here b ≡ y
  grows-here e = ap (λ (z : Bool). z && ltb (rank b) 17) (same_word x (slice began at line) []) ∙ e

  -- the word goes on
  pub turn-grows : began ≤ at → opens_in here ≤ at → grows (spelt x []) b ≡ true → Turned line x began at (Ok (record { stage = x; began = began }))
  turn-grows l o e =
      let g = grows-here e in
      let w = longer x (slice began at line) b g ∙ ap (spelt x) (sym (slice-more line began at l h)) in (
        at_byte ∙ place-grows (length line) here began at b (drop (at + 1) line) g
            ∙ ap (λ (y : Lex). place_from (length line) y began (at + 1) (drop (at + 1) line)) w,
        l,
        omega (arith, same-opens x (slice began (at + 1) line) (slice began at line)),
      )

  -- the word that ends here may not stand
  pub turn_dead : grows (spelt x []) b ≡ false → live here ≡ false → Turned line x began at (Err began)
  turn_dead e l = at_byte ∙ place_dead (length line) here began at b (drop (at + 1) line) (grows-here e) l

  module _ (y : Stage) (e : grows (spelt x []) b ≡ false) (l : live here ≡ true) (s : spelt y (b ∷ []) ≡ step here b) where
    goes-there : {z : Bool} → goes (spelt y []) ≡ z → goes (step here b) ≡ z
    goes-there g = ap goes (sym s) ∙ same-goes y (b ∷ []) [] ∙ g

    -- the byte may stand
    pub turn_on : opens_in here ≤ at → goes (spelt y []) ≡ true → Turned line x began at (Ok (record { stage = y; began = at }))
    turn_on o g =
        let w = sym s ∙ ap (spelt y) (sym (slice-one line at h)) in (
          at_byte ∙ place_on (length line) here began at b (drop (at + 1) line) (grows-here e) l (goes-there g)
              ∙ ap (λ (z : Lex). place_from (length line) z at (at + 1) (drop (at + 1) line)) w,
          omega arith,
          omega (arith, ap opens_in w, step-opens here b),
        )

    -- it may not
    pub turn-ends : {p : ℕ} → goes (spelt y []) ≡ false → p ≡ stops_at line x began at b → Turned line x began at (Err p)
    turn-ends g q = at_byte ∙ place-stops (length line) here began at b (drop (at + 1) line) (grows-here e) l (goes-there g) ∙ sym q

-- ---- the whole line

pub from_start : (line : List ℕ) → place line ≡ place_at line (G.Between Start) 0 0
unfolding place
from_start line = refl

-- at the line's end
pub at-end : (line : List ℕ) (x : Stage) (began at : ℕ) → length line ≤ at → at ≤ length line
    → place_at line x began at ≡ cond (live (lex_at line x began (length line))) (length line) began
unfolding place_from
at-end line x began at h l =
    let e : at ≡ length line = omega arith in
    rw (drop_of_length-le line h) (ap (λ (n : ℕ). cond (live (lex_at line x began n)) (length line) began) e)
