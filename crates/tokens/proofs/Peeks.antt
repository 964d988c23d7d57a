-- What the byte after the blanks alone tells of the token there, outcome by outcome.
use Prim.Native.Nat.{ℕ, ◌+◌, ◌≤◌, ◌<◌}
use Prim.Native.Char.{code}
use mathlib.Core.Bool.{Bool, true, false, false≢true}
use mathlib.Core.List.{List}
use mathlib.Core.Path.{◌≡◌, refl, sym, ap, ◌∙◌}
use native.Mathlib.Omega.{arith}
use lib.Dec.{eqb}
use lib.ListN.{length, get_or, drop}
use borrow.Author.Tests.{ne_eqb}
use Rattle.numerals.specs.Reading.{unsigned_at}
use Rattle.std.proofs.Common.{Option, Some, None}
use Rattle.numerals.specs.Reading.{upto}
use Rattle.numerals.specs.declared.Read.{Read}
use Rattle.numerals.specs.declared.Numeral.{Numeral}
use Rattle.tokens.specs.Bytes.{is_mark}
use Rattle.tokens.specs.Marks.{mark_of}
use Rattle.tokens.specs.Reading.{blanks, Closing, after, never, closing, number_token, string_token, token_here, token_at}
use Rattle.tokens.specs.Commas.{follows_of}
use Rattle.tokens.specs.declared.Follows.TheVariants.{Comma, Over, Neither}
use Rattle.tokens.specs.declared.Token.{Token}
use Rattle.tokens.proofs.Classes.{high_no_blank, is_inside, is-mark, mark-alone}
use Rattle.tokens.proofs.Here.{here_end, here-comment, here-mark, Outcome, past, number, word, string, comment, mark, stray, outcome}

-- a number is no comma and not the line's end, found or broken
number-neither : (r : Option (Read Numeral)) (at : ℕ) (d : Bool) → follows_of (number_token r at d) ≡ Neither
number-neither (Some g) at d = refl
number-neither None at d = refl

-- nor is a string, closed or broken
string-neither : (c : Closing) (at : ℕ) (d : Bool) → follows_of (string_token c at d) ≡ Neither
string-neither (after n) at d = refl
string-neither never at d = refl

-- a byte that is no `;` and no `,` begins neither
outcome-neither : {s : List ℕ} {at : ℕ} {d : Bool} {t : Token} → Outcome s at d t → at < length s
    → (get_or s at 0 ≡ code ";" → ⊥) → (get_or s at 0 ≡ code "," → ⊥) → follows_of t ≡ Neither
outcome-neither (past h) l c k = absurd (omega arith)
outcome-neither {s} {at} {d} (number h g) l c k = number-neither (unsigned_at s at) at d
outcome-neither (word h g w) l c k = refl
outcome-neither {s} {at} {d} (string h e) l c k = string-neither (closing (drop (at + 1) s)) at d
outcome-neither (comment h e) l c k = absurd (c e)
outcome-neither {s} {at} (mark h m) l c k = rw (ne_eqb (get_or s at 0) 44 k)
outcome-neither (stray h n) l c k = refl

-- `;` begins a comment
semicolon-here : (s : List ℕ) (at : ℕ) (d : Bool) → at < length s → get_or s at 0 ≡ code ";" → follows_of (token_here s at d) ≡ Over
semicolon-here s at d l e = ap follows_of (here-comment s at d l (rw e) (rw e) (rw e))

comma_is_mark : (b : ℕ) → b ≡ code "," → is_mark b ≡ true
comma_is_mark b e =
    is-mark b (rw e) (high_no_blank b (omega arith)) (rw e) (rw e) (is_inside 32 126 b (omega arith) (omega arith))

-- `,` is a mark, and takes its byte
comma-here : (s : List ℕ) (at : ℕ) (d : Bool) → at < length s → get_or s at 0 ≡ code ","
    → follows_of (token_here s at d) ≡ Comma (record { at = at + 1 })
comma-here s at d l e = ap follows_of (here-mark s at d l (rw e) (rw e) (rw e) (comma_is_mark (get_or s at 0) e)) ∙ rw e

-- a number is no mark, found or broken
number_no_mark : (r : Option (Read Numeral)) (at : ℕ) (d : Bool) → mark_of (number_token r at d) ≡ None
number_no_mark (Some g) at d = refl
number_no_mark None at d = refl

-- nor is a string, closed or broken
string_no_mark : (c : Closing) (at : ℕ) (d : Bool) → mark_of (string_token c at d) ≡ None
string_no_mark (after n) at d = refl
string_no_mark never at d = refl

-- a byte that is no mark begins none
outcome_no_mark : {s : List ℕ} {at : ℕ} {d : Bool} {t : Token} → Outcome s at d t → is_mark (get_or s at 0) ≡ false → mark_of t ≡ None
outcome_no_mark (past h) k = refl
outcome_no_mark {s} {at} {d} (number h g) k = number_no_mark (unsigned_at s at) at d
outcome_no_mark (word h g w) k = refl
outcome_no_mark {s} {at} {d} (string h e) k = string_no_mark (closing (drop (at + 1) s)) at d
outcome_no_mark (comment h e) k = refl
outcome_no_mark (mark h m) k = absurd (false≢true (sym k ∙ m))
outcome_no_mark (stray h n) k = refl

-- a mark's byte is that mark, and is taken
mark-here : (s : List ℕ) (at : ℕ) (d : Bool) → at < length s → is_mark (get_or s at 0) ≡ true
    → mark_of (token_here s at d) ≡ Some (upto (get_or s at 0) (record { at = at + 1 }))
mark-here s at d l m =
    let n = mark-alone (get_or s at 0) m in
    ap mark_of (here-mark s at d l n.word n.quote n.semicolon m)

module _ (s : List ℕ) (from at : ℕ) (e : at ≡ from + blanks (drop from s)) where
  -- the token from a place on is the one that begins after the blanks there
  token-there : token_at s from ≡ token_here s at (eqb (blanks (drop from s)) 0)
  unfolding token_at
  token-there = ap (λ (p : ℕ). token_here s p (eqb (blanks (drop from s)) 0)) (sym e)

  -- ---- what follows

  pub follows-past : length s ≤ at → Over ≡ follows_of (token_at s from)
  follows-past h = sym (ap follows_of (token-there ∙ here_end s at (eqb (blanks (drop from s)) 0) h))

  pub follows-comment : at < length s → get_or s at 0 ≡ code ";" → Over ≡ follows_of (token_at s from)
  follows-comment l c = sym (ap follows_of token-there ∙ semicolon-here s at (eqb (blanks (drop from s)) 0) l c)

  pub follows-comma : at < length s → get_or s at 0 ≡ code "," → Comma (record { at = at + 1 }) ≡ follows_of (token_at s from)
  follows-comma l c = sym (ap follows_of token-there ∙ comma-here s at (eqb (blanks (drop from s)) 0) l c)

  pub follows-neither : at < length s → (get_or s at 0 ≡ code ";" → ⊥) → (get_or s at 0 ≡ code "," → ⊥) → Neither ≡ follows_of (token_at s from)
  follows-neither l c k =
      sym (ap follows_of token-there ∙ outcome-neither (outcome s at (eqb (blanks (drop from s)) 0)) l c k)

  -- ---- marks

  pub mark-past : length s ≤ at → None ≡ mark_of (token_at s from)
  mark-past h = sym (ap mark_of (token-there ∙ here_end s at (eqb (blanks (drop from s)) 0) h))

  pub mark_is : at < length s → is_mark (get_or s at 0) ≡ true → Some (upto (get_or s at 0) (record { at = at + 1 })) ≡ mark_of (token_at s from)
  mark_is l m = sym (ap mark_of token-there ∙ mark-here s at (eqb (blanks (drop from s)) 0) l m)

  pub mark-none : is_mark (get_or s at 0) ≡ false → None ≡ mark_of (token_at s from)
  mark-none m = sym (ap mark_of token-there ∙ outcome_no_mark (outcome s at (eqb (blanks (drop from s)) 0)) m)
