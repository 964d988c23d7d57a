-- What stands at a place, outcome by outcome.
use Prim.Native.Nat.{ℕ, ◌+◌, ◌≤◌, ◌<◌}
use Prim.Native.Char.{code}
use mathlib.Core.Bool.{Bool, true, false, cond}
use mathlib.Core.List.{List}
use mathlib.Core.Path.{◌≡◌, refl}
use lib.Dec.{leb}
use lib.ListN.{length, get_or, drop}
use borrow.Author.Tests.{le-leb, lt-leb, leb-true, leb-false, eqb-true}
use Rattle.numerals.specs.Bytes.{is_digit, is_word_byte}
use Rattle.numerals.specs.Reading.{run, unsigned_at}
use Rattle.tokens.specs.Bytes.{is_blank, is_quote, is_semicolon, is_mark, is_stray}
use Rattle.tokens.specs.Rows.{token}
use Rattle.tokens.specs.Reading.{closing, number_token, string_token, token_here}
use Rattle.tokens.specs.declared.Kind.TheVariants.{End, Stray, Word, Mark}
use Rattle.tokens.specs.declared.Token.{Token}
use Rattle.tokens.proofs.Classes.{no_word_no_digit, is-stray}

pub here_end : (s : List ℕ) (at : ℕ) (d : Bool) → length s ≤ at → token_here s at d ≡ token End at d at
unfolding token_here
here_end s at d h = rw (le-leb (length s) at h)

module _ (s : List ℕ) (at : ℕ) (d : Bool) (l : at < length s) where
  pub here-number : is_digit (get_or s at 0) ≡ true → token_here s at d ≡ number_token (unsigned_at s at) at d
  unfolding token_here
  here-number h = rw (lt-leb (length s) at l, h)

  pub here-word : is_digit (get_or s at 0) ≡ false → is_word_byte (get_or s at 0) ≡ true
      → token_here s at d ≡ token Word at d (at + run 17 (drop at s))
  unfolding token_here
  here-word h w = rw (lt-leb (length s) at l, w, h)

  module _ (w : is_word_byte (get_or s at 0) ≡ false) where
    pub here-string : is_quote (get_or s at 0) ≡ true → token_here s at d ≡ string_token (closing (drop (at + 1) s)) at d
    unfolding token_here
    here-string q = rw (lt-leb (length s) at l, w, no_word_no_digit (get_or s at 0) w, q)

    module _ (q : is_quote (get_or s at 0) ≡ false) where
      pub here-comment : is_semicolon (get_or s at 0) ≡ true → token_here s at d ≡ token End at d at
      unfolding token_here
      here-comment c = rw (lt-leb (length s) at l, w, no_word_no_digit (get_or s at 0) w, q, c)

      module _ (c : is_semicolon (get_or s at 0) ≡ false) where
        pub here-mark : is_mark (get_or s at 0) ≡ true → token_here s at d ≡ token (Mark (get_or s at 0)) at d (at + 1)
        unfolding token_here
        here-mark m = rw (lt-leb (length s) at l, w, no_word_no_digit (get_or s at 0) w, q, c, m)

        pub here-stray : is_mark (get_or s at 0) ≡ false → token_here s at d ≡ token Stray at d at
        unfolding token_here
        here-stray m = rw (lt-leb (length s) at l, w, no_word_no_digit (get_or s at 0) w, q, c, m)

-- which outcome there is, with what led to it
pub data Outcome (s : List ℕ) (at : ℕ) (d : Bool) : Token → Type 0 where
  past : length s ≤ at → Outcome s at d (token End at d at)
  number : at < length s → is_digit (get_or s at 0) ≡ true → Outcome s at d (number_token (unsigned_at s at) at d)
  word : at < length s → is_digit (get_or s at 0) ≡ false → is_word_byte (get_or s at 0) ≡ true
      → Outcome s at d (token Word at d (at + run 17 (drop at s)))
  string : at < length s → get_or s at 0 ≡ code "\"" → Outcome s at d (string_token (closing (drop (at + 1) s)) at d)
  comment : at < length s → get_or s at 0 ≡ code ";" → Outcome s at d (token End at d at)
  mark : at < length s → is_mark (get_or s at 0) ≡ true → Outcome s at d (token (Mark (get_or s at 0)) at d (at + 1))
  stray : at < length s → (is_blank (get_or s at 0) ≡ false → is_stray (get_or s at 0) ≡ true) → Outcome s at d (token Stray at d at)

pub outcome : (s : List ℕ) (at : ℕ) (d : Bool) → Outcome s at d (token_here s at d)
unfolding token_here
outcome s at d = go (leb (length s) at) (is_digit b) (is_word_byte b) (is_quote b) (is_semicolon b) (is_mark b) refl refl refl refl refl refl
  where
    b : ℕ
    b = get_or s at 0

    go : (o g w q c m : Bool) → leb (length s) at ≡ o → is_digit b ≡ g → is_word_byte b ≡ w → is_quote b ≡ q → is_semicolon b ≡ c → is_mark b ≡ m
        → Outcome s at d
        (cond o (token End at d at)
        (cond g (number_token (unsigned_at s at) at d)
        (cond w (token Word at d (at + run 17 (drop at s)))
        (cond q (string_token (closing (drop (at + 1) s)) at d)
        (cond c (token End at d at)
        (cond m (token (Mark b) at d (at + 1))
        (token Stray at d at)))))))
    go true g w q c m o' g' w' q' c' m' = past (leb-true (length s) at o')
    go false true w q c m o' g' w' q' c' m' = number (leb-false (length s) at o') g'
    go false false true q c m o' g' w' q' c' m' = word (leb-false (length s) at o') g' w'
    go false false false true c m o' g' w' q' c' m' = string (leb-false (length s) at o') (eqb-true b 34 q')
    go false false false false true m o' g' w' q' c' m' = comment (leb-false (length s) at o') (eqb-true b 59 c')
    go false false false false false true o' g' w' q' c' m' = mark (leb-false (length s) at o') m'
    go false false false false false false o' g' w' q' c' m' =
        stray (leb-false (length s) at o') (λ k. is-stray b (record { word = w'; quote = q'; semicolon = c'; blank = k }) m')
