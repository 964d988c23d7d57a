-- Classes of bytes: what their ranks tell, and which of them shut one another out.
use Prim.Native.Nat.{ℕ, ◌+◌, ◌-◌, ◌≤◌, ◌<◌}
use Prim.Native.Char.{code}
use mathlib.Core.Bool.{Bool, true, false, cond, not, ◌&&◌, ◌||◌, and-false, and-eq-true_iff, false≢true}
use mathlib.Core.Path.{◌≡◌, refl, sym, ◌∙◌}
use native.Mathlib.Omega.{arith}
use lib.Dec.{leb, ltb, eqb}
use borrow.Author.Tests.{le-leb, lt-leb, lt-ltb, le-ltb, ne_eqb, leb-true, leb-false, ltb-true, ltb-false, eqb-true, eqb-false}
use Rattle.numerals.specs.Bytes.{between, is_digit, is_letter, is_word_byte, rank}
use Rattle.numerals.proofs.Ranks.{rank-low, rank_high}
use Rattle.tokens.specs.Bytes.{is_blank, is_quote, is_semicolon, is_printable, is_mark, is_stray}

module _ (least most b : ℕ) where
  pub inside : between least most b ≡ true → (least ≤ b) × (b ≤ most)
  inside e = let h = (and-eq-true_iff (leb least b) (leb b most)).0 e in (leb-true least b h.0, leb-true b most h.1)

  pub is_inside : least ≤ b → b ≤ most → between least most b ≡ true
  is_inside l m = rw (le-leb least b l, le-leb b most m)

  pub below : b < least → between least most b ≡ false
  below h = rw (lt-leb least b h)

  pub above : most < b → between least most b ≡ false
  above h = rw (lt-leb b most h) (and-false (leb least b))

module _ (b : ℕ) where
  -- digits rank below 10
  pub digit_ranks : is_digit b ≡ ltb (rank b) 10
  unfolding rank
  digit_ranks = go (is_digit b) (between 65 70 b) (between 97 102 b) (is_word_byte b) refl refl refl
    where
      go : (d c m w : Bool) → is_digit b ≡ d → between 65 70 b ≡ c → between 97 102 b ≡ m
          → d ≡ ltb (cond d (b - 48) (cond c (b - 65 + 10) (cond m (b - 97 + 10) (cond w 16 17)))) 10
      go true c m w e f g = sym (lt-ltb (b - 48) 10 (omega (arith, inside 48 57 b e)))
      go false true m w e f g = sym (le-ltb (b - 65 + 10) 10 (omega arith))
      go false false true w e f g = sym (le-ltb (b - 97 + 10) 10 (omega arith))
      go false false false true e f g = refl
      go false false false false e f g = refl

  -- bytes of words rank below 17
  pub word_ranks : is_word_byte b ≡ ltb (rank b) 17
  unfolding rank
  word_ranks = go (is_digit b) (between 65 70 b) (between 97 102 b) (is_letter b || eqb b 95) refl refl refl refl
    where
      go : (d c m w : Bool) → is_digit b ≡ d → between 65 70 b ≡ c → between 97 102 b ≡ m → (is_letter b || eqb b 95) ≡ w
          → (d || w) ≡ ltb (cond d (b - 48) (cond c (b - 65 + 10) (cond m (b - 97 + 10) (cond (d || w) 16 17)))) 17
      go true c m w e f g h = sym (lt-ltb (b - 48) 17 (omega (arith, inside 48 57 b e)))
      go false true m w e f g h =
          let i = inside 65 70 b f in
          sym h ∙ rw (is_inside 65 90 b i.0 (omega arith)) (sym (lt-ltb (b - 65 + 10) 17 (omega arith)))
      go false false true w e f g h =
          let i = inside 97 102 b g in
          sym h ∙ rw (above 65 90 b (omega arith), is_inside 97 122 b i.0 (omega arith)) (sym (lt-ltb (b - 97 + 10) 17 (omega arith)))
      go false false false true e f g h = refl
      go false false false false e f g h = refl

  pub is_digit_lem : rank b < 10 → is_digit b ≡ true
  is_digit_lem h = digit_ranks ∙ lt-ltb (rank b) 10 h

  pub no_digit : 10 ≤ rank b → is_digit b ≡ false
  no_digit h = digit_ranks ∙ le-ltb (rank b) 10 h

  pub is_word_lem : rank b < 17 → is_word_byte b ≡ true
  is_word_lem h = word_ranks ∙ lt-ltb (rank b) 17 h

  pub no-word : 17 ≤ rank b → is_word_byte b ≡ false
  no-word h = word_ranks ∙ le-ltb (rank b) 17 h

  -- so a byte of no word is no digit
  pub no_word_no_digit : is_word_byte b ≡ false → is_digit b ≡ false
  no_word_no_digit e = no_digit (omega (arith, ltb-false (rank b) 17 (sym word_ranks ∙ e)))

  pub low_no_word : b < 48 → is_word_byte b ≡ false
  low_no_word h = no-word (omega (arith, rank-low b h))

  pub high_no_word : 126 < b → is_word_byte b ≡ false
  high_no_word h = no-word (omega (arith, rank_high b (omega arith)))

  blank-low : is_blank b ≡ true → b < 33
  unfolding is_blank
  blank-low e = go (eqb b 32) (eqb b 9) refl refl e
    where
      go : (x y : Bool) → eqb b 32 ≡ x → eqb b 9 ≡ y → (x || (y || eqb b 13)) ≡ true → b < 33
      go true y p q e = omega (arith, eqb-true b 32 p)
      go false true p q e = omega (arith, eqb-true b 9 q)
      go false false p q e = omega (arith, eqb-true b 13 e)

  no_blank : (is_blank b ≡ true → ⊥) → is_blank b ≡ false
  no_blank n = go (is_blank b) refl
    where
      go : (x : Bool) → is_blank b ≡ x → x ≡ false
      go true e = absurd (n e)
      go false e = refl

  pub high_no_blank : 32 < b → is_blank b ≡ false
  high_no_blank h = no_blank (λ e. omega (arith, blank-low e))

  pub word_no_blank : is_word_byte b ≡ true → is_blank b ≡ false
  word_no_blank e = no_blank (λ f. let z : ◌≡◌ {A = ℕ} 0 1 = cc (low_no_word (omega (arith, blank-low f))) in omega arith)

  -- marks
  pub no_low_mark : b < 33 → is_mark b ≡ false
  unfolding is_mark is_blank
  no_low_mark h = go (eqb b 32) refl
    where
      go : (x : Bool) → eqb b 32 ≡ x → is_mark b ≡ false
      go true e = let f = eqb-true b 32 e in rw f
      go false e = rw (below 32 126 b (omega (arith, eqb-false b 32 e)))

  pub no_high_mark : 126 < b → is_mark b ≡ false
  unfolding is_mark
  no_high_mark h = rw (above 32 126 b h)

  pub is-mark : is_word_byte b ≡ false → is_blank b ≡ false → is_quote b ≡ false → is_semicolon b ≡ false → is_printable b ≡ true
      → is_mark b ≡ true
  unfolding is_mark
  is-mark w k q c p = rw (w, p, k, q, c)

  pub mark_by_rank : 32 < b → b ≤ 126 → (b ≡ code "\"" → ⊥) → (b ≡ code ";" → ⊥) → leb 17 (rank b) ≡ is_mark b
  unfolding is_mark
  mark_by_rank l m q c =
      rw (is_inside 32 126 b (omega arith) m, high_no_blank l, ne_eqb b 34 q, ne_eqb b 59 c, word_ranks) (go (ltb (rank b) 17) refl)
    where
      go : (x : Bool) → ltb (rank b) 17 ≡ x → leb 17 (rank b) ≡ (not x && true)
      go true e = lt-leb 17 (rank b) (ltb-true (rank b) 17 e)
      go false e = le-leb 17 (rank b) (ltb-false (rank b) 17 e)

  -- what a mark is not
  pub record NoOther : Type 0 where
    pub word : is_word_byte b ≡ false
    pub quote : is_quote b ≡ false
    pub semicolon : is_semicolon b ≡ false
    pub blank : is_blank b ≡ false

  pub mark-alone : is_mark b ≡ true → NoOther
  unfolding is_mark
  mark-alone e = go (is_printable b) (is_word_byte b) (is_blank b) (is_quote b) (is_semicolon b) refl refl refl refl e
    where
      go : (p w k q c : Bool) → is_word_byte b ≡ w → is_blank b ≡ k → is_quote b ≡ q → is_semicolon b ≡ c
          → ((p && not w) && (not k && (not q && not c))) ≡ true → NoOther
      go true false false false false w k q c e = record { word = w; quote = q; semicolon = c; blank = k }
      go true false false false true w k q c e = absurd (false≢true e)
      go true false false true c' w k q c e = absurd (false≢true e)
      go true false true q' c' w k q c e = absurd (false≢true e)
      go true true k' q' c' w k q c e = absurd (false≢true e)
      go false w' k' q' c' w k q c e = absurd (false≢true e)

  -- what a stray byte is not
  pub record StrayAlone : Type 0 where
    pub alone : NoOther
    pub no_mark : is_mark b ≡ false

  pub stray-alone : is_stray b ≡ true → StrayAlone
  unfolding is_stray
  stray-alone e = go (leb 32 b) (leb b 126) (is_blank b) refl refl refl e
    where
      go : (x y k : Bool) → leb 32 b ≡ x → leb b 126 ≡ y → is_blank b ≡ k → (not (x && y) && not k) ≡ true → StrayAlone
      go true true k p q r e = absurd (false≢true e)
      go true false true p q r e = absurd (false≢true e)
      go true false false p q r e =
          let h = leb-false b 126 q in
          record {
            alone = record { word = high_no_word h; quote = ne_eqb b 34 (omega arith); semicolon = ne_eqb b 59 (omega arith); blank = r };
            no_mark = no_high_mark h;
          }
      go false y true p q r e = absurd (false≢true e)
      go false y false p q r e =
          let h = leb-false 32 b p in
          record {
            alone =
                record { word = low_no_word (omega arith); quote = ne_eqb b 34 (omega arith); semicolon = ne_eqb b 59 (omega arith); blank = r };
            no_mark = no_low_mark (omega arith);
          }

  -- what is nothing else is a stray byte
  pub is-stray : NoOther → is_mark b ≡ false → is_stray b ≡ true
  unfolding is_stray
  is-stray n m = go (is_printable b) refl
    where
      go : (p : Bool) → is_printable b ≡ p → (not p && not (is_blank b)) ≡ true
      go true e = let z : ◌≡◌ {A = ℕ} 0 1 = cc (is-mark n.word n.blank n.quote n.semicolon e) in absurd (omega arith)
      go false e = rw n.blank
