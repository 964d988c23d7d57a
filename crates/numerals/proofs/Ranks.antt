-- The rank of a byte, stretch by stretch of the code table; digits and their bytes.
use Prim.Native.Nat.{ℕ, ◌+◌, ◌-◌, ◌≤◌, ◌<◌}
use mathlib.Core.Bool.{Bool, true, false, cond, ◌||◌}
use mathlib.Core.Path.{◌≡◌, ◌∙◌}
use native.Mathlib.Decide.{dec_lt}
use native.Mathlib.Omega.{arith}
use lib.Dec.{leb, eqb}
use borrow.Author.Tests.{le-leb, lt-leb, ne_eqb}
use Rattle.numerals.specs.Bytes.{between, rank}
use Rattle.numerals.specs.Writing.{digit_byte}

module _ (b : ℕ) where
  pub rank-low : b < 48 → rank b ≡ 17
  unfolding rank
  rank-low h = simp (lt-leb 48 b h, lt-leb 65 b (omega arith), lt-leb 97 b (omega arith), ne_eqb b 95 (omega arith))

  pub rank-digit : 48 ≤ b → b < 58 → rank b ≡ b - 48
  unfolding rank
  rank-digit l h = simp (le-leb 48 b l, le-leb b 57 (omega arith))

  -- the tests that are left past the digits, and past `F`
  past_9 : 58 ≤ b
      → rank b
      ≡ cond (between 65 70 b) (b - 65 + 10)
      (cond (between 97 102 b) (b - 97 + 10) (cond (between 65 90 b || between 97 122 b || eqb b 95) 16 17))
  unfolding rank
  past_9 l = simp (le-leb 48 b (omega arith), lt-leb b 57 l)

  past_F : 71 ≤ b → rank b ≡ cond (between 97 102 b) (b - 97 + 10) (cond (leb b 90 || between 97 122 b || eqb b 95) 16 17)
  past_F l = past_9 (omega arith) ∙ simp (le-leb 65 b (omega arith), lt-leb b 70 l)

  pub rank-mark : 58 ≤ b → b < 65 → rank b ≡ 17
  rank-mark l h = past_9 l ∙ simp (lt-leb 65 b h, lt-leb 97 b (omega arith), ne_eqb b 95 (omega arith))

  pub rank-capital : 65 ≤ b → b < 71 → rank b ≡ b - 55
  rank-capital l h = past_9 (omega arith) ∙ simp (le-leb 65 b l, le-leb b 70 (omega arith)) (omega arith)

  pub rank_other_capital : 71 ≤ b → b < 91 → rank b ≡ 16
  rank_other_capital l h = past_F l ∙ simp (lt-leb 97 b (omega arith), le-leb b 90 (omega arith))

  pub rank_high_mark : 91 ≤ b → b < 97 → (b ≡ 95 → ⊥) → rank b ≡ 17
  rank_high_mark l h n = past_F (omega arith) ∙ simp (lt-leb 97 b h, lt-leb b 90 l, ne_eqb b 95 n)

  pub rank-small : 97 ≤ b → b < 103 → rank b ≡ b - 87
  rank-small l h = past_F (omega arith) ∙ simp (le-leb 97 b l, le-leb b 102 (omega arith)) (omega arith)

  pub rank_other_small : 103 ≤ b → b < 123 → rank b ≡ 16
  rank_other_small l h = past_F (omega arith) ∙ simp (le-leb 97 b (omega arith), lt-leb b 102 l, lt-leb b 90 (omega arith), le-leb b 122 (omega arith))

  pub rank_high : 123 ≤ b → rank b ≡ 17
  rank_high l =
      past_F (omega arith)
      ∙ simp (le-leb 97 b (omega arith), lt-leb b 102 (omega arith), lt-leb b 90 (omega arith), lt-leb b 122 l, ne_eqb b 95 (omega arith))

-- ---- digits and their bytes

letters_high : (a b c : Bool) (x y : ℕ) → 10 ≤ cond a (x + 10) (cond b (y + 10) (cond c 16 17))
letters_high true b c x y = omega arith
letters_high false true c x y = omega arith
letters_high false false true x y = omega arith
letters_high false false false x y = omega arith

pub rank-byte : (d : ℕ) → d < 10 → rank (digit_byte d) ≡ d
rank-byte d h = rank-digit (48 + d) (omega arith) (omega arith) ∙ omega arith

pub byte-rank : (b : ℕ) → rank b < 10 → b ≡ digit_byte (rank b)
byte-rank b h =
    elim (dec_lt b 48) [
      | yes l ↦ absurd (omega (arith, rank-low b l))
      | no m ↦ elim (dec_lt b 58) [
        | yes l ↦ omega (arith, rank-digit b (omega arith) l)
        | no n ↦
            absurd
            (omega (
              arith,
              past_9 b (omega arith),
              letters_high (between 65 70 b) (between 97 102 b) (between 65 90 b || between 97 122 b || eqb b 95) (b - 65) (b - 97),
            ))
      ]
    ]
