-- Decimals as they are written, with no zero in front (01: "WRINT writes signed decimal"; and the numbers of "The printed image").
use Rattle.std.specs.Prelude.{ℕ, zero, suc, ◌+◌, ◌-◌, ◌/◌, ◌%◌, Bool, true, cond, not, List, [], ◌∷◌, ◌++◌, ◌≡◌, ltb, eqb, T, length, replicate}
use Prim.Native.Char.{code}
use Rattle.numerals.specs.Digits.{Digits, worth}
use Rattle.numerals.specs.declared.Written.{Written}

-- a first digit 0 stands alone
abbrev pub no_leading_zero : List ℕ → Bool
no_leading_zero [] = true
no_leading_zero (d ∷ []) = true
no_leading_zero (d ∷ e ∷ ds) = not (eqb d (code "0"))

-- the rule: a text is the decimal of n
pub record DecimalOf (n : ℕ) (text : List ℕ) : Type 0 where
  pub are-digits : Digits 10 text
  pub worth_is : worth 10 text ≡ n
  pub no_zero : T (no_leading_zero text)

-- a digit's byte
abbrev pub digit_byte : ℕ → ℕ
digit_byte d = code "0" + d

-- the last `places` digits of n at most, with no zeros in front, before what is written already
unfoldable pub decimal_before : ℕ → ℕ → List ℕ → List ℕ
decimal_before zero n done = done
decimal_before (suc places) n done =
    cond (ltb n 10) (digit_byte (n % 10) ∷ done) (decimal_before places (n / 10) (digit_byte (n % 10) ∷ done))

-- the decimal of a number of 10 digits at most; `proofs/Top.antt` shows that it is the rule's only text
unfoldable pub decimal : ℕ → List ℕ
decimal n = decimal_before 10 n []

-- "WRINT writes signed decimal": of a cell, read as two's complement
unfoldable pub signed_decimal : ℕ → List ℕ
signed_decimal x = cond (ltb x 32768) (decimal x) (code "-" ∷ decimal (65536 - x))

-- a text of 11 bytes at most, at the end of its 11 places, with zeros before it
unfoldable pub written : List ℕ → Written
written text = record { bytes = replicate (11 - length text) 0 ++ text; start = 11 - length text }
