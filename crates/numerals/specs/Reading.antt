-- The number at a place of a text, as a function; `proofs/Top.antt` shows that it finds exactly the rule's numbers.
use Rattle.std.specs.Prelude.{ℕ, suc, ◌+◌, Bool, true, false, cond, ◌&&◌, List, [], ◌∷◌, ltb, eqb, length, get_or, take, drop}
use Prim.Native.Char.{code}
use Rattle.numerals.specs.Bytes.{rank}
use Rattle.numerals.specs.Digits.{worth, ends_word}
use Rattle.numerals.specs.Numbers.{base, prefix, cut, kept_of}
use Rattle.numerals.specs.declared.Radix.{Radix}
use Rattle.numerals.specs.declared.Radix.TheVariants.{Decimal, Hexadecimal}
use Rattle.std.specs.Prelude.{Option, Some, None, unwrap_or}
use Rattle.numerals.specs.declared.Cursor.{Cursor}
use Rattle.numerals.specs.declared.Read.{Read}
use Rattle.numerals.specs.declared.Numeral.{Numeral}

-- what was read, up to the cursor after it
abbrev pub upto : {A : Type 0} → A → Cursor → Read A
upto v c = record { value = v; next = c }

-- how many bytes at the head of a text rank below k
unfoldable pub run : ℕ → List ℕ → ℕ
run k [] = 0
run k (b ∷ bs) = cond (ltb (rank b) k) (suc (run k bs)) 0

-- the longest run of digits from a place on, if there is one and no byte of a word follows it
unfoldable pub digits_at : Bool → Radix → List ℕ → ℕ → Option (Read Numeral)
digits_at below k s from =
    let n : ℕ = run (base k) (drop from s) in
    cond (ltb 0 n && ends_word (drop (from + n) s))
    (Some (upto (record { negative = below; radix = k; magnitude = cut (worth (base k) (take n (drop from s))) }) (record { at = from + n })))
    None

-- the radix whose prefix stands at a place
unfoldable pub radix_at : List ℕ → ℕ → Radix
radix_at s at = cond (eqb (get_or s at 0) (code "0") && eqb (get_or s (at + 1) 0) (code "x")) Hexadecimal Decimal

-- the unsigned number at a place
unfoldable pub unsigned_at : List ℕ → ℕ → Option (Read Numeral)
unsigned_at s at = digits_at false (radix_at s at) s (at + length (prefix (radix_at s at)))

-- the number at a place
unfoldable pub number_at : List ℕ → ℕ → Option (Read Numeral)
number_at s at = cond (eqb (get_or s at 0) (code "-")) (digits_at true Decimal s (at + 1)) (unsigned_at s at)

-- "A line that isn't wholly a number as above reads 0" (ININT)
abbrev pub or_zero : Option ℕ → ℕ
or_zero o = unwrap_or o 0

abbrev pub wholly : ℕ → Option (Read Numeral) → ℕ
wholly end (Some r) = cond (eqb r.next.at end) (or_zero (kept_of r.value)) 0
wholly end None = 0

unfoldable pub line_number : List ℕ → ℕ
line_number s = wholly (length s) (number_at s 0)
