-- What this crate promises, beyond the equations at its functions: what those equations' right sides mean.
use Prim.Native.Nat.{ℕ, ◌-◌, ◌≤◌, ◌<◌}
use mathlib.Core.Bool.{Bool, false}
use mathlib.Core.List.{List, [], ◌++◌}
use mathlib.Core.Logic.{◌↔◌}
use mathlib.Core.Path.{◌≡◌, sym, ◌∙◌}
use native.Mathlib.Nat.{min-eq_right}
use native.Mathlib.Omega.{arith}
use lib.Dec.{T}
use lib.ListN.{length, drop, replicate}
use mir.Syntax.{w16}
use mir.Val.{to_z}
use Rattle.numerals.specs.Digits.{worth, ends_word}
use Rattle.numerals.specs.Numbers.{Unsigned, Number, cut, value_of, kept_of}
use Rattle.numerals.specs.Reading.{unsigned_at, number_at, or_zero, line_number}
use Rattle.numerals.specs.Writing.{DecimalOf, decimal, signed_decimal, written}
use Rattle.numerals.specs.declared.Cursor.{Cursor}
use Rattle.numerals.specs.declared.Numeral.{Numeral}
use Rattle.numerals.specs.declared.Radix.{Radix}
use Rattle.numerals.specs.declared.Radix.TheVariants.{Decimal}
use Rattle.std.proofs.Common.{Some, None}
use Rattle.numerals.specs.Reading.{upto}
use Rattle.numerals.proofs.Worths as Worths
use Rattle.numerals.proofs.Worths.{cut_after}
use Rattle.numerals.proofs.Numbers as Numbers
use Rattle.numerals.proofs.Numbers.{numeral, cursor, NumberAt, UnsignedAt}
use Rattle.numerals.proofs.Decimals as Decimals
use Rattle.numerals.proofs.Filling as Filling
use Rattle.numerals.proofs.RoundTrips as RoundTrips
use Rattle.numerals.proofs.Examples as Examples
use Rattle.numerals.proofs.Examples.{Examples}

-- ---- reading

-- "Number: decimal digits, optionally with `-` directly before; or `0x` .. and one or more hex digits": the reader finds a numeral
-- and a cursor exactly where the rule has that number, from the place up to the cursor, which lies past the place and in the text.
pub number-exactly : (s : List ℕ) (at : ℕ) {n : Numeral} {c : Cursor} → (number_at s at ≡ Some (upto n c)) ↔ NumberAt s at n c
number-exactly = Numbers.number-exactly

-- Every number of the rule is found, whole: the cursor stands before what follows it.
pub number-found : {below : Bool} {k : Radix} {v : ℕ} {rest : List ℕ} (s : List ℕ) (at : ℕ) → Number (drop at s) below k v rest
    → (number_at s at ≡ Some (upto (numeral below k v) (cursor (length s - length rest)))) × (drop (length s - length rest) s ≡ rest)
number-found s at r = (Numbers.number-complete s at r, Numbers.rest-stands s at r)

-- Nothing is found exactly where the rule has no number.
pub number-absent : (s : List ℕ) (at : ℕ)
    → (number_at s at ≡ None) ↔ ((below : Bool) (k : Radix) (v : ℕ) (rest : List ℕ) → Number (drop at s) below k v rest → ⊥)
number-absent = Numbers.number-absent

-- A text begins with one number at most.
pub one_number : {text rest rest' : List ℕ} {below below' : Bool} {k k' : Radix} {v v' : ℕ}
    → Number text below k v rest → Number text below' k' v' rest' → (below ≡ below') × (k ≡ k') × (v ≡ v') × (rest ≡ rest')
one_number = Numbers.number-once

-- "Numbers here are 0..65535 with no `-`" (expressions): the same of unsigned numbers.
pub unsigned_exactly : (s : List ℕ) (at : ℕ) {n : Numeral} {c : Cursor} → (unsigned_at s at ≡ Some (upto n c)) ↔ UnsignedAt s at n c
unsigned_exactly = Numbers.unsigned_exactly

pub unsigned_found : {k : Radix} {v : ℕ} {rest : List ℕ} (s : List ℕ) (at : ℕ) → Unsigned (drop at s) k v rest
    → unsigned_at s at ≡ Some (upto (numeral false k v) (cursor (length s - length rest)))
unsigned_found = Numbers.unsigned_complete

pub unsigned_absent : (s : List ℕ) (at : ℕ)
    → (unsigned_at s at ≡ None) ↔ ((k : Radix) (v : ℕ) (rest : List ℕ) → Unsigned (drop at s) k v rest → ⊥)
unsigned_absent = Numbers.unsigned_absent

pub one_unsigned : {text rest rest' : List ℕ} {k k' : Radix} {v v' : ℕ} → Unsigned text k v rest → Unsigned text k' v' rest'
    → (k ≡ k') × (v ≡ v') × (rest ≡ rest')
one_unsigned = Numbers.unsigned_once

-- A worth cut after each digit is the whole worth cut once, however many digits there are; up to 65536 it is exact.
pub cut-once : (radix : ℕ) (ds : List ℕ) → cut_after radix 0 ds ≡ cut (worth radix ds)
cut-once radix ds = Worths.cut_at_end radix 0 ds

pub exact : (v : ℕ) → v ≤ 65536 → cut v ≡ v
exact v h = min-eq_right h

-- Zeros in front change nothing, 30,000 of them included.
pub zeros_in_front : (radix n : ℕ) (ds : List ℕ) → worth radix (replicate n 48 ++ ds) ≡ worth radix ds
zeros_in_front = Worths.worth-zeros

-- ---- lines

-- ININT: a line that is wholly a number reads the cell that keeps it, or 0 out of range.
pub line-number : {below : Bool} {k : Radix} {v : ℕ} (s : List ℕ) → Number s below k v [] → line_number s ≡ or_zero (kept_of (numeral below k v))
line-number = RoundTrips.line-number

-- "A line that isn't wholly a number as above reads 0."
pub line_other : (s : List ℕ) → ((below : Bool) (k : Radix) (v : ℕ) → Number s below k v [] → ⊥) → line_number s ≡ 0
line_other = RoundTrips.line_other

-- ---- writing

-- No zero in front: a decimal is digits worth its number, with no zero in front unless it stands alone, and no other text is.
pub decimal-right : (n : ℕ) → n < 10000000000 → DecimalOf n (decimal n)
decimal-right = Decimals.decimal-right

pub decimal-once : {n : ℕ} {text text' : List ℕ} → DecimalOf n text → DecimalOf n text' → text ≡ text'
decimal-once = Decimals.decimal-once

-- It has 1 to 10 digits, a cell's at most 5, and 6 bytes with its sign.
pub decimal-length : (n : ℕ) → (1 ≤ length (decimal n)) × (length (decimal n) ≤ 10)
decimal-length = Filling.length-decimal

pub cell-length : (x : ℕ) → x < 65536 → length (decimal x) ≤ 5
cell-length x h = Decimals.decimal-places 4 x (omega arith) (omega arith)

pub signed-length : (x : ℕ) → x < 65536 → (1 ≤ length (signed_decimal x)) × (length (signed_decimal x) ≤ 6)
signed-length = Decimals.signed-length

-- What is handed back holds the text from its start on, up to the end of its 11 bytes.
pub written-text : (text : List ℕ) → length text ≤ 11 → (drop (written text).start (written text).bytes ≡ text) × (length (written text).bytes ≡ 11)
written-text = Filling.written-text

-- ---- reading what was written

-- A decimal reads back as its number, before whatever ends a word.
pub read-decimal : (n : ℕ) (rest : List ℕ) → n ≤ 65536 → T (ends_word rest)
    → number_at (decimal n ++ rest) 0 ≡ Some (upto (record { negative = false; radix = Decimal; magnitude = n }) (cursor (length (decimal n))))
read-decimal n rest h t = rw (exact n h) at (RoundTrips.read-decimal n rest (omega arith) t)

-- "WRINT writes signed decimal": what is written of a cell is worth what the cell is as two's complement.
pub read-signed : (x : ℕ) → x < 65536
    → (n : Numeral) × (number_at (signed_decimal x) 0 ≡ Some (upto n (cursor (length (signed_decimal x))))) × (value_of n ≡ to_z w16 x)
read-signed = RoundTrips.read-signed

-- ININT reads a cell back from what WRINT wrote of it, and from its decimal.
pub line-signed : (x : ℕ) → x < 65536 → line_number (signed_decimal x) ≡ x
line-signed = RoundTrips.line-signed

pub line-decimal : (x : ℕ) → x < 65536 → line_number (decimal x) ≡ x
line-decimal = RoundTrips.line-decimal

-- ---- examples, and one reply

-- Texts that are easily misread.
pub examples : Examples
examples = Examples.examples

-- Every promise of this crate is an equation with its meaning: two replies that meet it coincide.
pub coincide : {A : Type 0} {meaning r r' : A} → r ≡ meaning → r' ≡ meaning → r ≡ r'
coincide p q = p ∙ sym q
