-- Rows of DATA that are easily misread, settled one by one by computing them.
use Prim.Native.Nat.{ℕ}
use Prim.Native.String.{String}
use mathlib.Core.Bool.{true, false}
use mathlib.Core.List.{List, [], ◌∷◌, ◌++◌}
use mathlib.Core.Path.{◌≡◌, refl}
use Rattle.numerals.specs.Bytes.{bytes, rank}
use Rattle.numerals.specs.Digits.{worth_after}
use Rattle.numerals.specs.Reading.{run, digits_at, radix_at, unsigned_at}
use Rattle.numerals.specs.declared.Radix.TheVariants.{Decimal}
use Rattle.tokens.specs.Bytes.{is_blank, is_mark}
use Rattle.tokens.specs.Reading.{blanks, closing, token_here, token_at, tokens_within, tokens_from}
use Rattle.values.specs.Values.{numeral}
use Rattle.items.specs.Items.{Item, number, string, Items, cells_of, all_in_range}
use Rattle.items.specs.Reading.{characters, item, reads, walk, items_read}
use Rattle.items.specs.Writing.{cells_from}
use Rattle.items.specs.Places.{digits_out, starts_out, out_from, number_out_in}
use Rattle.std.proofs.Common.{Result, Ok, Err}
use Rattle.items.specs.declared.ItemsFault.{ItemsFault}
use Rattle.items.specs.declared.ItemsFault.TheVariants.{WrongForm, OutOfRange}
use Rattle.items.proofs.Readings.{in_line, sound}

-- what follows the word DATA at a line's start
abbrev pub ItemsIn : String → List Item → Type 0
ItemsIn line is = Items (bytes line) (tokens_from (bytes line) 4) is

abbrev pub data_in : String → Result ℕ ItemsFault
data_in line = items_read (bytes line) (tokens_from (bytes line) 4)

abbrev pub written : String → List ℕ
written line = cells_from (bytes line) (tokens_from (bytes line) 4)

abbrev pub out_in : String → ℕ
out_in line = number_out_in (tokens_from (bytes line) 4)

read_in : (line : String) {is : List Item} → walk (bytes line) item (tokens_from (bytes line) 4) ≡ reads is → ItemsIn line is
read_in line e = sound (bytes line) (in_line (bytes line) 4) e

-- a string that holds a `\n`, and a number
abbrev pub newline_items : List Item
newline_items = string (bytes "ab" ++ (10 ∷ [])) ∷ number (numeral false Decimal 7) ∷ []

pub record Examples : Type 0 where
  -- "a backslash only as `\n` (10)"
  pub newline-items : ItemsIn "DATA \"ab\\n\",7" newline_items
  pub newline-cells : cells_of newline_items ≡ bytes "ab" ++ (10 ∷ 0 ∷ 7 ∷ [])
  pub newline-five : data_in "DATA \"ab\\n\",7" ≡ Ok 5
  -- `DATA "a",-1` of 01's printed image takes cells 6, 7 and 8
  pub minus_one_items : ItemsIn "DATA \"a\",-1" (string (bytes "a") ∷ number (numeral true Decimal 1) ∷ [])
  pub minus_one_cells : cells_of (string (bytes "a") ∷ number (numeral true Decimal 1) ∷ []) ≡ 97 ∷ 0 ∷ 65535 ∷ []
  pub empty-string : data_in "DATA \"\"" ≡ Ok 1
  pub comma_in_a_string : data_in "DATA\"a,b;\" , 0xFFFF ; 1, 2" ≡ Ok 6
  -- "one or more numbers and strings by commas"
  pub no_item : data_in "DATA" ≡ Err WrongForm
  pub only_a_comment : data_in "DATA ; 1" ≡ Err WrongForm
  pub trailing_comma : data_in "DATA 1," ≡ Err WrongForm
  pub leading_comma : data_in "DATA ,1" ≡ Err WrongForm
  pub no_comma : data_in "DATA 1 2" ≡ Err WrongForm
  pub difference : data_in "DATA 5-3" ≡ Err WrongForm
  pub label : data_in "DATA x" ≡ Err WrongForm
  pub minus-apart : data_in "DATA - 5" ≡ Err WrongForm
  pub minus-hexadecimal : data_in "DATA -0x5" ≡ Err WrongForm
  pub broken-string : data_in "DATA 1,\"a" ≡ Err WrongForm
  -- "Range -32768..65535"
  pub highest : data_in "DATA 65535" ≡ Ok 1
  pub too_high : data_in "DATA 65536" ≡ Err OutOfRange
  pub lowest : data_in "DATA -32768" ≡ Ok 1
  pub too_low : data_in "DATA -32769" ≡ Err OutOfRange
  pub too_high_in_the_midst : data_in "DATA 1,99999,\"a\"" ≡ Err OutOfRange
  -- "kept modulo 65536"
  pub numbers-written : written "DATA -2,-32768,65535,0x8000,-0" ≡ 65534 ∷ 32768 ∷ 65535 ∷ 32768 ∷ 0 ∷ []
  -- "A string takes a cell a character and a 0 cell"
  pub string-written : written "DATA \"a\\n\",0" ≡ 97 ∷ 10 ∷ 0 ∷ 0 ∷ []
  pub ends-written : written "DATA \" ~\"" ≡ 32 ∷ 126 ∷ 0 ∷ []
  pub empty-written : written "DATA \"\"" ≡ 0 ∷ []
  pub refused_not_written : written "DATA 1,65536" ≡ []
  -- form 3 comes before range 6
  pub form-first : data_in "DATA -32769," ≡ Err WrongForm
  pub form_first_of_the_rest : data_in "DATA 99999,x" ≡ Err WrongForm
  -- places, from 0: the number's first byte, its `-` included, from the left
  pub first_out : out_in "DATA 70000,80000" ≡ 5
  pub below_zero_out : out_in "DATA 1,-32769" ≡ 7
  pub out_behind_a_string : out_in "DATA \"a,70000\", 70000" ≡ 16
  pub none_out : out_in "DATA 1,\"70000\"" ≡ 0

pub examples : Examples
unfolding out_from starts_out digits_out cells_from items_read walk characters cells_of all_in_range tokens_from tokens_within token_at token_here blanks closing is_blank is_mark unsigned_at digits_at radix_at run rank worth_after
examples =
    record {
      newline-items = read_in "DATA \"ab\\n\",7" refl;
      newline-cells = refl;
      newline-five = refl;
      minus_one_items = read_in "DATA \"a\",-1" refl;
      minus_one_cells = refl;
      empty-string = refl;
      comma_in_a_string = refl;
      no_item = refl;
      only_a_comment = refl;
      trailing_comma = refl;
      leading_comma = refl;
      no_comma = refl;
      difference = refl;
      label = refl;
      minus-apart = refl;
      minus-hexadecimal = refl;
      broken-string = refl;
      highest = refl;
      too_high = refl;
      lowest = refl;
      too_low = refl;
      too_high_in_the_midst = refl;
      numbers-written = refl;
      string-written = refl;
      ends-written = refl;
      empty-written = refl;
      refused_not_written = refl;
      form-first = refl;
      form_first_of_the_rest = refl;
      first_out = refl;
      below_zero_out = refl;
      out_behind_a_string = refl;
      none_out = refl;
    }
