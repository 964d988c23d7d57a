-- Worked examples (01, "What a step does"; the readings of the cases that are easy to misread).
use Prim.Native.Nat.{ℕ}
use mathlib.Core.Path.{◌≡◌, refl}
use mathlib.Core.List.{List, [], ◌∷◌, ◌++◌}
use Rattle.numerals.specs.Bytes.{rank, bytes}
use Rattle.numerals.specs.Digits.{worth_after}
use Rattle.numerals.specs.Numbers.{kept_of}
use Rattle.numerals.specs.Reading.{run, digits_at, radix_at, unsigned_at, number_at, line_number}
use Rattle.numerals.specs.Writing.{decimal_before, decimal, signed_decimal}
use Rattle.ports.specs.Overwriting.{overwrite}
use Rattle.ports.specs.Searching.{up_to, meets}
use Rattle.ports.specs.Input.{after_line, byte_taken, number_taken, passed, string_taken}
use Rattle.ports.specs.Output.{text_put, byte_put, number_put, string_put}
use Rattle.std.proofs.Common.{Ok, Err}

abbrev CR : List ℕ
CR = 13 ∷ []

abbrev LF : List ℕ
LF = 10 ∷ []

pub record Examples : Type 0 where
  -- "INCHAR takes a byte", an LF like any other; only a position at the end is 8
  pub byte_of_a_line : byte_taken (bytes "a" ++ LF) 1 ≡ Ok (record { value = 10; after = 2 })
  pub byte_at_the_end : byte_taken (bytes "a") 1 ≡ Err 8
  -- ININT takes the line with its LF; a last line without LF is a line
  pub number_of_a_line : number_taken (bytes "-5" ++ LF ++ bytes "7") 0 ≡ Ok (record { value = 65531; after = 3 })
  pub number_of_the_last_line : number_taken (bytes "-5" ++ LF ++ bytes "7") 3 ≡ Ok (record { value = 7; after = 4 })
  pub number_at_the_end : number_taken (bytes "7") 1 ≡ Err 8
  -- "A line that isn't wholly a number as above reads 0"
  pub number_with_CR : number_taken (bytes "12" ++ CR ++ LF) 0 ≡ Ok (record { value = 0; after = 4 })
  pub number_of_no_digits : number_taken LF 0 ≡ Ok (record { value = 0; after = 1 })
  pub number_out_of_range : number_taken (bytes "65536") 0 ≡ Ok (record { value = 0; after = 5 })
  -- "INSTR adds a 0 cell", and keeps CR
  pub string_with_CR : string_taken (1 ∷ 2 ∷ 3 ∷ 4 ∷ 5 ∷ []) 0 (bytes "ab" ++ CR ++ LF) 0 ≡ passed (Ok 4) (97 ∷ 98 ∷ 13 ∷ 0 ∷ 5 ∷ [])
  pub string_of_the_last_line : string_taken (1 ∷ 2 ∷ 3 ∷ []) 1 (bytes "a") 0 ≡ passed (Ok 1) (1 ∷ 97 ∷ 0 ∷ [])
  pub string_of_no_bytes : string_taken (1 ∷ []) 0 LF 0 ≡ passed (Ok 1) (0 ∷ [])
  -- "a string passing M is 5", and then takes no input; at the input's end it is 8
  pub string_past_memory : string_taken (1 ∷ 2 ∷ []) 0 (bytes "ab" ++ LF) 0 ≡ passed (Err 5) (1 ∷ 2 ∷ [])
  pub string_at_the_end : string_taken (1 ∷ []) 1 [] 0 ≡ passed (Err 8) (1 ∷ [])
  -- "WRCHAR and WRSTR write low bytes"; 256 writes byte 0 and goes on
  pub low_byte : byte_put (1 ∷ 2 ∷ []) 1 577 ≡ passed (Ok 2) (1 ∷ 65 ∷ [])
  pub low-bytes : string_put (1 ∷ 2 ∷ 3 ∷ []) 0 (256 ∷ 65 ∷ 0 ∷ []) 0 ≡ passed (Ok 2) (0 ∷ 65 ∷ 3 ∷ [])
  pub string_of_no_cells : string_put [] 0 (0 ∷ []) 0 ≡ passed (Ok 0) []
  -- "WRINT writes signed decimal"
  pub least-number : number_put (1 ∷ 2 ∷ 3 ∷ 4 ∷ 5 ∷ 6 ∷ []) 0 32768 ≡ passed (Ok 6) (bytes "-32768")
  -- room short by one is 9, and nothing changes
  pub byte-short : byte_put (1 ∷ []) 1 65 ≡ passed (Err 9) (1 ∷ [])
  pub number_short : number_put (1 ∷ 2 ∷ 3 ∷ []) 0 65236 ≡ passed (Err 9) (1 ∷ 2 ∷ 3 ∷ [])
  pub string-short : string_put (1 ∷ []) 0 (65 ∷ 66 ∷ 0 ∷ []) 0 ≡ passed (Err 9) (1 ∷ [])
  -- "a string passing M is 5 and comes before 9"
  pub no_zero_before_short : string_put [] 0 (65 ∷ 66 ∷ []) 0 ≡ passed (Err 5) []
  pub from_past_memory : string_put [] 0 (65 ∷ 0 ∷ []) 9 ≡ passed (Err 5) []

pub examples : Examples
unfolding overwrite up_to meets after_line byte_taken number_taken string_taken text_put byte_put number_put string_put rank worth_after kept_of run digits_at radix_at unsigned_at number_at line_number decimal_before decimal signed_decimal
examples =
    record {
      byte_of_a_line = refl;
      byte_at_the_end = refl;
      number_of_a_line = refl;
      number_of_the_last_line = refl;
      number_at_the_end = refl;
      number_with_CR = refl;
      number_of_no_digits = refl;
      number_out_of_range = refl;
      string_with_CR = refl;
      string_of_the_last_line = refl;
      string_of_no_bytes = refl;
      string_past_memory = refl;
      string_at_the_end = refl;
      low_byte = refl;
      low-bytes = refl;
      string_of_no_cells = refl;
      least-number = refl;
      byte-short = refl;
      number_short = refl;
      string-short = refl;
      no_zero_before_short = refl;
      from_past_memory = refl;
    }
