-- Lines that are easily misread, settled one by one by computing their rows.
use Prim.Native.Char.{code}
use Prim.Native.String.{String}
use mathlib.Core.Bool.{true, false}
use mathlib.Core.List.{List, [], ◌∷◌, ◌++◌}
use Rattle.numerals.specs.Bytes.{bytes, rank}
use Rattle.numerals.specs.Digits.{worth_after}
use Rattle.numerals.specs.Reading.{run, digits_at, radix_at, unsigned_at}
use Rattle.numerals.specs.declared.Radix.TheVariants.{Decimal, Hexadecimal}
use Rattle.tokens.specs.Bytes.{is_blank, is_mark}
use Rattle.tokens.specs.Lines.{Lines}
use Rattle.tokens.specs.Rows.{token, RowOf}
use Rattle.tokens.specs.Reading.{blanks, closing, token_here, token_at, tokens_within, tokens_from, lines_of}
use Rattle.tokens.specs.declared.Kind.TheVariants.{Stray, Word, Number, Text, Mark}
use Rattle.tokens.proofs.LinesOf.{lines-sound}
use Rattle.tokens.proofs.EveryRow.{line_row}

-- each of these lines begins with a broken token, which is its whole row
abbrev pub Strays : List String → Type 0
Strays [] = Unit {0}
Strays (line ∷ lines) = RowOf (bytes line) (token Stray 0 true 0 ∷ []) × Strays lines

pub record Examples : Type 0 where
  -- a blank before the `:`, or none
  pub colon_apart : RowOf (bytes "foo :") (token Word 0 true 3 ∷ token (Mark (code ":")) 4 false 5 ∷ [])
  pub colon_directly : RowOf (bytes "x:NOP") (token Word 0 true 1 ∷ token (Mark (code ":")) 1 true 2 ∷ token Word 2 true 5 ∷ [])
  -- no blank is owed between tokens, and a word is the longest run
  pub string_directly : RowOf (bytes "DATA\"a\"") (token Word 0 true 4 ∷ token Text 4 true 7 ∷ [])
  pub digit_in_a_word : RowOf (bytes "ORG5") (token Word 0 true 4 ∷ [])
  pub first_after_blanks : RowOf (bytes "\t x") (token Word 2 false 3 ∷ [])
  pub all_of_a_word : RowOf (bytes "AZaz_09") (token Word 0 true 7 ∷ [])
  pub first_and_last_mark : RowOf (bytes "!~") (token (Mark 33) 0 true 1 ∷ token (Mark 126) 1 true 2 ∷ [])
  -- no blank stands inside a number, and its `-` stands directly before it
  pub minus-apart : RowOf (bytes "- 5") (token (Mark (code "-")) 0 true 1 ∷ token (Number 5 Decimal) 2 false 3 ∷ [])
  pub digits-apart : RowOf (bytes "5 5") (token (Number 5 Decimal) 0 true 1 ∷ token (Number 5 Decimal) 2 false 3 ∷ [])
  pub minus_directly : RowOf (bytes "-5") (token (Mark (code "-")) 0 true 1 ∷ token (Number 5 Decimal) 1 true 2 ∷ [])
  pub hexadecimal : RowOf (bytes "/0xfF") (token (Mark (code "/")) 0 true 1 ∷ token (Number 255 Hexadecimal) 1 true 5 ∷ [])
  pub too_large : RowOf (bytes "99999") (token (Number 65536 Decimal) 0 true 5 ∷ [])
  -- "Strings hold 32..126"
  pub first_and_last_character : RowOf (bytes "\" ~\"") (token Text 0 true 4 ∷ [])
  pub before_the_first : RowOf (34 ∷ 31 ∷ 34 ∷ []) (token Stray 0 true 0 ∷ [])
  pub after_the_last : RowOf (34 ∷ 127 ∷ 34 ∷ []) (token Stray 0 true 0 ∷ [])
  -- `\n` is the only backslash of a string, and `;` in a string begins no comment
  pub newline_in_a_string : RowOf (bytes "\"a\\n\"") (token Text 0 true 5 ∷ [])
  pub semicolon_in_a_string : RowOf (bytes "\"a;b\";c") (token Text 0 true 5 ∷ [])
  -- CR is a blank, and a comment holds any byte
  pub carriage_return : RowOf (bytes "NOP\rFOO") (token Word 0 true 3 ∷ token Word 4 false 7 ∷ [])
  pub any_byte_in_a_comment : RowOf (bytes "NOP;" ++ (1 ∷ 200 ∷ [])) (token Word 0 true 3 ∷ [])
  -- what no token is: broken numbers and strings, bytes outside 32..126
  pub strays : Strays ("5a" ∷ "0X5" ∷ "0x" ∷ "0x 5" ∷ "00x5" ∷ "\"a\tb\"" ∷ "\"\\\\\"" ∷ "\"\\N\"" ∷ "\"\\\"\"" ∷ "\"a" ∷ "\"" ∷ [])
  pub byte_127 : RowOf (127 ∷ []) (token Stray 0 true 0 ∷ [])
  pub byte_128 : RowOf (128 ∷ bytes "NOP") (token Stray 0 true 0 ∷ [])
  pub byte_128_after : RowOf (bytes "NOP" ++ (128 ∷ [])) (token Word 0 true 3 ∷ token Stray 3 true 3 ∷ [])
  -- an LF that ends the source begins no further line, and CR ends no line
  pub no_lines : Lines [] []
  pub one_empty_line : Lines (bytes "\n") ([] ∷ [])
  pub one_line : Lines (bytes "a\n") (bytes "a" ∷ [])
  pub last_without_LF : Lines (bytes "a\n\nb") (bytes "a" ∷ [] ∷ bytes "b" ∷ [])
  pub CR_in_a_line : Lines (bytes "NOP\rFOO\r\n") (bytes "NOP\rFOO\r" ∷ [])

pub examples : Examples
unfolding tokens_from tokens_within token_at token_here blanks closing is_blank is_mark unsigned_at digits_at radix_at run rank worth_after lines_of
examples =
    record {
      colon_apart = line_row _;
      colon_directly = line_row _;
      string_directly = line_row _;
      digit_in_a_word = line_row _;
      first_after_blanks = line_row _;
      all_of_a_word = line_row _;
      first_and_last_mark = line_row _;
      minus-apart = line_row _;
      digits-apart = line_row _;
      minus_directly = line_row _;
      hexadecimal = line_row _;
      too_large = line_row _;
      first_and_last_character = line_row _;
      before_the_first = line_row _;
      after_the_last = line_row _;
      newline_in_a_string = line_row _;
      semicolon_in_a_string = line_row _;
      carriage_return = line_row _;
      any_byte_in_a_comment = line_row _;
      strays = (
        line_row _,
        (
          line_row _,
          (
            line_row _,
            (
              line_row _,
              (
                line_row _,
                (
                  line_row _,
                  (line_row _, (line_row _, (line_row _, (line_row _, (line_row _, tt))))),
                ),
              ),
            ),
          ),
        ),
      );
      byte_127 = line_row _;
      byte_128 = line_row _;
      byte_128_after = line_row _;
      no_lines = lines-sound _;
      one_empty_line = lines-sound _;
      one_line = lines-sound _;
      last_without_LF = lines-sound _;
      CR_in_a_line = lines-sound _;
    }
