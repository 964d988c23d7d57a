-- Worked examples: which M a word names; the reason of each refusal, by its row of 01's table or by K4; its lines, its sentence and the line
-- that is shown.
use mathlib.Core.Path.{◌≡◌, refl}
use mathlib.Core.List.{[], ◌∷◌, ◌++◌}
use lib.ListN.{length, replicate}
use Rattle.std.proofs.Common.{Some, None}
use Rattle.numerals.specs.Bytes.{rank, bytes}
use Rattle.numerals.specs.Digits.{worth_after}
use Rattle.numerals.specs.Reading.{run, digits_at, radix_at, unsigned_at}
use Rattle.numerals.specs.Writing.{decimal_before, decimal}
use Rattle.texts.specs.Lines.{text_of}
use Rattle.desk.specs.Sizes.{size_of}
use Rattle.desk.specs.Excerpts.{shown_byte, shown_from, shown_part, excerpt_text}
use Rattle.desk.specs.Refusals.{refusal_text, reasons, reason_of, sentence_text}

-- "an M of 1 to 16,384 (any other prints refusal 1, line 0)"
pub record Sizes : Type 0 where
  pub none : size_of (bytes "0") ≡ None
  pub smallest : size_of (bytes "1") ≡ Some 1
  pub largest : size_of (bytes "16384") ≡ Some 16384
  pub above : size_of (bytes "16385") ≡ None
  pub far-above : size_of (bytes "4294967297") ≡ None
  pub leading_zeros : size_of (bytes "0016") ≡ Some 16
  pub hexadecimal : size_of (bytes "0x10") ≡ None
  pub negative : size_of (bytes "-1") ≡ None
  pub no_number : size_of (bytes "M") ≡ None
  pub not-wholly : size_of (bytes "16 ") ≡ None
  pub empty : size_of (bytes "") ≡ None

pub sizes : Sizes
unfolding rank worth_after run digits_at radix_at unsigned_at size_of
sizes =
    record {
      none = refl;
      smallest = refl;
      largest = refl;
      above = refl;
      far-above = refl;
      leading_zeros = refl;
      hexadecimal = refl;
      negative = refl;
      no_number = refl;
      not-wholly = refl;
      empty = refl;
    }

-- "Refusing a source": each row, and that there is no other
pub record Reasons : Type 0 where
  pub M_wrong : reason_of 1 ≡ bytes "M is no decimal number from 1 to 16384"
  pub source_too_long : reason_of 2 ≡ bytes "a source of more than 32768 bytes"
  pub form : reason_of 3 ≡ bytes "wrong form, or an unknown register"
  pub word-unknown : reason_of 4 ≡ bytes "the statement's word is unknown"
  -- "for a source 5 goes"
  pub gone : reason_of 5 ≡ bytes "an unknown refusal"
  pub out_of_range : reason_of 6 ≡ bytes "a number, an expression or a label's address is out of range"
  pub divides_by_zero : reason_of 7 ≡ bytes "an expression divides by zero"
  pub too_deep : reason_of 8 ≡ bytes "parentheses more than 32 deep"
  pub label-again : reason_of 9 ≡ bytes "a label that was given before"
  pub label_too_long_or_513th : reason_of 10 ≡ bytes "a label of more than 64 bytes, or the 513th"
  pub past_the_last_cell : reason_of 11 ≡ bytes "past the last cell"
  pub claimed-twice : reason_of 12 ≡ bytes "a cell claimed twice"
  pub label-unknown : reason_of 13 ≡ bytes "an unknown label"
  pub relative_label_outside : reason_of 14 ≡ bytes "a $label outside -32768..32767"
  pub operand-count : reason_of 15 ≡ bytes "the opcode takes another number of operands"
  pub operand-kind : reason_of 16 ≡ bytes "an operand of a kind that the opcode does not take there"
  pub sixteen : length reasons ≡ 16
  pub below : reason_of 0 ≡ bytes "an unknown refusal"
  pub above : reason_of 17 ≡ bytes "an unknown refusal"

pub its-reasons : Reasons
unfolding reason_of reasons
its-reasons =
    record {
      M_wrong = refl;
      source_too_long = refl;
      form = refl;
      word-unknown = refl;
      gone = refl;
      out_of_range = refl;
      divides_by_zero = refl;
      too_deep = refl;
      label-again = refl;
      label_too_long_or_513th = refl;
      past_the_last_cell = refl;
      claimed-twice = refl;
      label-unknown = refl;
      relative_label_outside = refl;
      operand-count = refl;
      operand-kind = refl;
      sixteen = refl;
      below = refl;
      above = refl;
    }

pub record Texts : Type 0 where
  -- "any other prints refusal 1, line 0"; "1 and 2 have column 0"
  pub wrong_M : refusal_text 1 0 0 ≡ bytes "refused=1\nline=0\ncolumn=0\n"
  pub twice : refusal_text 12 7 9 ≡ bytes "refused=12\nline=7\ncolumn=9\n"
  pub last_line : refusal_text 3 32768 32769 ≡ bytes "refused=3\nline=32768\ncolumn=32769\n"
  pub sentence_of_12 : sentence_text (bytes "pump.ens") 12 7 9 ≡ bytes "pump.ens:7:9: refused 12: a cell claimed twice\n"
  pub sentence_of_1 : sentence_text (bytes "a") 1 0 0 ≡ bytes "a:0:0: refused 1: M is no decimal number from 1 to 16384\n"

pub texts : Texts
unfolding decimal_before decimal text_of reason_of reasons
texts = record { wrong_M = refl; twice = refl; last_line = refl; sentence_of_12 = refl; sentence_of_1 = refl }

pub record Excerpts : Type 0 where
  pub kind : excerpt_text (bytes "MOVE #1,#2") 9 ≡ bytes "    MOVE #1,#2\n            ^\n"
  pub first : excerpt_text (bytes "x") 1 ≡ bytes "    x\n    ^\n"
  -- "the column after the line's last byte if one is missing"
  pub behind : excerpt_text (bytes "DATA") 5 ≡ bytes "    DATA\n        ^\n"
  pub behind-none : excerpt_text [] 1 ≡ bytes "    \n    ^\n"
  pub one_place_each : excerpt_text (9 ∷ 65 ∷ 7 ∷ 200 ∷ 66 ∷ []) 5 ≡ bytes "     A??B\n        ^\n"
  pub tilde_and_DEL : excerpt_text (31 ∷ 32 ∷ 126 ∷ 127 ∷ []) 3 ≡ bytes "    ? ~?\n      ^\n"
  -- column 0 points at nothing, and no column lies further behind its line
  pub nowhere : excerpt_text (bytes "HALT") 0 ≡ []
  pub outside : excerpt_text (bytes "HALT") 6 ≡ []
  -- 80 bytes are shown whole; of 81 the first 80, or those from the byte 72 before the column
  pub whole : excerpt_text (replicate 80 65) 81 ≡ bytes "    " ++ replicate 80 65 ++ bytes "\n    " ++ replicate 80 32 ++ bytes "^\n"
  pub cut : excerpt_text (replicate 80 65 ++ bytes "B") 73 ≡ bytes "    " ++ replicate 80 65 ++ bytes "\n    " ++ replicate 72 32 ++ bytes "^\n"
  pub moved : excerpt_text (bytes "B" ++ replicate 80 65) 74 ≡ bytes "    " ++ replicate 80 65 ++ bytes "\n    " ++ replicate 72 32 ++ bytes "^\n"
  pub end : excerpt_text (bytes "B" ++ replicate 80 65) 82 ≡ bytes "    " ++ replicate 72 65 ++ bytes "\n    " ++ replicate 72 32 ++ bytes "^\n"

pub excerpts : Excerpts
unfolding text_of shown_byte shown_from shown_part excerpt_text
excerpts =
    record {
      kind = refl;
      first = refl;
      behind = refl;
      behind-none = refl;
      one_place_each = refl;
      tilde_and_DEL = refl;
      nowhere = refl;
      outside = refl;
      whole = refl;
      cut = refl;
      moved = refl;
      end = refl;
    }
