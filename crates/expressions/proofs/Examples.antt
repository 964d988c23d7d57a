-- Texts that are easily misread, settled one by one by computing them.
use Prim.Native.Nat.{ℕ}
use Prim.Native.String.{String}
use mathlib.Core.List.{List, [], ◌∷◌, ◌++◌}
use mathlib.Core.Path.{◌≡◌, refl}
use lib.IntN.{pos, negsuc}
use lib.ListN.{replicate}
use Rattle.numerals.specs.Bytes.{bytes, rank}
use Rattle.numerals.specs.Digits.{worth_after}
use Rattle.numerals.specs.Reading.{run, digits_at, radix_at, unsigned_at}
use Rattle.tokens.specs.Bytes.{is_blank, is_mark}
use Rattle.tokens.specs.Reading.{blanks, closing, token_here, token_at, tokens_within, tokens_from}
use Rattle.expressions.specs.Trees.{depth}
use Rattle.expressions.specs.Worths.{Worth, within32, of_number, operation, operate, worth_of}
use Rattle.expressions.specs.Reading.{mark_symbol, operand, operator, expression_read}
use Rattle.expressions.specs.Places.{strip, evaluate, found_of, fault_in, deep_from, too_deep_in}
use Rattle.std.proofs.Common.{Result, Ok, Err}
use Rattle.expressions.specs.declared.Fault.TheVariants.{OutOfRange, ByZero}
use Rattle.expressions.specs.declared.Malformed.{Malformed}
use Rattle.expressions.specs.declared.Malformed.TheVariants.{TooDeep, WrongForm}

-- a text is this, as an expression
abbrev pub Says : String → Result Worth Malformed → Type 0
Says text r = expression_read (tokens_from (bytes text) 0) ≡ r

-- each of these texts is of wrong form
abbrev pub NoExpressions : List String → Type 0
NoExpressions [] = Unit {0}
NoExpressions (text ∷ texts) = Says text (Err WrongForm) × NoExpressions texts

-- a text in so many parentheses
abbrev pub within : ℕ → String → List ℕ
within n text = replicate n 40 ++ (bytes text ++ replicate n 41)

-- the first fault of the expression after a word of three letters, and the parenthesis that opens level 33, start here, counted from 0: the
-- column is one more
abbrev pub Fault : String → ℕ → Type 0
Fault text at = fault_in (tokens_from (bytes text) 3) ≡ at

abbrev pub Deep : List ℕ → ℕ → Type 0
Deep s at = too_deep_in (tokens_from (bytes "EQU " ++ s) 3) ≡ at

pub record Examples : Type 0 where
  pub one_in_another : Says "(2+3*(5-1)/(4-2))%5" (Ok (Ok (pos 3)))
  pub products-first : Says "2+3*4" (Ok (Ok (pos 14)))
  pub parentheses-first : Says "(2+3)*4" (Ok (Ok (pos 20)))
  pub differences_left_to_right : Says "7-2-1" (Ok (Ok (pos 4)))
  pub quotients_left_to_right : Says "7/2*2" (Ok (Ok (pos 6)))
  pub minus_is_a_mark : Says "5 -3" (Ok (Ok (pos 2)))
  pub blanks_and_a_comment : Says " 0x10 + 1 ; +5" (Ok (Ok (pos 17)))
  pub quotient_toward_zero : Says "(0-7)/2" (Ok (Ok (negsuc 2)))
  pub quotient_by_a_negative : Says "7/(0-2)" (Ok (Ok (negsuc 2)))
  pub rest_of_a_negative : Says "(0-7)%2" (Ok (Ok (negsuc 0)))
  pub rest_by_a_negative : Says "7%(0-2)" (Ok (Ok (pos 1)))
  pub greatest-number : Says "65535" (Ok (Ok (pos 65535)))
  pub number_too_great : Says "65536" (Ok (Err OutOfRange))
  pub number_of_many_digits : Says "99999999999" (Ok (Err OutOfRange))
  pub greatest : Says "65535*32768+32767" (Ok (Ok (pos 2147483647)))
  pub past_the_greatest : Says "65535*32768+32768" (Ok (Err OutOfRange))
  pub least : Says "0-32768*65535-32768" (Ok (Ok (negsuc 2147483647)))
  pub past_the_least : Says "0-32768*65535-32769" (Ok (Err OutOfRange))
  pub least_over_minus_1 : Says "(0-32768*65535-32768)/(0-1)" (Ok (Err OutOfRange))
  pub least_rest_minus_1 : Says "(0-32768*65535-32768)%(0-1)" (Ok (Ok (pos 0)))
  pub by_zero : Says "5%0" (Ok (Err ByZero))
  pub left_fault_7 : Says "1/0+65536" (Ok (Err ByZero))
  pub left_fault_6 : Says "65536/0" (Ok (Err OutOfRange))
  pub right_fault_6 : Says "1/65536" (Ok (Err OutOfRange))
  pub left_operation_first : Says "65535*65535/0" (Ok (Err OutOfRange))
  pub no_short_way : Says "0*(1/0)" (Ok (Err ByZero))
  pub no_expressions : NoExpressions ("" ∷ "-5" ∷ "+5" ∷ "5+" ∷ "5 5" ∷ "()" ∷ "(5" ∷ "5)" ∷ "2(3)" ∷ "5*-3" ∷ "x" ∷ "5+x" ∷ "\"a\"" ∷ "5/*3" ∷ "0x" ∷ "(5+)3" ∷ ")5(" ∷ [])
  pub deepest-read : expression_read (tokens_from (within 32 "5") 0) ≡ Ok (Ok (pos 5))
  pub too_deep : expression_read (tokens_from (within 33 "5") 0) ≡ Err TooDeep
  pub depth_before_faults : expression_read (tokens_from (within 33 "1/0") 0) ≡ Err TooDeep
  pub form_before_depth : expression_read (tokens_from (within 33 "5+") 0) ≡ Err WrongForm
  pub unclosed : expression_read (tokens_from (replicate 100 40) 0) ≡ Err WrongForm
  pub mark_of_a_product : Fault "EQU 65535*65535" 9
  pub mark_before_a_number : Fault "EQU 65535*65535+70000" 9
  pub mark_of_a_quotient : Fault "EQU 1/0" 5
  pub quotient_before_a_number : Fault "EQU 1/0+70000" 5
  pub mark_between_blanks : Fault "EQU 5 %  0" 6
  pub number-itself : Fault "RES 65536" 4
  pub number_on_the_right : Fault "EQU 1+ 70000" 7
  pub left_number_first : Fault "EQU 70000+80000" 4
  pub inside-parentheses : Fault "EQU 2*(3+(4/(5-5)))" 11
  pub second-mark : Fault "EQU 65535*32768+32768" 15
  pub no_fault : Fault "EQU 1+2" 0
  pub form-first : Fault "EQU 1/0+" 0
  pub depth-first : fault_in (tokens_from (bytes "EQU " ++ within 33 "1/0") 3) ≡ 0
  pub level_33 : Deep (within 33 "1") 36
  pub level_34 : Deep (within 34 "1") 36
  pub leftmost_level_33 : Deep (within 32 "1+(2)+(3)") 38
  pub beside_one_another : Deep (bytes "(1)+" ++ within 33 "1") 40
  pub level_32 : Deep (within 32 "1") 0

pub examples : Examples
unfolding rank worth_after run digits_at radix_at unsigned_at is_blank is_mark blanks closing token_here token_at tokens_within tokens_from depth within32 of_number operation operate worth_of mark_symbol operand operator expression_read strip evaluate found_of fault_in deep_from too_deep_in
examples =
    record {
      one_in_another = refl;
      products-first = refl;
      parentheses-first = refl;
      differences_left_to_right = refl;
      quotients_left_to_right = refl;
      minus_is_a_mark = refl;
      blanks_and_a_comment = refl;
      quotient_toward_zero = refl;
      quotient_by_a_negative = refl;
      rest_of_a_negative = refl;
      rest_by_a_negative = refl;
      greatest-number = refl;
      number_too_great = refl;
      number_of_many_digits = refl;
      greatest = refl;
      past_the_greatest = refl;
      least = refl;
      past_the_least = refl;
      least_over_minus_1 = refl;
      least_rest_minus_1 = refl;
      by_zero = refl;
      left_fault_7 = refl;
      left_fault_6 = refl;
      right_fault_6 = refl;
      left_operation_first = refl;
      no_short_way = refl;
      no_expressions = (refl, (refl, (refl, (refl, (refl, (refl, (refl, (refl, (refl, (refl, (refl, (refl, (refl, (refl, (refl, (refl, (refl, tt)))))))))))))))));
      deepest-read = refl;
      too_deep = refl;
      depth_before_faults = refl;
      form_before_depth = refl;
      unclosed = refl;
      mark_of_a_product = refl;
      mark_before_a_number = refl;
      mark_of_a_quotient = refl;
      quotient_before_a_number = refl;
      mark_between_blanks = refl;
      number-itself = refl;
      number_on_the_right = refl;
      left_number_first = refl;
      inside-parentheses = refl;
      second-mark = refl;
      no_fault = refl;
      form-first = refl;
      depth-first = refl;
      level_33 = refl;
      level_34 = refl;
      leftmost_level_33 = refl;
      beside_one_another = refl;
      level_32 = refl;
    }
