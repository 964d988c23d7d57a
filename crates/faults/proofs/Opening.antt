-- How many parentheses are open: a byte opens one at most. So the code's count stays within the line.
use Prim.Native.Nat.{ℕ, ◌+◌, ◌-◌, ◌≤◌}
use Prim.Native.Char.{code}
use mathlib.Core.Bool.{Bool, true, false, cond, ◌&&◌}
use mathlib.Core.List.{List}
use native.Mathlib.Omega.{arith}
use lib.Dec.{eqb, ltb}
use Rattle.codes.specs.Registers.{IX, IY, SP, is_register}
use Rattle.numerals.specs.Bytes.{is_digit, is_word_byte, rank}
use Rattle.numerals.specs.declared.Radix.{Radix}
use Rattle.numerals.specs.declared.Radix.TheVariants.{Decimal, Hexadecimal}
use Rattle.tokens.specs.Bytes.{is_blank, is_mark, is_quote, is_semicolon}
use Rattle.tokens.specs.Strings.{backslash, is_plain}
use Rattle.names.specs.Names.{word_of, register_code}
use Rattle.names.specs.declared.Word.{Word}
use Rattle.names.specs.declared.Word.TheVariants as W
use Rattle.expressions.specs.Reading.{mark_symbol}
use Rattle.expressions.specs.Inner.Scanning.{scan_step}
use Rattle.std.proofs.Common.{Some, None}
use Rattle.expressions.specs.declared.Symbol.{Symbol}
use Rattle.expressions.specs.declared.Symbol.TheVariants as Y
use Rattle.faults.specs.declared.State.{State}
use Rattle.faults.specs.declared.State.TheVariants.{Start, Body, Field, Operand, Value, Digits, AfterHash, IndexDot, IndexName, RegisterName, IndirectDot, IndirectName, Closing, Done, Expression, Item, ItemDigits, ItemDone}
use Rattle.faults.specs.Forms.{put, scanned, enter, indexes, starts, word_step, number_step, text_step, mark_step, blank_step, final, is_start, is_ended}
use Rattle.faults.specs.Forms as F
use Rattle.faults.specs.Walk.{Lex, between, word, zero, decimal, prefixed, hexadecimal, quoted, escaped, begin, word_end, number_end, step}
use Rattle.faults.specs.Inner.Stages.{opens, opens_in}

cond-opens : (y : Bool) (a b : State) (n : ℕ) → opens a ≤ n → opens b ≤ n → opens (cond y a b) ≤ n
cond-opens true a b n p q = p
cond-opens false a b n p q = q

enter-opens : (x : Word) (n : ℕ) → opens (enter x) ≤ n
enter-opens (W.Instructs op) n = omega arith
enter-opens _ n = omega arith

put-opens : (i : Bool) (n : ℕ) → opens (put i) ≤ n
put-opens true n = omega arith
put-opens false n = omega arith

decimal-opens : (k : Radix) (st : State) (n : ℕ) → opens st ≤ n → opens (F.decimal k st) ≤ n
decimal-opens Decimal st n h = h
decimal-opens Hexadecimal st n h = omega arith

indexes-opens : (r n : ℕ) → opens (indexes r) ≤ n
unfolding indexes
indexes-opens r n =
    cond-opens (eqb r IX) _ _ n (omega arith)
    (cond-opens (eqb r IY) _ _ n (omega arith) (cond-opens (eqb r SP) _ _ n (omega arith) (omega arith)))

starts-opens : (b n : ℕ) → opens (starts b) ≤ n
unfolding starts
starts-opens b n =
    cond-opens (eqb b (code "#")) _ _ n (omega arith)
    (cond-opens (eqb b (code ".")) _ _ n (omega arith)
    (cond-opens (eqb b (code "/")) _ _ n (omega arith)
    (cond-opens (eqb b (code "[")) _ _ n (omega arith) (cond-opens (eqb b (code "$")) _ _ n (omega arith) (omega arith)))))

scan_opens : (y : Symbol) (q : Bool) (h : ℕ) → opens (scanned (scan_step y q h)) ≤ h + 1
scan_opens (Y.Number v) true h = omega arith
scan_opens (Y.Number v) false h = omega arith
scan_opens (Y.Sums o) true h = omega arith
scan_opens (Y.Sums o) false h = omega arith
scan_opens (Y.Products o) true h = omega arith
scan_opens (Y.Products o) false h = omega arith
scan_opens Y.Opens true h = omega arith
scan_opens Y.Opens false h = omega arith
scan_opens Y.Shuts true h = omega arith
scan_opens Y.Shuts false h = go (eqb h 0)
  where
    go : (y : Bool) → opens (scanned (cond y None (Some (record { operand = false; height = (h - 1) })))) ≤ h + 1
    go true = omega arith
    go false = omega arith
scan_opens Y.Other true h = omega arith
scan_opens Y.Other false h = omega arith

-- ---- tokens

-- a word leaves none open
pub word-opens : (st : State) (w : List ℕ) (n : ℕ) → opens (word_step st w) ≤ n
word-opens Start w n = enter-opens (word_of w) n
word-opens Body w n = enter-opens (word_of w) n
word-opens (Value i) w n = put-opens i n
word-opens IndexName w n = indexes-opens (register_code w) n
word-opens RegisterName w n = cond-opens (is_register (register_code w)) _ _ n (omega arith) (omega arith)
word-opens IndirectName w n = cond-opens (is_register (register_code w)) _ _ n (omega arith) (omega arith)
word-opens _ w n = omega arith

pub number-opens : (st : State) (k : Radix) → opens (number_step st k) ≤ opens st
number-opens (Value i) k = put-opens i 0
number-opens (Digits i) k = decimal-opens k (put i) 0 (put-opens i 0)
number-opens (Expression q h) k = cond-opens q _ _ h (omega arith) (omega arith)
number-opens ItemDigits k = decimal-opens k ItemDone 0 (omega arith)
number-opens _ k = omega arith

text-opens : (st : State) → opens (text_step st) ≤ opens st
text-opens Start = omega arith
text-opens _ = omega arith

mark-opens : (st : State) (b : ℕ) → opens (mark_step st b) ≤ opens st + 1
mark-opens Field b = starts-opens b 1
mark-opens Operand b = starts-opens b 1
mark-opens (Value i) b = cond-opens (eqb b (code "-")) _ _ _ (omega arith) (omega arith)
mark-opens AfterHash b = cond-opens (eqb b (code "[")) _ _ _ (omega arith) (cond-opens (eqb b (code ",")) _ _ _ (omega arith) (omega arith))
mark-opens IndexDot b = cond-opens (eqb b (code ".")) _ _ _ (omega arith) (omega arith)
mark-opens IndirectDot b = cond-opens (eqb b (code ".")) _ _ _ (omega arith) (omega arith)
mark-opens Closing b = cond-opens (eqb b (code "]")) _ _ _ (omega arith) (omega arith)
mark-opens Done b = cond-opens (eqb b (code ",")) _ _ _ (omega arith) (omega arith)
mark-opens (Expression q h) b = scan_opens (mark_symbol b) q h
mark-opens Item b = cond-opens (eqb b (code "-")) _ _ _ (omega arith) (omega arith)
mark-opens ItemDone b = cond-opens (eqb b (code ",")) _ _ _ (omega arith) (omega arith)
mark-opens _ b = omega arith

blank-opens : (st : State) → opens (blank_step st) ≤ opens st
blank-opens Start = omega arith
blank-opens _ = omega arith

-- ---- bytes

cond_opens_in : (y : Bool) (a b : Lex) (n : ℕ) → opens_in a ≤ n → opens_in b ≤ n → opens_in (cond y a b) ≤ n
cond_opens_in true a b n p q = p
cond_opens_in false a b n p q = q

begin-opens : (st : State) (b n : ℕ) → opens st ≤ n → opens_in (begin st b) ≤ n + 1
unfolding begin
begin-opens st b n l =
    cond_opens_in (is_ended st) _ _ (n + 1) (omega arith)
    (cond_opens_in (is_blank b) _ _ (n + 1) (omega (arith, blank-opens st))
    (cond_opens_in (is_digit b) _ _ (n + 1) (cond_opens_in (eqb b (code "0")) _ _ (n + 1) (omega arith) (omega arith))
    (cond_opens_in (is_word_byte b) _ _ (n + 1) (omega arith)
    (cond_opens_in (is_quote b) _ _ (n + 1) (omega arith)
    (cond_opens_in (is_semicolon b) _ _ (n + 1) (cond-opens (final st) _ _ (n + 1) (omega arith) (omega arith))
    (cond_opens_in (is_mark b) _ _ (n + 1) (omega (arith, mark-opens st b)) (omega arith)))))))

number_end_opens : (st : State) (k : Radix) (b : ℕ) → opens_in (number_end st k b) ≤ opens st + 1
unfolding number_end
number_end_opens st k b = cond_opens_in (ltb (rank b) 17) _ _ _ (omega arith) (begin-opens (number_step st k) b (opens st) (number-opens st k))

pub step-opens : (x : Lex) (b : ℕ) → opens_in (step x b) ≤ opens_in x + 1
unfolding word_end
step-opens (between st) b = begin-opens st b (opens st) (omega arith)
step-opens (word st w) b =
    cond_opens_in (ltb (rank b) 17) _ _ _ (omega arith)
    (cond_opens_in (is_start st && eqb b (code ":")) _ _ _ (omega arith) (begin-opens (word_step st w) b (opens st) (word-opens st w (opens st))))
step-opens (zero st) b =
    cond_opens_in (ltb (rank b) 10) _ _ _ (omega arith) (cond_opens_in (eqb b (code "x")) _ _ _ (omega arith) (number_end_opens st Decimal b))
step-opens (decimal st) b = cond_opens_in (ltb (rank b) 10) _ _ _ (omega arith) (number_end_opens st Decimal b)
step-opens (prefixed st) b = cond_opens_in (ltb (rank b) 16) _ _ _ (omega arith) (omega arith)
step-opens (hexadecimal st) b = cond_opens_in (ltb (rank b) 16) _ _ _ (omega arith) (number_end_opens st Hexadecimal b)
step-opens (quoted st) b =
    cond_opens_in (is_quote b) _ _ _ (omega (arith, text-opens st))
    (cond_opens_in (eqb b backslash) _ _ _ (omega arith) (cond_opens_in (is_plain b) _ _ _ (omega arith) (omega arith)))
step-opens (escaped st) b = cond_opens_in (eqb b (code "n")) _ _ _ (omega arith) (omega arith)
