-- Columns of lines that are easily misread.
use Prim.Native.Nat.{ℕ, ◌+◌}
use mathlib.Core.List.{List, [], ◌∷◌, ◌++◌, map}
use mathlib.Core.Path.{◌≡◌, refl}
use Rattle.numerals.specs.Bytes.{bytes, rank}
use Rattle.tokens.specs.Bytes.{is_blank, is_mark}
use Rattle.names.specs.Names.{word_of, word_in, statement_words, register_code, registers, place_in, is_named, capital}
use Rattle.isa.specs.Opcodes.{opcodes, table}
use Rattle.expressions.specs.Reading.{mark_symbol}
use Rattle.faults.specs.Forms.{indexes, starts}
use Rattle.faults.specs.Walk.{begin, word_end, number_end, place_from, place}

abbrev pub columns_of : List (List ℕ) → List ℕ
columns_of lines = map (λ line. place line + 1) lines

-- something is missing: behind the line's last byte, blanks, CR and comment counted
pub missing : columns_of
    ((bytes "ORG ;c")
    ∷ (bytes "DATA 1, ;c")
    ∷ (bytes "PUSH # ; comment")
    ∷ (bytes "EQU 5-;c")
    ∷ (bytes "ORG")
    ∷ (bytes "ORG  ")
    ∷ (bytes "MOVE #1," ++ (13 ∷ []))
    ∷ (bytes "EQU ((((") ∷ [])
    ≡ 7 ∷ 11 ∷ 17 ∷ 9 ∷ 4 ∷ 6 ∷ 10 ∷ 9 ∷ []
unfolding place place_from begin word_end number_end indexes starts is_blank is_mark rank word_of word_in statement_words opcodes table register_code registers place_in is_named capital mark_symbol
missing = refl

-- a `-` that begins a number, and no digit: the byte directly behind it
pub minus : columns_of
    ((bytes "PUSH #-x")
    ∷ (bytes "PUSH #- 5")
    ∷ (bytes "PUSH #--5")
    ∷ (bytes "PUSH #-;c")
    ∷ (bytes "PUSH #-")
    ∷ (bytes "PUSH #- ;c")
    ∷ (bytes "DATA -" ++ (13 ∷ []))
    ∷ (bytes "DATA 1,-") ∷ [])
    ≡ 8 ∷ 8 ∷ 8 ∷ 8 ∷ 8 ∷ 8 ∷ 7 ∷ 9 ∷ []
unfolding place place_from begin word_end number_end indexes starts is_blank is_mark rank word_of word_in statement_words opcodes table register_code registers place_in is_named capital mark_symbol
minus = refl

-- a `-` elsewhere: itself
pub mark : columns_of
    ((bytes "NOP -")
    ∷ (bytes "EQU -5")
    ∷ (bytes "EQU -")
    ∷ (bytes "EQU 5--5")
    ∷ (bytes "DATA 5-3")
    ∷ (bytes "-5") ∷ [])
    ≡ 5 ∷ 5 ∷ 5 ∷ 7 ∷ 7 ∷ 1 ∷ []
unfolding place place_from begin word_end number_end indexes starts is_blank is_mark rank word_of word_in statement_words opcodes table register_code registers place_in is_named capital mark_symbol
mark = refl

-- `0x` and no digit: the byte directly behind it
pub prefix : columns_of
    ((bytes "DATA 0x")
    ∷ (bytes "DATA 0xG")
    ∷ (bytes "DATA 0x 1")
    ∷ (bytes "DATA 0x,1")
    ∷ (bytes "DATA 0x;c") ∷ [])
    ≡ 8 ∷ 8 ∷ 8 ∷ 8 ∷ 8 ∷ []
unfolding place place_from begin word_end number_end indexes starts is_blank is_mark rank word_of word_in statement_words opcodes table register_code registers place_in is_named capital mark_symbol
prefix = refl

-- the first letter, digit or `_` that no number has there
pub numbers : columns_of
    ((bytes "DATA 5a")
    ∷ (bytes "DATA 0X5")
    ∷ (bytes "DATA -0x5")
    ∷ (bytes "DATA 00x5")
    ∷ (bytes "DATA 0x1G")
    ∷ (bytes "DATA 99999x")
    ∷ (bytes "DATA 5_")
    ∷ (bytes "PUSH #-5x") ∷ [])
    ≡ 7 ∷ 7 ∷ 8 ∷ 8 ∷ 9 ∷ 11 ∷ 7 ∷ 9 ∷ []
unfolding place place_from begin word_end number_end indexes starts is_blank is_mark rank word_of word_in statement_words opcodes table register_code registers place_in is_named capital mark_symbol
numbers = refl

-- the byte that no string has there; one that is not closed lacks its quote
pub strings : columns_of
    ((bytes "DATA \"\\q\"")
    ∷ (bytes "DATA \"\\")
    ∷ (bytes "DATA \"a")
    ∷ (bytes "DATA \"ab" ++ (13 ∷ []))
    ∷ (bytes "DATA \"a;b")
    ∷ (bytes "DATA \"a" ++ (9 ∷ bytes "b\"")) ∷ [])
    ≡ 8 ∷ 8 ∷ 8 ∷ 9 ∷ 10 ∷ 8 ∷ []
unfolding place place_from begin word_end number_end indexes starts is_blank is_mark rank word_of word_in statement_words opcodes table register_code registers place_in is_named capital mark_symbol
strings = refl

-- a broken number or string where none may stand: its first byte
pub misplaced : columns_of
    ((bytes "NOP 5x")
    ∷ (bytes "NOP 0x")
    ∷ (bytes "NOP \"a")
    ∷ (bytes "5x")
    ∷ (bytes "12x: NOP") ∷ [])
    ≡ 5 ∷ 5 ∷ 5 ∷ 1 ∷ 1 ∷ []
unfolding place place_from begin word_end number_end indexes starts is_blank is_mark rank word_of word_in statement_words opcodes table register_code registers place_in is_named capital mark_symbol
misplaced = refl

-- a word that is no register: its first byte, not the dot or the bracket
pub no_register : columns_of
    ((bytes "PUSH .R10")
    ∷ (bytes "PUSH .Q")
    ∷ (bytes "PUSH #5[.R1]")
    ∷ (bytes "PUSH [.FOO]")
    ∷ (bytes "PUSH .SX")
    ∷ (bytes "PUSH #5[.SR]") ∷ [])
    ≡ 7 ∷ 7 ∷ 10 ∷ 8 ∷ 7 ∷ 10 ∷ []
unfolding place place_from begin word_end number_end indexes starts is_blank is_mark rank word_of word_in statement_words opcodes table register_code registers place_in is_named capital mark_symbol
no_register = refl

-- whatever the number and kinds of the operands
pub operands : columns_of
    ((bytes "NOP .A,")
    ∷ (bytes "NOP .A,.A,.X")
    ∷ (bytes "BR .A .A") ∷ [])
    ≡ 8 ∷ 12 ∷ 7 ∷ []
unfolding place place_from begin word_end number_end indexes starts is_blank is_mark rank word_of word_in statement_words opcodes table register_code registers place_in is_named capital mark_symbol
operands = refl

-- a directive's wrong operand: its first token
pub directives : columns_of
    ((bytes "ORG #5")
    ∷ (bytes "ORG x")
    ∷ (bytes "ORG 1,2")
    ∷ (bytes "DATA x")
    ∷ (bytes "DATA (5)")
    ∷ (bytes "EQU (1))") ∷ [])
    ≡ 5 ∷ 5 ∷ 6 ∷ 6 ∷ 6 ∷ 8 ∷ []
unfolding place place_from begin word_end number_end indexes starts is_blank is_mark rank word_of word_in statement_words opcodes table register_code registers place_in is_named capital mark_symbol
directives = refl

-- the token that is no word, or the second `:`
pub statements : columns_of
    ((bytes ":")
    ∷ (bytes "x: 5")
    ∷ (bytes "a::")
    ∷ (bytes "a: NOP: HALT")
    ∷ (bytes "NOP :") ∷ [])
    ≡ 1 ∷ 4 ∷ 3 ∷ 7 ∷ 5 ∷ []
unfolding place place_from begin word_end number_end indexes starts is_blank is_mark rank word_of word_in statement_words opcodes table register_code registers place_in is_named capital mark_symbol
statements = refl

-- a stray byte: itself
pub strays : columns_of
    ((bytes "NOP" ++ (128 ∷ []))
    ∷ (128 ∷ bytes "NOP")
    ∷ (bytes "PUSH #x" ++ (1 ∷ [])) ∷ [])
    ≡ 4 ∷ 1 ∷ 8 ∷ []
unfolding place place_from begin word_end number_end indexes starts is_blank is_mark rank word_of word_in statement_words opcodes table register_code registers place_in is_named capital mark_symbol
strays = refl
