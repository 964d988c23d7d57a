-- What this crate promises, beyond the equations at its functions: what those equations' right sides mean. A word is a name without
-- regard to case where `isNamed` says so, and is one of some names where `isOneOf` does.
use Prim.Native.Nat.{ℕ, ◌<◌}
use mathlib.Core.Bool.{true, false}
use mathlib.Core.List.{List, map}
use mathlib.Core.Logic.{◌↔◌}
use mathlib.Core.Path.{◌≡◌, sym, ◌∙◌}
use lib.ListN.{get_or}
use Rattle.isa.specs.Opcodes.{table}
use Rattle.isa.specs.declared.Opcode.{Opcode}
use Rattle.names.specs.declared.Word.TheVariants.{Instructs, Org, Equ, Res, Data, End, Unknown}
use Rattle.names.specs.Names.{capital, is_named, word_of, registers, register_code}
use Rattle.names.proofs.Places.{statement_names}
use Rattle.names.proofs.Exactly as Exactly
use Rattle.names.proofs.Exactly.{is_one_of}
use Rattle.names.proofs.Examples as Examples
use Rattle.names.proofs.Examples.{Examples}

-- ---- the statement's word

-- It is an instruction's exactly where it is that opcode's name in the table.
pub instruction : (w : List ℕ) (o : Opcode) → (word_of w ≡ Instructs o) ↔ (is_named w (table o).name ≡ true)
instruction = Exactly.instructs-exactly

-- "`ORG e` .., `EQU e` .., `RES e` .., `END`, `DATA`": the same for each directive.
pub org : (w : List ℕ) → (word_of w ≡ Org) ↔ (is_named w "ORG" ≡ true)
org = Exactly.org-exactly

pub equ : (w : List ℕ) → (word_of w ≡ Equ) ↔ (is_named w "EQU" ≡ true)
equ = Exactly.equ-exactly

pub res : (w : List ℕ) → (word_of w ≡ Res) ↔ (is_named w "RES" ≡ true)
res = Exactly.res-exactly

pub data_word : (w : List ℕ) → (word_of w ≡ Data) ↔ (is_named w "DATA" ≡ true)
data_word = Exactly.data_exactly

pub end : (w : List ℕ) → (word_of w ≡ End) ↔ (is_named w "END" ≡ true)
end = Exactly.end-exactly

-- Refusal 4, "statement's word unknown": it is none of the 44.
pub unknown : (w : List ℕ) → (word_of w ≡ Unknown) ↔ (is_one_of w statement_names ≡ false)
unknown = Exactly.unknown-exactly

-- ---- registers

-- A code is below 16 exactly where the word is one of the registers' names, and is 16 where it is none.
pub register : (w : List ℕ) → (register_code w < 16) ↔ (is_one_of w registers ≡ true)
register = Exactly.register-exactly

pub no_register : (w : List ℕ) → (register_code w ≡ 16) ↔ (is_one_of w registers ≡ false)
no_register = Exactly.no_register

-- "R0..R9 0..9, A 10, SR 11, IX 12, IY 13, SP 14, PC 15": the code is the name's place.
pub register-place : (w : List ℕ) (k : ℕ) → k < 16 → (register_code w ≡ k) ↔ (is_named w (get_or registers k "") ≡ true)
register-place = Exactly.register_at

-- ---- case

-- "Labels keep case; other words don't": words that differ in case alone are the same to both.
pub statement_case : (w w' : List ℕ) → map capital w ≡ map capital w' → word_of w ≡ word_of w'
statement_case = Exactly.word_by_case

pub register_case : (w w' : List ℕ) → map capital w ≡ map capital w' → register_code w ≡ register_code w'
register_case = Exactly.register_by_case

-- ---- examples, and one reply

-- Words that are easily misread.
pub examples : Examples
examples = Examples.examples

-- Every promise of this crate is an equation with its meaning: two replies that meet it coincide.
pub coincide : {A : Type 0} {meaning r r' : A} → r ≡ meaning → r' ≡ meaning → r ≡ r'
coincide p q = p ∙ sym q
