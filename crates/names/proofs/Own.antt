-- A name's own bytes are found as what they name, so that what is written by a name is read back by it; `opcode-is-found` of Exactly.antt
-- says so of the opcodes.
use Prim.Native.Nat.{ℕ, ◌<◌}
use mathlib.Core.Path.{◌≡◌, refl}
use lib.Dec.{eqb}
use lib.ListN.{get_or}
use borrow.Author.Tests.{eqb-true}
use Rattle.numerals.specs.Bytes.{bytes}
use Rattle.isa.specs.Opcodes.{table, opcodes}
use Rattle.isa.proofs.Tests.{every_at}
use Rattle.names.specs.Names.{capital, is_named, statement_words, word_in, word_of, registers, place_in, register_code}
use Rattle.names.specs.declared.Word.TheVariants.{Org, Res, Data, End}

pub org_is_found : word_of (bytes "ORG") ≡ Org
unfolding word_of word_in statement_words is_named capital opcodes table
org_is_found = refl

pub res_is_found : word_of (bytes "RES") ≡ Res
unfolding word_of word_in statement_words is_named capital opcodes table
res_is_found = refl

pub data_is_found : word_of (bytes "DATA") ≡ Data
unfolding word_of word_in statement_words is_named capital opcodes table
data_is_found = refl

pub end_is_found : word_of (bytes "END") ≡ End
unfolding word_of word_in statement_words is_named capital opcodes table
end_is_found = refl

pub register_is_found : (r : ℕ) → r < 16 → register_code (bytes (get_or registers r "")) ≡ r
unfolding register_code place_in registers is_named capital
register_is_found r h =
    eqb-true (register_code (bytes (get_or registers r ""))) r
    (every_at (λ (k : ℕ). eqb (register_code (bytes (get_or registers k ""))) k) 16 refl r h)
