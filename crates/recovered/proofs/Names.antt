-- The names that a listing writes are words of a line.
use Prim.Native.Nat.{ℕ, ◌<◌}
use Prim.Native.String.{String}
use mathlib.Core.Bool.{Bool, ◌&&◌, true}
use mathlib.Core.Path.{◌≡◌, refl}
use lib.Dec.{T}
use lib.ListN.{get_or}
use Rattle.numerals.specs.Bytes.{bytes, rank, any_word_byte}
use Rattle.numerals.specs.Digits.{all_below}
use Rattle.isa.specs.Opcodes.{table, opcodes, opcode_of}
use Rattle.isa.specs.declared.Opcode.{Opcode}
use Rattle.isa.proofs.Numbers.{each}
use Rattle.isa.proofs.Tests.{both_true, every_at}
use Rattle.tokens.specs.Words.{begins_word}
use Rattle.names.specs.Names.{registers}
use Rattle.recovered.proofs.Pieces.{T_of}

-- "Word: longest run of letters, digits, `_`, not begun by a digit" (01)
abbrev is_word : String → Bool
is_word name = begins_word (bytes name) && all_below any_word_byte (bytes name)

pub record IsWord (name : String) : Type 0 where
  pub begins : T (begins_word (bytes name))
  pub all : T (all_below any_word_byte (bytes name))

is_word_lem : (name : String) → is_word name ≡ true → IsWord name
is_word_lem name e =
    let p = both_true (begins_word (bytes name)) (all_below any_word_byte (bytes name)) e in
    record { begins = T_of p.0; all = T_of p.1 }

pub opcode_is_word : (o : Opcode) → IsWord (table o).name
unfolding table opcodes opcode_of rank
opcode_is_word o = is_word_lem (table o).name (each (λ (p : Opcode). is_word (table p).name) refl o)

pub register_is_word : (r : ℕ) → r < 16 → IsWord (get_or registers r "")
unfolding registers rank
register_is_word r h = is_word_lem (get_or registers r "") (every_at (λ (k : ℕ). is_word (get_or registers k "")) 16 refl r h)

pub org_is_word : IsWord "ORG"
unfolding rank
org_is_word = is_word_lem "ORG" refl

pub res_is_word : IsWord "RES"
unfolding rank
res_is_word = is_word_lem "RES" refl

pub data_is_word : IsWord "DATA"
unfolding rank
data_is_word = is_word_lem "DATA" refl

pub end_is_word : IsWord "END"
unfolding rank
end_is_word = is_word_lem "END" refl
