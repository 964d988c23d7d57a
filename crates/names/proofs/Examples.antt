-- Words that are easily misread, settled by computing.
use Prim.Native.Nat.{ℕ, ◌+◌}
use Prim.Native.Char.{code}
use Prim.Native.String.{String}
use mathlib.Core.Bool.{cond}
use mathlib.Core.List.{List, [], ◌∷◌, map}
use mathlib.Core.Path.{◌≡◌, refl}
use Rattle.numerals.specs.Bytes.{bytes, between}
use Rattle.isa.specs.Opcodes.{table, opcodes}
use Rattle.codes.specs.Registers.{A, SR, IX, IY, SP, PC}
use Rattle.isa.specs.declared.Opcode.{Opcode}
use Rattle.isa.specs.declared.Opcode.TheVariants.{MOVE, BO}
use Rattle.names.specs.declared.Word.TheVariants.{Instructs, End, Unknown}
use Rattle.names.specs.Names.{capital, is_named, statement_words, word_in, word_of, registers, place_in, register_code}

-- a name in small letters
abbrev pub small : ℕ → ℕ
small b = cond (between (code "A") (code "Z") b) (b + 32) b

abbrev pub small_bytes : String → List ℕ
small_bytes name = map small (bytes name)

-- each of these names is a register's, with its code, in capitals and in small letters
pub record Coded : Type 0 where
  pub name : String
  pub its : ℕ

abbrev coded : String → ℕ → Coded
coded name its = record { name = name; its = its }

abbrev pub Codes : List Coded → Type 0
Codes [] = Unit {0}
Codes (c ∷ cs) = (register_code (bytes c.name) ≡ c.its) × (register_code (small_bytes c.name) ≡ c.its) × Codes cs

pub record Examples : Type 0 where
  -- "Registers: R0..R9 0..9, A 10, SR 11, IX 12, IY 13, SP 14, PC 15", by their names in `codes`
  pub codes : Codes (coded "R0" 0 ∷ coded "R1" 1 ∷ coded "R2" 2 ∷ coded "R3" 3 ∷ coded "R4" 4 ∷ coded "R5" 5 ∷ coded "R6" 6 ∷ coded "R7" 7 ∷ coded "R8" 8 ∷ coded "R9" 9 ∷ coded "A" A ∷ coded "SR" SR ∷ coded "IX" IX ∷ coded "IY" IY ∷ coded "SP" SP ∷ coded "PC" PC ∷ [])
  -- every opcode's name, in small letters
  pub all_small : map (λ (o : Opcode). word_of (small_bytes (table o).name)) opcodes ≡ map Instructs opcodes
  -- "Labels keep case; other words don't"
  pub small-letters : word_of (bytes "move") ≡ Instructs MOVE
  pub mixed_letters : word_of (bytes "MoVe") ≡ Instructs MOVE
  -- the manual's `B0` is a misprint of BO
  pub misprint : word_of (bytes "B0") ≡ Unknown
  pub branch_odd : word_of (bytes "BO") ≡ Instructs BO
  -- a word is the longest run, so nothing may be cut off behind it
  pub digit-behind : word_of (bytes "ORG5") ≡ Unknown
  pub end : word_of (bytes "END") ≡ End
  pub letter-behind : word_of (bytes "ENDX") ≡ Unknown
  pub seven-letters : word_of (bytes "INCHARS") ≡ Unknown
  pub letter-missing : word_of (bytes "INCHA") ≡ Unknown
  -- registers
  pub no_tenth : register_code (bytes "R10") ≡ 16

pub examples : Examples
unfolding word_of word_in statement_words is_named capital opcodes table register_code place_in registers
examples = record {
  codes = (refl, refl, (refl, refl, (refl, refl, (refl, refl, (refl, refl, (refl, refl, (refl, refl, (refl, refl, (refl, refl, (refl, refl, (refl, refl, (refl, refl, (refl, refl, (refl, refl, (refl, refl, (refl, refl, tt))))))))))))))));
  all_small = refl;
  small-letters = refl;
  mixed_letters = refl;
  misprint = refl;
  branch_odd = refl;
  digit-behind = refl;
  end = refl;
  letter-behind = refl;
  seven-letters = refl;
  letter-missing = refl;
  no_tenth = refl;
}
