-- What a word is, by its place among the names and so by its number's place among their numbers.
use Prim.Native.Nat.{ℕ, zero, suc, ◌+◌, ◌-◌, ◌≤◌, ◌<◌}
use mathlib.Core.Bool.{Bool, true, false, cond}
use mathlib.Core.List.{List, [], ◌∷◌, ◌++◌, map}
use mathlib.Core.Path.{◌≡◌, refl, ap, ◌∙◌}
use Prim.Native.String.{String}
use native.Mathlib.Omega.{arith}
use borrow.Author.Tests.{eqb-true}
use lib.Dec.{eqb}
use lib.ListN.{length, get_or, get_or-append, get_or-map}
use lib.Seq.{get_or-append-add}
use Rattle.numerals.specs.Bytes.{bytes}
use Rattle.isa.specs.Opcodes.{table, opcodes, opcode_of}
use Rattle.isa.specs.declared.Opcode.{Opcode}
use Rattle.isa.specs.declared.Opcode.TheVariants.{NOP}
use Rattle.isa.proofs.Numbers.{each}
use Rattle.names.specs.declared.Word.TheVariants.{Instructs, Unknown}
use Rattle.names.specs.Names.{is_named, Entry, statement_words, word_in, word_of, registers, place_in, register_code}
use Rattle.names.specs.Inner.Packing.{pack, number_of, place_of, word_at, directives, directive_at}
use Rattle.names.proofs.Packs.{numbers, place-number}

-- the names of the 44 words
unfoldable pub statement_names : List String
statement_names = map (λ (e : Entry). e.name) statement_words

word_by_place : (w : List ℕ) (es : List Entry)
    → word_in w es ≡ get_or (map (λ (e : Entry). e.word) es) (place_in w (map (λ (e : Entry). e.name) es)) Unknown
unfolding word_in place_in
word_by_place w [] = refl
word_by_place w (e ∷ es) = go (is_named w e.name) (word_by_place w es)
  where
    go : (b : Bool) → word_in w es ≡ get_or (map (λ (e : Entry). e.word) es) (place_in w (map (λ (e : Entry). e.name) es)) Unknown
        → cond b e.word (word_in w es)
        ≡ get_or (e.word ∷ map (λ (e : Entry). e.word) es) (cond b 0 (suc (place_in w (map (λ (e : Entry). e.name) es)))) Unknown
    go true i = refl
    go false i = i

module _ (w : List ℕ) where
  pub word_at_place : word_of w ≡ word_at (place_in w statement_names)
  unfolding word_of word_at statement_names
  word_at_place = word_by_place w statement_words

  pub word-found : word_of w ≡ word_at (place_of (number_of w) (numbers statement_names))
  unfolding statement_names statement_words opcodes table
  word-found = word_at_place ∙ ap word_at (place-number w statement_names tt)

  pub register-found : register_code w ≡ place_of (number_of w) (numbers registers)
  unfolding register_code registers
  register-found = place-number w registers tt

-- ---- the places: opcodes by their numbers, then the directives

words-parted : map (λ (e : Entry). e.word) statement_words ≡ map Instructs opcodes ++ directives
unfolding statement_words opcodes directives
words-parted = refl

instructs_at : (os : List Opcode) (k : ℕ) → k < length os → get_or (map Instructs os) k Unknown ≡ Instructs (get_or os k NOP)
instructs_at [] k h = absurd (omega arith)
instructs_at (o ∷ os) zero h = refl
instructs_at (o ∷ os) (suc k) h = instructs_at os k (omega arith)

pub word-opcode : (k : ℕ) → k < 39 → word_at k ≡ Instructs (opcode_of k)
unfolding word_at opcode_of opcodes
word-opcode k h = rw words-parted (get_or-append (map Instructs opcodes) directives Unknown k h ∙ instructs_at opcodes k h)

pub word_directive : (k : ℕ) → 39 ≤ k → word_at k ≡ directive_at (k - 39)
unfolding word_at directive_at opcodes
word_directive k h =
    let q : k ≡ 39 + (k - 39) = omega arith in
    rw words-parted (ap (λ (n : ℕ). get_or (map Instructs opcodes ++ directives) n Unknown) q ∙ get_or-append-add (map Instructs opcodes) directives (k - 39) Unknown)

-- ---- the numbers asked the other way: at an opcode's or a register's place stands the number of its name

pub opcode-number : (o : Opcode) → get_or (numbers statement_names) (table o).number 0 ≡ pack (bytes (table o).name)
unfolding statement_names statement_words opcode_of opcodes table pack
opcode-number o =
    eqb-true (get_or (numbers statement_names) (table o).number 0) (pack (bytes (table o).name))
    (each (λ (p : Opcode). eqb (get_or (numbers statement_names) (table p).number 0) (pack (bytes (table p).name))) refl o)

-- and 0 where there is no such register
pub register-number : (r : ℕ) → get_or (numbers registers) r 0 ≡ pack (bytes (get_or registers r ""))
unfolding pack
register-number r = get_or-map (λ (name : String). pack (bytes name)) registers r ""
