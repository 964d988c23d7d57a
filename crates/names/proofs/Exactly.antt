-- A word is an entry exactly where it is that entry's name without regard to case: each name finds its own entry, and case plays no part.
use Prim.Native.Nat.{ℕ, zero, suc, ◌<◌}
use Prim.Native.String.{String}
use mathlib.Core.Bool.{Bool, true, false, cond, ◌||◌, false≢true}
use mathlib.Core.List.{List, [], ◌∷◌, ◌++◌, map}
use mathlib.Core.Logic.{◌↔◌}
use mathlib.Core.Path.{◌≡◌, refl, sym, ap, subst, ◌∙◌}
use native.Mathlib.Omega.{arith}
use lib.Dec.{eqb}
use lib.ListN.{length, get_or}
use borrow.Author.Tests.{eqb-true}
use Rattle.numerals.specs.Bytes.{bytes}
use Rattle.isa.specs.Opcodes.{table, opcodes, opcode_of}
use Rattle.isa.specs.declared.Opcode.{Opcode}
use Rattle.isa.proofs.Tests.{every_at}
use Rattle.isa.proofs.Numbers.{same_number, each}
use Rattle.names.specs.declared.Word.{Word}
use Rattle.names.specs.declared.Word.TheVariants.{Instructs, Org, Equ, Res, Data, End, Unknown}
use Rattle.names.specs.Names.{capital, is_named, Entry, statement_words, word_in, word_of, registers, place_in, register_code}
use Rattle.names.specs.Inner.Packing.{word_at, directives}
use Rattle.names.proofs.Same.{same_equal}
use Rattle.names.proofs.Places.{statement_names, word_at_place}

-- ---- case plays no part

word_in_by_case : (w w' : List ℕ) (es : List Entry) → map capital w ≡ map capital w' → word_in w es ≡ word_in w' es
unfolding word_in is_named
word_in_by_case w w' [] e = refl
word_in_by_case w w' (entry ∷ es) e = rw (e, word_in_by_case w w' es e)

place_in_by_case : (w w' : List ℕ) (names : List String) → map capital w ≡ map capital w' → place_in w names ≡ place_in w' names
unfolding place_in is_named
place_in_by_case w w' [] e = refl
place_in_by_case w w' (name ∷ names) e = rw (e, place_in_by_case w w' names e)

pub word_by_case : (w w' : List ℕ) → map capital w ≡ map capital w' → word_of w ≡ word_of w'
unfolding word_of
word_by_case w w' e = word_in_by_case w w' statement_words e

pub register_by_case : (w w' : List ℕ) → map capital w ≡ map capital w' → register_code w ≡ register_code w'
unfolding register_code
register_by_case w w' e = place_in_by_case w w' registers e

-- two words that one name is differ in case alone
named-alike : (w w' : List ℕ) (name : String) → is_named w name ≡ true → is_named w' name ≡ true → map capital w ≡ map capital w'
unfolding is_named
named-alike w w' name e f = same_equal (map capital w) (bytes name) e ∙ sym (same_equal (map capital w') (bytes name) f)

-- ---- one of the names

-- a word is one of some names
abbrev pub is_one_of : List ℕ → List String → Bool
is_one_of w [] = false
is_one_of w (name ∷ names) = is_named w name || is_one_of w names

-- and then its place is one of theirs
place_of_one : (w : List ℕ) (names : List String) → is_one_of w names ≡ true → place_in w names < length names
unfolding place_in
place_of_one w [] e = absurd (false≢true e)
place_of_one w (name ∷ names) e = go (is_named w name) (place_of_one w names) e
  where
    go : (b : Bool) → (is_one_of w names ≡ true → place_in w names < length names) → (b || is_one_of w names) ≡ true
        → cond b 0 (suc (place_in w names)) < suc (length names)
    go true i f = omega arith
    go false i f = let h = i f in omega arith

place_of_none : (w : List ℕ) (names : List String) → is_one_of w names ≡ false → place_in w names ≡ length names
unfolding place_in
place_of_none w [] e = refl
place_of_none w (name ∷ names) e = go (is_named w name) (place_of_none w names) e
  where
    go : (b : Bool) → (is_one_of w names ≡ false → place_in w names ≡ length names) → (b || is_one_of w names) ≡ false
        → cond b 0 (suc (place_in w names)) ≡ suc (length names)
    go true i f = absurd (false≢true (sym f))
    go false i f = ap suc (i f)

-- the name at its place is the one that it is
name_at_place : (w : List ℕ) (names : List String) (k : ℕ) → k < length names → place_in w names ≡ k → is_named w (get_or names k "") ≡ true
unfolding place_in
name_at_place w [] k h e = absurd (omega arith)
name_at_place w (name ∷ names) k h e = go (is_named w name) refl k (name_at_place w names) h e
  where
    go : (b : Bool) → is_named w name ≡ b → (k : ℕ) → ((j : ℕ) → j < length names → place_in w names ≡ j → is_named w (get_or names j "") ≡ true)
        → k < suc (length names)
        → cond b 0 (suc (place_in w names)) ≡ k
        → is_named w (get_or (name ∷ names) k "") ≡ true
    go true f zero i l g = f
    go true f (suc k) i l g = absurd (omega arith)
    go false f zero i l g = absurd (omega arith)
    go false f (suc k) i l g = i k (omega arith) (omega arith)

-- ---- statements

abbrev name_of : Word → String
name_of (Instructs o) = (table o).name
name_of Org = "ORG"
name_of Equ = "EQU"
name_of Res = "RES"
name_of Data = "DATA"
name_of End = "END"
name_of Unknown = ""

abbrev known : Word → Bool
known (Instructs o) = true
known Org = true
known Equ = true
known Res = true
known Data = true
known End = true
known Unknown = false

abbrev named : Word → Entry
named x = record { name = name_of x; word = x }

entries_named : statement_words ≡ map named (map Instructs opcodes ++ directives)
unfolding statement_words opcodes directives
entries_named = refl

-- the word that is found has the name that was looked up
name_of_found : (w : List ℕ) (xs : List Word) (x : Word) → known x ≡ true → word_in w (map named xs) ≡ x → is_named w (name_of x) ≡ true
unfolding word_in
name_of_found w [] x n e = absurd (false≢true (ap known e ∙ n))
name_of_found w (y ∷ ys) x n e = go (is_named w (name_of y)) refl (name_of_found w ys x n) e
  where
    go : (b : Bool) → is_named w (name_of y) ≡ b → (word_in w (map named ys) ≡ x → is_named w (name_of x) ≡ true)
        → cond b y (word_in w (map named ys)) ≡ x
        → is_named w (name_of x) ≡ true
    go true f i g = subst (λ (z : Word). is_named w (name_of z) ≡ true) g f
    go false f i g = i g

-- so a word is exactly what its name, as a word, finds
exactly : (w : List ℕ) (x : Word) → known x ≡ true → is_named (bytes (name_of x)) (name_of x) ≡ true → word_of (bytes (name_of x)) ≡ x
    → (word_of w ≡ x) ↔ (is_named w (name_of x) ≡ true)
unfolding word_of
exactly w x n i f = (
  λ e. name_of_found w (map Instructs opcodes ++ directives) x n (ap (word_in w) (sym entries_named) ∙ e),
  λ e. word_by_case w (bytes (name_of x)) (named-alike w (bytes (name_of x)) (name_of x) e i) ∙ f,
)

-- the names of the opcodes find their opcodes: one test, computed at each
abbrev instructs : Opcode → Word → Bool
instructs o (Instructs p) = eqb (table p).number (table o).number
instructs o Org = false
instructs o Equ = false
instructs o Res = false
instructs o Data = false
instructs o End = false
instructs o Unknown = false

instructs_is : (o : Opcode) (x : Word) → instructs o x ≡ true → x ≡ Instructs o
instructs_is o (Instructs p) e = ap Instructs (same_number p o (eqb-true (table p).number (table o).number e))
instructs_is o Org e = absurd (false≢true e)
instructs_is o Equ e = absurd (false≢true e)
instructs_is o Res e = absurd (false≢true e)
instructs_is o Data e = absurd (false≢true e)
instructs_is o End e = absurd (false≢true e)
instructs_is o Unknown e = absurd (false≢true e)

opcode_is_named : (o : Opcode) → is_named (bytes (table o).name) (table o).name ≡ true
unfolding is_named capital opcode_of opcodes table
opcode_is_named = each (λ (o : Opcode). is_named (bytes (table o).name) (table o).name) refl

pub opcode_is_found : (o : Opcode) → word_of (bytes (table o).name) ≡ Instructs o
unfolding word_of word_in statement_words is_named capital opcode_of opcodes table
opcode_is_found o =
    instructs_is o (word_of (bytes (table o).name)) (each (λ (o : Opcode). instructs o (word_of (bytes (table o).name))) refl o)

known_at : (k : ℕ) → k < 44 → known (word_at k) ≡ true
unfolding word_at statement_words opcodes
known_at = every_at (λ (k : ℕ). known (word_at k)) 44 refl

module _ (w : List ℕ) where
  pub instructs-exactly : (o : Opcode) → (word_of w ≡ Instructs o) ↔ (is_named w (table o).name ≡ true)
  instructs-exactly o = exactly w (Instructs o) refl (opcode_is_named o) (opcode_is_found o)

  pub org-exactly : (word_of w ≡ Org) ↔ (is_named w "ORG" ≡ true)
  unfolding word_of word_in statement_words is_named capital opcodes table
  org-exactly = exactly w Org refl refl refl

  pub equ-exactly : (word_of w ≡ Equ) ↔ (is_named w "EQU" ≡ true)
  unfolding word_of word_in statement_words is_named capital opcodes table
  equ-exactly = exactly w Equ refl refl refl

  pub res-exactly : (word_of w ≡ Res) ↔ (is_named w "RES" ≡ true)
  unfolding word_of word_in statement_words is_named capital opcodes table
  res-exactly = exactly w Res refl refl refl

  pub data_exactly : (word_of w ≡ Data) ↔ (is_named w "DATA" ≡ true)
  unfolding word_of word_in statement_words is_named capital opcodes table
  data_exactly = exactly w Data refl refl refl

  pub end-exactly : (word_of w ≡ End) ↔ (is_named w "END" ≡ true)
  unfolding word_of word_in statement_words is_named capital opcodes table
  end-exactly = exactly w End refl refl refl

  place-known : is_one_of w statement_names ≡ true → place_in w statement_names < 44
  unfolding statement_names statement_words opcodes
  place-known e = place_of_one w statement_names e

  unknown_of_none : is_one_of w statement_names ≡ false → word_of w ≡ Unknown
  unfolding word_at statement_names statement_words opcodes
  unknown_of_none e = word_at_place w ∙ ap word_at (place_of_none w statement_names e)

  pub unknown-exactly : (word_of w ≡ Unknown) ↔ (is_one_of w statement_names ≡ false)
  unknown-exactly = (λ e. go (is_one_of w statement_names) refl e, unknown_of_none)
    where
      go : (b : Bool) → is_one_of w statement_names ≡ b → word_of w ≡ Unknown → b ≡ false
      go true f e = sym (known_at (place_in w statement_names) (place-known f)) ∙ ap known (sym (word_at_place w) ∙ e)
      go false f e = refl

  -- ---- registers

  code_of_one : is_one_of w registers ≡ true → register_code w < 16
  unfolding register_code registers
  code_of_one e = place_of_one w registers e

  code_of_none : is_one_of w registers ≡ false → register_code w ≡ 16
  unfolding register_code registers
  code_of_none e = place_of_none w registers e

  pub register-exactly : (register_code w < 16) ↔ (is_one_of w registers ≡ true)
  register-exactly = (λ h. go (is_one_of w registers) refl h, code_of_one)
    where
      go : (b : Bool) → is_one_of w registers ≡ b → register_code w < 16 → b ≡ true
      go true f h = refl
      go false f h = absurd (omega (arith, code_of_none f))

  pub no_register : (register_code w ≡ 16) ↔ (is_one_of w registers ≡ false)
  no_register = (λ e. go (is_one_of w registers) refl e, code_of_none)
    where
      go : (b : Bool) → is_one_of w registers ≡ b → register_code w ≡ 16 → b ≡ false
      go true f e = absurd (omega (arith, code_of_one f))
      go false f e = refl

  pub register_at : (k : ℕ) → k < 16 → (register_code w ≡ k) ↔ (is_named w (get_or registers k "") ≡ true)
  unfolding register_code place_in registers is_named capital
  register_at k h = (
    name_at_place w registers k h,
    λ e.
        let name = get_or registers k "" in
        let i = every_at (λ (j : ℕ). is_named (bytes (get_or registers j "")) (get_or registers j "")) 16 refl k h in
        let f = every_at (λ (j : ℕ). eqb (register_code (bytes (get_or registers j ""))) j) 16 refl k h in
        register_by_case w (bytes name) (named-alike w (bytes name) name e i) ∙ eqb-true (register_code (bytes name)) k f,
  )
