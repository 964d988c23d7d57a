-- The letters of a number, one by one; those of a name's number are the name.
use Prim.Native.Nat.{ℕ, zero, suc, ◌+◌, ◌*◌, ◌/◌, ◌%◌, ◌≤◌, ◌<◌}
use Prim.Native.String.{String}
use mathlib.Core.Bool.{Bool, true, ◌&&◌}
use mathlib.Core.List.{List, [], ◌∷◌}
use mathlib.Core.Path.{◌≡◌, refl, sym, ap, ◌∙◌}
use native.Mathlib.Decide.{dec_lt}
use native.Mathlib.Omega.{arith}
use lib.Dec.{leb}
use lib.ListN.{length, get_or, set, length-set, get_or-eq_default}
use borrow.Author.Tests.{eq-eqb, ne_eqb, leb-true}
use Rattle.numerals.specs.Bytes.{bytes}
use Rattle.isa.specs.Opcodes.{table, opcodes, opcode_of}
use Rattle.isa.specs.declared.Opcode.{Opcode}
use Rattle.isa.proofs.Tests.{both_true, every_at}
use Rattle.isa.proofs.Numbers.{each}
use Rattle.names.specs.Names.{same, registers}
use Rattle.names.specs.Inner.Packing.{pack}
use Rattle.names.proofs.Same.{same_equal}
use Rattle.ports.specs.Overwriting.{overwrite}
use Rattle.ports.proofs.Overwrites.{overwrite-none, overwrite-one}
use Rattle.texts.specs.Inner.Wrote.{Wrote}
use Rattle.texts.proofs.Rooms.{overwrite_on}
use Rattle.listing.specs.Lines.{register_name}
use Rattle.listing.specs.Inner.Letters.{letters_by, letters_of}

-- ---- one by one

-- numbers of so many digits are below this
abbrev power : ℕ → ℕ
power zero = 1
power (suc digits) = 256 * power digits

-- no more digits than a number has play a part
letters-enough : (digits n : ℕ) → n < power digits → letters_by (suc digits) n ≡ letters_by digits n
unfolding letters_by
letters-enough zero n h = rw (eq-eqb n 0 (omega arith))
letters-enough (suc digits) n h = rw (letters-enough digits (n / 256) (omega arith))

-- the first letter, and those that are left
letters-more : (n : ℕ) → n < 18446744073709551616 → (n ≡ 0 → ⊥) → letters_of n ≡ n % 256 ∷ letters_of (n / 256)
unfolding letters_by
letters-more n h d = rw (ne_eqb n 0 d) (ap (λ (l : List ℕ). n % 256 ∷ l) (sym (letters-enough 7 (n / 256) (omega arith))))

-- a room after the loop that writes letters, with the place behind them: those of what is left still have to be written
abbrev pub Spelling : List ℕ → ℕ → ℕ → List ℕ → ℕ → ℕ → Type 0
Spelling xs at n room put left =
    (length room ≡ length xs)
    × (left < 18446744073709551616)
    × (put + length (letters_of left) ≡ at + length (letters_of n))
    × (overwrite room put (letters_of left) ≡ overwrite xs at (letters_of n))

module _ (xs : List ℕ) (at n : ℕ) (room : List ℕ) (put left : ℕ) (inv : Spelling xs at n room put left) where
  module _ (some : left ≡ 0 → ⊥) where
    pub spelling_length : put + suc (length (letters_of (left / 256))) ≡ at + length (letters_of n)
    spelling_length = rw (letters-more left inv.1 some) at inv.2

    pub spelling_more : at + length (letters_of n) ≤ length xs → Spelling xs at n (set room put (left % 256)) (put + 1) (left / 256)
    spelling_more fits =
        let rest = letters_of (left / 256) in
        let long = spelling_length in (
          length-set room put (left % 256) ∙ inv.0,
          omega arith,
          omega arith,
          rw (overwrite-one room put (left % 256) (omega arith))
              (overwrite_on room put (left % 256 ∷ []) rest (omega arith) ∙ (rw (letters-more left inv.1 some) at inv.3)),
        )

  pub spelling_end : left ≡ 0 → Wrote xs at (letters_of n) room put
  unfolding letters_by
  spelling_end e =
      let none : letters_of left ≡ [] = rw e in
      (omega (arith, rw none at inv.2), sym (overwrite-none room put) ∙ (rw none at inv.3))

-- ---- names

-- a name's number has its letters, and there are so many of them at most
abbrev spelled : ℕ → String → Bool
spelled most name = same (letters_of (pack (bytes name))) (bytes name) && leb (length (bytes name)) most

pub record Spelled (most : ℕ) (name : String) : Type 0 where
  pub letters : letters_of (pack (bytes name)) ≡ bytes name
  pub short : length (bytes name) ≤ most

spelled_is : (most : ℕ) (name : String) → spelled most name ≡ true → Spelled most name
spelled_is most name e =
    let both = both_true (same (letters_of (pack (bytes name))) (bytes name)) (leb (length (bytes name)) most) e in
    record { letters = same_equal (letters_of (pack (bytes name))) (bytes name) both.0; short = leb-true (length (bytes name)) most both.1 }

pub opcode-spelled : (o : Opcode) → Spelled 6 (table o).name
unfolding table opcodes opcode_of letters_by pack
opcode-spelled o = spelled_is 6 (table o).name (each (λ (p : Opcode). spelled 6 (table p).name) refl o)

-- of no register too, whose name is empty
pub register-spelled : (r : ℕ) → Spelled 2 (get_or registers r "")
unfolding registers letters_by pack
register-spelled r =
    elim (dec_lt r 16) [
      | yes l ↦ spelled_is 2 (get_or registers r "") (every_at (λ (k : ℕ). spelled 2 (get_or registers k "")) 16 refl r l)
      | no g ↦ rw (get_or-eq_default registers "" {n = r} (omega arith)) (spelled_is 2 "" refl)
    ]

-- the letters that the code writes, by the number that it has
pub opcode-letters : (o : Opcode) {n : ℕ} → n ≡ pack (bytes (table o).name) → letters_of n ≡ bytes (table o).name
opcode-letters o e = ap letters_of e ∙ (opcode-spelled o).letters

pub register-letters : (r : ℕ) {n : ℕ} → n ≡ pack (register_name r) → letters_of n ≡ register_name r
register-letters r e = ap letters_of e ∙ (register-spelled r).letters
