-- Operands, their modes and their words. Assumes nothing.
use mathlib.Core.Path.{◌≡◌, refl, sym, ap, ◌∙◌}
use mathlib.Core.Bool.{Bool, true, false, cond, false≢true}
use mathlib.Core.List.{[], ◌∷◌}
use Prim.Native.Nat.{ℕ, zero, suc, ◌<◌}
use native.Mathlib.Omega.{arith}
use borrow.Author.Tests.{lt-ltb, not-true}
use lib.Dec.{ltb, eqb, eqb-suc-zero}
use Rattle.isa.specs.declared.Kinds.{Kinds}
use Rattle.isa.specs.declared.Kinds.TheVariants.{Nothing, Source, Destination, Place, Target}
use Rattle.isa.specs.declared.Operand.{Operand}
use Rattle.isa.specs.declared.Operand.TheVariants.{Absent, Immediate, Register, Memory, Indirect, IndexedX, IndexedY, IndexedSp, Relative}
use Rattle.codes.specs.Registers.{is_register}
use Rattle.isa.specs.Opcodes.{present_in}
use Rattle.isa.specs.Operands.{mode_of, operand_words, register_there, modes_of, one_of, seventh, is_target, seventh_fits, operand_of}
use Rattle.isa.specs.Inner.Words.{word_of}
use Rattle.isa.specs.Decoding.{words_of_mode}
use Rattle.isa.proofs.Tests.{or_false}

pub mode-below : (o : Operand) → mode_of o < 8
mode-below Absent = omega arith
mode-below (Immediate v) = omega arith
mode-below (Register r) = omega arith
mode-below (Memory a) = omega arith
mode-below (Indirect r) = omega arith
mode-below (IndexedX d) = omega arith
mode-below (IndexedY d) = omega arith
mode-below (IndexedSp d) = omega arith
mode-below (Relative d) = omega arith

-- an operand has a word unless it is absent
pub words-of : (o : Operand) → operand_words o ≡ cond (ltb 0 (mode_of o)) (word_of o ∷ []) []
words-of Absent = refl
words-of (Immediate v) = refl
words-of (Register r) = refl
words-of (Memory a) = refl
words-of (Indirect r) = refl
words-of (IndexedX d) = refl
words-of (IndexedY d) = refl
words-of (IndexedSp d) = refl
words-of (Relative d) = refl

pub one_word : (o : Operand) → (mode_of o ≡ 0 → ⊥) → operand_words o ≡ word_of o ∷ []
one_word o d = words-of o ∙ ap (λ (b : Bool). cond b (word_of o ∷ []) []) (lt-ltb 0 (mode_of o) (omega arith))

-- mode 7 by what the opcode allows
pub seventh-target : (k : Kinds) (d : ℕ) → is_target k ≡ true → seventh k d ≡ Relative d
seventh-target Target d e = refl
seventh-target Nothing d e = absurd (false≢true e)
seventh-target Source d e = absurd (false≢true e)
seventh-target Destination d e = absurd (false≢true e)
seventh-target Place d e = absurd (false≢true e)

pub seventh-other : (k : Kinds) (d : ℕ) → is_target k ≡ false → seventh k d ≡ IndexedSp d
seventh-other Target d e = absurd (false≢true (sym e))
seventh-other Nothing d e = refl
seventh-other Source d e = refl
seventh-other Destination d e = refl
seventh-other Place d e = refl

-- a mode of a kind's list has a word unless the kind is Nothing
pub mode-present : (k : Kinds) (mode : ℕ) → one_of (modes_of k) mode ≡ true → words_of_mode mode ≡ present_in k
mode-present Nothing zero e = refl
mode-present Nothing (suc n) e = absurd (false≢true (sym (or_false (eqb (suc n) 0) ∙ eqb-suc-zero n) ∙ e))
mode-present Source zero e = absurd (false≢true e)
mode-present Source (suc n) e = ap (λ (b : Bool). cond b 1 0) (lt-ltb 0 (suc n) (omega arith))
mode-present Destination zero e = absurd (false≢true e)
mode-present Destination (suc n) e = ap (λ (b : Bool). cond b 1 0) (lt-ltb 0 (suc n) (omega arith))
mode-present Place zero e = absurd (false≢true e)
mode-present Place (suc n) e = ap (λ (b : Bool). cond b 1 0) (lt-ltb 0 (suc n) (omega arith))
mode-present Target zero e = absurd (false≢true e)
mode-present Target (suc n) e = ap (λ (b : Bool). cond b 1 0) (lt-ltb 0 (suc n) (omega arith))

-- an operand that is made of its own mode and word is that operand
pub operand-back : (k : Kinds) (o : Operand) (v : ℕ) → seventh_fits k o ≡ true → (0 < mode_of o → v ≡ word_of o)
    → operand_of k (mode_of o) v ≡ o
unfolding operand_of
operand-back k Absent v e w = refl
operand-back k (Immediate x) v e w = ap Immediate (w (omega arith))
operand-back k (Register x) v e w = ap Register (w (omega arith))
operand-back k (Memory x) v e w = ap Memory (w (omega arith))
operand-back k (Indirect x) v e w = ap Indirect (w (omega arith))
operand-back k (IndexedX x) v e w = ap IndexedX (w (omega arith))
operand-back k (IndexedY x) v e w = ap IndexedY (w (omega arith))
operand-back k (IndexedSp x) v e w = seventh-other k v (not-true (is_target k) e) ∙ ap IndexedSp (w (omega arith))
operand-back k (Relative x) v e w = seventh-target k v e ∙ ap Relative (w (omega arith))

-- what is made of a mode and a word has that mode and that word, suits its kind, and names a register if the word does
pub record Made (k : Kinds) (mode v : ℕ) (o : Operand) : Type 0 where
  pub its-mode : mode_of o ≡ mode
  pub its-words : operand_words o ≡ cond (ltb 0 mode) (v ∷ []) []
  pub fits : seventh_fits k o ≡ true
  pub register : is_register v ≡ true → register_there o ≡ true

made_seventh : (k : Kinds) (v : ℕ) → Made k 7 v (seventh k v)
made_seventh Nothing v = record { its-mode = refl; its-words = refl; fits = refl; register = λ t. refl }
made_seventh Source v = record { its-mode = refl; its-words = refl; fits = refl; register = λ t. refl }
made_seventh Destination v = record { its-mode = refl; its-words = refl; fits = refl; register = λ t. refl }
made_seventh Place v = record { its-mode = refl; its-words = refl; fits = refl; register = λ t. refl }
made_seventh Target v = record { its-mode = refl; its-words = refl; fits = refl; register = λ t. refl }

pub operand_made : (k : Kinds) (mode v : ℕ) → mode < 8 → Made k mode v (operand_of k mode v)
unfolding operand_of
operand_made k zero v h = record { its-mode = refl; its-words = refl; fits = refl; register = λ t. refl }
operand_made k (suc zero) v h = record { its-mode = refl; its-words = refl; fits = refl; register = λ t. refl }
operand_made k (suc (suc zero)) v h = record { its-mode = refl; its-words = refl; fits = refl; register = λ t. t }
operand_made k (suc (suc (suc zero))) v h = record { its-mode = refl; its-words = refl; fits = refl; register = λ t. refl }
operand_made k (suc (suc (suc (suc zero)))) v h = record { its-mode = refl; its-words = refl; fits = refl; register = λ t. t }
operand_made k (suc (suc (suc (suc (suc zero))))) v h = record { its-mode = refl; its-words = refl; fits = refl; register = λ t. refl }
operand_made k (suc (suc (suc (suc (suc (suc zero)))))) v h = record { its-mode = refl; its-words = refl; fits = refl; register = λ t. refl }
operand_made k (suc (suc (suc (suc (suc (suc (suc zero))))))) v h = made_seventh k v
operand_made k (suc (suc (suc (suc (suc (suc (suc (suc n)))))))) v h = absurd (omega arith)
