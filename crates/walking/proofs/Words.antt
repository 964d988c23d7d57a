-- The words of an allowed instruction, cell after cell.
use Prim.Native.Nat.{ℕ, ◌+◌}
use mathlib.Core.Bool.{true}
use mathlib.Core.List.{List}
use mathlib.Core.Path.{◌≡◌, sym, ap, ap₂, ◌∙◌}
use native.Mathlib.Omega.{arith}
use lib.ListN.{set}
use lib.Seq.{sets}
use Rattle.isa.specs.Encoding.{allowed, words_of, Encoding, encode_of, words_in, answered}
use Rattle.isa.specs.declared.Encoded.{Encoded}
use Rattle.std.proofs.Common.{Option, Some}
use Rattle.isa.specs.declared.Encoded.TheVariants.{One, Two, Three}
use Rattle.isa.specs.declared.Instruction.{Instruction}
use Rattle.isa.proofs.Top.{encoder-words}
use Rattle.statements.specs.declared.Statement.{Statement}
use Rattle.sources.specs.Inner.Assembling.{raw_by}

module _ (i : Instruction) {r : Option Encoded} (t : allowed i ≡ true) (p : answered r ≡ encode_of i) (m : List ℕ) (at : ℕ) where
  -- by the encoder's answer
  pub as_encoded : {e : Option Encoded} → r ≡ e → sets m at (words_in e) ≡ sets m at (words_of i)
  as_encoded q = ap (sets m at) (ap words_in (sym q) ∙ ap (λ (e : Encoding). e.words) p ∙ encoder-words i t)

  pub one_written : {m' : List ℕ} {x : ℕ} → r ≡ Some (One x) → m' ≡ set m at x → m' ≡ sets m at (words_of i)
  one_written q e = e ∙ as_encoded q

  pub two-written : {m' m'' : List ℕ} {x y : ℕ} → r ≡ Some (Two x y) → m' ≡ set m at x → m'' ≡ set m' (at + 1) y → m'' ≡ sets m at (words_of i)
  two-written {y = y} q e f =
      let n : at + 1 ≡ ℕ.suc at = omega arith in
      f ∙ ap₂ (λ (l : List ℕ) (k : ℕ). set l k y) e n ∙ as_encoded q

  pub three-written : {m' m'' m''' : List ℕ} {x y z : ℕ} → r ≡ Some (Three x y z) → m' ≡ set m at x → m'' ≡ set m' (at + 1) y → m''' ≡ set m'' (at + 2) z
      → m''' ≡ sets m at (words_of i)
  three-written {y = y} {z = z} q e f g =
      let n : at + 1 ≡ ℕ.suc at = omega arith in
      let k : at + 2 ≡ ℕ.suc (ℕ.suc at) = omega arith in
      g ∙ ap₂ (λ (l : List ℕ) (k : ℕ). set l k z) (f ∙ ap₂ (λ (l : List ℕ) (k : ℕ). set l k y) e n) k ∙ as_encoded q

-- the cells of a statement, by what it is
pub as_said : (line m : List ℕ) (at : ℕ) {x y : Statement} {m' : List ℕ} → x ≡ y → m' ≡ sets m at (raw_by line y) → m' ≡ sets m at (raw_by line x)
as_said line m at e h = h ∙ ap (λ (s : Statement). sets m at (raw_by line s)) (sym e)
