-- The reading of a source, without a reader: its lines, and what each says up to END (01, "Rules of writing").
use Rattle.std.specs.Prelude.{ℕ, List, [], ◌∷◌, ◌≡◌, Option}
use Rattle.std.proofs.Math.Seq.{slice}
use Rattle.tokens.specs.Lines.{Lines}
use Rattle.values.specs.declared.Name.{Name}
use Rattle.statements.specs.Statements.{Reading, end, Says}

-- a word's bytes in its line
abbrev pub spelled : List ℕ → Name → List ℕ
spelled line n = slice n.start n.end line

-- a line with its label and what it says
pub record Said : Type 0 where
  pub bytes : List ℕ
  pub label : Option Name
  pub says : Reading

abbrev pub said : List ℕ → Option Name → Reading → Said
said bytes l r = record { bytes = bytes; label = l; says = r }

-- "All bytes after END as a statement's word are ignored": some lines, and the readings of those up to END
pub data UpToEnd : List (List ℕ) → List Said → Type 0 where
  over : UpToEnd [] []
  ends : {bytes : List ℕ} {lines : List (List ℕ)} {l : Option Name} → Says bytes l end → UpToEnd (bytes ∷ lines) (said bytes l end ∷ [])
  more : {bytes : List ℕ} {lines : List (List ℕ)} {xs : List Said} {l : Option Name} {r : Reading} → Says bytes l r → (r ≡ end → ⊥)
      → UpToEnd lines xs
      → UpToEnd (bytes ∷ lines) (said bytes l r ∷ xs)

-- a source and its reading
pub record SourceText (source : List ℕ) (xs : List Said) : Type 0 where
  pub lines : List (List ℕ)
  pub has : Lines source lines
  pub read : UpToEnd lines xs

-- some lines, the readings of the first of them, none of these END, and the lines after those
pub data Before : List (List ℕ) → List Said → List (List ℕ) → Type 0 where
  at_start : {lines : List (List ℕ)} → Before lines [] lines
  further : {bytes : List ℕ} {lines rest : List (List ℕ)} {xs : List Said} {l : Option Name} {r : Reading} → Says bytes l r → (r ≡ end → ⊥)
      → Before lines xs rest
      → Before (bytes ∷ lines) (said bytes l r ∷ xs) rest
