-- The first check that fails: of any list of checks, and of whatever is answered where one fails.
use Rattle.std.specs.Prelude.{List, [], ◌∷◌, ◌⊎◌, ◌≡◌}

-- a check: what is answered where it fails, and what it is to fail it
pub record Check (A : Type 0) : Type 1 where
  pub answer : A
  pub Fails : Type 0

abbrev pub check : {A : Type 0} → A → Type 0 → Check A
check answer Fails = record { answer = answer; Fails = Fails }

-- every check passes
unfoldable pub Pass : {A : Type 0} → List (Check A) → Type 0
Pass [] = Unit {0}
Pass (c ∷ cs) = (c.Fails → ⊥) × Pass cs

-- the checks before it pass, and the check with this answer fails
unfoldable pub First : {A : Type 0} → List (Check A) → A → Type 0
First [] a = ⊥
First (c ∷ cs) a = (c.Fails × (c.answer ≡ a)) ⊎ ((c.Fails → ⊥) × First cs a)
