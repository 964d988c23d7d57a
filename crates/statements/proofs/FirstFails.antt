-- Of a list of checks at most one is the first that fails, and none where all pass.
use Prim.Native.Nat.{ℕ}
use mathlib.Core.Bool.{Bool, true, false, not, ◌&&◌}
use mathlib.Core.List.{List, [], ◌∷◌}
use mathlib.Core.Logic.{◌↔◌, ◌⊎◌, inl, inr}
use mathlib.Core.Path.{◌≡◌, sym, ap, ◌∙◌}
use native.Mathlib.Omega.{arith}
use lib.Dec.{eqb}
use borrow.Author.Tests.{eq-eqb}
use Rattle.statements.specs.FirstFailing.{Check, check, Pass, First}

pub first-once : {A : Type 0} (cs : List (Check A)) {a b : A} → First cs a → First cs b → a ≡ b
unfolding First
first-once [] f g = absurd f
first-once (c ∷ cs) (inl f) (inl g) = sym f.1 ∙ g.1
first-once (c ∷ cs) (inl f) (inr g) = absurd (g.0 f.0)
first-once (c ∷ cs) (inr f) (inl g) = absurd (f.0 g.0)
first-once (c ∷ cs) (inr f) (inr g) = first-once cs f.1 g.1

pub pass-none : {A : Type 0} (cs : List (Check A)) (a : A) → Pass cs → First cs a → ⊥
unfolding Pass First
pass-none [] a p f = f
pass-none (c ∷ cs) a p (inl f) = p.0 f.0
pass-none (c ∷ cs) a p (inr f) = pass-none cs a p.1 f.1

-- two lists with the same answers, of which each check fails where the other's does
unfoldable pub Alike : {A : Type 0} → List (Check A) → List (Check A) → Type 0
Alike [] [] = Unit {0}
Alike [] (d ∷ ds) = ⊥
Alike (c ∷ cs) [] = ⊥
Alike (c ∷ cs) (d ∷ ds) = (c.answer ≡ d.answer) × (c.Fails ↔ d.Fails) × Alike cs ds

pub first_alike : {A : Type 0} (cs ds : List (Check A)) (a : A) → Alike cs ds → First cs a → First ds a
unfolding Alike First
first_alike [] [] a h f = f
first_alike [] (d ∷ ds) a h f = absurd h
first_alike (c ∷ cs) [] a h f = absurd h
first_alike (c ∷ cs) (d ∷ ds) a h (inl f) = inl (h.1.0 f.0, sym h.0 ∙ f.1)
first_alike (c ∷ cs) (d ∷ ds) a h (inr f) = inr (λ x. f.0 (h.1.1 x), first_alike cs ds a h.2 f.1)

pub pass-alike : {A : Type 0} (cs ds : List (Check A)) → Alike cs ds → Pass cs → Pass ds
unfolding Alike Pass
pass-alike [] [] h p = p
pass-alike [] (d ∷ ds) h p = absurd h
pass-alike (c ∷ cs) [] h p = absurd h
pass-alike (c ∷ cs) (d ∷ ds) h p = (λ x. p.0 (h.1.1 x), pass-alike cs ds h.2 p.1)

-- no check of the list has this number
abbrev pub lacks : ℕ → List (Check ℕ) → Bool
lacks n [] = true
lacks n (c ∷ cs) = not (eqb c.answer n) && lacks n cs

first-lacks : (n : ℕ) (cs : List (Check ℕ)) → lacks n cs ≡ true → First cs n → ⊥
unfolding First
first-lacks n [] e f = f
first-lacks n (c ∷ cs) e (inl f) = let g = eq-eqb c.answer n f.1 in let z : ◌≡◌ {A = ℕ} 0 1 = cc in omega arith
first-lacks n (c ∷ cs) e (inr f) = first-lacks n cs (go (eqb c.answer n) e) f.1
  where
    go : (b : Bool) → (not b && lacks n cs) ≡ true → lacks n cs ≡ true
    go true q = let z : ◌≡◌ {A = ℕ} 0 1 = cc in absurd (omega arith)
    go false q = q

-- where the later checks have other numbers, the first check fails
pub first_head : (n : ℕ) (c : Check ℕ) (cs : List (Check ℕ)) → lacks n cs ≡ true → First (c ∷ cs) n → c.Fails
unfolding First
first_head n c cs e (inl f) = f.0
first_head n c cs e (inr f) = absurd (first-lacks n cs e f.1)

-- ---- the same checks with other answers

abbrev pub answered : {A B : Type 0} → (A → B) → List (Check A) → List (Check B)
answered g [] = []
answered g (c ∷ cs) = check (g c.answer) c.Fails ∷ answered g cs

pub first-answered : {A B : Type 0} (g : A → B) (cs : List (Check A)) (a : A) → First cs a → First (answered g cs) (g a)
unfolding First
first-answered g [] a f = f
first-answered g (c ∷ cs) a (inl f) = inl (f.0, ap g f.1)
first-answered g (c ∷ cs) a (inr f) = inr (f.0, first-answered g cs a f.1)

pub pass-answered : {A B : Type 0} (g : A → B) (cs : List (Check A)) → Pass cs → Pass (answered g cs)
unfolding Pass
pass-answered g [] p = p
pass-answered g (c ∷ cs) p = (p.0, pass-answered g cs p.1)

-- ---- two checks with one answer, as one

module _ {A : Type 0} (n : A) {P Q R : Type 0} (apart : R → P ⊎ Q) (cs : List (Check A)) where
  neither : (P → ⊥) → (Q → ⊥) → R → ⊥
  neither p q r = go (apart r)
    where
      go : P ⊎ Q → ⊥
      go (inl x) = p x
      go (inr y) = q y

  pub first-joined : (P → R) → (Q → R) → (a : A) → First (check n P ∷ check n Q ∷ cs) a → First (check n R ∷ cs) a
  unfolding First
  first-joined f g a (inl h) = inl (f h.0, h.1)
  first-joined f g a (inr (p, inl h)) = inl (g h.0, h.1)
  first-joined f g a (inr (p, inr h)) = inr (neither p h.0, h.1)

  pub pass-joined : Pass (check n P ∷ check n Q ∷ cs) → Pass (check n R ∷ cs)
  unfolding Pass
  pass-joined p = (neither p.0 p.1.0, p.1.1)
