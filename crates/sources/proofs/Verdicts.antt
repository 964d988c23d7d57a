-- What a verdict says of a list of checks, and how verdicts join. A verdict that says it is the only one that does, so that no law of
-- its completeness stands beside that of its soundness.
use mathlib.Core.Bool.{Bool, true, false, cond}
use mathlib.Core.List.{List, [], ◌∷◌, ◌++◌}
use mathlib.Core.Logic.{◌⊎◌, inl, inr}
use mathlib.Core.Path.{◌≡◌, refl, ap}
use Rattle.statements.specs.FirstFailing.{Check, check, Pass, First}
use Rattle.statements.proofs.FirstFails.{first-once, pass-none, answered}
use Rattle.statements.proofs.Labelling.{never}
use Rattle.sources.specs.Order.{Refusal}
use Rattle.sources.specs.Inner.Assembling.{Test, test, Verdict, passes, refused, first_of, and_then}
use Rattle.sources.proofs.Tests.{Decides}

-- all pass, or this one is the first that fails
abbrev pub Tells : Verdict → List (Check Refusal) → Type 0
Tells passes cs = Pass cs
Tells (refused why) cs = First cs why

-- ---- it is the only one

pub tells-pass : (v : Verdict) (cs : List (Check Refusal)) → Tells v cs → Pass cs → v ≡ passes
tells-pass passes cs t h = refl
tells-pass (refused why) cs t h = absurd (pass-none cs why h t)

pub tells_first : (v : Verdict) (cs : List (Check Refusal)) {why : Refusal} → Tells v cs → First cs why → v ≡ refused why
tells_first passes cs {why} t h = absurd (pass-none cs why t h)
tells_first (refused why) cs t h = ap refused (first-once cs t h)

-- ---- one test, then the others

pub tells_none : Tells (first_of []) []
unfolding first_of Pass
tells_none = tt

pub tells-test : (a : Refusal) (b : Bool) (A : Type 0) (ts : List Test) (cs : List (Check Refusal)) → Decides b A → Tells (first_of ts) cs
    → Tells (first_of (test a b ∷ ts)) (check a A ∷ cs)
unfolding first_of Pass First
tells-test a b A ts cs d t = go b d (first_of ts) t
  where
    go : (b : Bool) → Decides b A → (v : Verdict) → Tells v cs → Tells (cond b (refused a) v) (check a A ∷ cs)
    go true d v t = inl (d.1 refl, refl)
    go false d passes t = (λ x. let e : false ≡ true = d.0 x in never (cc), t)
    go false d (refused why) t = inr (λ x. let e : false ≡ true = d.0 x in never (cc), t)

-- ---- one group, then the next

pass-join : (cs ds : List (Check Refusal)) → Pass cs → Pass ds → Pass (cs ++ ds)
unfolding Pass
pass-join [] ds h k = k
pass-join (c ∷ cs) ds h k = (h.0, pass-join cs ds h.1 k)

pub first-before : (cs ds : List (Check Refusal)) (why : Refusal) → First cs why → First (cs ++ ds) why
unfolding First
first-before [] ds why f = absurd f
first-before (c ∷ cs) ds why (inl f) = inl f
first-before (c ∷ cs) ds why (inr f) = inr (f.0, first-before cs ds why f.1)

pub first-behind : (cs ds : List (Check Refusal)) (why : Refusal) → Pass cs → First ds why → First (cs ++ ds) why
unfolding Pass First
first-behind [] ds why h f = f
first-behind (c ∷ cs) ds why h f = inr (h.0, first-behind cs ds why h.1 f)

-- and back: the first that fails is in the one, or behind it where that passes
pub first-apart : {A : Type 0} (cs ds : List (Check A)) (a : A) → First (cs ++ ds) a → First cs a ⊎ (Pass cs × First ds a)
unfolding Pass First
first-apart [] ds a f = inr (tt, f)
first-apart (c ∷ cs) ds a (inl f) = inl (inl f)
first-apart (c ∷ cs) ds a (inr f) = go (first-apart cs ds a f.1)
  where
    go : First cs a ⊎ (Pass cs × First ds a) → First (c ∷ cs) a ⊎ (Pass (c ∷ cs) × First ds a)
    go (inl g) = inl (inr (f.0, g))
    go (inr (h, g)) = inr ((f.0, h), g)

pub tells-join : (v w : Verdict) (cs ds : List (Check Refusal)) → Tells v cs → (v ≡ passes → Tells w ds) → Tells (and_then v w) (cs ++ ds)
tells-join passes passes cs ds t u = pass-join cs ds t (u refl)
tells-join passes (refused why) cs ds t u = first-behind cs ds why t (u refl)
tells-join (refused why) w cs ds t u = first-before cs ds why t

-- ---- checks with other answers, and back

pub first_unanswered : {A B : Type 0} (g : A → B) (cs : List (Check A)) {b : B} → First (answered g cs) b → (a : A) × First cs a × (g a ≡ b)
unfolding First
first_unanswered g [] f = absurd f
first_unanswered g (c ∷ cs) (inl f) = (c.answer, inl (f.0, refl), f.1)
first_unanswered g (c ∷ cs) (inr f) = let x = first_unanswered g cs f.1 in (x.0, inr (f.0, x.1), x.2)

pub pass_unanswered : {A B : Type 0} (g : A → B) (cs : List (Check A)) → Pass (answered g cs) → Pass cs
unfolding Pass
pass_unanswered g [] h = h
pass_unanswered g (c ∷ cs) h = (h.0, pass_unanswered g cs h.1)
