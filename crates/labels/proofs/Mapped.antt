-- What `map_err` hands on, by what it was given.
use mathlib.Core.Path.{◌≡◌, refl, subst}
use Rattle.std.proofs.Common.{Result, Ok, Err, MatchResult, IsErrAnd}
use Rattle.statements.proofs.Labelling.{never}

module _ {A E D : Type 0} (r : Result A E) {m : Result A D} (P : E → D → Type 0) (h : MatchResult r (λ x. m ≡ Ok x) (λ e. IsErrAnd m (P e))) where
  -- what passes is as it was
  pub mapped-ok : {x : A} → m ≡ Ok x → r ≡ Ok x
  mapped-ok {x} q = go r h
    where
      go : (s : Result A E) → MatchResult s (λ y. m ≡ Ok y) (λ e. IsErrAnd m (P e)) → s ≡ Ok x
      go (Ok y) g = cc
      go (Err e) g = absurd (subst (λ (z : Result A D). IsErrAnd z (P e)) q g)

  -- what fails is what the function makes of the error
  pub mapped-err : {d : D} → m ≡ Err d → (e : E) × (r ≡ Err e) × P e d
  mapped-err {d} q = go r h
    where
      go : (s : Result A E) → MatchResult s (λ y. m ≡ Ok y) (λ e. IsErrAnd m (P e)) → (e : E) × (s ≡ Err e) × P e d
      go (Ok y) g = never (cc)
      go (Err e) g = (e, refl, subst (λ (z : Result A D). IsErrAnd z (P e)) q g)
