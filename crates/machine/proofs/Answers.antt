-- What the inner step leaves is what its meaning says: a law for each outcome. Assumes nothing.
use mathlib.Core.Path.{◌≡◌, refl, sym, ap, ◌∙◌}
use mathlib.Core.Bool.{Bool, true, false, cond}
use mathlib.Core.List.{List}
use Prim.Native.Nat.{ℕ}
use Rattle.ports.specs.Input.{Passed, passed}
use Rattle.std.proofs.Common.{Result, Err}
use Rattle.ports.proofs.Laws.{Keeps}
use Rattle.machine.specs.States.{state, machine, with_stop}
use Rattle.machine.specs.Stops.{answer, is_stored, refuses}
use Rattle.machine.specs.Inner.Lent.{running, left}

-- a refusal: 2 to 6 are left as the stop code
module _ (r m out : List ℕ) (taken written k : ℕ) where
  pub refused-left : left r m out (record { stop = k; completed = false; taken = taken; written = written }) ≡ refuses (running r m out taken written) k
  unfolding refuses
  refused-left = go (is_stored k)
    where
      go : (t : Bool) →
          answer (state (machine r (cond t k 0) taken written) m out) k false ≡
          answer (cond t (with_stop (running r m out taken written) k) (running r m out taken written)) k false
      go true = refl
      go false = refl

-- an input or output that is refused leaves the row as it was
pub refused-row : {lent : List ℕ} {place stop : ℕ → Type 0} (its : Passed) → Keeps lent place stop its → {v : Result ℕ ℕ} {row : List ℕ} → passed v row ≡ its →
    (k : ℕ) → v ≡ Err k → row ≡ lent
refused-row its h q k e = ap (λ (x : Passed). x.row) q ∙ (h.refuses (sym (ap (λ (x : Passed). x.moved) q) ∙ e)).0
