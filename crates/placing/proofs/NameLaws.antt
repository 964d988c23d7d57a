-- Names with their values, as the rows keep them: what binding all labels that wait leaves.
use Prim.Native.Nat.{ℕ, ◌+◌, ◌-◌, ◌≤◌}
use mathlib.Core.List.{List, [], ◌∷◌, ◌++◌}
use mathlib.Core.Path.{◌≡◌, refl, sym, ap, ap₂, ◌∙◌}
use native.Mathlib.Omega.{arith}
use lib.ListN.{length, take, drop, replicate, take-append-drop, length-drop}
use lib.Seq.{take_all, length-take-le, drop-length}
use Rattle.sources.specs.Placing.{Bound, Place, bound_to, bound_all}
use Rattle.statements.proofs.Labelling.{never}
use Rattle.labels.specs.Inner.Labels.{zipped}
use Rattle.placing.specs.Inner.State.{state_of}
use Rattle.placing.specs.declared.Counters.{Counters}

-- as many values of one kind as names
zip_fill : (ws : List (List ℕ)) (vs : List ℕ) (v : ℕ) → take (length ws) vs ≡ replicate (length ws) v → zipped ws vs ≡ bound_to v ws
unfolding zipped bound_to
zip_fill [] vs v e = refl
zip_fill (w ∷ ws) [] v e = never (cc)
zip_fill (w ∷ ws) (x ∷ vs) v e =
    let p : x ≡ v = cc in
    let q : take (length ws) vs ≡ replicate (length ws) v = cc in
    ap₂ (λ (y : ℕ) (bs : List Bound). record { name = w; value = y } ∷ bs) p (zip_fill ws vs v q)

-- the values before stay, those behind are all one
zip_join : (us ws : List (List ℕ)) (vs vs' : List ℕ) (v : ℕ) → length us ≤ length vs
    → take (length (us ++ ws)) vs' ≡ take (length us) vs ++ replicate (length ws) v
    → zipped (us ++ ws) vs' ≡ zipped us vs ++ bound_to v ws
unfolding zipped
zip_join [] ws vs vs' v h e = zip_fill ws vs' v e
zip_join (u ∷ us) ws [] vs' v h e = absurd (omega arith)
zip_join (u ∷ us) ws (x ∷ vs) [] v h e = never (cc)
zip_join (u ∷ us) ws (x ∷ vs) (y ∷ vs') v h e =
    let p : y ≡ x = cc in
    let q : take (length (us ++ ws)) vs' ≡ take (length us) vs ++ replicate (length ws) v = cc in
    ap₂ (λ (z : ℕ) (bs : List Bound). record { name = u; value = z } ∷ bs) p (zip_join us ws vs vs' v (omega arith) q)

-- what `bind` leaves
pub bound_all_lem : (c : Counters) (ws : List (List ℕ)) (vs vs' ms : List ℕ) (v : ℕ) → length ws ≡ c.bound + c.waiting
    → c.bound ≤ length vs
    → take (c.bound + c.waiting) vs' ≡ take c.bound vs ++ replicate (c.bound + c.waiting - c.bound) v
    → state_of ws vs' ms (record { at = c.at; bound = c.bound + c.waiting; waiting = 0 }) ≡ bound_all v (state_of ws vs ms c)
bound_all_lem c ws vs vs' ms v l h e =
    let b = c.bound in
    let n = c.bound + c.waiting in
    let us = take b ws in
    let rs = drop b ws in
    let j : us ++ rs ≡ ws = take-append-drop b ws in
    let lu : length us ≡ b = length-take-le b ws (omega arith) in
    let lr : length rs ≡ n - b = length-drop b ws ∙ ap (λ (x : ℕ). x - b) l in
    let lj : length (us ++ rs) ≡ n = ap length j ∙ l in
    let f : take (length (us ++ rs)) vs' ≡ take (length us) vs ++ replicate (length rs) v = rw (lj, lu, lr) e in
    let z : zipped (us ++ rs) vs' ≡ zipped us vs ++ bound_to v rs = zip_join us rs vs vs' v (omega arith) f in
    let t : take n ws ≡ ws = take_all n ws (omega arith) in
    let y : zipped (take n ws) vs' ≡ zipped us vs ++ bound_to v rs = ap (λ (x : List (List ℕ)). zipped x vs') (t ∙ sym j) ∙ z in
    let d : drop n ws ≡ [] = ap (λ (x : ℕ). drop x ws) (sym l) ∙ drop-length ws in
    ap₂ (λ (x : List Bound) (w : List (List ℕ)). place x w) y d
  where
    place : List Bound → List (List ℕ) → Place
    place bs ws = record { at = c.at.0; bound = bs; waiting = ws; marks = ms }
