-- A statement at its place: the labels that wait are bound, the verdict, and the place after it.
use Prim.Native.Nat.{ℕ, ◌+◌}
use mathlib.Core.Bool.{Bool, cond, false, ◌&&◌}
use mathlib.Core.List.{List, [], ◌++◌, append-nil}
use mathlib.Core.Path.{◌≡◌, refl, sym, ap, ◌∙◌}
use native.Mathlib.Omega.{arith}
use lib.Dec.{ltb, leb}
use lib.ListN.{length, take, drop, length-drop}
use lib.Seq.{drop-length}
use borrow.Author.Tests.{lt-ltb, leb-false}
use Rattle.codes.specs.Limits.{most_cells}
use Rattle.isa.specs.declared.Address.{Address}
use Rattle.labels.specs.Inner.Labels.{zipped}
use Rattle.sources.specs.Placing.{Bound, Place, bound_to, bound_all, bound_by, moved_by, marked, acted}
use Rattle.sources.specs.Order.{◌on◌}
use Rattle.sources.specs.Inner.Assembling.{passes, refused, first_of, gives_start, reserves_too_far, taken, act_verdict}
use Rattle.sources.specs.declared.Act.{Act}
use Rattle.sources.specs.declared.Gives.{Gives}
use Rattle.sources.specs.declared.Gives.TheVariants.{Waits, Number, Start}
use Rattle.placing.specs.Inner.State.{state_of, past_at, BindsFine}
use Rattle.placing.specs.declared.Counters.{Counters}

-- ---- binding

-- where none waits, none is bound
pub none-waits : (c : Counters) (ws : List (List ℕ)) (vs ms : List ℕ) (v : ℕ) → length ws ≡ c.bound + c.waiting → c.waiting ≡ 0
    → state_of ws vs ms c ≡ bound_all v (state_of ws vs ms c)
unfolding bound_to
none-waits c ws vs ms v l e =
    let q : c.bound ≡ length ws = omega arith in
    let d : drop c.bound ws ≡ [] = ap (λ (n : ℕ). drop n ws) q ∙ drop-length ws in
    let b = zipped (take c.bound ws) vs in
    ap (λ (x : List (List ℕ)). place b x) d
    ∙ ap (λ (x : List Bound). place x []) (sym (append-nil b ∙ refl) ∙ sym (ap (λ (x : List (List ℕ)). b ++ bound_to v x) d))
  where
    place : List Bound → List (List ℕ) → Place
    place x y = record { at = c.at.0; bound = x; waiting = y; marks = ms }

pub waits_as : {g : Gives} {p : Place} (q : Place) → g ≡ Waits → p ≡ q → p ≡ bound_by g q
waits_as {g} q e f = f ∙ sym (ap (λ (x : Gives). bound_by x q) e)

pub number_as : {g : Gives} {p : Place} (q : Place) {v : ℕ} → g ≡ Number v → p ≡ bound_all v q → p ≡ bound_by g q
number_as {g} q e f = f ∙ sym (ap (λ (x : Gives). bound_by x q) e)

pub start_as : {g : Gives} {p : Place} (q : Place) → g ≡ Start → p ≡ bound_all q.at q → p ≡ bound_by g q
start_as {g} q e f = f ∙ sym (ap (λ (x : Gives). bound_by x q) e)

-- what `bind_by` asks for
pub binds_fine : (c : Counters) (g : Gives) → (gives_start g && (ltb 0 c.waiting && leb most_cells c.at.0)) ≡ false → BindsFine c g
binds_fine c Waits e = tt
binds_fine c (Number v) e = tt
binds_fine c Start e = λ h. leb-false most_cells c.at.0 (rw (lt-ltb 0 c.waiting h) at e)

-- ---- the verdict and the place

waiting-long : (c : Counters) (ws : List (List ℕ)) → length ws ≡ c.bound + c.waiting → length (drop c.bound ws) ≡ c.waiting
waiting-long c ws l = omega (arith, length-drop c.bound ws)

-- the verdict, by the tests' answers
pub place-by : (M k : ℕ) (c : Counters) (a : Act) (ws : List (List ℕ)) (vs ms : List ℕ) {x y z t : Bool} → length ws ≡ c.bound + c.waiting
    → (gives_start a.gives && (ltb 0 c.waiting && leb most_cells c.at.0)) ≡ x
    → reserves_too_far a.moves c.at.0 ≡ y
    → past_at M c.at.0 a.claims ≡ z
    → taken ms c.at.0 a.claims ≡ t
    → act_verdict M k (state_of ws vs ms c) a
    ≡ cond x (refused (6 on k)) (cond y (refused (6 on k)) (cond z (refused (11 on k)) (cond t (refused (12 on k)) passes)))
unfolding act_verdict first_of
place-by M k c a ws vs ms l e f g h = rw (waiting-long c ws l, e, f, g, h)

-- the place after it: `d` is what binding left, `m` where it leads
pub placed_state : (c d : Counters) (a : Act) (ws : List (List ℕ)) (vs vs' ms ms' : List ℕ) (m : Address)
    → state_of ws vs' ms d ≡ bound_by a.gives (state_of ws vs ms c)
    → ms' ≡ marked c.at.0 a ms
    → m.0 ≡ moved_by a.moves c.at.0
    → state_of ws vs' ms' (record { at = m; bound = d.bound; waiting = d.waiting }) ≡ acted (state_of ws vs ms c) a
unfolding acted
placed_state c d a ws vs vs' ms ms' m e f g =
    let p : Place = bound_by a.gives (state_of ws vs ms c) in
    let b : zipped (take d.bound ws) vs' ≡ p.bound = ap (λ (x : Place). x.bound) e in
    let w : drop d.bound ws ≡ p.waiting = ap (λ (x : Place). x.waiting) e in
    ap (λ (x : ℕ). place x (zipped (take d.bound ws) vs') (drop d.bound ws) ms') g
    ∙ ap (λ (x : List Bound). place (moved_by a.moves c.at.0) x (drop d.bound ws) ms') b
    ∙ ap (λ (x : List (List ℕ)). place (moved_by a.moves c.at.0) p.bound x ms') w
    ∙ ap (λ (x : List ℕ). place (moved_by a.moves c.at.0) p.bound p.waiting x) f
  where
    place : ℕ → List Bound → List (List ℕ) → List ℕ → Place
    place x y z t = record { at = x; bound = y; waiting = z; marks = t }
