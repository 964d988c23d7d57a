-- A run of stores: the cells it reaches, and the others; and cells that are 0.
use Prim.Native.Nat.{ℕ, zero, suc, ◌+◌, ◌≤◌, ◌<◌}
use mathlib.Core.Bool.{Bool, true, false}
use mathlib.Core.List.{List, [], ◌∷◌, ◌++◌}
use mathlib.Core.Path.{◌≡◌, refl, sym, ap, ◌∙◌}
use native.Mathlib.Omega.{arith}
use lib.Dec.{ltb}
use lib.ListN.{length, get_or, set, replicate, length-set, length-replicate, get_or-replicate, get_or-eq_default}
use lib.Seq.{sets, get_or-set_same, get_or-set_other, set-set, set_comm}
use borrow.Author.Tests.{ltb-true, ltb-false}

-- a cell is none of n cells from an address on
abbrev pub Outside : ℕ → ℕ → ℕ → Type 0
Outside a at n = (i : ℕ) → i < n → a ≡ at + i → ⊥

-- a cell outside the run keeps what it has
pub sets-other : (vs m : List ℕ) (at a : ℕ) → Outside a at (length vs) → get_or (sets m at vs) a 0 ≡ get_or m a 0
sets-other [] m at a o = refl
sets-other (v ∷ vs) m at a o =
    sets-other vs (set m at v) (suc at) a (λ i h e. o (suc i) (omega arith) (omega arith))
    ∙ get_or-set_other m at a v 0 (λ e. o 0 (omega arith) (omega arith))

-- a cell of the run gets its value
pub sets_same : (vs m : List ℕ) (at i : ℕ) → at + length vs ≤ length m → i < length vs → get_or (sets m at vs) (at + i) 0 ≡ get_or vs i 0
sets_same [] m at i l h = absurd (omega arith)
sets_same (v ∷ vs) m at zero l h =
    let e : at + 0 ≡ at = omega arith in
    ap (λ (a : ℕ). get_or (sets (set m at v) (suc at) vs) a 0) e
    ∙ sets-other vs (set m at v) (suc at) at (λ i h e. omega arith)
    ∙ get_or-set_same m at v 0 (omega arith)
sets_same (v ∷ vs) m at (suc i) l h =
    let e : at + suc i ≡ suc at + i = omega arith in
    ap (λ (a : ℕ). get_or (sets (set m at v) (suc at) vs) a 0) e
    ∙ sets_same vs (set m at v) (suc at) i (omega (arith, length-set m at v)) (omega arith)

-- a store outside the run can come before it
pub set-sets : (vs m : List ℕ) (at a v : ℕ) → Outside a at (length vs) → set (sets m at vs) a v ≡ sets (set m a v) at vs
set-sets [] m at a v o = refl
set-sets (w ∷ vs) m at a v o =
    set-sets vs (set m at w) (suc at) a v (λ i h e. o (suc i) (omega arith) (omega arith))
    ∙ ap (λ (l : List ℕ). sets l (suc at) vs) (set_comm m at a w v (λ e. o 0 (omega arith) (omega arith)))

-- a store into the run is the run with that value in its place
pub set-inside : (before after m : List ℕ) (at x v : ℕ)
    → set (sets m at (before ++ x ∷ after)) (at + length before) v ≡ sets m at (before ++ v ∷ after)
set-inside [] after m at x v =
    let e : at + 0 ≡ at = omega arith in
    ap (λ (a : ℕ). set (sets (set m at x) (suc at) after) a v) e
    ∙ set-sets after (set m at x) (suc at) at v (λ i h e. omega arith)
    ∙ ap (λ (l : List ℕ). sets l (suc at) after) (set-set m at x v)
set-inside (w ∷ before) after m at x v =
    let e : at + suc (length before) ≡ suc at + length before = omega arith in
    ap (λ (a : ℕ). set (sets (set m at w) (suc at) (before ++ x ∷ after)) a v) e
    ∙ set-inside before after (set m at w) (suc at) x v

-- ---- zeros

-- a cell of zeros, and any beyond them
pub zero-there : (n a : ℕ) → get_or {A = ℕ} (replicate n 0) a 0 ≡ 0
zero-there n a = go (ltb a n) refl
  where
    go : (b : Bool) → ltb a n ≡ b → get_or {A = ℕ} (replicate n 0) a 0 ≡ 0
    go true e = get_or-replicate n a 0 0 (ltb-true a n e)
    go false e = get_or-eq_default (replicate n 0) 0 (omega (arith, ltb-false a n e, length-replicate {A = ℕ} n 0))

-- 0 into a cell that is 0
zero-stays : (m : List ℕ) (at : ℕ) → get_or m at 0 ≡ 0 → set m at 0 ≡ m
zero-stays [] at e = refl
zero-stays (x ∷ m) zero e = ap (λ (y : ℕ). y ∷ m) (sym e)
zero-stays (x ∷ m) (suc at) e = ap (λ (l : List ℕ). x ∷ l) (zero-stays m at e)

-- zeros over cells that are 0
pub zeros_stay : (n : ℕ) (m : List ℕ) (at : ℕ) → ((i : ℕ) → i < n → get_or m (at + i) 0 ≡ 0) → m ≡ sets m at (replicate n 0)
zeros_stay zero m at z = refl
zeros_stay (suc n) m at z =
    let e : at + 0 ≡ at = omega arith in
    let here : set m at 0 ≡ m = zero-stays m at (ap (λ (a : ℕ). get_or m a 0) (sym e) ∙ z 0 (omega arith)) in
    let there : (i : ℕ) → i < n → get_or m (suc at + i) 0 ≡ 0 =
    λ i h.
    let f : suc at + i ≡ at + suc i = omega arith in
    ap (λ (a : ℕ). get_or m a 0) f ∙ z (suc i) (omega arith) in
    zeros_stay n m (suc at) there ∙ ap (λ (l : List ℕ). sets l (suc at) (replicate n 0)) (sym here)
