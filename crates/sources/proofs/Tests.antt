-- Tests and what they decide.
use Prim.Native.Nat.{ℕ, zero, suc, ◌+◌, ◌≤◌, ◌<◌}
use mathlib.Core.Bool.{Bool, true, false, not, ◌&&◌, ◌||◌}
use mathlib.Core.List.{List, [], ◌∷◌, Memᴰ}
use mathlib.Core.Logic.{◌↔◌, ◌⊎◌, inl, inr}
use mathlib.Core.Path.{◌≡◌, refl, sym, subst}
use native.Mathlib.Omega.{arith}
use lib.Dec.{eqb, leb, ltb}
use lib.ListN.{length, get_or}
use borrow.Author.Tests.{ltb-true, leb-true, eqb-true, lt-ltb, le-leb, eq-eqb, eqb-false}
use Rattle.statements.proofs.Labelling.{never}
use Rattle.names.specs.Names.{same}
use Rattle.names.proofs.Same.{equal_same, same_equal}
use Rattle.codes.specs.Limits.{most_cells}
use Rattle.codes.specs.Marks.{free}
use Rattle.sources.specs.Placing.{Place}
use Rattle.sources.specs.Uses.{Value, known, unknown, Counted, plainly, from}
use Rattle.sources.specs.Order.{LabelOut, ReservesTooFar, PastEnd, TooFar}
use Rattle.sources.specs.Inner.Assembling.{among, gives_start, label_out, reserves_too_far, past_end, taken, is_unknown, too_far}
use Rattle.sources.specs.declared.Act.{Act}
use Rattle.sources.specs.declared.Gives.{Gives}
use Rattle.sources.specs.declared.Gives.TheVariants.{Waits, Number, Start}
use Rattle.sources.specs.declared.Moves.{Moves}
use Rattle.sources.specs.declared.Moves.TheVariants.{On, Reserving, To}

-- the test is true exactly where this holds
abbrev pub Decides : Bool → Type 0 → Type 0
Decides b A = A ↔ (b ≡ true)

pub lt_decides : (a b : ℕ) → Decides (ltb a b) (a < b)
lt_decides a b = (lt-ltb a b, ltb-true a b)

pub le_decides : (a b : ℕ) → Decides (leb a b) (a ≤ b)
le_decides a b = (le-leb a b, leb-true a b)

pub eq_decides : (a b : ℕ) → Decides (eqb a b) (a ≡ b)
eq_decides a b = (eq-eqb a b, eqb-true a b)

pub or_decides : {A B : Type 0} (a b : Bool) → Decides a A → Decides b B → Decides (a || b) (A ⊎ B)
or_decides {A} {B} true b f g = (λ h. refl, λ e. inl (f.1 refl))
or_decides {A} {B} false b f g = (go, λ e. inr (g.1 e))
  where
    go : A ⊎ B → (false || b) ≡ true
    go (inl x) = let e : false ≡ true = f.0 x in never (cc)
    go (inr y) = g.0 y

pub and_decides : {A B : Type 0} (a b : Bool) → Decides a A → Decides b B → Decides (a && b) (A × B)
and_decides true b f g = (λ h. g.0 h.1, λ e. (f.1 refl, g.1 e))
and_decides false b f g = (λ h. f.0 h.0, λ e. never (cc))

pub not_decides : {A : Type 0} (a : Bool) → Decides a A → Decides (not a) (A → ⊥)
not_decides true f = (λ h. absurd (h (f.1 refl)), λ e. never (cc))
not_decides false f = (λ h. refl, λ e x. let z : false ≡ true = f.0 x in never (cc))

-- ---- words

pub same_decides : (x y : List ℕ) → Decides (same x y) (x ≡ y)
same_decides x y = (equal_same x y, same_equal x y)

pub among_decides : (w : List ℕ) (xs : List (List ℕ)) → Decides (among w xs) (Memᴰ w xs)
unfolding among
among_decides w [] = (λ h. elim h [ ], λ e. never (cc))
among_decides w (x ∷ xs) =
    let k = or_decides (same x w) (among w xs) (same_decides x w) (among_decides w xs) in
    (λ h. k.0 (out h), λ e. back (k.1 e))
  where
    out : Memᴰ w (x ∷ xs) → (x ≡ w) ⊎ Memᴰ w xs
    out (Memᴰ.head e) = inl (sym e)
    out (Memᴰ.tail m) = inr m

    back : (x ≡ w) ⊎ Memᴰ w xs → Memᴰ w (x ∷ xs)
    back (inl e) = Memᴰ.head (sym e)
    back (inr m) = Memᴰ.tail m

-- ---- placing

gives_decides : (g : Gives) → Decides (gives_start g) (g ≡ Start)
gives_decides Waits = (λ e. never (cc), λ e. never (cc))
gives_decides (Number v) = (λ e. never (cc), λ e. never (cc))
gives_decides Start = (λ e. refl, λ e. refl)

-- labels wait at the address after the largest memory
pub waiting_decides : (p : Place)
    → Decides (ltb 0 (length p.waiting) && leb most_cells p.at) ((0 < length p.waiting) × (most_cells ≤ p.at))
waiting_decides p =
    and_decides (ltb 0 (length p.waiting)) (leb most_cells p.at) (lt_decides 0 (length p.waiting)) (le_decides most_cells p.at)

pub label_decides : (p : Place) (a : Act) → Decides (label_out p a) (LabelOut p a)
label_decides p a =
    let k = and_decides (gives_start a.gives) (ltb 0 (length p.waiting) && leb most_cells p.at) (gives_decides a.gives) (waiting_decides p) in
    (λ x. k.0 (x.0, (x.1, x.2)), λ e. let y = k.1 e in (y.0, y.1.0, y.1.1))

pub reserves_decides : (m : Moves) (at : ℕ) → Decides (reserves_too_far m at) (ReservesTooFar m at)
reserves_decides (On n) at = (λ h. absurd h, λ e. never (cc))
reserves_decides (Reserving n) at = lt_decides most_cells (at + n)
reserves_decides (To v) at = (λ h. absurd h, λ e. never (cc))

pub past_decides : (M at : ℕ) (a : Act) → Decides (past_end M at a) (PastEnd M at a)
past_decides M at a =
    and_decides (ltb 0 a.claims) (ltb M (at + a.claims)) (lt_decides 0 a.claims) (lt_decides M (at + a.claims))

-- one of n cells from an address on is not free
abbrev pub Taken : List ℕ → ℕ → ℕ → Type 0
Taken m at n = (i : ℕ) × (i < n) × (get_or m (at + i) free ≡ free → ⊥)

pub taken_decides : (m : List ℕ) (at n : ℕ) → Decides (taken m at n) (Taken m at n)
unfolding taken
taken_decides m at zero = (λ h. absurd (omega (arith, h.1)), λ e. never (cc))
taken_decides m at (suc n) =
    let k = or_decides (taken m at n) (not (eqb (get_or m (at + n) free) free)) (taken_decides m at n)
    (not_decides (eqb (get_or m (at + n) free) free) (eq_decides (get_or m (at + n) free) free)) in
    (λ h. k.0 (out h (eqb h.0 n) refl), λ e. back (k.1 e))
  where
    out : (h : Taken m at (suc n)) (b : Bool) → eqb h.0 n ≡ b → Taken m at n ⊎ (get_or m (at + n) free ≡ free → ⊥)
    out h true e = inr (subst (λ (j : ℕ). get_or m (at + j) free ≡ free → ⊥) (eqb-true h.0 n e) h.2)
    out h false e =
        let ne : h.0 ≡ n → ⊥ = eqb-false h.0 n e in
        inl (h.0, omega (arith, h.1, ne), h.2)

    back : Taken m at n ⊎ (get_or m (at + n) free ≡ free → ⊥) → Taken m at (suc n)
    back (inl h) = (h.0, omega (arith, h.1), h.2)
    back (inr h) = (n, omega arith, h)

-- ---- labels in operands

pub unknown_decides : (v : Value) → Decides (is_unknown v) (v ≡ unknown)
unknown_decides (known v) = (λ e. never (cc), λ e. never (cc))
unknown_decides unknown = (λ e. refl, λ e. refl)

pub far_decides : (c : Counted) (v : Value) → Decides (too_far c v) ((x : ℕ) × (v ≡ known x) × TooFar c x)
far_decides plainly v = (λ h. absurd h.2, λ e. never (cc))
far_decides (from next) unknown = (λ h. let e = h.1 in never (cc), λ e. never (cc))
far_decides (from next) (known v) =
    let k = or_decides (ltb (v + 32768) next) (ltb (next + 32767) v) (lt_decides (v + 32768) next) (lt_decides (next + 32767) v) in (
      λ h. let q = h.1 in let e : v ≡ h.0 = cc in k.0 (subst (λ (x : ℕ). TooFar (from next) x) (sym e) h.2),
      λ e. (v, refl, k.1 e),
    )
