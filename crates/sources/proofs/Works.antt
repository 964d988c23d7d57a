-- What the walk over lines comes to: the place is theirs, and the uses are theirs.
use Prim.Native.Nat.{ℕ, ◌+◌}
use mathlib.Core.List.{List, [], ◌∷◌, ◌++◌, append_assoc, append-nil}
use mathlib.Core.Path.{◌≡◌, refl, sym, ◌∙◌}
use Rattle.sources.specs.Placing.{start, acted, Judged, next_from, after, place_after}
use Rattle.sources.specs.Uses.{uses_read, uses_of}
use Rattle.sources.specs.Inner.Assembling.{Work, start_work, worked, work_after}

-- the place after the k-th line and those behind it
pub place_of_work : (k : ℕ) (w : Work) (xs : List Judged) → (work_after k w xs).place ≡ place_after w.place xs
unfolding work_after worked place_after
place_of_work k w [] = refl
place_of_work k w (x ∷ xs) = place_of_work (k + 1) (worked k w x) xs

-- the labels that their operands name, behind those of the lines before
pub uses_of_work : (k : ℕ) (w : Work) (xs : List Judged) → (work_after k w xs).uses ≡ w.uses ++ uses_of k w.place.at xs
unfolding work_after worked uses_of after acted
uses_of_work k w [] = sym (append-nil w.uses)
uses_of_work k w (x ∷ xs) =
    uses_of_work (k + 1) (worked k w x) xs
    ∙ append_assoc w.uses (uses_read k x.bytes w.place.at x.read.statement) (uses_of (k + 1) (next_from w.place.at x) xs)

-- of a whole source's lines
pub place_of_start : (M : ℕ) (xs : List Judged) → (work_after 1 (start_work M) xs).place ≡ place_after (start M) xs
unfolding start_work
place_of_start M xs = place_of_work 1 (start_work M) xs

pub uses_of_start : (M : ℕ) (xs : List Judged) → (work_after 1 (start_work M) xs).uses ≡ uses_of 1 0 xs
unfolding start_work start
uses_of_start M xs = uses_of_work 1 (start_work M) xs
