-- The walk as a loop sees it: from a place of the source on, the line there, and the lines behind it unless it is END.
use Prim.Native.Nat.{ℕ, ◌+◌, ◌≤◌, ◌<◌}
use mathlib.Core.Bool.{Bool, true, false, cond}
use mathlib.Core.List.{List, [], ◌∷◌}
use mathlib.Core.Path.{◌≡◌, refl, ap, ◌∙◌}
use native.Mathlib.Omega.{arith}
use lib.ListN.{length, take, drop}
use Rattle.tokens.specs.Reading.{line_length, lines_of}
use Rattle.tokens.proofs.Top.{next-line, no_more_lines}
use Rattle.statements.specs.Reading.{line_read}
use Rattle.sources.specs.Inner.Assembling.{ends_it, up_to_end}

-- the line at a place, and where the loop goes on: the source's end behind END
abbrev pub line_at : List ℕ → ℕ → List ℕ
line_at s from = take (line_length (drop from s)) (drop from s)

abbrev pub lines_from : List ℕ → ℕ → List (List ℕ)
lines_from s from = up_to_end (lines_of (drop from s))

abbrev pub goes_on : List ℕ → ℕ → ℕ
goes_on s from = cond (ends_it (line_read (line_at s from)).statement) (length s) (from + line_length (drop from s) + 1)

pub lines-over : (s : List ℕ) (from : ℕ) → length s ≤ from → lines_from s from ≡ []
unfolding up_to_end
lines-over s from h = ap up_to_end (no_more_lines s from h)

pub lines_on : (s : List ℕ) (from : ℕ) → from < length s → lines_from s from ≡ line_at s from ∷ lines_from s (goes_on s from)
unfolding up_to_end
lines_on s from h = ap up_to_end (next-line s from h) ∙ ap (λ (ls : List (List ℕ)). line_at s from ∷ ls) (go (ends_it (line_read (line_at s from)).statement))
  where
    on : ℕ
    on = from + line_length (drop from s) + 1

    go : (b : Bool) → cond b [] (up_to_end (lines_of (drop on s))) ≡ lines_from s (cond b (length s) on)
    go true = rw (lines-over s (length s) (omega arith))
    go false = refl
