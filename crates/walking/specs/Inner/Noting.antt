-- What noting the labels of operands promises: the labels named, by their places in the source.
use Rattle.std.specs.Prelude.{ℕ, ◌+◌, ◌-◌, ◌≤◌, ◌<◌, List, [], ◌∷◌, ◌++◌, ◌≡◌}
use Rattle.isa.specs.declared.Operand.{Operand}
use Rattle.isa.specs.declared.Operand.TheVariants as O
use Rattle.std.specs.Prelude.{Option, Some, None}
use Rattle.values.specs.declared.Name.{Name}
use Rattle.operands.specs.declared.Given.{Given}
use Rattle.codes.specs.Limits.{most_cells}
use Rattle.labels.specs.Inner.Labels.{window, Part, InCell}
use Rattle.sources.specs.Uses.{Use, counted_for}
use Rattle.uses.specs.Inner.Held.{uses_held}

-- how far the address after the instruction lies behind the operand's cell, where its label's value is counted from there
abbrev pub away_for : Operand → ℕ → ℕ
away_for O.Absent n = 0
away_for (O.Immediate v) n = 0
away_for (O.Register r) n = 0
away_for (O.Memory a) n = 0
away_for (O.Indirect r) n = 0
away_for (O.IndexedX d) n = 0
away_for (O.IndexedY d) n = 0
away_for (O.IndexedSp d) n = 0
away_for (O.Relative d) n = n

-- a label's place and the operand's cell fit where they are kept
abbrev pub Placeable : ℕ → ℕ → ℕ → Option Name → Type 0
Placeable from cell next None = Unit {0}
Placeable from cell next (Some n) = (n.start ≤ n.end) × InCell (from + n.end) × (cell < next) × (next ≤ cell + 2) × (next ≤ most_cells)

-- as `useBy`, with the name where it stands in the source
abbrev pub noted_by : List ℕ → ℕ → ℕ → ℕ → ℕ → Operand → Option Name → List Use
noted_by s from k cell next o None = []
noted_by s from k cell next o (Some n) =
    record { line = k; name = window s (from + n.start) (n.end - n.start); cell = cell; counted = counted_for o next } ∷ []

abbrev pub noted : List ℕ → ℕ → ℕ → ℕ → ℕ → Given → List Use
noted s from k cell next g = noted_by s from k cell next g.operand g.label

-- of a line that starts at a place, whatever its source: the rows held n labels, and hold m now, those and then these
abbrev pub AddsOf : ℕ → List ℕ → List ℕ → List ℕ → ℕ → List Use → List ℕ → List ℕ → ℕ → Type 0
AddsOf from line row aways n these row' aways' m = (s : List ℕ) → Part s from line → uses_held s row' aways' m ≡ uses_held s row aways n ++ these
