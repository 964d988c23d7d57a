-- What the rows stand for, and what the walk answers.
use Rattle.std.specs.Prelude.{ℕ, ◌≤◌, ◌<◌, List, ◌≡◌, length, replicate}
use Rattle.codes.specs.Refusals.{number}
use Rattle.codes.specs.Limits.{most_cells, longest_source, most_labels}
use Rattle.codes.specs.Marks.{free}
use Rattle.labels.specs.Inner.Labels.{labels_in, Rows}
use Rattle.sources.specs.Placing.{bindings}
use Rattle.sources.specs.Order.{◌on◌}
use Rattle.sources.specs.Inner.Assembling.{Verdict, passes, refused, and_then, Work, end_verdict, work_of, lines_verdict, last_line}
use Rattle.uses.specs.Inner.Held.{uses_held, Room, most_uses}
use Rattle.placing.specs.Inner.State.{Fair, place_in}
use Rattle.placing.specs.declared.Counters.{Counters}
use Rattle.walking.specs.declared.Lines.{Lines}
use Rattle.std.specs.Prelude.{Result, Ok, Err}
use Rattle.walking.specs.declared.Stopped.{Stopped}
use Rattle.walking.specs.declared.Stopped.TheVariants.{InLine, Late}
use Rattle.walking.specs.declared.Walked.{Walked}

-- what is lent to the walk: a source, the rows of labels, a map and cells that are empty, and the rows of labels that operands name
pub record Lent (s starts keys values marks cells row aways : List ℕ) : Type 0 where
  pub short : length s ≤ longest_source
  pub rows : Rows starts keys values
  pub few-cells : length marks ≤ most_cells
  pub marks-empty : marks ≡ replicate (length marks) free
  pub cells-empty : cells ≡ replicate (length marks) 0
  pub room : Room most_uses row aways

-- the labels' rows, the map, the cells and the rows of labels that operands name, with counters
abbrev pub work_in : List ℕ → List ℕ → List ℕ → List ℕ → List ℕ → List ℕ → List ℕ → List ℕ → Counters → ℕ → Work
work_in s starts keys vs ms cells row aways c uses =
    record { place = place_in s starts keys vs ms c; cells = cells; uses = uses_held s row aways uses }

-- the lines pass and the work has come to this, with so many lines; or the verdict
abbrev pub Says : Verdict → Work → ℕ → (Counters → ℕ → Work) → Result Lines Stopped → Type 0
Says v w n of (Ok r) = (v ≡ passes) × (of r.counters r.uses ≡ w) × (r.last.0 ≡ n) × Fair r.counters × (r.uses < most_uses)
Says v w n of (Err (InLine f l)) = v ≡ refused (number f on l.0)
Says v w n of (Err (Late l)) = ⊥

-- of a source's lines up to END, over so many cells
abbrev pub SaysLines : ℕ → List ℕ → (Counters → ℕ → Work) → Result Lines Stopped → Type 0
SaysLines M source of r = Says (lines_verdict M source) (work_of M source) (last_line source) of r

-- every label is bound, and the rows hold what the work has come to
pub record Holds (s starts keys vs ms memory row aways : List ℕ) (w : Work) (labels named : ℕ) : Type 0 where
  pub few : labels ≤ most_labels
  pub few-named : named < most_uses
  pub bound : labels_in s starts keys vs labels ≡ bindings w.place
  pub marks : ms ≡ w.place.marks
  pub cells : memory ≡ w.cells
  pub uses : uses_held s row aways named ≡ w.uses

-- the same at the source's end, by the verdict on the lines and that on the end: neither refuses, or a line is refused, or the end alone
-- is ("65,536 is 6 .., or the last line for labels bound at the source's end")
abbrev pub Ends : Verdict → Verdict → (ℕ → ℕ → Type 0) → Result Walked Stopped → Type 0
Ends v e held (Ok r) = (and_then v e ≡ passes) × held r.labels r.uses
Ends v e held (Err (InLine f l)) = v ≡ refused (number f on l.0)
Ends v e held (Err (Late l)) = (v ≡ passes) × (e ≡ refused (6 on l.0))

-- the verdict on a source's end
abbrev pub end_of : ℕ → List ℕ → Verdict
end_of M source = end_verdict (last_line source) (work_of M source).place

-- the verdict on a source's lines, then on its end
abbrev pub walk_verdict : ℕ → List ℕ → Verdict
walk_verdict M source = and_then (lines_verdict M source) (end_of M source)

-- of a source, over so many cells
abbrev pub EndsSource : ℕ → List ℕ → (Work → ℕ → ℕ → Type 0) → Result Walked Stopped → Type 0
EndsSource M source held r = Ends (lines_verdict M source) (end_of M source) (held (work_of M source)) r
