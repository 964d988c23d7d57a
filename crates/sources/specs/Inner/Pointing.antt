-- Where the verdict on a source points, as a function: the refused line is read once more. `proofs/Top.antt` shows that it is Pointing.antt's.
use Rattle.std.specs.Prelude.{ℕ, Bool, List}
use Rattle.columns.specs.Columns.{pointed_at, pointed, line_numbered, name_column}
use Rattle.columns.specs.declared.Pointed.{Pointed}
use Rattle.sources.specs.Placing.{Bound, bindings}
use Rattle.sources.specs.Uses.{Use}
use Rattle.sources.specs.Inner.Assembling.{Verdict, passes, refused, loan_verdict, lines_verdict, last_line, end_verdict, uses_verdict, second_refused, work_of}

abbrev pub nowhere : Pointed
nowhere = pointed_at 0 0

-- of a line that is refused, or else further
abbrev pub line_then : List ℕ → Verdict → Pointed → Pointed
line_then source (refused why) further = pointed (line_numbered source why.line) why.number
line_then source passes further = further

-- of what is lent, or of the source's end
abbrev pub nowhere_then : Verdict → Pointed → Pointed
nowhere_then (refused why) further = nowhere
nowhere_then passes further = further

-- of the labels that operands name: the refused one is its line's second or not
abbrev pub label_point_by : List ℕ → Bool → Verdict → Pointed
label_point_by source second (refused why) = pointed_at (name_column (line_numbered source why.line) why.number second) 0
label_point_by source second passes = nowhere

abbrev pub label_point : List ℕ → List Bound → List Use → Pointed
label_point source bs us = label_point_by source (second_refused 0 bs us) (uses_verdict bs us)

-- of a source, where nothing is wrong with what is lent
abbrev pub source_point : ℕ → List ℕ → Pointed
source_point M source =
    let w = work_of M source in
    line_then source (lines_verdict M source)
    (nowhere_then (end_verdict (last_line source) w.place)
    (label_point source (bindings w.place) w.uses))

unfoldable pub point_of : ℕ → ℕ → List ℕ → Pointed
point_of M N source = nowhere_then (loan_verdict M N source) (source_point M source)
