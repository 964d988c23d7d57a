-- The assembler as a function, in the order in which code does it: each line is read once, its cells are written with 0 in the places of
-- labels, and those places are filled once every line has passed. `proofs/Top.antt` shows that it accepts exactly what Order.antt accepts,
-- with the image of Image.antt, and refuses as Order.antt refuses.
use Rattle.std.specs.Prelude.{ℕ, ◌+◌, Bool, true, false, cond, not, ◌&&◌, ◌||◌, List, [], ◌∷◌, ◌++◌, map, eqb, leb, ltb, length, get_or, replicate, set, Option, Some, None, Result, Ok, Err}
use Rattle.std.proofs.lemmas.List.Edits.{sets}
use Rattle.isa.specs.Encoding.{words_of}
use Rattle.tokens.specs.Reading.{lines_of}
use Rattle.names.specs.Names.{same}
use Rattle.statements.specs.declared.Failure.{Failure}
use Rattle.values.specs.declared.Name.{Name}
use Rattle.statements.specs.Judging.{number_of}
use Rattle.statements.specs.Reading.{line_read}
use Rattle.statements.specs.Cells.{cells_in}
use Rattle.statements.specs.declared.Statement.{Statement}
use Rattle.statements.specs.declared.Statement.TheVariants.{Nothing, Instruction, Org, Equ, Res, Data, End}
use Rattle.codes.specs.Limits.{most_cells, longest_source, most_labels, longest_label}
use Rattle.codes.specs.Marks.{free}
use Rattle.sources.specs.Sources.{spelled}
use Rattle.sources.specs.Placing.{does_read, Bound, Place, start, names, labelled, Judged, after, bindings}
use Rattle.sources.specs.Uses.{Value, known, unknown, value_of, Counted, plainly, from, Use, uses_read, counted_word}
use Rattle.sources.specs.Order.{Refusal, ◌on◌}
use Rattle.sources.specs.declared.Act.{Act}
use Rattle.sources.specs.declared.Gives.{Gives}
use Rattle.sources.specs.declared.Gives.TheVariants.{Waits, Number, Start}
use Rattle.sources.specs.declared.Moves.{Moves}
use Rattle.sources.specs.declared.Moves.TheVariants.{On, Reserving, To}

-- ---- tests: a Bool for each check

pub record Test : Type 0 where
  pub answer : Refusal
  pub fails : Bool

abbrev pub test : Refusal → Bool → Test
test answer fails = record { answer = answer; fails = fails }

pub data Verdict : Type 0 where
  passes : Verdict
  refused : Refusal → Verdict

unfoldable pub first_of : List Test → Verdict
first_of [] = passes
first_of (t ∷ ts) = cond t.fails (refused t.answer) (first_of ts)

-- one group of checks, then the next
abbrev pub and_then : Verdict → Verdict → Verdict
and_then passes v = v
and_then (refused why) v = refused why

-- ---- lines

-- a line as `read_line` answers it
abbrev pub read_line : List ℕ → Judged
read_line bytes = record { bytes = bytes; read = line_read bytes }

abbrev pub is_end : Statement → Bool
is_end Nothing = false
is_end (Instruction op a b) = false
is_end (Org v) = false
is_end (Equ v) = false
is_end (Res v) = false
is_end (Data n) = false
is_end End = true

abbrev pub ends_it : Result Statement Failure → Bool
ends_it (Ok s) = is_end s
ends_it (Err why) = false

-- the lines up to END
unfoldable pub up_to_end : List (List ℕ) → List (List ℕ)
up_to_end [] = []
up_to_end (b ∷ bs) = b ∷ cond (ends_it (line_read b).statement) [] (up_to_end bs)

-- ---- 1, 2

unfoldable pub loan_verdict : ℕ → ℕ → List ℕ → Verdict
loan_verdict M N source =
    first_of
    (test (1 on 0) (eqb M 0 || (ltb most_cells M || not (eqb N M)))
    ∷ test (2 on 0) (ltb longest_source (length source))
    ∷ [])

-- ---- a line: its label, its own checks, its address and cells

-- a word is among some
unfoldable pub among : List ℕ → List (List ℕ) → Bool
among w [] = false
among w (x ∷ xs) = same x w || among w xs

unfoldable pub name_verdict : ℕ → Place → List ℕ → Verdict
name_verdict k p w =
    first_of
    (test (10 on k) (ltb longest_label (length w) || leb most_labels (length (names p)))
    ∷ test (9 on k) (among w (names p))
    ∷ [])

abbrev pub label_verdict : ℕ → Place → List ℕ → Option Name → Verdict
label_verdict k p bytes None = passes
label_verdict k p bytes (Some n) = name_verdict k p (spelled bytes n)

abbrev pub own_verdict : ℕ → Result Statement Failure → Verdict
own_verdict k (Ok s) = passes
own_verdict k (Err why) = refused (number_of why on k)

abbrev pub gives_start : Gives → Bool
gives_start Waits = false
gives_start (Number v) = false
gives_start Start = true

abbrev pub label_out : Place → Act → Bool
label_out p a = gives_start a.gives && (ltb 0 (length p.waiting) && leb most_cells p.at)

abbrev pub reserves_too_far : Moves → ℕ → Bool
reserves_too_far (On n) at = false
reserves_too_far (Reserving n) at = ltb most_cells (at + n)
reserves_too_far (To v) at = false

abbrev pub past_end : ℕ → ℕ → Act → Bool
past_end M at a = ltb 0 a.claims && ltb M (at + a.claims)

-- one of n cells from an address on has a mark
unfoldable pub taken : List ℕ → ℕ → ℕ → Bool
taken m at ℕ.zero = false
taken m at (ℕ.suc n) = taken m at n || not (eqb (get_or m (at + n) free) free)

-- at a place with the line's label
unfoldable pub act_verdict : ℕ → ℕ → Place → Act → Verdict
act_verdict M k p a =
    first_of
    (test (6 on k) (label_out p a)
    ∷ test (6 on k) (reserves_too_far a.moves p.at)
    ∷ test (11 on k) (past_end M p.at a)
    ∷ test (12 on k) (taken p.marks p.at a.claims)
    ∷ [])

unfoldable pub line_verdict : ℕ → ℕ → Place → Judged → Verdict
line_verdict M k p x =
    and_then (label_verdict k p x.bytes x.read.label)
    (and_then (own_verdict k x.read.statement)
    (act_verdict M k (labelled p x.bytes x.read.label) (does_read x.read.statement)))

-- line by line
unfoldable pub walk_lines : ℕ → ℕ → Place → List (List ℕ) → Verdict
walk_lines M k p [] = passes
walk_lines M k p (b ∷ bs) = and_then (line_verdict M k p (read_line b)) (walk_lines M (k + 1) (after p (read_line b)) bs)

-- ---- cells, with 0 in the places of labels, and the labels that operands name; nothing is written of RES, as every cell is 0 at the start

abbrev pub raw_by : List ℕ → Statement → List ℕ
raw_by bytes Nothing = []
raw_by bytes (Instruction op a b) = words_of (record { op = op; first = a.operand; second = b.operand })
raw_by bytes (Org v) = []
raw_by bytes (Equ v) = []
raw_by bytes (Res v) = []
raw_by bytes (Data n) = cells_in bytes
raw_by bytes End = []

abbrev pub raw_read : List ℕ → Result Statement Failure → List ℕ
raw_read bytes (Ok s) = raw_by bytes s
raw_read bytes (Err why) = []

-- what the walk over the lines has come to
pub record Work : Type 0 where
  pub place : Place
  pub cells : List ℕ
  pub uses : List Use

unfoldable pub start_work : ℕ → Work
start_work M = record { place = start M; cells = replicate M 0; uses = [] }

unfoldable pub worked : ℕ → Work → Judged → Work
worked k w x =
    record {
      place = after w.place x;
      cells = sets w.cells w.place.at (raw_read x.bytes x.read.statement);
      uses = w.uses ++ uses_read k x.bytes w.place.at x.read.statement;
    }

unfoldable pub work_after : ℕ → Work → List Judged → Work
work_after k w [] = w
work_after k w (x ∷ xs) = work_after (k + 1) (worked k w x) xs

-- ---- after the last line, the k-th

unfoldable pub end_verdict : ℕ → Place → Verdict
end_verdict k p = first_of (test (6 on k) (ltb 0 (length p.waiting) && leb most_cells p.at) ∷ [])

abbrev pub is_unknown : Value → Bool
is_unknown (known v) = false
is_unknown unknown = true

abbrev pub too_far : Counted → Value → Bool
too_far plainly v = false
too_far (from next) (known v) = ltb (v + 32768) next || ltb (next + 32767) v
too_far (from next) unknown = false

-- 13, then 14, of one label
unfoldable pub use_verdict : List Bound → Use → Verdict
use_verdict bs u =
    first_of
    (test (13 on u.line) (is_unknown (value_of bs u.name))
    ∷ test (14 on u.line) (too_far u.counted (value_of bs u.name))
    ∷ [])

unfoldable pub uses_verdict : List Bound → List Use → Verdict
uses_verdict bs [] = passes
uses_verdict bs (u ∷ us) = and_then (use_verdict bs u) (uses_verdict bs us)

-- one label is refused
abbrev pub is_refused : List Bound → Use → Bool
is_refused bs u = is_unknown (value_of bs u.name) || too_far u.counted (value_of bs u.name)

-- the first that is refused is its line's second: the one before it, on the line that is given, is on its line too
unfoldable pub second_refused : ℕ → List Bound → List Use → Bool
second_refused before bs [] = false
second_refused before bs (u ∷ us) = cond (is_refused bs u) (eqb u.line before) (second_refused u.line bs us)

-- each label's word in its cell
unfoldable pub filled : List Bound → List Use → List ℕ → List ℕ
filled bs [] m = m
filled bs (u ∷ us) m = filled bs us (set m u.cell (counted_word u.counted (value_of bs u.name)))

-- ---- the whole

abbrev pub lines_read : List ℕ → List Judged
lines_read source = map read_line (up_to_end (lines_of source))

-- the walk over a source's lines
abbrev pub work_of : ℕ → List ℕ → Work
work_of M source = work_after 1 (start_work M) (lines_read source)

-- the verdict on its lines
abbrev pub lines_verdict : ℕ → List ℕ → Verdict
lines_verdict M source = walk_lines M 1 (start M) (up_to_end (lines_of source))

-- the number of its last line
abbrev pub last_line : List ℕ → ℕ
last_line source = length (up_to_end (lines_of source))

-- what the checks after the last line say
unfoldable pub late_verdict : Work → ℕ → Verdict
late_verdict w k = and_then (end_verdict k w.place) (uses_verdict (bindings w.place) w.uses)

-- the verdict on a source, where nothing is wrong with what is lent
abbrev pub source_verdict : ℕ → List ℕ → Verdict
source_verdict M source = and_then (lines_verdict M source) (late_verdict (work_of M source) (last_line source))

unfoldable pub verdict_of : ℕ → ℕ → List ℕ → Verdict
verdict_of M N source = and_then (loan_verdict M N source) (source_verdict M source)

unfoldable pub memory_of : Work → List ℕ
memory_of w = filled (bindings w.place) w.uses w.cells

pub data Assembled : Type 0 where
  accepted : List ℕ → List ℕ → Assembled
  refuses : Refusal → Assembled

abbrev pub assembled_by : Verdict → List ℕ → List ℕ → Assembled
assembled_by passes memory marks = accepted memory marks
assembled_by (refused why) memory marks = refuses why

unfoldable pub assemble_of : ℕ → ℕ → List ℕ → Assembled
assemble_of M N source =
    assembled_by (verdict_of M N source) (memory_of (work_of M source)) (work_of M source).place.marks
