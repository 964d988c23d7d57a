-- Addresses, labels and cells, line by line (01, "Rules of writing": "Addresses start at 0. A label waits for the next statement ..").
use Rattle.std.specs.Prelude.{ℕ, ◌+◌, List, [], ◌∷◌, ◌++◌, map, replicate, Option, Some, None, Result, Ok, Err}
use Rattle.std.proofs.lemmas.List.Edits.{sets}
use Rattle.statements.specs.declared.Failure.{Failure}
use Rattle.values.specs.declared.Name.{Name}
use Rattle.statements.specs.Judging.{judged, claim_of}
use Rattle.statements.specs.declared.LineRead.{LineRead}
use Rattle.statements.specs.declared.Statement.{Statement}
use Rattle.statements.specs.declared.Statement.TheVariants.{Nothing, Instruction, Org, Equ, Res, Data, End}
use Rattle.codes.specs.Marks.{free, code_mark, data_mark, reserved_mark}
use Rattle.sources.specs.Sources.{Said, spelled}
use Rattle.sources.specs.declared.Act.{Act}
use Rattle.sources.specs.declared.Gives.{Gives}
use Rattle.sources.specs.declared.Gives.TheVariants.{Waits, Number, Start}
use Rattle.sources.specs.declared.Moves.{Moves}
use Rattle.sources.specs.declared.Moves.TheVariants.{On, Reserving, To}

-- ---- what a statement does

abbrev pub act : Gives → Moves → ℕ → ℕ → Act
act g m n k = record { gives = g; moves = m; claims = n; mark = k }

-- what a line without a statement does
abbrev pub idle : Act
idle = act Waits (On 0) 0 free

-- a statement's cells, claimed from its start on
abbrev pub claiming : Statement → ℕ → Act
claiming s k = act Start (On (claim_of s)) (claim_of s) k

-- "EQU gives its value; an instruction, DATA or RES its start; ORG lets it wait on; END .. gives the current address" (01); "RES must
-- claim its cells, marked 3 in the map" (02, K2)
unfoldable pub does : Statement → Act
does Nothing = idle
does (Instruction op a b) = claiming (Instruction op a b) code_mark
does (Org v) = act Waits (To v) 0 free
does (Equ v) = act (Number v) (On 0) 0 free
does (Res v) = act Start (Reserving v) (claim_of (Res v)) reserved_mark
does (Data n) = claiming (Data n) data_mark
does End = act Start (On 0) 0 free

-- a line that fails does nothing
abbrev pub does_read : Result Statement Failure → Act
does_read (Ok s) = does s
does_read (Err why) = idle

-- ---- the place

-- a label and its value
pub record Bound : Type 0 where
  pub name : List ℕ
  pub value : ℕ

-- the address, the labels that are bound, those that wait, and the map
pub record Place : Type 0 where
  pub at : ℕ
  pub bound : List Bound
  pub waiting : List (List ℕ)
  pub marks : List ℕ

-- "Addresses start at 0"
unfoldable pub start : ℕ → Place
start M = record { at = 0; bound = []; waiting = []; marks = replicate M free }

-- the names of all labels so far
unfoldable pub names : Place → List (List ℕ)
names p = map (λ b. b.name) p.bound ++ p.waiting

-- "A label waits for the next statement"
abbrev pub label_in : List ℕ → Option Name → List (List ℕ)
label_in bytes None = []
label_in bytes (Some n) = spelled bytes n ∷ []

-- the place with a line's own label, which waits
abbrev pub labelled : Place → List ℕ → Option Name → Place
labelled p bytes l = record { at = p.at; bound = p.bound; waiting = p.waiting ++ label_in bytes l; marks = p.marks }

-- labels with one value
unfoldable pub bound_to : ℕ → List (List ℕ) → List Bound
bound_to v ws = map (λ w. record { name = w; value = v }) ws

-- "All waiting labels are bound at once"
abbrev pub bound_all : ℕ → Place → Place
bound_all v p = record { at = p.at; bound = p.bound ++ bound_to v p.waiting; waiting = []; marks = p.marks }

abbrev pub bound_by : Gives → Place → Place
bound_by Waits p = p
bound_by (Number v) p = bound_all v p
bound_by Start p = bound_all p.at p

abbrev pub moved_by : Moves → ℕ → ℕ
moved_by (On n) at = at + n
moved_by (Reserving n) at = at + n
moved_by (To v) at = v

-- the cells that a statement claims get its mark
abbrev pub marked : ℕ → Act → List ℕ → List ℕ
marked at a marks = sets marks at (replicate a.claims a.mark)

-- the place after a statement
unfoldable pub acted : Place → Act → Place
acted p a =
    let q = bound_by a.gives p in
    record { at = moved_by a.moves p.at; bound = q.bound; waiting = q.waiting; marks = marked p.at a p.marks }

-- a line's bytes, its label, and what its statement comes to
pub record Judged : Type 0 where
  pub bytes : List ℕ
  pub read : LineRead

abbrev pub judged_line : Said → Judged
judged_line x = record { bytes = x.bytes; read = record { label = x.label; statement = judged x.says } }

-- the place after a line
unfoldable pub after : Place → Judged → Place
after p x = acted (labelled p x.bytes x.read.label) (does_read x.read.statement)

-- the place after some lines
unfoldable pub place_after : Place → List Judged → Place
place_after p [] = p
place_after p (x ∷ xs) = place_after (after p x) xs

-- the place after lines with their readings, from the start
abbrev pub place_of : ℕ → List Said → Place
place_of M xs = place_after (start M) (map judged_line xs)

-- where the line after this one starts
abbrev pub next_from : ℕ → Judged → ℕ
next_from at x = moved_by (does_read x.read.statement).moves at

-- the labels' values once the source's end has been reached: "the source's end gives the current address"
unfoldable pub bindings : Place → List Bound
bindings p = p.bound ++ bound_to p.at p.waiting
