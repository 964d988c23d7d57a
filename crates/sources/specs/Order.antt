-- The checks in the paper's order, and the first that fails (01, "Refusing a source").
use Rattle.std.specs.Prelude.{ℕ, ◌+◌, ◌≤◌, ◌<◌, ◌⊎◌, ◌≡◌, length, get_or, Option, Ok}
use mathlib.Core.List.{List, [], ◌∷◌, ◌++◌, map, Memᴰ}
use Rattle.tokens.specs.Lines.{Lines}
use Rattle.values.specs.declared.Name.{Name}
use Rattle.statements.specs.Statements.{Reading, Says, Labelled, UnknownWord, NoReading}
use Rattle.statements.specs.FirstFailing.{Check, check, Pass, First}
use Rattle.statements.specs.Checks.{OfReading, WrongCount, WrongKind, TooDeep, NumberOut, ZeroDivisor, ResultOut}
use Rattle.statements.specs.Judging.{judged}
use Rattle.statements.specs.declared.Statement.{Statement}
use Rattle.codes.specs.Limits.{most_cells, longest_source, most_labels, longest_label}
use Rattle.codes.specs.Marks.{free}
use Rattle.sources.specs.Sources.{spelled, Said, SourceText, Before}
use Rattle.sources.specs.Placing.{does, Bound, Place, start, names, labelled, judged_line, after, place_of, bindings}
use Rattle.sources.specs.Uses.{known, unknown, value_of, Counted, plainly, from, Use, uses_of}
use Rattle.sources.specs.declared.Act.{Act}
use Rattle.sources.specs.declared.Gives.TheVariants.{Start}
use Rattle.sources.specs.declared.Moves.{Moves}
use Rattle.sources.specs.declared.Moves.TheVariants.{On, Reserving, To}

-- a refusal's number, and its line
pub record Refusal : Type 0 where
  pub number : ℕ
  pub line : ℕ

infix 6 ◌on◌
abbrev pub ◌on◌ : ℕ → ℕ → Refusal
number on line = record { number = number; line = line }

-- ---- "Order: 1, 2"

-- M cells are lent, and N bytes of map
unfoldable pub loan_checks : ℕ → ℕ → List ℕ → List (Check Refusal)
loan_checks M N source =
    check (1 on 0) ((M ≡ 0) ⊎ ((most_cells < M) ⊎ (N ≡ M → ⊥)))
    ∷ check (2 on 0) (longest_source < length source)
    ∷ []

-- ---- "then line by line up to END"

-- "label addresses (65,536 is 6 ..)": a label that waits would get it
abbrev pub LabelOut : Place → Act → Type 0
LabelOut p a = (a.gives ≡ Start) × (0 < length p.waiting) × (most_cells ≤ p.at)

-- RES: "an address above 65,536 after it is 6"
abbrev pub ReservesTooFar : Moves → ℕ → Type 0
ReservesTooFar (On n) at = ⊥
ReservesTooFar (Reserving n) at = most_cells < at + n
ReservesTooFar (To v) at = ⊥

-- "past cell M-1"; a statement that claims no cell is never 11
abbrev pub PastEnd : ℕ → ℕ → Act → Type 0
PastEnd M at a = (0 < a.claims) × (M < at + a.claims)

-- "a cell claimed twice"
abbrev pub ClaimedTwice : Place → Act → Type 0
ClaimedTwice p a = (i : ℕ) × (i < a.claims) × (get_or p.marks (p.at + i) free ≡ free → ⊥)

module _ (bytes : List ℕ) where
  -- the line has a label of which this holds
  abbrev pub OfLabel : (List ℕ → Type 0) → Type 0
  OfLabel P = (n : Name) × Labelled bytes n × P (spelled bytes n)

  -- the line has a reading that passes its own checks, and of whose label and act this holds
  abbrev pub OfAct : (Option Name → Act → Type 0) → Type 0
  OfAct P = (l : Option Name) × (r : Reading) × (s : Statement) × Says bytes l r × (judged r ≡ Ok s) × P l (does s)

module _ (M k : ℕ) (p : Place) (bytes : List ℕ) where
  -- "label 10, 9; word 4; form 3; 5; 8; 6 or 7 in order of evaluation (left, right, operation); then the statement's result and label
  -- addresses ..; 11; 12", and "15 comes before 16 in its old place", that of 5 (02, K4)
  unfoldable pub line_checks : List (Check Refusal)
  line_checks =
      check (10 on k) (OfLabel bytes (λ w. (longest_label < length w) ⊎ (most_labels ≤ length (names p))))
      ∷ check (9 on k) (OfLabel bytes (λ w. Memᴰ w (names p)))
      ∷ check (4 on k) (UnknownWord bytes)
      ∷ check (3 on k) (NoReading bytes)
      ∷ check (15 on k) (OfReading bytes WrongCount)
      ∷ check (16 on k) (OfReading bytes WrongKind)
      ∷ check (8 on k) (OfReading bytes TooDeep)
      ∷ check (6 on k) (OfReading bytes NumberOut)
      ∷ check (7 on k) (OfReading bytes ZeroDivisor)
      ∷ check (6 on k) (OfReading bytes ResultOut)
      ∷ check (6 on k) (OfAct bytes (λ l a. LabelOut (labelled p bytes l) a))
      ∷ check (6 on k) (OfAct bytes (λ l a. ReservesTooFar a.moves p.at))
      ∷ check (11 on k) (OfAct bytes (λ l a. PastEnd M p.at a))
      ∷ check (12 on k) (OfAct bytes (λ l a. ClaimedTwice p a))
      ∷ []

-- lines with their readings, the k-th the first of them, pass every check, from a place on
unfoldable pub Passed : ℕ → ℕ → Place → List Said → Type 0
Passed M k p [] = Unit {0}
Passed M k p (x ∷ xs) = Pass (line_checks M k p x.bytes) × Passed M (k + 1) (after p (judged_line x)) xs

-- ---- ".. or the last line for labels bound at the source's end, judged after every line and before 13": k is the last line

unfoldable pub end_checks : ℕ → Place → List (Check Refusal)
end_checks k p = check (6 on k) ((0 < length p.waiting) × (most_cells ≤ p.at)) ∷ []

-- ---- "Only if no line fails: 13 and 14 together, by line, then operand"

-- "`$label` outside -32768..32767": "the label's value less the address after the instruction, as plain numbers"
abbrev pub TooFar : Counted → ℕ → Type 0
TooFar plainly v = ⊥
TooFar (from next) v = (v + 32768 < next) ⊎ (next + 32767 < v)

unfoldable pub use_checks : List Bound → List Use → List (Check Refusal)
use_checks bs [] = []
use_checks bs (u ∷ us) =
    check (13 on u.line) (value_of bs u.name ≡ unknown)
    ∷ check (14 on u.line) ((v : ℕ) × (value_of bs u.name ≡ known v) × TooFar u.counted v)
    ∷ use_checks bs us

-- the checks after the last line, at the place that the lines lead to
unfoldable pub late_checks : Place → List Said → List (Check Refusal)
late_checks p xs = end_checks (length xs) p ++ use_checks (bindings p) (uses_of 1 0 (map judged_line xs))

-- ---- the first check that fails

pub data FirstFailing (M N : ℕ) (source : List ℕ) (why : Refusal) : Type 0 where
  -- "Order: 1, 2"
  of_loans : First (loan_checks M N source) why → FirstFailing M N source why
  -- the lines before pass, and on this one the check fails first
  of_line : {lines rest : List (List ℕ)} {xs : List Said} {bytes : List ℕ} → Pass (loan_checks M N source) → Lines source lines
      → Before lines xs (bytes ∷ rest)
      → Passed M 1 (start M) xs
      → First (line_checks M (1 + length xs) (place_of M xs) bytes) why
      → FirstFailing M N source why
  -- no line fails
  of_labels : {xs : List Said} → Pass (loan_checks M N source) → SourceText source xs → Passed M 1 (start M) xs
      → First (late_checks (place_of M xs) xs) why
      → FirstFailing M N source why

-- a reading of the source that passes every check
pub record Passing (M N : ℕ) (source : List ℕ) (xs : List Said) : Type 0 where
  pub loans : Pass (loan_checks M N source)
  pub text : SourceText source xs
  pub lines : Passed M 1 (start M) xs
  pub labels : Pass (late_checks (place_of M xs) xs)
