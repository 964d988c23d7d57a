-- What counters and lent rows stand for, as a place (sources/specs/Placing.antt); and what an answer says.
use Rattle.std.specs.Prelude.{ℕ, ◌+◌, ◌≤◌, ◌<◌, Bool, ◌&&◌, List, ◌≡◌, ltb, length, take, drop}
use Rattle.labels.specs.Inner.Labels.{words, zipped}
use Rattle.codes.specs.Refusals.{number}
use Rattle.codes.specs.declared.refusals.Refusal.{Refusal}
use Rattle.codes.specs.Limits.{most_cells, most_labels}
use Rattle.std.specs.Prelude.{Some, Result, Ok, Err}
use Rattle.statements.specs.declared.Statement.{Statement}
use Rattle.statements.specs.declared.Failure.{Failure}
use Rattle.values.specs.declared.Name.{Name}
use Rattle.sources.specs.Placing.{Place, does_read, labelled, acted, after}
use Rattle.sources.specs.Order.{◌on◌}
use Rattle.sources.specs.Inner.Assembling.{Verdict, passes, refused, and_then, read_line, label_verdict, own_verdict, act_verdict, line_verdict}
use Rattle.sources.specs.declared.Act.{Act}
use Rattle.sources.specs.declared.Gives.{Gives}
use Rattle.sources.specs.declared.Gives.TheVariants.{Waits, Number, Start}
use Rattle.sources.specs.declared.Moves.{Moves}
use Rattle.sources.specs.declared.Moves.TheVariants.{On, Reserving, To}
use Rattle.placing.specs.declared.Counters.{Counters}

-- the labels' names in order of appearance, the values of those that are bound, and the marks
abbrev pub state_of : List (List ℕ) → List ℕ → List ℕ → Counters → Place
state_of ws vs ms c = record { at = c.at.0; bound = zipped (take c.bound ws) vs; waiting = drop c.bound ws; marks = ms }

-- the same, with the names where they stand in the source
abbrev pub place_in : List ℕ → List ℕ → List ℕ → List ℕ → List ℕ → Counters → Place
place_in s starts keys vs ms c = state_of (words s starts keys (c.bound + c.waiting)) vs ms c

pub record Fair (c : Counters) : Type 0 where
  pub low : c.at.0 ≤ most_cells
  pub few : c.bound + c.waiting ≤ most_labels

abbrev pub FairDid : Result Counters Refusal → Type 0
FairDid (Ok c) = Fair c
FairDid (Err f) = Unit {0}

-- as many labels as before
abbrev pub Keeps : ℕ → Result Counters Refusal → Type 0
Keeps n (Ok c) = c.bound + c.waiting ≡ n
Keeps n (Err f) = Unit {0}

-- an answer tells a verdict on the k-th line and the place after it; `of` gives the place that counters stand for
abbrev pub Tells : ℕ → Verdict → Place → (Counters → Place) → Result Counters Refusal → Type 0
Tells k v p of (Ok c) = (v ≡ passes) × (of c ≡ p)
Tells k v p of (Err f) = v ≡ refused (number f on k)

-- whatever names the labels have, as many as the counters say
abbrev pub WithNames : Counters → (List (List ℕ) → Type 0) → Type 0
WithNames c P = (ws : List (List ℕ)) → length ws ≡ c.bound + c.waiting → P ws

-- it tells of an act, at a place with so many cells
abbrev pub TellsAct : ℕ → Act → Place → (Counters → Place) → ℕ → Result Counters Refusal → Type 0
TellsAct M a p of k r = Tells k (act_verdict M k p a) (acted p a) of r

-- of a statement: its own refusal, then its act
abbrev pub TellsStatement : ℕ → Result Statement Failure → Place → (Counters → Place) → ℕ → Result Counters Refusal → Type 0
TellsStatement M s p of k r = Tells k (and_then (own_verdict k s) (act_verdict M k p (does_read s))) (acted p (does_read s)) of r

-- of a line's own label
abbrev pub TellsLabel : List ℕ → Name → Place → (Counters → Place) → ℕ → Result Counters Refusal → Type 0
TellsLabel line n p of k r = Tells k (label_verdict k p line (Some n)) (labelled p line (Some n)) of r

-- of a whole line
abbrev pub TellsLine : ℕ → List ℕ → Place → (Counters → Place) → ℕ → Result Counters Refusal → Type 0
TellsLine M line p of k r = Tells k (line_verdict M k p (read_line line)) (after p (read_line line)) of r

-- counters after labels have been bound: at the same address, as many labels, and the place is the earlier one, bound so
abbrev pub Binds : (Place → Place) → Counters → List ℕ → Counters → List ℕ → Type 0
Binds bound c vs c' vs' =
    Fair c'
    × (c'.at.0 ≡ c.at.0)
    × (c'.bound + c'.waiting ≡ c.bound + c.waiting)
    × ((ws : List (List ℕ)) (ms : List ℕ) → length ws ≡ c.bound + c.waiting → state_of ws vs' ms c' ≡ bound (state_of ws vs ms c))

-- where an act leads is an address, unless it passes the memory's end or 65,536
abbrev pub Sound : Moves → ℕ → Type 0
Sound (On n) claims = n ≡ claims
Sound (Reserving n) claims = Unit {0}
Sound (To v) claims = v ≤ most_cells

-- the test of 11, by numbers
abbrev pub past_at : ℕ → ℕ → ℕ → Bool
past_at M at n = ltb 0 n && ltb M (at + n)

-- waiting labels can get what an act gives
abbrev pub BindsFine : Counters → Gives → Type 0
BindsFine c Waits = Unit {0}
BindsFine c (Number v) = Unit {0}
BindsFine c Start = 0 < c.waiting → c.at.0 < most_cells
