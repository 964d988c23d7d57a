-- The runs, the lines and the reply as functions.
use Rattle.std.specs.Prelude.{ℕ, zero, suc, ◌+◌, ◌-◌, cond, ◌&&◌, ◌||◌, not, List, [], ◌∷◌, ◌++◌, map, eqb, ltb, length}
use Rattle.codes.specs.Limits.{longest_source}
use Rattle.codes.specs.Marks.{free, code_mark, reserved_mark}
use Rattle.isa.specs.Decoding.{decode_of}
use Rattle.isa.specs.declared.Decoded.{Decoded}
use Rattle.std.specs.Prelude.{Result, Ok, Err}
use Rattle.isa.specs.declared.Undecoded.{Undecoded}
use Rattle.isa.specs.declared.Instruction.{Instruction}
use Rattle.image.specs.Printing.{good_loan}
use Rattle.listing.specs.Lines.{text_of_lines}
use Rattle.listing.specs.Runs.{Run, run}
use Rattle.listing.specs.Listing.{origin_at, reserved_lines, Leaves, refused, given}
use Rattle.listing.specs.declared.Entry.{Entry}
use Rattle.listing.specs.declared.Entry.TheVariants.{Instructs, Holds, Finish}

-- ---- the runs

-- a claimed cell before some runs: it joins the first of them where that begins right behind it with the same mark
abbrev pub joined : ℕ → ℕ → ℕ → List Run → List Run
joined at k x [] = run at k (x ∷ []) ∷ []
joined at k x (r ∷ rs) =
    cond (eqb r.from (at + 1) && eqb r.mark k) (run at k (x ∷ r.cells) ∷ rs) (run at k (x ∷ []) ∷ r ∷ rs)

-- the runs of cells and marks, the first of them at an address
unfoldable pub runs_from : ℕ → List ℕ → List ℕ → List Run
runs_from at [] ks = []
runs_from at (x ∷ xs) [] = []
runs_from at (x ∷ xs) (k ∷ ks) = cond (eqb k free) (runs_from (at + 1) xs ks) (joined at k x (runs_from (at + 1) xs ks))

-- ---- a code run

-- the instructions of a run, or the address of the first that fails
pub data Parts : Type 0 where
  whole : List Instruction → Parts
  fails : ℕ → Parts

abbrev pub before : Instruction → Parts → Parts
before i (whole is) = whole (i ∷ is)
before i (fails a) = fails a

abbrev pub parts_by : ℕ → Result Decoded Undecoded → (ℕ → Parts) → Parts
parts_by at (Ok r) rest = before r.instruction (rest (r.next.0 - 1))
parts_by at (Err why) rest = fails at

-- each instruction begins where the one before ended, and all its words lie in the run; `more` words at the head belong to an instruction
-- that is read already
unfoldable pub parts_from : List ℕ → ℕ → ℕ → Parts
parts_from [] more at = whole []
parts_from (w ∷ ws) (suc more) at = parts_from ws more (at + 1)
parts_from (w ∷ ws) zero at = parts_by at (decode_of (w ∷ ws) 0) (λ more. parts_from ws more (at + 1))

-- ---- the lines

pub data Found : Type 0 where
  found : List Entry → Found
  failing : ℕ → Found

abbrev pub code_lines : Parts → Found
code_lines (whole is) = found (map Instructs is)
code_lines (fails a) = failing a

unfoldable pub run_lines : Run → Found
run_lines r =
    cond (eqb r.mark code_mark)
    (code_lines (parts_from r.cells 0 r.from))
    (cond (eqb r.mark reserved_mark) (found (reserved_lines (length r.cells))) (found (map Holds r.cells)))

abbrev pub joined_by : List Entry → Found → Found → Found
joined_by os (found es) (found fs) = found (os ++ (es ++ fs))
joined_by os (found es) (failing a) = failing a
joined_by os (failing a) rest = failing a

unfoldable pub lines_from : ℕ → List Run → Found
lines_from behind [] = found (Finish ∷ [])
lines_from behind (r ∷ rs) = joined_by (origin_at behind r.from) (run_lines r) (lines_from (r.from + length r.cells) rs)

-- the lines of a memory and its map
abbrev pub lines_of : List ℕ → List ℕ → Found
lines_of memory marks = lines_from 0 (runs_from 0 memory marks)

-- ---- the whole

abbrev pub reply_by : List ℕ → Found → Leaves
reply_by room (found es) =
    cond (ltb (length room) (length (text_of_lines es)) || ltb longest_source (length (text_of_lines es)))
    (refused 3 0 room)
    (given (text_of_lines es) room)
reply_by room (failing a) = refused 2 a room

unfoldable pub list_of : List ℕ → List ℕ → List ℕ → Leaves
list_of memory marks room = cond (not (good_loan memory marks)) (refused 1 0 room) (reply_by room (lines_of memory marks))
