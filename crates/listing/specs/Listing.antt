-- The lines of a memory and its map, and what `list` replies and leaves in the room, without a walk (02, K1 and K2).
use Rattle.std.specs.Prelude.{ℕ, ◌+◌, ◌-◌, ◌≤◌, ◌<◌, true, false, cond, List, [], ◌∷◌, ◌++◌, map, ◌⊎◌, ◌≡◌, eqb, leb, length, drop}
use Rattle.codes.specs.Limits.{longest_source}
use Rattle.codes.specs.Marks.{code_mark, reserved_mark}
use Rattle.isa.specs.declared.Instruction.{Instruction}
use Rattle.image.specs.Printing.{good_loan}
use Rattle.listing.specs.Lines.{text_of_lines}
use Rattle.listing.specs.Runs.{Run, Runs}
use Rattle.listing.specs.Decodes.{Instructions, FirstUndecoded}
use Rattle.listing.specs.declared.Entry.{Entry}
use Rattle.listing.specs.declared.Entry.TheVariants.{Origin, Instructs, Holds, Reserves, Finish}
use Rattle.std.specs.Prelude.{Result, Ok, Err}
use Rattle.listing.specs.declared.NotListed.{NotListed}
use Rattle.listing.specs.declared.NotListed.TheVariants.{BadLoan, Undecoded, TooLong}

-- ---- the lines

-- "K1 lists a run as `RES n` (a run of 65,536 as `RES 65535`, `RES 1`)" (02, K2)
unfoldable pub reserved_lines : ℕ → List Entry
reserved_lines n = cond (leb n 65535) (Reserves n ∷ []) (Reserves 65535 ∷ Reserves (n - 65535) ∷ [])

-- "one instruction a line, one `DATA` number per data cell"
pub data RunLines (r : Run) : List Entry → Type 0 where
  code-run : {is : List Instruction} → r.mark ≡ code_mark → Instructions r.cells is → RunLines r (map Instructs is)
  data_run : (r.mark ≡ code_mark → ⊥) → (r.mark ≡ reserved_mark → ⊥) → RunLines r (map Holds r.cells)
  reserved-run : r.mark ≡ reserved_mark → RunLines r (reserved_lines (length r.cells))

-- "`ORG` before each run of claimed cells that doesn't follow on from the one before, or from address 0 for the first"
abbrev pub origin_at : ℕ → ℕ → List Entry
origin_at behind at = cond (eqb at behind) [] (Origin (record { 0 = at }) ∷ [])

-- the lines of runs, `behind` being the address behind the run before; "`END` last"
pub data LinesOf : ℕ → List Run → List Entry → Type 0 where
  ends : {behind : ℕ} → LinesOf behind [] (Finish ∷ [])
  one-run : {behind : ℕ} {r : Run} {rs : List Run} {xs es : List Entry} → RunLines r xs → LinesOf (r.from + length r.cells) rs es
      → LinesOf behind (r ∷ rs) (origin_at behind r.from ++ (xs ++ es))

-- "a code run that doesn't decode within itself, with the address of the first instruction that fails"
pub data FirstBadRun : List Run → ℕ → Type 0 where
  here : {r : Run} {rs : List Run} {a : ℕ} → r.mark ≡ code_mark → FirstUndecoded r.cells r.from a → FirstBadRun (r ∷ rs) a
  later : {r : Run} {rs : List Run} {a : ℕ} {xs : List Entry} → RunLines r xs → FirstBadRun rs a → FirstBadRun (r ∷ rs) a

-- ---- the reply

-- the paper's number of an answer, 0 where a listing is given
abbrev pub refusal_of : Result ℕ NotListed → ℕ
refusal_of (Ok n) = 0
refusal_of (Err BadLoan) = 1
refusal_of (Err (Undecoded a)) = 2
refusal_of (Err TooLong) = 3

-- the address that an answer tells, and the text's length
abbrev pub address_of : Result ℕ NotListed → ℕ
address_of (Ok n) = 0
address_of (Err BadLoan) = 0
address_of (Err (Undecoded a)) = a.0
address_of (Err TooLong) = 0

abbrev pub length_of : Result ℕ NotListed → ℕ
length_of (Ok n) = n
length_of (Err BadLoan) = 0
length_of (Err (Undecoded a)) = 0
length_of (Err TooLong) = 0

-- a refusal or 0, the address of the instruction that fails or 0, the text's length, and the room after
pub record Leaves : Type 0 where
  pub refusal : ℕ
  pub address : ℕ
  pub text : ℕ
  pub room : List ℕ

abbrev pub leaves : Result ℕ NotListed → List ℕ → Leaves
leaves answer room = record { refusal = refusal_of answer; address = address_of answer; text = length_of answer; room = room }

-- "nothing written"
abbrev pub refused : ℕ → ℕ → List ℕ → Leaves
refused number address room = record { refusal = number; address = address; text = 0; room = room }

-- the text at the head of the room, and all behind it as it was
abbrev pub given : List ℕ → List ℕ → Leaves
given text room = record { refusal = 0; address = 0; text = length text; room = text ++ drop (length text) room }

-- "Refusals in this order, nothing written: 1 bad lengths or a map mark outside 0..2; 2 a code run that doesn't decode within itself ..;
-- 3 text above the room lent or 32,768 bytes" (02, K1); "K1 and printing take marks 0..3" (02, K2): the loan is judged as printing judges it
pub data Replies (memory marks room : List ℕ) : Leaves → Type 0 where
  bad-loan : good_loan memory marks ≡ false → Replies memory marks room (refused 1 0 room)
  undecoded : {rs : List Run} {a : ℕ} → good_loan memory marks ≡ true → Runs memory marks 0 rs → FirstBadRun rs a
      → Replies memory marks room (refused 2 a room)
  too_long : {rs : List Run} {es : List Entry} → good_loan memory marks ≡ true → Runs memory marks 0 rs → LinesOf 0 rs es
      → (length room < length (text_of_lines es)) ⊎ (longest_source < length (text_of_lines es))
      → Replies memory marks room (refused 3 0 room)
  gives : {rs : List Run} {es : List Entry} → good_loan memory marks ≡ true → Runs memory marks 0 rs → LinesOf 0 rs es
      → length (text_of_lines es) ≤ length room
      → length (text_of_lines es) ≤ longest_source
      → Replies memory marks room (given (text_of_lines es) room)
