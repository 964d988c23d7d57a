-- What writing a record answers, and what it leaves in the room.
use Rattle.std.specs.Prelude.{ℕ, Bool, cond, ◌&&◌, List, ◌++◌, leb, length, drop, Result, Ok, Err}
use Rattle.machine.specs.declared.Ran.{Ran}
use Rattle.record.specs.Record.{record_text}
use Rattle.record.specs.declared.NotRecorded.{NotRecorded}
use Rattle.record.specs.declared.NotRecorded.TheVariants.{TooFar, RoomShort}

-- the number of an answer, 0 where the record is written
abbrev pub refusal_of : Result ℕ NotRecorded → ℕ
refusal_of (Ok n) = 0
refusal_of (Err TooFar) = 1
refusal_of (Err RoomShort) = 2

-- the length of the record that an answer tells
abbrev pub length_of : Result ℕ NotRecorded → ℕ
length_of (Ok n) = n
length_of (Err why) = 0

-- a refusal or 0, the record's length, and the room after
pub record Leaves : Type 0 where
  pub refusal : ℕ
  pub text : ℕ
  pub room : List ℕ

abbrev pub leaves : Result ℕ NotRecorded → List ℕ → Leaves
leaves answer room = record { refusal = refusal_of answer; text = length_of answer; room = room }

-- a text at the head of the room, where it fits; else the room is as it was
unfoldable pub fitted : List ℕ → List ℕ → Leaves
fitted text room =
    cond (leb (length text) (length room))
    (record { refusal = 0; text = length text; room = text ++ drop (length text) room })
    (record { refusal = 2; text = 0; room = room })

-- positions of 32 bits: a record has no larger
abbrev pub largest_position : ℕ
largest_position = 4294967295

abbrev pub within : Ran → Bool
within ran = leb ran.registers.taken largest_position && leb ran.registers.written largest_position

-- the record of a run
abbrev pub text_of_run : Ran → List ℕ
text_of_run ran = record_text ran.stop ran.count ran.registers.r ran.registers.taken ran.registers.written

-- the record at the head of the room; nothing of a run that took or wrote too much to be told
unfoldable pub recorded : Ran → List ℕ → Leaves
recorded ran room = cond (within ran) (fitted (text_of_run ran) room) (record { refusal = 1; text = 0; room = room })
