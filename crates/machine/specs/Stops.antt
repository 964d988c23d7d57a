-- What a good loan is, and what a refused step changes (01: "10 bad loan (M, a position past its end, SR above 63, stop code above 6)").
use Rattle.std.specs.Prelude.{ℕ, Bool, false, cond, ◌&&◌, List, ltb, leb, length}
use Rattle.codes.specs.Limits.{most_cells, largest_sr, largest_stop_code}
use Rattle.codes.specs.Registers.{SR}
use Rattle.codes.specs.Stops.{no_opcode, zero_divisor}
use Rattle.machine.specs.States.{State, register, with_stop}

-- "M from 1 to 65,536", positions within their lengths, SR of six bits, a stop code that is stored
unfoldable pub good_loan : List ℕ → State → Bool
good_loan input s =
    ((ltb 0 (length s.memory) && leb (length s.memory) most_cells) &&
    (leb s.registers.taken (length input) && leb s.registers.written (length s.output))) &&
    (leb (register s SR) largest_sr && leb s.registers.stop largest_stop_code)

-- what a step answers: the state after it, the stop, and whether it completed
pub record Answer : Type 0 where
  pub after : State
  pub stop : ℕ
  pub completed : Bool

abbrev pub answer : State → ℕ → Bool → Answer
answer s k done = record { after = s; stop = k; completed = done }

-- ".. 2 to 6 set the stop code"
abbrev pub is_stored : ℕ → Bool
is_stored k = leb no_opcode k && leb k zero_divisor

-- "All change nothing except that 2 to 6 set the stop code"
unfoldable pub refuses : State → ℕ → Answer
refuses s k = answer (cond (is_stored k) (with_stop s k) s) k false
