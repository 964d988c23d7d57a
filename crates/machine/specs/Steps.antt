-- One step (01, "What a step does"). What each opcode does is `byOpcode` of `effects`, one line for each.
use Rattle.std.specs.Prelude.{ℕ, ◌+◌, ◌%◌, true, false, cond, List, ltb, eqb, length, set, None, Result, Ok, Err}
use Rattle.codes.specs.Flags.{for_h}
use Rattle.codes.specs.Registers.{SR, SP, PC}
use Rattle.codes.specs.Stops.{none, halted, memory_end, bad_loan}
use Rattle.isa.specs.Decoding.{decode_of, undecoded_stop}
use Rattle.isa.specs.declared.Decoded.{Decoded}
use Rattle.isa.specs.declared.Undecoded.{Undecoded}
use Rattle.effects.specs.Effects.{writes, perform_of}
use Rattle.effects.specs.Applied.{registers_after, memory_after}
use Rattle.effects.specs.declared.Effect.{Effect}
use Rattle.effects.specs.declared.Place.{Place}
use Rattle.effects.specs.declared.Port.{Port}
use Rattle.effects.specs.declared.Port.TheVariants.{TakeByte, TakeNumber, TakeString, PutByte, PutNumber, PutString}
use Rattle.effects.specs.declared.Performed.{Performed}
use Rattle.effects.specs.declared.Performed.TheVariants.{Does, Halts, Asks, Stops}
use Rattle.ports.specs.Input.{Passed, byte_taken, number_taken, string_taken}
use Rattle.ports.specs.Output.{byte_put, number_put, string_put}
use Rattle.ports.specs.declared.Taken.{Taken}
use Rattle.machine.specs.States.{State, state, machine, register}
use Rattle.machine.specs.Stops.{good_loan, Answer, answer, refuses}

-- "a next PC≥M before that reduction is stop 5 with the step kept and counted"
unfoldable pub stop_at : ℕ → ℕ → ℕ
stop_at next size = cond (ltb next size) none memory_end

-- what a step that completes leaves: registers, stop, positions, memory and output. Its stop is the stop code too
abbrev pub leaves : List ℕ → ℕ → ℕ → ℕ → List ℕ → List ℕ → Answer
leaves r stop taken written m out = answer (state (machine r stop taken written) m out) stop true

-- a step that an effect makes, with the positions after it
unfoldable pub does : State → Effect → ℕ → ℕ → Answer
does s e taken written =
    leaves (registers_after s.registers.r e) (stop_at e.next (length s.memory)) taken written (memory_after s.memory e) s.output

-- HALT: H is set, the stop code is 1, and PC is the next address
abbrev pub halted_registers : State → ℕ → List ℕ
halted_registers s next = set (set s.registers.r SR (register s SR % for_h + for_h)) PC (next % 65536)

unfoldable pub halts : State → ℕ → Answer
halts s next = leaves (halted_registers s next) halted s.registers.taken s.registers.written s.memory s.output

-- a value taken of the input, written to a place
abbrev pub takes : State → ℕ → Place → Result Taken ℕ → Answer
takes s next place (Ok r) = does s (writes next (register s SP) place r.value None) r.after s.registers.written
takes s next place (Err k) = refuses s k

-- PC goes on to the next address, and nothing else of the registers changes
unfoldable pub goes_on : State → ℕ → ℕ → ℕ → List ℕ → List ℕ → Answer
goes_on s next taken written m out =
    leaves (set s.registers.r PC (next % 65536)) (stop_at next (length s.memory)) taken written m out

abbrev pub fills : State → ℕ → Result ℕ ℕ → List ℕ → Answer
fills s next (Ok taken) m = goes_on s next taken s.registers.written m s.output
fills s next (Err k) m = refuses s k

abbrev pub prints : State → ℕ → Result ℕ ℕ → List ℕ → Answer
prints s next (Ok written) out = goes_on s next s.registers.taken written s.memory out
prints s next (Err k) out = refuses s k

-- what input and output instructions do
unfoldable pub asks : List ℕ → State → ℕ → Port → Answer
asks input s next (TakeByte place) = takes s next place (byte_taken input s.registers.taken)
asks input s next (TakeNumber place) = takes s next place (number_taken input s.registers.taken)
asks input s next (TakeString to) =
    let p : Passed = string_taken s.memory to input s.registers.taken in fills s next p.moved p.row
asks input s next (PutByte x) =
    let p : Passed = byte_put s.output s.registers.written x in prints s next p.moved p.row
asks input s next (PutNumber x) =
    let p : Passed = number_put s.output s.registers.written x in prints s next p.moved p.row
asks input s next (PutString from) =
    let p : Passed = string_put s.output s.registers.written s.memory from in prints s next p.moved p.row

abbrev pub performed : List ℕ → State → ℕ → Performed → Answer
performed input s next (Does e) = does s e s.registers.taken s.registers.written
performed input s next Halts = halts s next
performed input s next (Asks port) = asks input s next port
performed input s next (Stops k) = refuses s k

-- "PC≥M (5), 2, 3, missing words (5), 4", and then what the instruction does
abbrev pub decoded : List ℕ → State → Result Decoded Undecoded → Answer
decoded input s (Ok r) = performed input s r.next.0 (perform_of s.registers.r s.memory r.next.0 r.instruction)
decoded input s (Err why) = refuses s (undecoded_stop why)

-- a step of a machine that runs, on a good loan
unfoldable pub runs_on : List ℕ → State → Answer
runs_on input s = decoded input s (decode_of s.memory (register s PC))

-- "Order: 10, stopped already, ..": "a stopped machine repeats it"
unfoldable pub step_of : List ℕ → State → Answer
step_of input s =
    cond (good_loan input s)
    (cond (eqb s.registers.stop none) (runs_on input s) (answer s s.registers.stop false))
    (answer s bad_loan false)

-- what a host sees of a step: the state after it and the stop
pub record Reply : Type 0 where
  pub after : State
  pub stop : ℕ

abbrev pub reply : State → ℕ → Reply
reply s k = record { after = s; stop = k }

abbrev pub reply_of : List ℕ → State → Reply
reply_of input s = reply (step_of input s).after (step_of input s).stop
