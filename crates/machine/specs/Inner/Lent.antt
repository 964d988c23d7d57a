-- The inner step's promise in one equation: what it is lent, as a state, and what it leaves, as an answer.
use Rattle.std.specs.Prelude.{ℕ, ◌+◌, Bool, true, false, cond, List, get_or, eqb}
use Rattle.isa.specs.Decoding.{instruction_in}
use Rattle.isa.specs.declared.Instruction.{Instruction}
use Rattle.machine.specs.States.{State, state, machine}
use Rattle.codes.specs.Stops.{none, budget_spent}
use Rattle.machine.specs.Stops.{is_stored, Answer, answer}
use Rattle.machine.specs.declared.Inner.{Inner}

-- a machine that runs
abbrev pub running : List ℕ → List ℕ → List ℕ → ℕ → ℕ → State
running r m out taken written = state (machine r none taken written) m out

-- the stop code that a machine that ran is left with
abbrev pub code_after : Bool → ℕ → ℕ
code_after true k = k
code_after false k = cond (is_stored k) k none

-- registers, memory and output as they are left, with the answer
abbrev pub left : List ℕ → List ℕ → List ℕ → Inner → Answer
left r m out a = answer (state (machine r (code_after a.completed a.stop) a.taken a.written) m out) a.stop a.completed

-- a step's stop, by that of a run of one step: the run ends with its budget spent where the step gives none
abbrev pub of_one_step : ℕ → ℕ
of_one_step k = cond (eqb k budget_spent) none k

-- the instruction of a first word w at a place of memory
abbrev pub instruction_at : List ℕ → ℕ → ℕ → Instruction
instruction_at m at w = instruction_in w (get_or m (at + 1) 0) (get_or m (at + 2) 0)
