-- What a step changes: the machine's record, memory and output. The input is lent, and stays as it is.
use Rattle.std.specs.Prelude.{ℕ, List, get_or, replicate}
use Rattle.codes.specs.Stops.{none}
use Rattle.machine.specs.declared.Registers.{Registers}

pub record State : Type 0 where
  pub registers : Registers
  pub memory : List ℕ
  pub output : List ℕ

abbrev pub state : Registers → List ℕ → List ℕ → State
state g m out = record { registers = g; memory = m; output = out }

-- the machine's record: 16 registers by the paper's codes, the stop code, and the positions in input and output
abbrev pub machine : List ℕ → ℕ → ℕ → ℕ → Registers
machine r stop taken written = record { r = r; stop = stop; taken = taken; written = written }

-- "Registers and stop code start at 0"; nothing is taken of the input yet, and nothing written to the output
abbrev pub start : Registers
start = machine (replicate 16 0) none 0 0

abbrev pub register : State → ℕ → ℕ
register s k = get_or s.registers.r k 0

-- the same machine with another stop code
abbrev pub with_stop : State → ℕ → State
with_stop s k = state (machine s.registers.r k s.registers.taken s.registers.written) s.memory s.output
