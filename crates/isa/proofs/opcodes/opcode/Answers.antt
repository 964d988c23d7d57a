-- Each arm's opcode is the one at its number, by computing; past the list there is none. Assumes nothing.
use native.Mathlib.Omega.{arith}
use borrow.Author.Tests.{le-ltb}
use Rattle.isa.specs.Opcodes.{found_of}
use Rattle.isa.proofs.opcodes.opcode.Goals as goal

pub returns-in_default : goal.returns-in_default
unfolding found_of
returns-in_default c = rw (le-ltb c.args.number 39 (omega arith))
