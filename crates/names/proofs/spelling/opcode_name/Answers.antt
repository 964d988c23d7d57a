-- The table holds the names' numbers, by computing, at the opcodes' own numbers.
-- Assumes nothing.
use mathlib.Core.Path.{ap, ◌∙◌}
use native.Mathlib.Omega.{arith}
use lib.ListN.{get_or}
use Rattle.isa.specs.Opcodes.{table, opcodes}
use Rattle.isa.specs.declared.Row.{Row}
use Rattle.isa.proofs.Numbers.{number-below}
use Rattle.names.specs.Names.{statement_words}
use Rattle.names.specs.Inner.Packing.{pack}
use Rattle.names.proofs.Packs.{numbers}
use Rattle.names.proofs.Places.{statement_names, opcode-number}
use Rattle.names.proofs.spelling.opcode_name.Goals as goal

pub bounds-row : goal.bounds-row
bounds-row c =
    omega (arith, ap (λ (l : Row). l.number) c.row.ensures, number-below c.args.op)

pub returns : goal.returns
unfolding statement_names statement_words opcodes table pack
returns c =
    ap (λ (l : Row). get_or (numbers statement_names) l.number 0) c.row.ensures ∙ opcode-number c.args.op
