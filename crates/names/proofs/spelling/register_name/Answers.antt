-- The table holds the names' numbers, by computing; past it there is no name, and its number is 0.
-- Assumes nothing.
use Rattle.std.proofs.Common.{rules}
use Rattle.names.specs.Names.{registers}
use Rattle.names.specs.Inner.Packing.{pack}
use Rattle.names.proofs.Places.{register-number}
use Rattle.names.proofs.spelling.register_name.Goals as goal

pub returns : goal.returns
unfolding registers pack
returns c = rw (← register-number c.args.r) (search rules)
