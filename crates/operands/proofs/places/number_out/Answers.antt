-- What is kept of the list has its first two words (Located).
use Rattle.std.proofs.Common.{rules}
use Rattle.operands.specs.Places.{number_out_in}
use Rattle.operands.proofs.Located.{out_of_kept, out_of_wrong}
use Rattle.operands.proofs.places.number_out.Goals as goal

pub returns : goal.returns
unfolding number_out_in
returns c = search (rules, out_of_kept, out_of_wrong)
