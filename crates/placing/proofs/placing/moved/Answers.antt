-- By how the act moves.
use Rattle.placing.proofs.TestLaws.{moved-on}
use Rattle.placing.proofs.placing.moved.Goals as goal

pub returns-in-On : goal.returns-in-On
returns-in-On c = moved-on c.args.at c.in-On.is
