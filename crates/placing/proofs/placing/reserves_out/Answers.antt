-- The test by a difference is the test by a sum.
use Rattle.placing.proofs.TestLaws.{reserves_test}
use Rattle.placing.proofs.placing.reserves_out.Goals as goal

pub returns-in-Reserving : goal.returns-in-Reserving
returns-in-Reserving c =
    let a = c.args in
    reserves_test a.m a.at c.in-Reserving.n c.in-Reserving.is c.requires
