-- Each test leads where the definition's does (Tests).
use Rattle.faults.proofs.Tests.{number_open}
use Rattle.faults.proofs.stages.number_end.Goals as goal

pub begin-requires : goal.begin-requires
begin-requires c =
    let a = c.args in
    number_open a.st a.radix a.b c.by_number.ensures c.requires
