-- A name that is too long is left out (`name-long`); any other fits (`name-put`).
use Rattle.desk.proofs.Told.{name-long, name-put}
use Rattle.desk.proofs.refusals.name.Goals as goal

pub returns-then-path-gt4096 : goal.returns-then-path-gt4096
returns-then-path-gt4096 c = name-long c.args.room.now c.args.path.now c.if-path-gt4096.true

pub returns : goal.returns
returns c =
    name-put c.args.room.now c.args.path.now c.if-path-gt4096.false c.requires c.put.ensures
