-- One law for each way out.
use native.Mathlib.Omega.{arith}
use Rattle.listing.specs.Inner.Walk.{lines_of}
use Rattle.listing.proofs.Outcomes.{measured-long, given-short, given_above, given-done}
use Rattle.listing.proofs.giving.given.Goals.{then-room-length-via-then-room-length, then-room-length-via-else-room-length+then-length-gt-LONGEST_SOURCE}
use Rattle.listing.proofs.giving.given.Goals as goal

pub returns-then-room-length : goal.returns-then-room-length
returns-then-room-length c =
    let lines = lines_of c.args.memory.now c.args.map.now in
    elim c.then-room-length.branch [
      | then-room-length-via-then-room-length w ↦ given-short c.args.room.now lines c.requires.1 w.if-room-length.true
      | then-room-length-via-else-room-length+then-length-gt-LONGEST_SOURCE w ↦ given_above c.args.room.now lines c.requires.1 w.if-length-gt-LONGEST_SOURCE.true
    ]

pub write-requires : goal.write-requires
write-requires c =
    let l = measured-long (lines_of c.args.memory.now c.args.map.now) c.requires.1 in
    (c.requires.0, l.0, omega (arith, l.1))

pub returns : goal.returns
returns c =
    given-done c.args.room.now (lines_of c.args.memory.now c.args.map.now) c.requires.1 c.if-room-length.false c.if-length-gt-LONGEST_SOURCE.false
    c.write.ensures
