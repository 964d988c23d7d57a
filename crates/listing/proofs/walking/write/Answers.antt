-- Writing what is left behind what is written is writing all of it (`Writing`); no instruction fails, for all lines were found.
use native.Mathlib.Omega.{arith}
use Rattle.image.proofs.Outcomes.{loan-good}
use Rattle.listing.proofs.Loops.{writing_start, writing-skip, writing-fits, writing-line, writing-fails, end_fits, writing-end, onward, line-good, most}
use Rattle.listing.proofs.walking.write.Goals as goal

pub loop-at-init : goal.loop-at-init
loop-at-init c =
    writing_start c.args.room.now c.args.memory.now c.args.map.now c.requires.1

pub begins_at-requires : goal.begins_at-requires
begins_at-requires c =
    ((loan-good c.args.memory.now c.args.map.now c.requires.0).0, c.loop-at-test.true, most c.args.memory.now c.args.map.now c.requires.0)

pub loop-at-preserved-in-Nothing : goal.loop-at-preserved-in-Nothing
loop-at-preserved-in-Nothing c =
    writing-skip c.loop-at.invariant c.requires.0 c.loop-at-test.true c.begins_at.ensures c.in-Nothing.is

pub line_from-put-requires : goal.line_from-put-requires
line_from-put-requires c =
    let line = c.in-Line.is in
    let g = line-good c.args.memory.now c.args.map.now c.requires.0 c.loop-at.behind c.loop-at.at c.loop-at-test.true
    c.begins_at.ensures line in
    (writing-fits c.loop-at.invariant c.requires.0 c.loop-at-test.true c.begins_at.ensures line c.requires.2, g.0, g.1)

pub loop-at-smaller : goal.loop-at-smaller
loop-at-smaller c =
    omega (
      arith,
      onward c.args.memory.now c.args.map.now c.requires.0 c.loop-at.behind c.loop-at.at c.loop-at-test.true c.begins_at.ensures
          c.in-Line.is,
    )

pub loop-at-preserved : goal.loop-at-preserved
loop-at-preserved c =
    writing-line c.loop-at.invariant c.requires.0 c.loop-at-test.true c.begins_at.ensures c.in-Line.is
    c.requires.2 c.line_from-put.ensures (omega arith)

pub shape_of-room-in-Fails : goal.shape_of-room-in-Fails
shape_of-room-in-Fails c =
    absurd
    (writing-fails c.loop-at.invariant c.requires.0 c.loop-at-test.true c.begins_at.ensures
    c.in-Fails.is)

pub returns-in-Fails : goal.returns-in-Fails
returns-in-Fails c =
    absurd
    (writing-fails c.loop-at.invariant c.requires.0 c.loop-at-test.true c.begins_at.ensures
    c.in-Fails.is)

pub line-requires : goal.line-requires
line-requires c =
    (end_fits c.loop-at.invariant c.requires.0 c.loop-at-test.false c.requires.2, tt)

pub returns : goal.returns
returns c =
    writing-end c.loop-at.invariant c.requires.0 c.loop-at-test.false c.line.ensures
