-- What is measured, and the measure of what is left, is the measure of all (`Measuring`).
use native.Mathlib.Omega.{arith}
use Rattle.image.proofs.Outcomes.{loan-good}
use Rattle.listing.proofs.Loops.{measuring_start, measuring_skip, measuring_line, measuring_fails, measuring_end, onward, line-good, most}
use Rattle.listing.proofs.walking.measured.Goals as goal

pub loop-at-init : goal.loop-at-init
loop-at-init c = measuring_start c.args.memory.now c.args.map.now

pub begins_at-requires : goal.begins_at-requires
begins_at-requires c =
    ((loan-good c.args.memory.now c.args.map.now c.requires).0, c.loop-at-test.true, most c.args.memory.now c.args.map.now c.requires)

pub loop-at-preserved-in-Nothing : goal.loop-at-preserved-in-Nothing
loop-at-preserved-in-Nothing c =
    measuring_skip c.loop-at.invariant c.requires c.loop-at-test.true c.begins_at.ensures c.in-Nothing.is

pub line_length-length-requires : goal.line_length-length-requires
line_length-length-requires c =
    line-good c.args.memory.now c.args.map.now c.requires c.loop-at.behind c.loop-at.at c.loop-at-test.true c.begins_at.ensures
    c.in-Line.is

pub overflow_add-length : goal.overflow_add-length
overflow_add-length c =
    omega (arith, most c.args.memory.now c.args.map.now c.requires, c.loop-at.invariant.bounded, c.line_length-length.ensures.1)

pub loop-at-smaller : goal.loop-at-smaller
loop-at-smaller c =
    omega (
      arith,
      onward c.args.memory.now c.args.map.now c.requires c.loop-at.behind c.loop-at.at c.loop-at-test.true c.begins_at.ensures
          c.in-Line.is,
    )

pub loop-at-preserved : goal.loop-at-preserved
loop-at-preserved c =
    measuring_line c.loop-at.invariant c.requires c.loop-at-test.true c.begins_at.ensures c.in-Line.is
    c.line_length-length.ensures

pub returns-in-Fails : goal.returns-in-Fails
returns-in-Fails c =
    measuring_fails c.loop-at.invariant c.requires c.loop-at-test.true c.begins_at.ensures c.in-Fails.is

pub overflow_add-result : goal.overflow_add-result
overflow_add-result c =
    omega (arith, most c.args.memory.now c.args.map.now c.requires, c.loop-at.invariant.bounded, c.loop-at.invariant.within)

pub returns : goal.returns
returns c = measuring_end c.loop-at.invariant c.requires c.loop-at-test.false
