use Prim.Native.Nat.{◌+◌}
use native.Mathlib.Omega.{arith}
use Rattle.isa.specs.Decoding.{size_in}
use Rattle.isa.proofs.FirstWords.{when_allowed}
use Rattle.isa.proofs.Refusals.{word-missing, word-whole}
use Rattle.machine.specs.Inner.Lent.{running, instruction_at}
use Rattle.machine.proofs.Answers.{refused-left}
use Rattle.machine.proofs.Fetching.{unless}
use Rattle.machine.proofs.lent.allowed.Goals as goal

pub returns-then-m-at : goal.returns-then-m-at
returns-then-m-at c =
    let known = when_allowed _ _ c.requires.2 in
    rw (c.answered.ensures, word-missing c.args.m.now c.args.at c.args.w known.0 known.1 (omega (arith, c.size_of-size.ensures)))
    (refused-left _ _ _ c.args.taken c.args.written 5)

pub returns : goal.returns
returns c =
    let known = when_allowed _ _ c.requires.2 in
    rw (
      word-whole c.args.m.now c.args.at c.args.w known.0 known.1 (omega (arith, c.size_of-size.ensures)),
      unless c.args.input.now (running c.args.r.now c.args.m.now c.args.out.now c.args.taken c.args.written) (instruction_at c.args.m.now c.args.at c.args.w) (c.args.at + size_in c.args.w),
      ← c.size_of-size.ensures,
      ← c.fetched-p.ensures,
    ) c.act.ensures
