-- The first word is allowed, so what is left is whether its words are there, and then the registers. Assumes nothing.
use mathlib.Core.Path.{sym}
use native.Mathlib.Omega.{arith}
use Rattle.isa.proofs.FirstWords.{when_allowed}
use Rattle.isa.proofs.Refusals.{word-missing, word-whole, instruction_by}
use Rattle.isa.proofs.decoding.operands_at.Goals as goal

pub returns-then-m-at : goal.returns-then-m-at
returns-then-m-at c =
    let known = when_allowed _ _ c.requires.1 in
    sym (word-missing _ _ _ known.0 known.1 (omega (arith, c.size_of-size.ensures)))

pub returns : goal.returns
returns c =
    let size = c.size_of-size.ensures in
    let there = c.if-m-at.false in
    let row = c.row-its.ensures in
    let known = when_allowed _ _ c.requires.1 in
    rw (
      word-whole c.args.m.now c.args.at c.args.w known.0 known.1 (omega arith),
      instruction_by c.args.w _ _ c.args.op known.2,
      ← c.word_at.ensures,
      ← c.word_at-2.ensures,
      ← (rw row at c.operand-first.ensures),
      ← (rw row at c.operand-second.ensures),
      ← size,
    )
    c.read_unless.ensures
