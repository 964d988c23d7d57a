use mathlib.Core.Path.{sym}
use Rattle.isa.specs.Opcodes.{table}
use Rattle.isa.proofs.FirstWords.{when_allowed}
use Rattle.effects.proofs.Performing.{second_no_target}
use Rattle.machine.proofs.Fetching.{fetches}
use Rattle.machine.proofs.lent.fetched.Goals as goal

pub returns : goal.returns
returns c =
    let known = when_allowed _ _ c.requires.1 in
    let first = c.located-a.ensures (table c.args.op).first (sym c.has_target-relative.ensures) in
    let second = c.located-b.ensures (table c.args.op).second (second_no_target c.args.op) in
    rw (← fetches c.args.r.now c.args.m.now c.args.next c.args.w _ _ c.args.op known.2, ← c.word_at.ensures, ← c.word_at-2.ensures, ← first, ← second) c.perform.ensures
