use mathlib.Core.Path.{refl}
use native.Mathlib.Omega.{arith}
use Rattle.ports.proofs.Laws.{WRCHAR-keeps, WRINT-keeps, WRSTR-keeps, INSTR-keeps}
use Rattle.machine.specs.Steps.{asks}
use Rattle.machine.proofs.Answers.{refused-row}
use Rattle.machine.proofs.lent.ask.Goals as goal

pub returns-in-TakeByte : goal.returns-in-TakeByte
unfolding asks
returns-in-TakeByte c = rw (c.in-TakeByte.is, ← c.take_byte-got.ensures) (c.take.ensures c.args.out.now)

pub returns-in-TakeNumber : goal.returns-in-TakeNumber
unfolding asks
returns-in-TakeNumber c = rw (c.in-TakeNumber.is, ← c.take_number-got.ensures) (c.take-in-TakeNumber.ensures c.args.out.now)

pub returns-in-TakeString : goal.returns-in-TakeString
unfolding asks
returns-in-TakeString c =
    rw (c.in-TakeString.is, ← c.take_string-moved.ensures)
    (c.filled.ensures c.args.m.now _ c.args.out.now (omega (arith, c.take_string-moved.auto))
    (refused-row _ (INSTR-keeps c.args.input.now c.args.taken c.args.m.now _) c.take_string-moved.ensures))

pub returns-in-PutByte : goal.returns-in-PutByte
unfolding asks
returns-in-PutByte c =
    rw (c.in-PutByte.is, ← c.put_byte-moved.ensures)
    (c.printed.ensures c.args.m.now c.args.out.now _ refl
    (refused-row _ (WRCHAR-keeps c.args.out.now c.args.written _) c.put_byte-moved.ensures))

pub returns-in-PutNumber : goal.returns-in-PutNumber
unfolding asks
returns-in-PutNumber c =
    rw (c.in-PutNumber.is, ← c.put_number-moved.ensures)
    (c.printed-in-PutNumber.ensures c.args.m.now c.args.out.now _ refl
    (refused-row _ (WRINT-keeps c.args.out.now c.args.written _) c.put_number-moved.ensures))

pub returns-in-PutString : goal.returns-in-PutString
unfolding asks
returns-in-PutString c =
    rw (c.in-PutString.is, ← c.put_string-moved.ensures)
    (c.printed-in-PutString.ensures c.args.m.now c.args.out.now _ refl
    (refused-row _ (WRSTR-keeps c.args.out.now c.args.written c.args.m.now _) c.put_string-moved.ensures))
