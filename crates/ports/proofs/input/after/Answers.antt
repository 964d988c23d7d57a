-- Where the line ends before the input does, its LF follows and is taken; else nothing is left to take.
use borrow.Author.Tests.{lt-ltb, le-ltb}
use Rattle.ports.specs.Input.{after_line}
use Rattle.ports.proofs.input.after.Goals as goal

pub returns-then-end-input : goal.returns-then-end-input
unfolding after_line
returns-then-end-input c = rw (← c.requires, lt-ltb _ _ c.if-end-input.true)

pub returns-else-end-input : goal.returns-else-end-input
unfolding after_line
returns-else-end-input c = rw (← c.requires, le-ltb _ _ c.if-end-input.false)
