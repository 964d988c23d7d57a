-- Each test leads where the definition's does (Tests).
use mathlib.Core.Path.{◌∙◌}
use lib.Seq.{slice}
use Rattle.faults.proofs.Tests.{word_open, word-off}
use Rattle.faults.proofs.stages.word_end.Goals as goal

pub begin-requires : goal.begin-requires
begin-requires c =
    let a = c.args in
    word_open a.st (slice a.start a.end a.s.now) a.b c.by_word.ensures

pub returns : goal.returns
returns c =
    let a = c.args in
    c.begin.ensures
    ∙ word-off a.st (slice a.start a.end a.s.now) a.b c.by_word.ensures (rw c.is_start.ensures at c.else-is_start.either)
