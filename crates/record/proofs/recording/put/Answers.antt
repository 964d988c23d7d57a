-- The text that was written, put into the room (`put-answers`).
use Rattle.std.proofs.Common.{rules}
use Rattle.record.specs.Record.{record_text}
use Rattle.record.proofs.Outcomes.{put-answers}
use Rattle.record.proofs.recording.put.Goals as goal

pub returns : goal.returns
returns c =
    let a = c.args in
    put-answers _ (record_text a.stop a.steps a.r a.taken a.written) a.room.now c.write-end.ensures c.put_text.ensures c.map_err.result (λ k why p. search rules) c.map_err.ensures.cases
