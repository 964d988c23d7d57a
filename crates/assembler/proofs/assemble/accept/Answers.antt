use Rattle.assembler.proofs.Outcomes.{accepted_as}
use Rattle.assembler.proofs.assemble.accept.Goals as goal

pub returns : goal.returns
returns c =
    let a = c.args in
    accepted_as a.memory.now a.map.now c.counted-code.result c.counted-data.result c.counted-reserved.result
    c.copy_from_slice.new.self c.copy_from_slice-2.new.self a.cells.now a.marks.now c.counted-code.ensures
    c.counted-data.ensures c.counted-reserved.ensures c.copy_from_slice.ensures.after c.copy_from_slice-2.ensures.after
