-- Word after word, as the encoder hands them back.
use mathlib.Core.Path.{ap, ◌∙◌}
use Rattle.std.proofs.Common.{Some}
use Rattle.walking.proofs.Words.{as_encoded, one_written, two-written, three-written}
use Rattle.walking.proofs.writing.write_words.Goals as goal

pub returns-in-None : goal.returns-in-None
returns-in-None c =
    let a = c.args in
    as_encoded a.i c.requires.0 c.encode.ensures a.cells.now a.at c.in-None.is

pub returns-in-Some-One : goal.returns-in-Some-One
returns-in-Some-One c =
    let a = c.args in
    one_written a.i c.requires.0 c.encode.ensures a.cells.now a.at (c.in-Some-One.is ∙ ap Some c.in-Some-One.field-0-is) c.put.ensures

pub returns-in-Some-Two : goal.returns-in-Some-Two
returns-in-Some-Two c =
    let a = c.args in
    two-written a.i c.requires.0 c.encode.ensures a.cells.now a.at (c.in-Some-Two.is ∙ ap Some c.in-Some-Two.field-0-is) c.put-in-Some-Two.ensures c.put-in-Some-Two-2.ensures

pub returns-in-Some-Three : goal.returns-in-Some-Three
returns-in-Some-Three c =
    let a = c.args in
    three-written a.i c.requires.0 c.encode.ensures a.cells.now a.at (c.in-Some-Three.is ∙ ap Some c.in-Some-Three.field-0-is) c.put-in-Some-Three.ensures c.put-in-Some-Three-2.ensures
    c.put-in-Some-Three-3.ensures
