-- The part of the room that the text is copied to (`overwrite_part`).
use mathlib.Core.Path.{refl}
use native.Mathlib.Omega.{arith}
use Rattle.ports.proofs.Overwrites.{overwrite_part}
use Rattle.texts.proofs.writing.piece.Goals as goal

pub returns : goal.returns
returns c = (refl, overwrite_part c.args.room.now c.args.at _ c.args.text.now _ c.copy_from_slice.ensures.after (omega arith))
