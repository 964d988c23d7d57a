-- Four cells are set behind those that are held, and one of the second row.
use native.Mathlib.Omega.{arith}
use Rattle.uses.proofs.Laws.{one_more}
use Rattle.uses.proofs.keeping.keep.Goals as goal

pub returns : goal.returns
returns c = λ s. one_more s c.args.row.now c.args.aways.now c.args.count c.args.start c.args.size c.args.cell c.args.line c.args.away (omega (arith, c.requires.cells)) (omega (arith, c.requires.distances))
