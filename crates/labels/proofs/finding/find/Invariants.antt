use Rattle.labels.specs.Inner.Labels.{window, InCell}
use Rattle.labels.proofs.Walks.{Walked}
use Rattle.labels.proofs.finding.find.Given as goal

abbrev pub invariant-loop-named : goal.invariant-loop-named
invariant-loop-named l = Walked l.s l.starts l.keys (window l.line l.start l.size) l.count l.chain l.found l.named × InCell l.named

abbrev pub decreases-loop-named : goal.decreases-loop-named
decreases-loop-named l = l.named
