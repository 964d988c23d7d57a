-- Each of the eight tests is one of a cell of its own: the law of eight takes them as they stand.
use Rattle.ports.proofs.Searches.{search_eight}
use Rattle.ports.proofs.output.all_full.Goals as goal

pub returns : goal.returns
returns c e = search_eight 0 c.args.m.now c.args.i c.requires e
