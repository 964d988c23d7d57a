-- No operands where the row is over, and else some (Lists).
use mathlib.Core.Path.{sym, ap, ◌∙◌}
use Rattle.operands.specs.Reading.{RowRead}
use Rattle.operands.specs.Inner.Peeks.{none_listed, listed}
use Rattle.operands.proofs.Lists.{none_at, some_at}
use Rattle.operands.proofs.listed.operands.Goals as goal

pub returns-in-Over : goal.returns-in-Over
returns-in-Over c = sym (none_at c.args.s.now c.args.from.at (sym c.in-Over.ensures))

pub returns-in_default : goal.returns-in_default
returns-in_default c =
    let e = some_at c.args.s.now c.args.from.at (λ q. c.in_default.not-Over (c.follows.ensures ∙ q)) in
    c.some_operands.ensures ∙ sym (ap (λ (r : RowRead). listed none_listed r) e)
