-- A row of right form has the place that the scan finds, and one of wrong form has none.
use Rattle.tokens.specs.Reading.{tokens_from}
use Rattle.expressions.proofs.Levels.{deep-right, deep-wrong}
use Rattle.expressions.proofs.places.too_deep.Goals as goal

pub returns-then-right_form : goal.returns-then-right_form
returns-then-right_form c =
    let a = c.args in
    deep-right (tokens_from a.s.now a.from.at) c.right_form.ensures c.if-right_form.true c.level_past.ensures

pub returns-else-right_form : goal.returns-else-right_form
returns-else-right_form c =
    let a = c.args in
    deep-wrong (tokens_from a.s.now a.from.at) c.right_form.ensures c.if-right_form.false
