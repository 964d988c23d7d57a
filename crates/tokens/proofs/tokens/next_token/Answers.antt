-- The token after the blanks; the place moved exactly if there were any.
use mathlib.Core.Path.{◌∙◌}
use Rattle.tokens.specs.Reading.{token_at}
use Rattle.tokens.proofs.Blanks.{moved_none}
use Rattle.tokens.proofs.tokens.next_token.Goals as goal

pub returns : goal.returns
unfolding token_at
returns c = c.token_here-t.ensures ∙ rw (c.skip-at.ensures, moved_none)
