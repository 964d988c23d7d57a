-- A number that no refusal has is told so (`no-reason`).
use mathlib.Core.Path.{sym}
use Rattle.desk.proofs.Told.{no-reason}
use Rattle.desk.proofs.refusals.reason.Goals as goal

pub returns-in_default : goal.returns-in_default
returns-in_default c = sym (no-reason c.args.refusal c.in_default.in_default-own.rest)
