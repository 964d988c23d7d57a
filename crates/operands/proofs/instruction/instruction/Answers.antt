-- What is kept of the list is judged as the list is (Judged).
use Rattle.std.proofs.Common.{rules}
use Rattle.operands.specs.Checks.{instruction_read}
use Rattle.operands.proofs.Judged.{read-judged, wrong-judged}
use Rattle.operands.proofs.instruction.instruction.Goals as goal

pub returns-in_err-ok_or : goal.returns-in_err-ok_or
unfolding instruction_read
returns-in_err-ok_or c = search (rules, wrong-judged)

pub returns : goal.returns
unfolding instruction_read
returns c = search (rules, read-judged)
