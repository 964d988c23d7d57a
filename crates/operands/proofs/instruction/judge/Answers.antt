-- The tests are the definition's, one after the other (Judged).
use Rattle.operands.proofs.Judged.{count-differs, first_unfit, second_unfit, both_fit}
use Rattle.operands.proofs.instruction.judge.Goals as goal

pub returns-then-all-operand_count : goal.returns-then-all-operand_count
returns-then-all-operand_count c = count-differs c.args.op c.args.all c.operand_count.ensures c.if-all-operand_count.true

pub returns-then-not-allowed_kind : goal.returns-then-not-allowed_kind
returns-then-not-allowed_kind c =
    first_unfit c.args.op c.args.all c.operand_count.ensures c.if-all-operand_count.false c.row-its.ensures
    c.operand_with.ensures c.allowed_kind.ensures c.if-not-allowed_kind.true

pub returns-then-not-allowed_kind-2 : goal.returns-then-not-allowed_kind-2
returns-then-not-allowed_kind-2 c =
    second_unfit c.args.op c.args.all c.operand_count.ensures c.if-all-operand_count.false c.row-its.ensures
    c.operand_with.ensures c.allowed_kind.ensures c.if-not-allowed_kind.false
    c.operand_with-2.ensures c.allowed_kind-2.ensures c.if-not-allowed_kind-2.true

pub returns : goal.returns
returns c =
    both_fit c.args.op c.args.all c.operand_count.ensures c.if-all-operand_count.false c.row-its.ensures
    c.operand_with.ensures c.allowed_kind.ensures c.if-not-allowed_kind.false
    c.operand_with-2.ensures c.allowed_kind-2.ensures c.if-not-allowed_kind-2.false c.in_range.ensures
