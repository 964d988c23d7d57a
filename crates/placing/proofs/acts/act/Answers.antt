-- Each arm is the row that the statement has in the table.
use native.Mathlib.Omega.{arith}
use mathlib.Core.Path.{refl}
use Rattle.sources.specs.Placing.{does}
use Rattle.placing.proofs.ActLaws.{count_small, row_of, instruction-row}
use Rattle.placing.proofs.acts.act.Goals as goal

pub overflow_add-n : goal.overflow_add-n
overflow_add-n c = omega (arith, c.operand_count-n.ensures, count_small c.in-Instruction.op)

pub returns-in-Nothing : goal.returns-in-Nothing
unfolding does
returns-in-Nothing c = row_of c.moving.ensures c.in-Nothing.is refl refl

pub returns-in-Instruction : goal.returns-in-Instruction
returns-in-Instruction c =
    row_of c.claiming.ensures c.in-Instruction.is (instruction-row c.in-Instruction.op _ _ c.operand_count-n.ensures) refl

pub returns-in-Org : goal.returns-in-Org
unfolding does
returns-in-Org c = row_of c.moving-in-Org.ensures c.in-Org.is refl (omega arith)

pub returns-in-Equ : goal.returns-in-Equ
unfolding does
returns-in-Equ c = row_of c.moving-in-Equ.ensures c.in-Equ.is refl refl

pub returns-in-Res : goal.returns-in-Res
unfolding does
returns-in-Res c = row_of c.claiming-in-Res.ensures c.in-Res.is refl tt

pub returns-in-Data : goal.returns-in-Data
unfolding does
returns-in-Data c = row_of c.claiming-in-Data.ensures c.in-Data.is refl refl

pub returns-in-End : goal.returns-in-End
unfolding does
returns-in-End c = row_of c.moving-in-End.ensures c.in-End.is refl refl
