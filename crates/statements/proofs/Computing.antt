-- Lines, computed: what reading a line stands on, open. A proof that computes a line names `computedLine` on its `unfolding` line.
use Prim.Native.Nat.{ℕ}
use mathlib.Core.List.{List}
use Rattle.numerals.specs.Bytes.{rank}
use Rattle.numerals.specs.Digits.{worth_after}
use Rattle.numerals.specs.Reading.{run, digits_at, radix_at, unsigned_at}
use Rattle.numerals.specs.Numbers.{kept_of}
use Rattle.isa.specs.Opcodes.{table, opcodes, count_of}
use Rattle.isa.specs.Operands.{allows}
use Rattle.tokens.specs.Bytes.{is_blank, is_mark}
use Rattle.tokens.specs.Reading.{blanks, closing, token_here, token_at, tokens_within, tokens_from}
use Rattle.names.specs.Names.{capital, is_named, statement_words, word_in, registers, place_in, register_code}
use Rattle.names.specs.Names as Names
use Rattle.values.specs.Ranges.{displacement_of}
use Rattle.expressions.specs.Trees.{depth}
use Rattle.expressions.specs.Worths.{within32, of_number, operation, operate, worth_of}
use Rattle.expressions.specs.Reading.{mark_symbol, operand, operator, expression_read}
use Rattle.operands.specs.Reading.{starts, index_step, operands_of}
use Rattle.operands.specs.Reading as Walk
use Rattle.operands.specs.Checks.{label_in, instruction_read}
use Rattle.operands.specs.Checks as Operands
use Rattle.items.specs.Items.{cells_of, all_in_range}
use Rattle.items.specs.Reading.{characters, newline, items_read}
use Rattle.items.specs.Reading as Items
use Rattle.statements.specs.Judging.{result_of}
use Rattle.statements.specs.Reading.{label_read, after_label, statement_read, line_read}
use Rattle.statements.specs.declared.LineRead.{LineRead}

unfoldable pub computed_line : List ℕ → LineRead
unfolding rank worth_after run digits_at radix_at unsigned_at kept_of
    is_blank is_mark blanks closing token_here token_at tokens_within tokens_from
    table opcodes count_of allows capital is_named statement_words word_in registers place_in register_code Names.word_of
    depth within32 of_number operation operate worth_of mark_symbol operand operator expression_read
    displacement_of starts index_step Walk.walk operands_of label_in Operands.word_of Operands.judged instruction_read
    cells_of all_in_range characters newline Items.walk items_read
    result_of label_read after_label statement_read line_read
computed_line bytes = line_read bytes
