-- Sources, computed: what the assembler as a function stands on, open. A proof that computes a source names `computed_source` on its
-- `unfolding` line.
use Prim.Native.Nat.{ℕ}
use mathlib.Core.List.{List}
use Rattle.isa.specs.Encoding.{first_word_of, words_of}
use Rattle.tokens.specs.Reading.{lines_of}
use Rattle.statements.specs.Cells.{body_cells, cells_in}
use Rattle.items.specs.Writing.{cells_from}
use Rattle.sources.specs.Placing.{does, start, names, bound_to, acted, after, bindings}
use Rattle.sources.specs.Uses.{value_of, uses_by}
use Rattle.sources.specs.Inner.Assembling.{first_of, up_to_end, loan_verdict, among, name_verdict, taken, act_verdict, line_verdict, walk_lines, start_work, worked, work_after, end_verdict, use_verdict, uses_verdict, filled, late_verdict, verdict_of, memory_of, Assembled, assemble_of}
use Rattle.statements.proofs.Computing.{computed_line}

unfoldable pub computed_source : ℕ → ℕ → List ℕ → Assembled
unfolding computed_line lines_of first_word_of words_of body_cells cells_in cells_from
    does start names bound_to acted after bindings value_of uses_by
    first_of up_to_end loan_verdict among name_verdict taken act_verdict line_verdict walk_lines start_work worked work_after
    end_verdict use_verdict uses_verdict filled late_verdict verdict_of memory_of assemble_of
computed_source M N source = assemble_of M N source
