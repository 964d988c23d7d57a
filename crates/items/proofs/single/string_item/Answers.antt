-- By the kind of the token: a string has the characters that are counted, and there are fewer of them than bytes (Measures.antt).
use native.Mathlib.Omega.{arith}
use Rattle.items.proofs.Measures.{string-begins, string-short, string-measured}
use Rattle.items.proofs.single.string_item.Goals as goal

pub overflow_add-t : goal.overflow_add-t
overflow_add-t c = omega (arith, string-begins c.args.s.now c.args.from.at c.next_token-t.ensures c.in-Text.is)

pub overflow_add-cells : goal.overflow_add-cells
overflow_add-cells c =
    let a = c.args in
    omega (arith, string-short a.s.now a.from.at c.next_token-t.ensures c.in-Text.is c.character_count-cells.ensures)

pub returns-in-Text : goal.returns-in-Text
returns-in-Text c =
    let a = c.args in
    string-measured a.s.now a.from.at c.next_token-t.ensures c.in-Text.is c.character_count-cells.ensures
